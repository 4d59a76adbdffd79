use Rattle.declaration_walk.specs.Declares.{key_sites}
use Rattle.scope_walk.specs.Steps.{Reads}
use Rattle.std.proofs.Common.{flat_map, take}
use Rattle.declaration_walk.proofs.members.walk_keys.Given as goal

abbrev pub invariant-loop-key : goal.invariant-loop-key
invariant-loop-key l = Reads l.fn.steps l.steps (λ r. flat_map (key_sites r) (take l.key-index l.keys))
