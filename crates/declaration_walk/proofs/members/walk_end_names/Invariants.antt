use Rattle.declaration_walk.specs.Declares.{end_name_sites}
use Rattle.scope_walk.specs.Steps.{Reads}
use Rattle.std.proofs.Common.{flat_map, take}
use Rattle.declaration_walk.proofs.members.walk_end_names.Given as goal

abbrev pub invariant-loop-name : goal.invariant-loop-name
invariant-loop-name l = Reads l.fn.steps l.steps (λ r. flat_map (end_name_sites r) (take l.name-index l.names))
