use Rattle.cm_meaning.specs.PatchSites.{end_sites}
use Rattle.scope_walk.specs.Steps.{Reads}
use Rattle.std.proofs.Common.{flat_map, take}
use Rattle.declaration_walk.proofs.members.walk_ends.Given as goal

abbrev pub invariant-loop-end : goal.invariant-loop-end
invariant-loop-end l = Reads l.fn.steps l.steps (λ r. flat_map (end_sites r) (take l.end-index l.ends))
