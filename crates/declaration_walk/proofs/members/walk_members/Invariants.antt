use Rattle.cm_meaning.specs.PatchSites.{member_sites}
use Rattle.scope_walk.specs.Steps.{Reads}
use Rattle.std.proofs.Common.{flat_map, take}
use Rattle.declaration_walk.proofs.members.walk_members.Given as goal

abbrev pub invariant-loop-member : goal.invariant-loop-member
invariant-loop-member l = Reads l.fn.steps l.steps (λ r. flat_map (member_sites r) (take l.member-index l.members))
