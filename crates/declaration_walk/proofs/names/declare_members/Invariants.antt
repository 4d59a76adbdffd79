use Rattle.cm_meaning.specs.Scopes.{member_names}
use Rattle.declaration_walk.specs.Declares.{Declares}
use Rattle.std.proofs.Common.{drop, flat_map}
use Rattle.declaration_walk.proofs.names.declare_members.Given as goal

abbrev pub invariant-loop-index : goal.invariant-loop-index
invariant-loop-index l = Declares l.fn.steps l.steps (λ h. flat_map (member_names h) (drop l.index l.members))
