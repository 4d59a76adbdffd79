use Rattle.cm_meaning.specs.PatchSites.{given_all, takes}
use Rattle.scope_walk.specs.Steps.{Reads}
use Rattle.std.proofs.Common.{take}
use Rattle.declaration_walk.proofs.nodes.walk_args.Given as goal

abbrev pub invariant-loop-index : goal.invariant-loop-index
invariant-loop-index l = Reads l.fn.steps l.steps (λ r. given_all r (takes r l.path) (take l.index l.args))
