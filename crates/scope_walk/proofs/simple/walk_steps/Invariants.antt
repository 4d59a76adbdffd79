use Rattle.std.proofs.Common.{take, flat_map}
use Rattle.cm_meaning.specs.BodySites.{step_sites}
use Rattle.scope_walk.specs.Steps.{Reads}
use Rattle.scope_walk.proofs.simple.walk_steps.Given as goal

abbrev pub invariant-loop-part : goal.invariant-loop-part
invariant-loop-part l = Reads l.fn.steps l.steps (λ r. flat_map (step_sites r) (take l.part-index l.parts))
