use Rattle.cm_meaning.specs.PatchSites.{param_sites}
use Rattle.scope_walk.specs.Steps.{Reads}
use Rattle.std.proofs.Common.{flat_map, take}
use Rattle.declaration_walk.proofs.units.walk_params.Given as goal

abbrev pub invariant-loop-param : goal.invariant-loop-param
invariant-loop-param l = Reads l.fn.steps l.steps (λ r. flat_map (param_sites r) (take l.param-index l.params))
