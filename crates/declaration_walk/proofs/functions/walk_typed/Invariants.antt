use Rattle.cm_meaning.specs.PatchSites.{typed_sites}
use Rattle.scope_walk.specs.Steps.{Reads}
use Rattle.std.proofs.Common.{flat_map, take}
use Rattle.declaration_walk.proofs.functions.walk_typed.Given as goal

abbrev pub invariant-loop-param : goal.invariant-loop-param
invariant-loop-param l = Reads l.fn.steps l.steps (λ r. flat_map (typed_sites r) (take l.param-index l.params))
