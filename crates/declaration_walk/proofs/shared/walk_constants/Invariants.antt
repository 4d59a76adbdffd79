use Rattle.cm_meaning.specs.PatchSites.{constant_sites}
use Rattle.scope_walk.specs.Steps.{Reads}
use Rattle.std.proofs.Common.{flat_map, take}
use Rattle.declaration_walk.proofs.shared.walk_constants.Given as goal

abbrev pub invariant-loop-init : goal.invariant-loop-init
invariant-loop-init l = Reads l.fn.steps l.steps (λ r. flat_map (constant_sites r) (take l.init-index l.inits))
