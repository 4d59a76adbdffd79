use Rattle.cm_meaning.specs.PatchSites.{state_value_sites}
use Rattle.scope_walk.specs.Steps.{Reads}
use Rattle.std.proofs.Common.{flat_map, take}
use Rattle.declaration_walk.proofs.members.walk_vars.Given as goal

abbrev pub invariant-loop-var : goal.invariant-loop-var
invariant-loop-var l = Reads l.fn.steps l.steps (λ r. flat_map (state_value_sites r) (take l.var-index l.vars))
