use Rattle.cm_meaning.specs.PatchSites.{fields_sites}
use Rattle.scope_walk.specs.Steps.{Reads}
use Rattle.std.proofs.Common.{flat_map, take}
use Rattle.declaration_walk.proofs.shared.walk_fields.Given as goal

abbrev pub invariant-loop-one : goal.invariant-loop-one
invariant-loop-one l = Reads l.fn.steps l.steps (λ r. flat_map (fields_sites r) (take l.one-index l.fields))
