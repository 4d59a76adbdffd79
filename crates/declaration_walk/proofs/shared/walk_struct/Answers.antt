use Rattle.cm_meaning.specs.PatchSites.{field_words, fields_sites, struct_sites}
use Rattle.cm_meaning.specs.Sites.{KeepsApart}
use Rattle.scope_walk.proofs.StepLemmas.{meet-then}
use Rattle.std.proofs.Common.{flat_map, refl}
use Rattle.declaration_walk.proofs.shared.walk_struct.Goals as goal

pub returns : goal.returns
returns c = meet-then c.args.steps.now c.meet.new.self c.walk_fields.new.steps (KeepsApart (field_words c.args.fields.now)) (λ r. flat_map (fields_sites r) c.args.fields.now) (λ r. struct_sites r c.args.fields.now) c.walk_fields.result
    (λ r. refl) c.in_ok-meet.ensures c.walk_fields.ensures
