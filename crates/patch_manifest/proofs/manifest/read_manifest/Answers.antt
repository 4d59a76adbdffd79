use Rattle.std.proofs.Common.{option_map, ap, sym, ◌∙◌, true≢false}
use Rattle.serde_json.specs.View.{view}
use Rattle.cm_base.specs.declared.cause.Cause.TheVariants.{ManifestSyntax, ManifestObject, ManifestVersion, ManifestId, ManifestSource, ManifestText, ManifestPath}
use Rattle.patch_manifest.specs.Manifest.{Syntax, Object, Version, Id, Source, Text, Path}
use Rattle.patch_manifest.proofs.Faults.{refusal, memory_answer, value_is, object_is}
use Rattle.patch_manifest.proofs.manifest.read_manifest.Goals as goal

pub returns-in_err-value-clause-refused : goal.returns-in_err-value-clause-refused
returns-in_err-value-clause-refused c = memory_answer c.args.bytes.now c.from_residual.result c.from_residual.ensures.1

pub returns-in_default-clause-refused : goal.returns-in_default-clause-refused
returns-in_default-clause-refused c =
    refusal c.args.bytes.now ManifestSyntax c.refused.result c.refused.ensures
    (Syntax (sym c.in_ok-value.ensures.value ∙ ap (option_map view) c.in_default.is))

pub returns-then-not-is_object-clause-refused : goal.returns-then-not-is_object-clause-refused
returns-then-not-is_object-clause-refused c =
    let is = value_is c.args.bytes.now c.in_ok-value.field-0 c.in-Some.value c.in_ok-value.ensures.value c.in-Some.is in
    refusal c.args.bytes.now ManifestObject c.refused-then-not-is_object.result c.refused-then-not-is_object.ensures
    (Object (view c.in-Some.value) is (sym c.is_object.ensures ∙ c.if-not-is_object.true))

pub returns-then-not-is_version-clause-refused : goal.returns-then-not-is_version-clause-refused
returns-then-not-is_version-clause-refused c =
    let object = object_is c.args.bytes.now c.in_ok-value.field-0 c.in-Some.value c.is_object.result c.in_ok-value.ensures.value c.in-Some.is c.is_object.ensures c.if-not-is_object.false in
    refusal c.args.bytes.now ManifestVersion c.refused-then-not-is_version.result c.refused-then-not-is_version.ensures
    (Version (view c.in-Some.value) object (λ version. true≢false (sym (c.is_version.ensures.1 version) ∙ c.if-not-is_version.true)))

pub returns-then-not-has_texts-clause-refused : goal.returns-then-not-has_texts-clause-refused
returns-then-not-has_texts-clause-refused c =
    let object = object_is c.args.bytes.now c.in_ok-value.field-0 c.in-Some.value c.is_object.result c.in_ok-value.ensures.value c.in-Some.is c.is_object.ensures c.if-not-is_object.false in
    refusal c.args.bytes.now ManifestText c.refused-then-not-has_texts.result c.refused-then-not-has_texts.ensures
    (Text (view c.in-Some.value) object (sym c.has_texts.ensures ∙ c.if-not-has_texts.true))

pub returns-in_default-id_of-clause-refused : goal.returns-in_default-id_of-clause-refused
returns-in_default-id_of-clause-refused c =
    let object = object_is c.args.bytes.now c.in_ok-value.field-0 c.in-Some.value c.is_object.result c.in_ok-value.ensures.value c.in-Some.is c.is_object.ensures c.if-not-is_object.false in
    refusal c.args.bytes.now ManifestId c.refused-in_default-id_of.result c.refused-in_default-id_of.ensures
    (Id (view c.in-Some.value) object (sym c.in_default-id_of.ensures))

pub returns-in_err-sources-clause-refused : goal.returns-in_err-sources-clause-refused
returns-in_err-sources-clause-refused c = memory_answer c.args.bytes.now c.from_residual-in_err-sources.result c.from_residual-in_err-sources.ensures.1

pub returns-in_default-2-clause-refused : goal.returns-in_default-2-clause-refused
returns-in_default-2-clause-refused c =
    let object = object_is c.args.bytes.now c.in_ok-value.field-0 c.in-Some.value c.is_object.result c.in_ok-value.ensures.value c.in-Some.is c.is_object.ensures c.if-not-is_object.false in
    refusal c.args.bytes.now ManifestSource c.refused-in_default-2.result c.refused-in_default-2.ensures
    (Source (view c.in-Some.value) object (sym c.in_ok-sources.ensures ∙ c.in_default-2.is))

pub returns-then-has_wrong_path-clause-refused : goal.returns-then-has_wrong_path-clause-refused
returns-then-has_wrong_path-clause-refused c =
    let object = object_is c.args.bytes.now c.in_ok-value.field-0 c.in-Some.value c.is_object.result c.in_ok-value.ensures.value c.in-Some.is c.is_object.ensures c.if-not-is_object.false in
    refusal c.args.bytes.now ManifestPath c.refused-then-has_wrong_path.result c.refused-then-has_wrong_path.ensures
    (Path (view c.in-Some.value) object c.in-Some-2.sources (sym c.in_ok-sources.ensures ∙ c.in-Some-2.is) (sym c.has_wrong_path.ensures ∙ c.if-has_wrong_path.true))

pub returns-in_err-from_str-clause-refused : goal.returns-in_err-from_str-clause-refused
returns-in_err-from_str-clause-refused c = memory_answer c.args.bytes.now c.from_residual-in_err-from_str.result c.from_residual-in_err-from_str.ensures.1
