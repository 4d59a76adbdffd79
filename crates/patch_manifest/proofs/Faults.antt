-- A manifest has no fault, and each refusal is for a fault.
use Rattle.std.proofs.Common.{◌≡◌, ℕ, List, Bool, true, Option, Some, None, Result, Ok, Err, IfErr, IsErrAnd, option_map, is_some, subst, true≢false, refl, sym, ap, ◌∙◌}
use Rattle.serde_json.specs.Data.{Data}
use Rattle.serde_json.specs.Find.{as_object}
use Rattle.serde_json.specs.View.{view}
use Rattle.serde_json.specs.declared.value.Value.{Value}
use Rattle.std.specs.List.{list_any}
use Rattle.cm_base.specs.declared.cause.Cause.{Cause}
use Rattle.cm_base.specs.declared.failure.Fail.{Fail}
use Rattle.cm_base.specs.declared.failure.Fail.TheVariants.{NoMemory}
use Rattle.json_value.specs.Value.{value_of, IsSomeText}
use Rattle.patch_manifest.specs.Manifest.{IsObject, IsVersion, id_of, sources_of, has_texts, is_wrong_path, IsManifest, HasFault, Syntax, Object, Version, Id, Source, Text, Path, IsAnswer, refusal_of}

-- a refusal for a fault is an answer
pub refusal : (bytes : List ℕ) (cause : Cause) (fail : Fail) → fail ≡ refusal_of cause → HasFault bytes cause → IsAnswer bytes fail
refusal bytes cause fail is fault = rw is (record { fault = fault; place = refl; cycle = refl })

-- want of memory is the other answer
pub memory_answer : {T : Type 0} (bytes : List ℕ) (answer : Result T Fail) → IsErrAnd answer (λ fail. fail ≡ NoMemory) → IfErr answer (IsAnswer bytes)
memory_answer bytes (Ok found) is = tt
memory_answer bytes (Err fail) is = rw is tt

-- what was read is the value of the bytes
pub value_is : (bytes : List ℕ) (found : Option Value) (value : Value) → option_map view found ≡ value_of bytes → found ≡ Some value → value_of bytes ≡ Some (view value)
value_is bytes found value of_bytes is = sym of_bytes ∙ ap (option_map view) is

-- what was read and is an object, as a test of it has shown
pub object_is : (bytes : List ℕ) (found : Option Value) (value : Value) (truth : Bool) → option_map view found ≡ value_of bytes → found ≡ Some value
    → truth ≡ is_some (as_object (view value)) → truth ≡ true → IsObject bytes (view value)
object_is bytes found value truth of_bytes is tested holds = record { is_value = value_is bytes found value of_bytes is; is_object = sym tested ∙ holds }

-- the value of bytes is one
same_value : (bytes : List ℕ) (value other : Data) → value_of bytes ≡ Some value → value_of bytes ≡ Some other → value ≡ other
same_value bytes value other first second = cc

-- a manifest without a fault has none of the faults that are listed
pub IsManifest-faultless : (bytes id : List ℕ) (sources : List (List ℕ)) → IsManifest bytes id sources → (cause : Cause) → ¬ HasFault bytes cause
IsManifest-faultless bytes id sources manifest cause (Syntax none) =
    let clash : Some manifest.value ≡ None = sym manifest.object.is_value ∙ none in cc
IsManifest-faultless bytes id sources manifest cause (Object value is other) =
    let same = same_value bytes manifest.value value manifest.object.is_value is in
    true≢false (sym manifest.object.is_object ∙ ap (λ v. is_some (as_object v)) same ∙ other)
IsManifest-faultless bytes id sources manifest cause (Version value object wrong) =
    wrong (subst IsVersion (same_value bytes manifest.value value manifest.object.is_value object.is_value) manifest.version)
IsManifest-faultless bytes id sources manifest cause (Id value object none) =
    let same = same_value bytes manifest.value value manifest.object.is_value object.is_value in
    let clash : Some id ≡ None = sym manifest.has_id ∙ ap id_of same ∙ none in cc
IsManifest-faultless bytes id sources manifest cause (Source value object none) =
    let same = same_value bytes manifest.value value manifest.object.is_value object.is_value in
    let clash : Some sources ≡ None = sym manifest.has_sources ∙ ap sources_of same ∙ none in cc
IsManifest-faultless bytes id sources manifest cause (Text value object wrong) =
    let same = same_value bytes manifest.value value manifest.object.is_value object.is_value in
    true≢false (sym manifest.texts ∙ ap has_texts same ∙ wrong)
IsManifest-faultless bytes id sources manifest cause (Path value object paths are wrong) =
    let same = same_value bytes manifest.value value manifest.object.is_value object.is_value in
    let some : Some sources ≡ Some paths = sym manifest.has_sources ∙ ap sources_of same ∙ are in
    let equal : sources ≡ paths = cc in
    true≢false (sym wrong ∙ sym (ap (list_any is_wrong_path) equal) ∙ manifest.paths)
