-- The manifest of a patch: the JSON that it is, the form of each property, and its faults.
use Rattle.std.specs.Prelude.{◌≡◌, ℕ, ◌<◌, ◌==◌, List, [], ◌∷◌, length, codes, Bool, true, false, ◌&&◌, ◌||◌, nat_le, if◌then◌else◌, Option, Some, None, is_some, option_map, option_and_then}
use Rattle.std.specs.List.{list_any}
use Rattle.serde_json.specs.Data.{Data, null, boolean, number, unsigned, string, array, object, Items, no_items, item}
use Rattle.serde_json.specs.Find.{get, as_str, as_object}
use Rattle.serde_json.specs.Events.{items_len}
use Rattle.cm_base.specs.declared.cause.Cause.{Cause}
use Rattle.cm_base.specs.declared.cause.Cause.TheVariants.{ManifestSyntax, ManifestObject, ManifestVersion, ManifestId, ManifestSource, ManifestText, ManifestPath}
use Rattle.cm_base.specs.declared.failure.Fail.{Fail}
use Rattle.cm_base.specs.declared.failure.Fail.TheVariants as fails
use Rattle.cm_base.specs.declared.failure.Refused.{Refused}
use Rattle.json_value.specs.Value.{value_of}

-- the bytes stand for this value, and it is an object
pub record IsObject (bytes : List ℕ) (value : Data) : Type 0 where
  pub is_value : value_of bytes ≡ Some value
  pub is_object : is_some (as_object value) ≡ true

-- `CmajorVersion` is the integer 1; `1.0` and `1e0` are no integers
abbrev pub IsVersion : Data → Type 0
IsVersion value = get (codes "CmajorVersion") value ≡ Some (number (unsigned 1))

-- a text that isn't empty
abbrev pub filled : List ℕ → Option (List ℕ)
filled [] = None
filled (byte ∷ text) = Some (byte ∷ text)

-- `ID`: a string that isn't empty
abbrev pub id_of : Data → Option (List ℕ)
id_of value = option_and_then filled (option_and_then as_str (get (codes "ID") value))

-- the texts of items that are all strings
abbrev pub texts_of : Items → Option (List (List ℕ))
texts_of no_items = Some []
texts_of (item value items) = option_and_then (λ text. option_map (λ texts. text ∷ texts) (texts_of items)) (as_str value)

-- the same, where there are 1 to 64 items
abbrev pub few_texts_of : Items → Option (List (List ℕ))
few_texts_of items = if nat_le 1 (items_len items) && nat_le (items_len items) 64 then texts_of items else None

-- one string, or an array of 1 to 64 strings
abbrev pub paths_of : Data → Option (List (List ℕ))
paths_of null = None
paths_of (boolean truth) = None
paths_of (number value) = None
paths_of (string text) = Some (text ∷ [])
paths_of (array items) = few_texts_of items
paths_of (object found) = None

-- the paths that `source` has
abbrev pub sources_of : Data → Option (List (List ℕ))
sources_of value = option_and_then paths_of (get (codes "source") value)

-- a member that is absent, or a string
abbrev pub is_text : Option Data → Bool
is_text None = true
is_text (Some value) = is_some (as_str value)

-- `version` and `name` may be absent
abbrev pub has_texts : Data → Bool
has_texts value = is_text (get (codes "version") value) && is_text (get (codes "name") value)

-- a path that is empty, begins with `/` or holds the byte 0
abbrev pub is_wrong_path : List ℕ → Bool
is_wrong_path [] = true
is_wrong_path (byte ∷ path) = byte == 47 || list_any (λ other. other == 0) (byte ∷ path)

-- what a manifest without a fault says; other members are not used, and of two members of one name the
-- last counts
pub record IsManifest (bytes id : List ℕ) (sources : List (List ℕ)) : Type 0 where
  pub value : Data
  pub object : IsObject bytes value
  pub version : IsVersion value
  pub has_id : id_of value ≡ Some id
  pub has_sources : sources_of value ≡ Some sources
  pub texts : has_texts value ≡ true
  pub paths : list_any is_wrong_path sources ≡ false

-- what is wrong with a manifest: no value, no object, or a property that isn't of its form
pub data HasFault (bytes : List ℕ) : Cause → Type 0 where
  Syntax : value_of bytes ≡ None → HasFault bytes ManifestSyntax
  Object : (value : Data) → value_of bytes ≡ Some value → is_some (as_object value) ≡ false → HasFault bytes ManifestObject
  Version : (value : Data) → IsObject bytes value → ¬ IsVersion value → HasFault bytes ManifestVersion
  Id : (value : Data) → IsObject bytes value → id_of value ≡ None → HasFault bytes ManifestId
  Source : (value : Data) → IsObject bytes value → sources_of value ≡ None → HasFault bytes ManifestSource
  Text : (value : Data) → IsObject bytes value → has_texts value ≡ false → HasFault bytes ManifestText
  Path : (value : Data) → IsObject bytes value → (sources : List (List ℕ)) → sources_of value ≡ Some sources → list_any is_wrong_path sources ≡ true → HasFault bytes ManifestPath

-- a refusal for this cause: its place is the manifest, and no cycle belongs to it
abbrev pub refusal_of : Cause → Fail
refusal_of cause = fails.Refused (record { cause = cause; place = record { file = 0; line = 0; column = 0 }; cycle = [] })

-- a refusal is for a fault that the manifest has, at the manifest and with no cycle
pub record IsRefusal (bytes : List ℕ) (refused : Refused) : Type 0 where
  pub fault : HasFault bytes refused.cause
  pub place : refused.place ≡ record { file = 0; line = 0; column = 0 }
  pub cycle : refused.cycle ≡ []

-- a refusal, or want of memory
abbrev pub IsAnswer : List ℕ → Fail → Type 0
IsAnswer bytes (fails.Refused refused) = IsRefusal bytes refused
IsAnswer bytes fails.NoMemory = Unit {0}
