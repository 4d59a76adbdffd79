-- The texts of a list of values, from one place on.
use Rattle.std.proofs.Common.{◌≡◌, ℕ, ◌+◌, ◌<◌, List, [], ◌∷◌, length, get_or, drop, Some, None, true, false, option_map, option_and_then, ◌≤◌, ◌⊎◌, nat_le, ◌&&◌, arith, sym, refl, drop-cons, add-one}
use Rattle.serde_json.specs.Data.{Data, null, boolean, number, string, array, object, Items}
use Rattle.serde_json.specs.Find.{as_str, as_array}
use Rattle.serde_json.specs.View.{view, items_view}
use Rattle.serde_json.specs.declared.value.Value.{Value}
use Rattle.serde_json.proofs.Views.{items_len-items_view}
use Rattle.std.proofs.lemmas.Bool.Decides.{nat_tests}
use Rattle.patch_manifest.specs.Manifest.{texts_of, few_texts_of, paths_of}

-- the texts from one place on are that place's and those after it
pub texts_of-drop : (values : List Value) (i : ℕ) (value : Value) → i < length values → value ≡ get_or values i value
    → texts_of (items_view (drop i values)) ≡ option_and_then (λ text. option_map (λ texts. text ∷ texts) (texts_of (items_view (drop (i + 1) values)))) (as_str (view value))
texts_of-drop values i value within is = rw (drop-cons values i value within, sym is, add-one i)

pub paths_of-string : (value : Data) (path : List ℕ) → as_str value ≡ Some path → paths_of value ≡ Some (path ∷ [])
paths_of-string null path is = absurd (cc)
paths_of-string (boolean truth) path is = absurd (cc)
paths_of-string (number found) path is = absurd (cc)
paths_of-string (string text) path is = let same : text ≡ path = cc in rw same
paths_of-string (array items) path is = absurd (cc)
paths_of-string (object found) path is = absurd (cc)

pub paths_of-array : (value : Data) (items : Items) → as_array value ≡ Some items → paths_of value ≡ few_texts_of items
paths_of-array null items is = absurd (cc)
paths_of-array (boolean truth) items is = absurd (cc)
paths_of-array (number found) items is = absurd (cc)
paths_of-array (string text) items is = absurd (cc)
paths_of-array (array found) items is = let same : found ≡ items = cc in rw same
paths_of-array (object found) items is = absurd (cc)

-- what is neither a string nor an array has no paths
pub paths_of-other : (value : Data) → as_str value ≡ None → as_array value ≡ None → paths_of value ≡ None
paths_of-other null text items = refl
paths_of-other (boolean truth) text items = refl
paths_of-other (number found) text items = refl
paths_of-other (string found) text items = absurd (cc)
paths_of-other (array found) text items = absurd (cc)
paths_of-other (object found) text items = refl

in_range : (count : ℕ) → 0 < count → count ≤ 64 → (nat_le 1 count && nat_le count 64) ≡ true
in_range count some few = grind (arith, nat_tests)

none_in_range : (count : ℕ) → (count ≡ 0) ⊎ (64 < count) → (nat_le 1 count && nat_le count 64) ≡ false
none_in_range count out = grind (arith, nat_tests)

pub few_texts_of-few : (values : List Value) → 0 < length values → length values ≤ 64 → few_texts_of (items_view values) ≡ texts_of (items_view values)
few_texts_of-few values some few = rw (items_len-items_view values, in_range (length values) some few)

-- no items, or too many
pub few_texts_of-out : (values : List Value) → (length values ≡ 0) ⊎ (64 < length values) → few_texts_of (items_view values) ≡ None
few_texts_of-out values out = rw (items_len-items_view values, none_in_range (length values) out)
