-- The values of arrays and structs, part by part.
use Rattle.std.specs.Prelude.{◌≡◌, refl, ℕ, zero, suc, ◌-◌, ◌<◌, ◌==◌, false, ◌&&◌, List, [], ◌∷◌, length}
use Rattle.std.proofs.Common.{arith}
use Rattle.cm_types.specs.declared.cm_type.FieldType.{FieldType}
use Rattle.cm_types.specs.declared.value.Value.{Value as CodeValue}
use Rattle.cm_types.specs.Meant.{meant_fields, meant_values}
use Rattle.cm_meaning.specs.Types.{CmType, Value, Values, Then, is_of, are_elements, are_fields}

pub elements-end : (n : ℕ) (t : CmType) (all : List CodeValue) → length all ≡ 0 → are_elements n t (meant_values all) ≡ (n == 0)
unfolding are_elements meant_values
elements-end zero t [] none = refl
elements-end (suc n) t [] none = let e : (suc n == 0) ≡ false = grind arith in rw e refl
elements-end n t (a ∷ all) none = absurd (omega (arith, none))

pub elements-past : (n : ℕ) (t : CmType) (v : Value) (others : Values) → n ≡ 0 → are_elements n t (Then v others) ≡ false
unfolding are_elements
elements-past zero t v others h = refl
elements-past (suc n) t v others h = absurd (omega (arith, h))

pub elements-step : (n : ℕ) (t : CmType) (v : Value) (others : Values) → 0 < n → are_elements n t (Then v others) ≡ (is_of t v && are_elements (n - 1) t others)
unfolding are_elements
elements-step zero t v others h = absurd (omega (arith, h))
elements-step (suc n) t v others h = let e : suc n - 1 ≡ n = omega arith in rw e refl

pub fields_at_end : (fields : List FieldType) (all : List CodeValue) → length fields ≡ 0 → are_fields (meant_fields fields) (meant_values all) ≡ (length all == 0)
unfolding are_fields meant_fields meant_values
fields_at_end [] [] none = refl
fields_at_end [] (a ∷ all) none = let e : (length (a ∷ all) == 0) ≡ false = grind arith in rw e refl
fields_at_end (f ∷ fields) all none = absurd (omega (arith, none))

pub fields_past : (f : FieldType) (fields : List FieldType) (all : List CodeValue) → length all ≡ 0 → are_fields (meant_fields (f ∷ fields)) (meant_values all) ≡ false
unfolding are_fields meant_fields meant_values
fields_past f fields [] none = refl
fields_past f fields (a ∷ all) none = absurd (omega (arith, none))

pub ruleset counted_elements = (elements-end, elements-past, elements-step)
