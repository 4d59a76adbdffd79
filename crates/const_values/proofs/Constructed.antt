-- What a type is made of: its zero, a cast, the elements of an array and the fields of a struct.
use Rattle.std.specs.Prelude.{◌≡◌, refl, ℕ, zero, suc, ◌==◌, nat_le, pos, Bool, true, false, ◌&&◌, ◌||◌, if◌then◌else◌, List, [], ◌∷◌, length, Option, Some, None, option_map, option_and_then, Result, Ok, Err}
use Rattle.std.specs.Cmp.{unsigned_Decides}
use Rattle.std.proofs.Common.{ap, sym, ◌∙◌, subst, arith}
use Rattle.std.proofs.lemmas.List.{append-nil}
use Rattle.cm_base.specs.declared.host.Scalar.{Scalar}
use Rattle.cm_base.specs.declared.place.Place.{Place}
use Rattle.cm_base.specs.declared.failure.Fail.{Fail}
use Rattle.cm_const.proofs.Sound.{is_of_kind}
use Rattle.cm_types.specs.declared.cm_type.CmType.{CmType as CodeType}
use Rattle.cm_types.specs.declared.cm_type.CmType.TheVariants as t
use Rattle.cm_types.specs.declared.cm_type.FieldType.{FieldType}
use Rattle.cm_types.specs.declared.value.Value.{Value as CodeValue}
use Rattle.cm_types.specs.declared.value.Value.TheVariants as v
use Rattle.cm_types.specs.Lawful.{IsLawfulType, AreLawfulTypes, IsSound}
use Rattle.cm_types.specs.Meant.{meant_type, meant_fields, meant_value, meant_values, meant_valued, meant-Single, meant-Array, meant-Record, meant-Many}
use Rattle.cm_meaning.specs.Faults.{Fault, one}
use Rattle.cm_meaning.specs.Types.{CmType, Single, Array, Record, FieldTypes, NoFields, Field, Value, Many, Values, Then, copies, zero_of, zeros_of, is_of, are_elements, are_fields}
use Rattle.cm_meaning.specs.Conversions.{cast, fitted}
use Rattle.cm_meaning.specs.Constants.{elements, field_values, constructed}
use Rattle.cm_meaning.specs.TypeRows.{count_fields, takes_count}
use Rattle.const_values.specs.declared.construct.Given.{Given as CodeGiven}
use Rattle.const_values.specs.Answers.{Refuses}
use Rattle.const_values.specs.Construct.{Given, meant_given, meant_givens, IsFirst, values_of, AreSound, fit_faults, element_faults, field_faults, cast_fault, part_faults, GivesValue, GivesValues, parts_of_array}
use Rattle.const_values.proofs.Operands.{no}
use Rattle.const_values.proofs.Fits.{cast_is_of, fitted_is_of, counted_fields}

none_some : {A : Type 0} (x : A) → None ≡ Some x → ⊥
none_some x h = cc

some_is : {A : Type 0} (x y : A) → Some x ≡ Some y → x ≡ y
some_is x y e = cc

and_both : (p q : Bool) → p ≡ true → q ≡ true → (p && q) ≡ true
and_both true q a c = c
and_both false q a c = no a

-- ---- what is made is a value of the type

copies_are : (n : ℕ) (t : CmType) (x : Value) → is_of t x ≡ true → are_elements n t (copies n x) ≡ true
unfolding is_of are_elements copies
copies_are zero t x is = refl
copies_are (suc n) t x is = and_both (is_of t x) (are_elements n t (copies n x)) is (copies_are n t x is)

mutual
  unfolding is_of are_fields zero_of zeros_of

  zero_is_of : (t : CmType) → IsLawfulType t → is_of t (zero_of t) ≡ true
  zero_is_of (Single k) lawful = is_of_kind k (pos 0) lawful
  zero_is_of (Array n t) lawful = copies_are n t (zero_of t) (zero_is_of t lawful.1)
  zero_is_of (Record p fs) lawful = zeros_are fs lawful

  zeros_are : (fs : FieldTypes) → AreLawfulTypes fs → are_fields fs (zeros_of fs) ≡ true
  zeros_are NoFields lawful = refl
  zeros_are (Field n t fs) lawful = and_both (is_of t (zero_of t)) (are_fields fs (zeros_of fs)) (zero_is_of t lawful.0) (zeros_are fs lawful.1)

elements_step : (n : ℕ) (t : CmType) (f : Option Value) (e : Option Values) (xs : Values) → ((x : Value) → f ≡ Some x → is_of t x ≡ true) → ((ys : Values) → e ≡ Some ys → are_elements n t ys ≡ true)
    → option_and_then (λ (x : Value). option_map (Then x) e) f ≡ Some xs → are_elements (suc n) t xs ≡ true
unfolding is_of are_elements
elements_step n t None e xs one others is = absurd (none_some xs is)
elements_step n t (Some x) None xs one others is = absurd (none_some xs is)
elements_step n t (Some x) (Some ys) xs one others is =
    subst (λ (all : Values). are_elements (suc n) t all ≡ true) (some_is _ _ is) (and_both (is_of t x) (are_elements n t ys) (one x refl) (others ys refl))

elements_are : (t : CmType) (all : List Given) (xs : Values) → IsLawfulType t → AreSound all → elements t (values_of all) ≡ Some xs → are_elements (length all) t xs ≡ true
unfolding elements is_of are_elements
elements_are t [] xs lawful sound e = subst (λ (all : Values). are_elements 0 t all ≡ true) (some_is _ _ e) refl
elements_are t (a ∷ all) xs lawful sound e =
    elements_step (length all) t (fitted t a.valued) (elements t (values_of all)) xs (λ x is. fitted_is_of t a.valued x lawful sound.0 is) (λ ys is. elements_are t all ys lawful sound.1 is) e

fields_step : (n : List ℕ) (t : CmType) (fs : FieldTypes) (f : Option Value) (e : Option Values) (xs : Values) → ((x : Value) → f ≡ Some x → is_of t x ≡ true)
    → ((ys : Values) → e ≡ Some ys → are_fields fs ys ≡ true) → option_and_then (λ (x : Value). option_map (Then x) e) f ≡ Some xs → are_fields (Field n t fs) xs ≡ true
unfolding is_of are_fields
fields_step n t fs None e xs one others is = absurd (none_some xs is)
fields_step n t fs (Some x) None xs one others is = absurd (none_some xs is)
fields_step n t fs (Some x) (Some ys) xs one others is =
    subst (λ (all : Values). are_fields (Field n t fs) all ≡ true) (some_is _ _ is) (and_both (is_of t x) (are_fields fs ys) (one x refl) (others ys refl))

fields_are : (fs : FieldTypes) (all : List Given) (xs : Values) → AreLawfulTypes fs → AreSound all → field_values fs (values_of all) ≡ Some xs → are_fields fs xs ≡ true
unfolding field_values is_of are_fields
fields_are NoFields [] xs lawful sound e = subst (λ (all : Values). are_fields NoFields all ≡ true) (some_is _ _ e) refl
fields_are NoFields (a ∷ all) xs lawful sound e = absurd (none_some xs e)
fields_are (Field n t fs) [] xs lawful sound e = absurd (none_some xs e)
fields_are (Field n t fs) (a ∷ all) xs lawful sound e =
    fields_step n t fs (fitted t a.valued) (field_values fs (values_of all)) xs (λ x is. fitted_is_of t a.valued x lawful.0 sound.0 is) (λ ys is. fields_are fs all ys lawful.1 sound.1 is) e

mapped : {A B : Type 0} (f : A → B) (o : Option A) (y : B) → option_map f o ≡ Some y → (x : A) × ((o ≡ Some x) × (f x ≡ y))
mapped f None y e = absurd (none_some y e)
mapped f (Some x) y e = (x, (refl, some_is _ _ e))

values_count : (all : List Given) → length (values_of all) ≡ length all
values_count [] = refl
values_count (a ∷ all) = ap (λ (n : ℕ). suc n) (values_count all)

if_some : {A : Type 0} (b : Bool) (o : Option A) (x : A) → (if b then o else None) ≡ Some x → (b ≡ true) × (o ≡ Some x)
if_some true o x e = (refl, e)
if_some false o x e = absurd (none_some x e)

pub constructed_is_of : (t : CmType) (all : List Given) (x : Value) → IsLawfulType t → AreSound all → constructed t (values_of all) ≡ Some x → is_of t x ≡ true
unfolding constructed is_of
constructed_is_of (Single k) [] x lawful sound e = subst (λ (y : Value). is_of (Single k) y ≡ true) (some_is _ _ e) (zero_is_of (Single k) lawful)
constructed_is_of (Array n t) [] x lawful sound e = subst (λ (y : Value). is_of (Array n t) y ≡ true) (some_is _ _ e) (zero_is_of (Array n t) lawful)
constructed_is_of (Record p fs) [] x lawful sound e = subst (λ (y : Value). is_of (Record p fs) y ≡ true) (some_is _ _ e) (zero_is_of (Record p fs) lawful)
constructed_is_of (Single k) (a ∷ []) x lawful sound e = cast_is_of (Single k) a.valued.value x lawful e
constructed_is_of (Single k) (a ∷ b ∷ all) x lawful sound e = absurd (none_some x e)
constructed_is_of (Array n t) (a ∷ []) x lawful sound e =
    let m = mapped (λ (y : Value). Many (copies n y)) (fitted t a.valued) x e in
    subst (λ (y : Value). is_of (Array n t) y ≡ true) m.1.1 (copies_are n t m.0 (fitted_is_of t a.valued m.0 lawful.1 sound.0 m.1.0))
constructed_is_of (Array n t) (a ∷ b ∷ all) x lawful sound e =
    let i = if_some (n == length (values_of (a ∷ b ∷ all))) (option_map Many (elements t (values_of (a ∷ b ∷ all)))) x e in
    let m = mapped Many (elements t (values_of (a ∷ b ∷ all))) x i.1 in
    let n_is : n ≡ length (a ∷ b ∷ all) = (unsigned_Decides n (length (values_of (a ∷ b ∷ all)))).0 i.0 ∙ values_count (a ∷ b ∷ all) in
    subst (λ (y : Value). is_of (Array n t) y ≡ true) m.1.1 (subst (λ (k : ℕ). are_elements k t m.0 ≡ true) (sym n_is) (elements_are t (a ∷ b ∷ all) m.0 lawful.1 sound m.1.0))
constructed_is_of (Record p fs) (a ∷ all) x lawful sound e =
    let m = mapped Many (field_values fs (values_of (a ∷ all))) x e in
    subst (λ (y : Value). is_of (Record p fs) y ≡ true) m.1.1 (fields_are fs (a ∷ all) m.0 lawful sound m.1.0)

-- ---- arrays

one_of : (left : List CodeGiven) (a : CodeGiven) → length left ≡ 1 → IsFirst a left → left ≡ a ∷ []
one_of [] a n first = absurd (omega (arith, n))
one_of (b ∷ []) a n first = ap (λ (c : CodeGiven). c ∷ []) (sym first)
one_of (b ∷ c ∷ left) a n first = absurd (omega (arith, n))

-- one value for all elements
pub told_copies : (n : ℕ) (t : CmType) (all : List CodeGiven) (a : CodeGiven) (y : CodeValue) (made : List CodeValue) → length all ≡ 1 → IsFirst a all
    → GivesValue (fit_faults t (meant_given a)) (fitted t (meant_given a).valued) (Ok y) → meant_values made ≡ copies n (meant_value y)
    → GivesValues (element_faults t (meant_givens all)) (parts_of_array n t (values_of (meant_givens all))) (Ok made)
told_copies n t all a y made count first g is =
    subst (λ (l : List CodeGiven). GivesValues (element_faults t (meant_givens l)) (parts_of_array n t (values_of (meant_givens l))) (Ok made)) (sym (one_of all a count first))
    (append-nil (fit_faults t (meant_given a)) ∙ g.0, ap (option_map (copies n)) g.1 ∙ ap (λ (vs : Values). Some vs) (sym is))

pub no_copies : (n : ℕ) (t : CmType) (all : List CodeGiven) (a : CodeGiven) (x : Fail) → length all ≡ 1 → IsFirst a all → Refuses (fit_faults t (meant_given a)) x
    → Refuses (element_faults t (meant_givens all)) x
no_copies n t all a x count first h =
    subst (λ (l : List CodeGiven). Refuses (element_faults t (meant_givens l)) x) (sym (one_of all a count first))
    (subst (λ (l : List Fault). Refuses l x) (sym (append-nil (fit_faults t (meant_given a)))) h)

many_parts : (n : ℕ) (t : CmType) (all : List Given) → (length all ≡ 1 → ⊥) → parts_of_array n t (values_of all) ≡ elements t (values_of all)
many_parts n t [] many = refl
many_parts n t (a ∷ []) many = absurd (many refl)
many_parts n t (a ∷ b ∷ all) many = refl

givens_count : (all : List CodeGiven) → length (meant_givens all) ≡ length all
givens_count [] = refl
givens_count (a ∷ all) = ap (λ (n : ℕ). suc n) (givens_count all)

pub told_elements : (n : ℕ) (t : CmType) (all : List CodeGiven) (r : Result (List CodeValue) Fail) → (length all ≡ 1 → ⊥)
    → GivesValues (element_faults t (meant_givens all)) (elements t (values_of (meant_givens all))) r
    → GivesValues (element_faults t (meant_givens all)) (parts_of_array n t (values_of (meant_givens all))) r
told_elements n t all r many h =
    subst (λ (o : Option Values). GivesValues (element_faults t (meant_givens all)) o r) (sym (many_parts n t (meant_givens all) (λ e. many (sym (givens_count all) ∙ e)))) h

-- ---- each type from its parts

abbrev Gives : CmType → List CodeGiven → Result CodeValue Fail → Type 0
Gives t all r = GivesValue (part_faults t (meant_givens all)) (constructed t (values_of (meant_givens all))) r

no_givens : (left : List CodeGiven) → length left ≡ 0 → left ≡ []
no_givens [] none = refl
no_givens (a ∷ left) none = absurd (omega (arith, none))

zero_gives : (t : CmType) (y : CodeValue) → meant_value y ≡ zero_of t → Gives t [] (Ok y)
unfolding constructed field_faults
zero_gives (Single k) y is = (refl, ap (λ (z : Value). Some z) (sym is))
zero_gives (Array n t) y is = (refl, ap (λ (z : Value). Some z) (sym is))
zero_gives (Record p NoFields) y is = (refl, ap (λ (z : Value). Some z) (sym is))
zero_gives (Record p (Field n t fs)) y is = (refl, ap (λ (z : Value). Some z) (sym is))

pub told_zero : (t : CmType) (all : List CodeGiven) (y : CodeValue) → length all ≡ 0 → meant_value y ≡ zero_of t → Gives t all (Ok y)
told_zero t all y none is = subst (λ (l : List CodeGiven). Gives t l (Ok y)) (sym (no_givens all none)) (zero_gives t y is)

two_or_more : (k : ℕ) → nat_le (suc (suc k)) 1 ≡ false
two_or_more k = grind arith

one_taken : (k : Scalar) (all : List CodeGiven) (a : CodeGiven) (rest : List CodeGiven) → takes_count (Single k) (length all) ≡ true → all ≡ a ∷ rest → all ≡ a ∷ []
one_taken k all a [] takes e = e
one_taken k all a (b ∷ rest) takes e =
    let n : length all ≡ suc (suc (length rest)) = ap (λ (l : List CodeGiven). length l) e in no (sym (two_or_more (length rest)) ∙ sym (ap (λ (m : ℕ). nat_le m 1) n) ∙ takes)

cast_gives : (k : Scalar) (a : CodeGiven) (r : Result CodeValue Fail) → GivesValue (cast_fault (meant_given a)) (cast (Single k) (meant_given a).valued.value) r → Gives (Single k) (a ∷ []) r
unfolding constructed
cast_gives k a r h = h

pub told_single : (ty : CodeType) (k : Scalar) (all : List CodeGiven) (a : CodeGiven) (rest : List CodeGiven) (r : Result CodeValue Fail) → ty ≡ t.Single k → takes_count (meant_type ty) (length all) ≡ true
    → all ≡ a ∷ rest → GivesValue (cast_fault (meant_given a)) (cast (Single k) (meant_given a).valued.value) r → Gives (meant_type ty) all r
told_single ty k all a rest r is takes e h =
    let m : meant_type ty ≡ Single k = ap meant_type is ∙ meant-Single k in
    subst (λ (u : CmType). Gives u all r) (sym m)
    (subst (λ (l : List CodeGiven). Gives (Single k) l r) (sym (one_taken k all a rest (subst (λ (u : CmType). takes_count u (length all) ≡ true) m takes) e)) (cast_gives k a r h))

copies_many : (n : ℕ) (o : Option Value) → option_map (λ (x : Value). Many (copies n x)) o ≡ option_map Many (option_map (copies n) o)
copies_many n None = refl
copies_many n (Some x) = refl

taken : (m n : ℕ) (k : ℕ) → (nat_le (suc (suc k)) 1 || (m == n)) ≡ true → m ≡ n
taken m n k h = (unsigned_Decides m n).0 (sym (ap (λ (b : Bool). b || (m == n)) (two_or_more k)) ∙ h)

array_parts : (n : ℕ) (t : CmType) (a : Given) (all : List Given) → takes_count (Array n t) (length (a ∷ all)) ≡ true
    → constructed (Array n t) (values_of (a ∷ all)) ≡ option_map Many (parts_of_array n t (values_of (a ∷ all)))
unfolding constructed
array_parts n t a [] takes = copies_many n (fitted t a.valued)
array_parts n t a (b ∷ all) takes =
    ap (λ (same : Bool). if same then option_map Many (elements t (values_of (a ∷ b ∷ all))) else None)
    ((unsigned_Decides n (length (values_of (a ∷ b ∷ all)))).1 (sym (values_count (a ∷ b ∷ all) ∙ taken (length (a ∷ b ∷ all)) n (length all) takes)))

struct_parts : (p : Place) (fs : FieldTypes) (a : Given) (all : List Given) → constructed (Record p fs) (values_of (a ∷ all)) ≡ option_map Many (field_values fs (values_of (a ∷ all)))
unfolding constructed
struct_parts p fs a all = refl

gives_many : (f : List Fault) (o : Option Values) (made : List CodeValue) → GivesValues f o (Ok made) → GivesValue f (option_map Many o) (Ok (v.Many made))
gives_many f o made h = (h.0, ap (option_map Many) h.1 ∙ ap (λ (x : Value). Some x) (sym (meant-Many made)))

pub array_is : (ty : CodeType) (n : ℕ) (u : CodeType) → ty ≡ t.Array n u → meant_type ty ≡ Array n (meant_type u)
array_is ty n u is = ap meant_type is ∙ meant-Array n u

pub struct_is : (ty : CodeType) (p : Place) (fs : List FieldType) → ty ≡ t.Record p fs → meant_type ty ≡ Record p (meant_fields fs)
struct_is ty p fs is = ap meant_type is ∙ meant-Record p fs

pub told_array : (ty : CodeType) (n : ℕ) (u : CmType) (all : List CodeGiven) (a : CodeGiven) (rest : List CodeGiven) (made : List CodeValue) → meant_type ty ≡ Array n u
    → takes_count (meant_type ty) (length all) ≡ true → all ≡ a ∷ rest
    → GivesValues (element_faults u (meant_givens all)) (parts_of_array n u (values_of (meant_givens all))) (Ok made) → Gives (meant_type ty) all (Ok (v.Many made))
told_array ty n u all a rest made m takes e h =
    subst (λ (w : CmType). Gives w all (Ok (v.Many made))) (sym m)
    (subst (λ (o : Option Value). GivesValue (element_faults u (meant_givens all)) o (Ok (v.Many made))) (sym whole) (gives_many (element_faults u (meant_givens all)) (parts_of_array n u (values_of (meant_givens all))) made h)) where
      whole : constructed (Array n u) (values_of (meant_givens all)) ≡ option_map Many (parts_of_array n u (values_of (meant_givens all)))
      whole = subst (λ (l : List CodeGiven). takes_count (Array n u) (length l) ≡ true → constructed (Array n u) (values_of (meant_givens l)) ≡ option_map Many (parts_of_array n u (values_of (meant_givens l))))
          (sym e) (λ h. array_parts n u (meant_given a) (meant_givens rest) (subst (λ (k : ℕ). takes_count (Array n u) k ≡ true) (sym (givens_count (a ∷ rest))) h))
          (subst (λ (w : CmType). takes_count w (length all) ≡ true) m takes)

pub told_struct : (ty : CodeType) (p : Place) (fs : FieldTypes) (all : List CodeGiven) (a : CodeGiven) (rest : List CodeGiven) (made : List CodeValue) → meant_type ty ≡ Record p fs → all ≡ a ∷ rest
    → GivesValues (field_faults fs (meant_givens all)) (field_values fs (values_of (meant_givens all))) (Ok made) → Gives (meant_type ty) all (Ok (v.Many made))
told_struct ty p fs all a rest made m e h =
    subst (λ (w : CmType). Gives w all (Ok (v.Many made))) (sym m)
    (subst (λ (o : Option Value). GivesValue (field_faults fs (meant_givens all)) o (Ok (v.Many made))) (sym whole) (gives_many (field_faults fs (meant_givens all)) (field_values fs (values_of (meant_givens all))) made h)) where
      whole : constructed (Record p fs) (values_of (meant_givens all)) ≡ option_map Many (field_values fs (values_of (meant_givens all)))
      whole = subst (λ (l : List CodeGiven). constructed (Record p fs) (values_of (meant_givens l)) ≡ option_map Many (field_values fs (values_of (meant_givens l)))) (sym e)
          (struct_parts p fs (meant_given a) (meant_givens rest))

pub no_parts : (ty : CodeType) (u : CmType) (all : List CodeGiven) (r : Result CodeValue Fail) (x : Fail) → meant_type ty ≡ u → r ≡ Err x → Refuses (part_faults u (meant_givens all)) x → Gives (meant_type ty) all r
no_parts ty u all r x m e h = subst (λ (w : CmType). Gives w all r) (sym m) (subst (Gives u all) (sym e) h)

not_zero : (m : ℕ) → (suc m == 0) ≡ false
not_zero m = grind arith

counted : (m n : ℕ) → ((m == 0) || (m == n)) ≡ true → (m ≡ 0 → ⊥) → m ≡ n
counted zero n h some = absurd (some refl)
counted (suc m) n h some = (unsigned_Decides (suc m) n).0 (sym (ap (λ (b : Bool). b || (suc m == n)) (not_zero m)) ∙ h)

pub struct_count : (ty : CodeType) (p : Place) (fs : List FieldType) (all : List CodeGiven) (a : CodeGiven) (rest : List CodeGiven) → ty ≡ t.Record p fs → takes_count (meant_type ty) (length all) ≡ true → all ≡ a ∷ rest
    → length all ≡ length fs
struct_count ty p fs all a rest is takes e =
    let n : length all ≡ suc (length rest) = ap (λ (l : List CodeGiven). length l) e in
    counted (length all) (count_fields (meant_fields fs)) (subst (λ (w : CmType). takes_count w (length all) ≡ true) (struct_is ty p fs is) takes) (λ (none : length all ≡ 0). omega (arith, n, none))
    ∙ counted_fields fs

pub sound_made : (ty : CodeType) (all : List CodeGiven) (y : CodeValue) → IsLawfulType (meant_type ty) → AreSound (meant_givens all) → Gives (meant_type ty) all (Ok y)
    → IsSound (meant_valued (record { ty = ty; value = y }))
sound_made ty all y lawful sound h = record { lawful = lawful; fits = constructed_is_of (meant_type ty) (meant_givens all) (meant_value y) lawful sound h.1 }
