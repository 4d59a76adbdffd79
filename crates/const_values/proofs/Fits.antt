-- Values that are made of others, step by step.
use Rattle.std.specs.Prelude.{◌≡◌, refl, ℕ, suc, ℤ, Bool, true, false, ◌&&◌, ◌||◌, if◌then◌else◌, List, [], ◌∷◌, ◌++◌, length, Option, Some, None, option_map, option_and_then, Result, Ok, Err, IsErr, IsErrAnd}
use Rattle.std.proofs.Common.{ap, sym, ◌∙◌, subst, inl, arith}
use Rattle.cm_base.specs.declared.cause.Cause.TheVariants as cause
use Rattle.cm_base.specs.declared.host.Scalar.{Scalar}
use Rattle.cm_base.specs.declared.host.Scalar.TheVariants as kind
use Rattle.cm_base.specs.declared.failure.Fail.{Fail}
use Rattle.cm_base.specs.declared.failure.Fail.TheVariants as fail
use Rattle.cm_const.proofs.Sound.{is_of_kind}
use Rattle.cm_types.specs.declared.cm_type.FieldType.{FieldType}
use Rattle.cm_types.specs.declared.value.Value.{Value as CodeValue}
use Rattle.cm_types.specs.Lawful.{IsLawfulType, AreLawfulTypes, IsSound}
use Rattle.cm_types.specs.Meant.{meant_type, meant_fields, meant-field, meant_value, onto, onto-nil, onto-push, onto-all}
use Rattle.cm_meaning.specs.Faults.{Fault, fault, unless}
use Rattle.cm_meaning.specs.Types.{CmType, Single, Array, Record, FieldTypes, NoFields, Field, is_same, Value, Number, Truth, Many, Values, NoValues, Then, number_of, scalar_value, is_of}
use Rattle.cm_meaning.specs.Conversions.{Valued, is_number, is_bool, is_condition, widens, holds_known, known, cast, fitted}
use Rattle.cm_meaning.specs.Constants.{elements, field_values}
use Rattle.cm_meaning.specs.TypeRows.{is_scalar, count_fields}
use Rattle.cm_meaning.specs.Exact.{In}
use Rattle.const_values.specs.Answers.{Refuses}
use Rattle.const_values.specs.declared.construct.Given.{Given as CodeGiven}
use Rattle.const_values.specs.Construct.{Given, meant_given, meant_givens, values_of, AreSound, fit_faults, element_faults, field_faults, cast_fault, GivesValue, GivesValues}
use Rattle.const_values.proofs.Operands.{no, has_number, refuses}
use Rattle.const_values.proofs.Arms.{same_is}
use Rattle.const_values.proofs.Constructs.{passed}

none_some : {A : Type 0} (x : A) → None ≡ Some x → ⊥
none_some x h = cc

some_is : {A : Type 0} (x y : A) → Some x ≡ Some y → x ≡ y
some_is x y e = cc

-- ---- a value where a type is needed

fit_step : (s r : Bool) (v : Value) (c : Option Value) (x : Value) → (if s then Some v else (if s || r then c else None)) ≡ Some x → (s || r) ≡ true
fit_step true r v c x e = refl
fit_step false true v c x e = refl
fit_step false false v c x e = absurd (none_some x e)

no_fit_step : (s r : Bool) (v : Value) (c : Option Value) → (r ≡ true → (y : Value) × (c ≡ Some y)) → None ≡ (if s then Some v else (if s || r then c else None)) → (s || r) ≡ false
no_fit_step true r v c there e = absurd (none_some v e)
no_fit_step false true v c there e = let y = there refl in absurd (none_some y.0 (e ∙ y.1))
no_fit_step false false v c there e = refl

-- what converts, beside equal types
abbrev others_convert : CmType → CmType → Option ℤ → Bool
others_convert t u k = widens t u || (is_number t && (is_bool u || (is_number u && holds_known u k)))

widens_number : (t u : CmType) → widens t u ≡ true → is_number t ≡ true
widens_number (Single kind.Int32) u e = refl
widens_number (Single kind.Int64) u e = refl
widens_number (Single (kind.Wrap n)) u e = refl
widens_number (Single (kind.Clamp n)) u e = refl
widens_number (Single kind.Bool) u e = no e
widens_number (Array n t) u e = no e
widens_number (Record p fs) u e = no e

or_number : (w n b : Bool) → (w ≡ true → n ≡ true) → (w || (n && b)) ≡ true → n ≡ true
or_number true n b h e = h refl
or_number false true b h e = refl
or_number false false b h e = no e

number_converts : (t u : CmType) (k : Option ℤ) → others_convert t u k ≡ true → is_number t ≡ true
number_converts t u k e = or_number (widens t u) (is_number t) (is_bool u || (is_number u && holds_known u k)) (widens_number t u) e

number_condition : (t : CmType) → is_number t ≡ true → is_condition t ≡ true
number_condition t is = rw is refl

to_single : (t u : CmType) (k : Option ℤ) → others_convert t u k ≡ true → is_scalar u ≡ true
to_single t (Single j) k e = refl
to_single (Single kind.Int32) (Array n u) k e = no e
to_single (Single kind.Int64) (Array n u) k e = no e
to_single (Single kind.Bool) (Array n u) k e = no e
to_single (Single (kind.Wrap m)) (Array n u) k e = no e
to_single (Single (kind.Clamp m)) (Array n u) k e = no e
to_single (Array m t) (Array n u) k e = no e
to_single (Record q gs) (Array n u) k e = no e
to_single (Single kind.Int32) (Record p fs) k e = no e
to_single (Single kind.Int64) (Record p fs) k e = no e
to_single (Single kind.Bool) (Record p fs) k e = no e
to_single (Single (kind.Wrap m)) (Record p fs) k e = no e
to_single (Single (kind.Clamp m)) (Record p fs) k e = no e
to_single (Array m t) (Record p fs) k e = no e
to_single (Record q gs) (Record p fs) k e = no e

cast_to : (u : CmType) (v : Value) (z : ℤ) → is_scalar u ≡ true → number_of v ≡ Some z → (y : Value) × (cast u v ≡ Some y)
cast_to (Single j) v z is e = (scalar_value j z, ap (option_map (scalar_value j)) e)
cast_to (Array n u) v z is e = no is
cast_to (Record p fs) v z is e = no is

cast_there : (v : Valued) (u : CmType) (k : Option ℤ) → IsSound v → others_convert v.ty u k ≡ true → (y : Value) × (cast u v.value ≡ Some y)
cast_there v u k sound e =
    let n = has_number v.ty v.value sound.fits (number_condition v.ty (number_converts v.ty u k e)) in
    cast_to u v.value n.0 (to_single v.ty u k e) n.1

pub told_fit : (t : CmType) (a : Given) (v : CodeValue) → Some (meant_value v) ≡ fitted t a.valued → GivesValue (fit_faults t a) (fitted t a.valued) (Ok v)
told_fit t a v e = (
  ap (λ (b : Bool). unless b cause.TypeMismatch a.place)
      (fit_step (is_same a.valued.ty t) (others_convert a.valued.ty t (known a.valued)) a.valued.value (cast t a.valued.value) (meant_value v) (sym e)),
  sym e,
)

pub told_no_fit : (t : CmType) (a : Given) (x : Fail) → x ≡ fail.Refused (record { cause = cause.TypeMismatch; place = a.place; cycle = [] }) → IsSound a.valued → None ≡ fitted t a.valued
    → Refuses (fit_faults t a) x
told_no_fit t a x is sound none =
    refuses (fit_faults t a) x cause.TypeMismatch a.place is
    (subst (λ (b : Bool). In (fault cause.TypeMismatch a.place) (unless b cause.TypeMismatch a.place))
    (sym (no_fit_step (is_same a.valued.ty t) (others_convert a.valued.ty t (known a.valued)) a.valued.value (cast t a.valued.value) (cast_there a.valued t (known a.valued) sound) none)) (inl refl))

pub cast_is_of : (t : CmType) (v x : Value) → IsLawfulType t → cast t v ≡ Some x → is_of t x ≡ true
cast_is_of (Single k) v x lawful e = by (number_of v) e where
  by : (n : Option ℤ) → option_map (scalar_value k) n ≡ Some x → is_of (Single k) x ≡ true
  by None e = absurd (none_some x e)
  by (Some z) e = subst (λ (y : Value). is_of (Single k) y ≡ true) (some_is _ _ e) (is_of_kind k z lawful)
cast_is_of (Array n t) v x lawful e = absurd (none_some x e)
cast_is_of (Record p fs) v x lawful e = absurd (none_some x e)

-- it is a value of the type
pub fitted_is_of : (t : CmType) (v : Valued) (x : Value) → IsLawfulType t → IsSound v → fitted t v ≡ Some x → is_of t x ≡ true
fitted_is_of t v x lawful sound e = by (is_same v.ty t) refl e where
  rest : (b : Bool) → (if b then cast t v.value else None) ≡ Some x → is_of t x ≡ true
  rest true e = cast_is_of t v.value x lawful e
  rest false e = absurd (none_some x e)

  by : (s : Bool) → is_same v.ty t ≡ s → (if s then Some v.value else (if s || others_convert v.ty t (known v) then cast t v.value else None)) ≡ Some x → is_of t x ≡ true
  by true same e = subst (λ (y : Value). is_of t y ≡ true) (some_is _ _ e) (subst (λ (u : CmType). is_of u v.value ≡ true) (same_is v.ty t same) sound.fits)
  by false differ e = rest (others_convert v.ty t (known v)) e

-- ---- casts

number_scalar : (t : CmType) (v : Value) (z : ℤ) → is_of t v ≡ true → number_of v ≡ Some z → is_scalar t ≡ true
unfolding is_of
number_scalar (Single k) v z is e = refl
number_scalar (Array n t) (Number y) z is e = no is
number_scalar (Array n t) (Truth b) z is e = no is
number_scalar (Array n t) (Many all) z is e = absurd (none_some z e)
number_scalar (Record p fs) (Number y) z is e = no is
number_scalar (Record p fs) (Truth b) z is e = no is
number_scalar (Record p fs) (Many all) z is e = absurd (none_some z e)

single_condition : (t : CmType) → is_scalar t ≡ true → is_condition t ≡ true
single_condition (Single kind.Int32) is = refl
single_condition (Single kind.Int64) is = refl
single_condition (Single kind.Bool) is = refl
single_condition (Single (kind.Wrap n)) is = refl
single_condition (Single (kind.Clamp n)) is = refl
single_condition (Array n t) is = no is
single_condition (Record p fs) is = no is

cast_number : (k : Scalar) (n : Option ℤ) (x : Value) → Some x ≡ option_map (scalar_value k) n → (z : ℤ) × (n ≡ Some z)
cast_number k None x e = absurd (none_some x (sym e))
cast_number k (Some z) x e = (z, refl)

pub told_cast : (k : Scalar) (a : Given) (v : CodeValue) → IsSound a.valued → Some (meant_value v) ≡ cast (Single k) a.valued.value
    → GivesValue (cast_fault a) (cast (Single k) a.valued.value) (Ok v)
told_cast k a v sound e =
    let n = cast_number k (number_of a.valued.value) (meant_value v) e in (
      ap (λ (b : Bool). unless b cause.TypeMismatch a.place) (number_scalar a.valued.ty a.valued.value n.0 sound.fits n.1),
      sym e,
    )

no_scalar : (k : Scalar) (v : Valued) (s : Bool) → IsSound v → is_scalar v.ty ≡ s → None ≡ cast (Single k) v.value → s ≡ false
no_scalar k v false sound is none = refl
no_scalar k v true sound is none =
    let n = has_number v.ty v.value sound.fits (single_condition v.ty is) in
    absurd (none_some (scalar_value k n.0) (none ∙ ap (option_map (scalar_value k)) n.1))

pub told_no_cast : (k : Scalar) (a : Given) (x : Fail) → x ≡ fail.Refused (record { cause = cause.TypeMismatch; place = a.place; cycle = [] }) → IsSound a.valued
    → None ≡ cast (Single k) a.valued.value → Refuses (cast_fault a) x
told_no_cast k a x is sound none =
    refuses (cast_fault a) x cause.TypeMismatch a.place is
    (subst (λ (b : Bool). In (fault cause.TypeMismatch a.place) (unless b cause.TypeMismatch a.place)) (sym (no_scalar k a.valued (is_scalar a.valued.ty) sound refl none)) (inl refl))

-- ---- values one after another

-- all faults and values are those that are left, behind the values that are made
pub record Gathered (all_faults : List Fault) (all_values : Option Values) (faults : List Fault) (values : Option Values) (made : List CodeValue) : Type 0 where
  pub faults_left : all_faults ≡ faults
  pub values_left : all_values ≡ option_map (onto made) values

onto_none : (o : Option Values) → o ≡ option_map (onto []) o
unfolding onto
onto_none None = refl
onto_none (Some vs) = ap (λ (all : Values). Some all) (sym (onto-nil vs))

pub gathered_start : (f : List Fault) (v : Option Values) → Gathered f v f v []
gathered_start f v = record { faults_left = refl; values_left = onto_none v }

onto_next : (made : List CodeValue) (y : CodeValue) (o : Option Values) → option_map (onto made) (option_map (Then (meant_value y)) o) ≡ option_map (onto (made ++ y ∷ [])) o
onto_next made y None = refl
onto_next made y (Some vs) = ap (λ (all : Values). Some all) (sym (onto-push made y vs))

abbrev then_others : CmType → Given → Option Values → Option Values
then_others t a others = option_and_then (λ (x : Value). option_map (Then x) others) (fitted t a.valued)

pub gathered_next : (t : CmType) (a : Given) (F f : List Fault) (V v : Option Values) (made : List CodeValue) (y : CodeValue)
    → Gathered F V (fit_faults t a ++ f) (then_others t a v) made → GivesValue (fit_faults t a) (fitted t a.valued) (Ok y) → Gathered F V f v (made ++ y ∷ [])
gathered_next t a F f V v made y h g = record {
  faults_left = h.faults_left ∙ ap (λ (l : List Fault). l ++ f) g.0;
  values_left = h.values_left ∙ ap (λ (o : Option Value). option_map (onto made) (option_and_then (λ (x : Value). option_map (Then x) v) o)) g.1 ∙ onto_next made y v;
}

pub gathered_all : (F : List Fault) (V : Option Values) (made : List CodeValue) → Gathered F V [] (Some NoValues) made → GivesValues F V (Ok made)
gathered_all F V made h = (h.faults_left, h.values_left ∙ ap (λ (all : Values). Some all) (onto-all made))

pub gathered_refused : (t : CmType) (a : Given) (F f : List Fault) (V v : Option Values) (made : List CodeValue) (x : Fail) → Gathered F V (fit_faults t a ++ f) v made → Refuses (fit_faults t a) x → Refuses F x
gathered_refused t a F f V v made x h r = passed F (fit_faults t a) f x h.faults_left r

-- ---- the elements of an array

pub more_elements : (t : CmType) (a : Given) (all : List Given) → elements t (values_of (a ∷ all)) ≡ then_others t a (elements t (values_of all))
unfolding elements
more_elements t a all = refl

pub no_elements : (t : CmType) → elements t [] ≡ Some NoValues
unfolding elements
no_elements t = refl

-- ---- the fields of a struct

pub more_fields : (n : List ℕ) (t : CmType) (fs : FieldTypes) (a : Given) (all : List Given)
    → field_values (Field n t fs) (values_of (a ∷ all)) ≡ then_others t a (field_values fs (values_of all))
unfolding field_values
more_fields n t fs a all = refl

pub no_fields : field_values NoFields [] ≡ Some NoValues
unfolding field_values
no_fields = refl

pub more_field_faults : (n : List ℕ) (t : CmType) (fs : FieldTypes) (a : Given) (all : List Given) → field_faults (Field n t fs) (a ∷ all) ≡ fit_faults t a ++ field_faults fs all
unfolding field_faults
more_field_faults n t fs a all = refl

pub no_field_faults : (fs : FieldTypes) → field_faults fs [] ≡ []
unfolding field_faults
no_field_faults NoFields = refl
no_field_faults (Field n t fs) = refl

pub counted_fields : (fs : List FieldType) → count_fields (meant_fields fs) ≡ length fs
unfolding count_fields meant_fields
counted_fields [] = refl
counted_fields (f ∷ fs) = ap (λ (n : ℕ). suc n) (counted_fields fs)

-- ---- steps of the loops

-- the answer that `?` passes on
pub passed_failure : {A : Type 0} (r : Result A Fail) (x : Fail) → IsErr r × IsErrAnd r (λ y. y ≡ x) → r ≡ Err x
passed_failure (Ok v) x h = absurd h.1
passed_failure (Err y) x h = ap Err h.1

gathered_as : (F f g : List Fault) (V v w : Option Values) (made now : List CodeValue) → f ≡ g → v ≡ w → now ≡ made → Gathered F V f v made → Gathered F V g w now
gathered_as F f g V v w made now e d is h = record {
  faults_left = h.faults_left ∙ e;
  values_left = h.values_left ∙ ap (option_map (onto made)) d ∙ ap (λ (m : List CodeValue). option_map (onto m) w) (sym is);
}

pub refused_as : (F : List Fault) (V : Option Values) (r : Result (List CodeValue) Fail) (x : Fail) → r ≡ Err x → Refuses F x → GivesValues F V r
refused_as F V r x e h = subst (GivesValues F V) (sym e) h

pub sound_rest : (left rest : List CodeGiven) (one : CodeGiven) → left ≡ one ∷ rest → AreSound (meant_givens left) → AreSound (meant_givens rest)
sound_rest left rest one e h = (subst (λ (l : List CodeGiven). AreSound (meant_givens l)) e h).1

no_givens : (left : List CodeGiven) → length left ≡ 0 → left ≡ []
no_givens [] none = refl
no_givens (a ∷ left) none = absurd (omega (arith, none))

pub start_with : (F : List Fault) (V : Option Values) (made : List CodeValue) → made ≡ [] → Gathered F V F V made
start_with F V made none = gathered_as F F F V V V [] made refl refl none (gathered_start F V)

module _ (t : CmType) (F : List Fault) (V : Option Values) where
  abbrev ElementsLeft : List CodeGiven → List CodeValue → Type 0
  ElementsLeft left made = Gathered F V (element_faults t (meant_givens left)) (elements t (values_of (meant_givens left))) made

  element_left : (left rest : List CodeGiven) (one : CodeGiven) (made : List CodeValue) → left ≡ one ∷ rest → ElementsLeft left made
      → Gathered F V (fit_faults t (meant_given one) ++ element_faults t (meant_givens rest)) (then_others t (meant_given one) (elements t (values_of (meant_givens rest)))) made
  element_left left rest one made e h =
      gathered_as F _ _ V _ _ made made (ap (λ (l : List CodeGiven). element_faults t (meant_givens l)) e)
      (ap (λ (l : List CodeGiven). elements t (values_of (meant_givens l))) e ∙ more_elements t (meant_given one) (meant_givens rest)) refl h

  pub element_refused : (left rest : List CodeGiven) (one : CodeGiven) (made : List CodeValue) (x : Fail) → left ≡ one ∷ rest → ElementsLeft left made → Refuses (fit_faults t (meant_given one)) x → Refuses F x
  element_refused left rest one made x e h r = gathered_refused t (meant_given one) F _ V _ made x (element_left left rest one made e h) r

  pub element_next : (left rest : List CodeGiven) (one : CodeGiven) (made now : List CodeValue) (y : CodeValue) → left ≡ one ∷ rest → now ≡ made ++ y ∷ [] → ElementsLeft left made
      → GivesValue (fit_faults t (meant_given one)) (fitted t (meant_given one).valued) (Ok y) → ElementsLeft rest now
  element_next left rest one made now y e is h g =
      gathered_as F _ _ V _ _ (made ++ y ∷ []) now refl refl is (gathered_next t (meant_given one) F _ V _ made y (element_left left rest one made e h) g)

  pub elements_all : (left : List CodeGiven) (made now : List CodeValue) → length left ≡ 0 → now ≡ made → ElementsLeft left made → GivesValues F V (Ok now)
  elements_all left made now none is h =
      let e = no_givens left none in
      gathered_all F V now (gathered_as F _ _ V _ _ made now (ap (λ (l : List CodeGiven). element_faults t (meant_givens l)) e)
      (ap (λ (l : List CodeGiven). elements t (values_of (meant_givens l))) e ∙ no_elements t) is h)

-- ---- the fields of a struct, step by step

abbrev fields_and : FieldType → List FieldType → FieldTypes
fields_and f others = meant_fields (f ∷ others)

pub field_lawful : (types others : List FieldType) (f : FieldType) → types ≡ f ∷ others → AreLawfulTypes (meant_fields types) → IsLawfulType (meant_type f.ty)
unfolding meant_fields
field_lawful types others f e h = (subst (λ (l : List FieldType). AreLawfulTypes (meant_fields l)) e h).0

pub others_lawful : (types others : List FieldType) (f : FieldType) → types ≡ f ∷ others → AreLawfulTypes (meant_fields types) → AreLawfulTypes (meant_fields others)
unfolding meant_fields
others_lawful types others f e h = (subst (λ (l : List FieldType). AreLawfulTypes (meant_fields l)) e h).1

pub still_equal : {A B : Type 0} (xs more : List A) (ys others : List B) (a : A) (b : B) → xs ≡ a ∷ more → ys ≡ b ∷ others → length xs ≡ length ys → length more ≡ length others
still_equal {A = A} {B = B} xs more ys others a b e f h =
    let one : length (a ∷ more) ≡ length (b ∷ others) = sym (ap (λ (l : List A). length l) e) ∙ h ∙ ap (λ (l : List B). length l) f in omega (arith, one)

no_types : (types : List FieldType) → length types ≡ 0 → meant_fields types ≡ NoFields
unfolding meant_fields
no_types [] none = refl
no_types (f ∷ types) none = absurd (omega (arith, none))

module _ (F : List Fault) (V : Option Values) where
  abbrev FieldsLeft : List FieldType → List CodeGiven → List CodeValue → Type 0
  FieldsLeft types left made = Gathered F V (field_faults (meant_fields types) (meant_givens left)) (field_values (meant_fields types) (values_of (meant_givens left))) made

  field_left : (types others : List FieldType) (left rest : List CodeGiven) (f : FieldType) (one : CodeGiven) (made : List CodeValue) → types ≡ f ∷ others → left ≡ one ∷ rest → FieldsLeft types left made
      → Gathered F V (fit_faults (meant_type f.ty) (meant_given one) ++ field_faults (meant_fields others) (meant_givens rest))
      (then_others (meant_type f.ty) (meant_given one) (field_values (meant_fields others) (values_of (meant_givens rest)))) made
  field_left types others left rest f one made d e h =
      gathered_as F _ _ V _ _ made made
      (ap (λ (l : List CodeGiven). field_faults (meant_fields types) (meant_givens l)) e
      ∙ ap (λ (l : List FieldType). field_faults (meant_fields l) (meant_givens (one ∷ rest))) d
      ∙ ap (λ (fs : FieldTypes). field_faults fs (meant_givens (one ∷ rest))) (meant-field f others)
      ∙ more_field_faults f.name (meant_type f.ty) (meant_fields others) (meant_given one) (meant_givens rest))
      (ap (λ (l : List CodeGiven). field_values (meant_fields types) (values_of (meant_givens l))) e
      ∙ ap (λ (l : List FieldType). field_values (meant_fields l) (values_of (meant_givens (one ∷ rest)))) d
      ∙ ap (λ (fs : FieldTypes). field_values fs (values_of (meant_givens (one ∷ rest)))) (meant-field f others)
      ∙ more_fields f.name (meant_type f.ty) (meant_fields others) (meant_given one) (meant_givens rest))
      refl h

  pub field_refused : (types others : List FieldType) (left rest : List CodeGiven) (f : FieldType) (one : CodeGiven) (made : List CodeValue) (x : Fail) → types ≡ f ∷ others → left ≡ one ∷ rest
      → FieldsLeft types left made → Refuses (fit_faults (meant_type f.ty) (meant_given one)) x → Refuses F x
  field_refused types others left rest f one made x d e h r = gathered_refused (meant_type f.ty) (meant_given one) F _ V _ made x (field_left types others left rest f one made d e h) r

  pub field_next : (types others : List FieldType) (left rest : List CodeGiven) (f : FieldType) (one : CodeGiven) (made now : List CodeValue) (y : CodeValue) → types ≡ f ∷ others → left ≡ one ∷ rest
      → now ≡ made ++ y ∷ [] → FieldsLeft types left made → GivesValue (fit_faults (meant_type f.ty) (meant_given one)) (fitted (meant_type f.ty) (meant_given one).valued) (Ok y) → FieldsLeft others rest now
  field_next types others left rest f one made now y d e is h g =
      gathered_as F _ _ V _ _ (made ++ y ∷ []) now refl refl is (gathered_next (meant_type f.ty) (meant_given one) F _ V _ made y (field_left types others left rest f one made d e h) g)

  pub fields_all : (types : List FieldType) (left : List CodeGiven) (made now : List CodeValue) → length left ≡ 0 → length left ≡ length types → now ≡ made → FieldsLeft types left made → GivesValues F V (Ok now)
  fields_all types left made now none count is h =
      let e = no_givens left none in
      let d : meant_fields types ≡ NoFields = no_types types (omega (arith, none, count)) in
      gathered_all F V now (gathered_as F _ _ V _ _ made now
      (ap (λ (l : List CodeGiven). field_faults (meant_fields types) (meant_givens l)) e ∙ no_field_faults (meant_fields types))
      (ap (λ (l : List CodeGiven). field_values (meant_fields types) (values_of (meant_givens l))) e ∙ ap (λ (fs : FieldTypes). field_values fs []) d ∙ no_fields) is h)
