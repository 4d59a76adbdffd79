-- The arms of a choice, in the type of both.
use Rattle.std.specs.Prelude.{◌≡◌, refl, ℕ, ◌==◌, ℤ, Bool, true, false, ◌&&◌, ◌||◌, if◌then◌else◌, List, [], Option, Some, None, is_some, option_map, option_and_then, bytes_eq, Ok}
use Rattle.std.specs.Cmp.{unsigned_Decides}
use Rattle.std.proofs.Common.{ap, sym, ◌∙◌, subst, inl, arith}
use Rattle.std.proofs.lemmas.Int.{ints}
use Rattle.std.proofs.lemmas.Slice.Eq.{bytes_eq-Decides}
use Rattle.cm_base.specs.declared.cause.Cause.TheVariants as cause
use Rattle.cm_base.specs.declared.place.Place.{Place}
use Rattle.cm_base.specs.declared.host.Scalar.{Scalar}
use Rattle.cm_base.specs.declared.host.Scalar.TheVariants as kind
use Rattle.cm_base.specs.declared.failure.Fail.{Fail}
use Rattle.cm_base.specs.declared.failure.Fail.TheVariants as fail
use Rattle.cm_number.specs.Conversion.{to_bool}
use Rattle.cm_types.specs.declared.valued.Valued.{Valued as CodeValued}
use Rattle.cm_types.specs.Lawful.{IsSound}
use Rattle.cm_types.specs.Meant.{meant_type, meant_value, meant_valued}
use Rattle.cm_meaning.specs.Faults.{Fault, fault, unless}
use Rattle.cm_meaning.specs.Types.{CmType, Single, Array, Record, FieldTypes, NoFields, Field, int32, int64, is_kind, is_place, is_same, are_same, Value, Number, Truth, Many, is_of, number_of, scalar_value, is_equal}
use Rattle.cm_meaning.specs.Conversions.{Valued, is_number, is_condition, is_int64, joined, chosen, converts, known, cast, fitted, with_type}
use Rattle.cm_meaning.specs.Exact.{In}
use Rattle.const_values.specs.Answers.{Refuses, Gives}
use Rattle.const_values.specs.Operations.{choice_faults, arm_value}
use Rattle.const_values.proofs.Operands.{no, sound_number, refuses}
use Rattle.const_values.proofs.Parts.{and_left, and_right}

none_some : {A : Type 0} (x : A) → None ≡ Some x → ⊥
none_some x h = cc

some_is : {A : Type 0} (x y : A) → Some x ≡ Some y → x ≡ y
some_is x y e = cc

-- ---- truths

module _ (v : Valued) (sound : IsSound v) (takes : is_condition v.ty ≡ true) where
  pub truth_none : None ≡ number_of v.value → option_map to_bool (number_of v.value) ≡ Some false
  truth_none e = let m = sound_number v sound takes in absurd (none_some _ (e ∙ m.1))

-- ---- types that are the same are equal

kinds_equal : (a b : Scalar) → is_kind a b ≡ true → a ≡ b
kinds_equal kind.Int32 kind.Int32 e = refl
kinds_equal kind.Int64 kind.Int64 e = refl
kinds_equal kind.Bool kind.Bool e = refl
kinds_equal (kind.Wrap n) (kind.Wrap m) e = ap kind.Wrap ((unsigned_Decides n m).0 e)
kinds_equal (kind.Clamp n) (kind.Clamp m) e = ap kind.Clamp ((unsigned_Decides n m).0 e)
kinds_equal kind.Int32 kind.Int64 e = no e
kinds_equal kind.Int32 kind.Bool e = no e
kinds_equal kind.Int32 (kind.Wrap m) e = no e
kinds_equal kind.Int32 (kind.Clamp m) e = no e
kinds_equal kind.Int64 kind.Int32 e = no e
kinds_equal kind.Int64 kind.Bool e = no e
kinds_equal kind.Int64 (kind.Wrap m) e = no e
kinds_equal kind.Int64 (kind.Clamp m) e = no e
kinds_equal kind.Bool kind.Int32 e = no e
kinds_equal kind.Bool kind.Int64 e = no e
kinds_equal kind.Bool (kind.Wrap m) e = no e
kinds_equal kind.Bool (kind.Clamp m) e = no e
kinds_equal (kind.Wrap n) kind.Int32 e = no e
kinds_equal (kind.Wrap n) kind.Int64 e = no e
kinds_equal (kind.Wrap n) kind.Bool e = no e
kinds_equal (kind.Wrap n) (kind.Clamp m) e = no e
kinds_equal (kind.Clamp n) kind.Int32 e = no e
kinds_equal (kind.Clamp n) kind.Int64 e = no e
kinds_equal (kind.Clamp n) kind.Bool e = no e
kinds_equal (kind.Clamp n) (kind.Wrap m) e = no e

abbrev placed : ℕ → ℕ → ℕ → Place
placed f l c = record { file = f; line = l; column = c }

places_equal : (p q : Place) → is_place p q ≡ true → p ≡ q
places_equal p q e =
    let rest = and_right (p.file == q.file) ((p.line == q.line) && (p.column == q.column)) e in
    ap (λ (n : ℕ). placed n p.line p.column) ((unsigned_Decides p.file q.file).0 (and_left (p.file == q.file) ((p.line == q.line) && (p.column == q.column)) e))
    ∙ ap (λ (n : ℕ). placed q.file n p.column) ((unsigned_Decides p.line q.line).0 (and_left (p.line == q.line) (p.column == q.column) rest))
    ∙ ap (λ (n : ℕ). placed q.file q.line n) ((unsigned_Decides p.column q.column).0 (and_right (p.line == q.line) (p.column == q.column) rest))

mutual
  unfolding is_same are_same

  pub same_is : (t u : CmType) → is_same t u ≡ true → t ≡ u
  same_is (Single a) (Single b) e = ap Single (kinds_equal a b e)
  same_is (Array n t) (Array m u) e =
      ap (λ (n : ℕ). Array n t) ((unsigned_Decides n m).0 (and_left (n == m) (is_same t u) e)) ∙ ap (Array m) (same_is t u (and_right (n == m) (is_same t u) e))
  same_is (Record p fs) (Record q gs) e =
      ap (λ (p : Place). Record p fs) (places_equal p q (and_left (is_place p q) (are_same fs gs) e)) ∙ ap (Record q) (same_are fs gs (and_right (is_place p q) (are_same fs gs) e))
  same_is (Single a) (Array m u) e = no e
  same_is (Single a) (Record q gs) e = no e
  same_is (Array n t) (Single b) e = no e
  same_is (Array n t) (Record q gs) e = no e
  same_is (Record p fs) (Single b) e = no e
  same_is (Record p fs) (Array m u) e = no e

  same_are : (fs gs : FieldTypes) → are_same fs gs ≡ true → fs ≡ gs
  same_are NoFields NoFields e = refl
  same_are (Field n t fs) (Field m u gs) e =
      let rest = and_right (bytes_eq n m) (is_same t u && are_same fs gs) e in
      ap (λ (n : List ℕ). Field n t fs) ((bytes_eq-Decides n m).0 (and_left (bytes_eq n m) (is_same t u && are_same fs gs) e))
      ∙ ap (λ (t : CmType). Field m t fs) (same_is t u (and_left (is_same t u) (are_same fs gs) rest))
      ∙ ap (Field m u) (same_are fs gs (and_right (is_same t u) (are_same fs gs) rest))
  same_are NoFields (Field m u gs) e = no e
  same_are (Field n t fs) NoFields e = no e

and_both : (p q : Bool) → p ≡ true → q ≡ true → (p && q) ≡ true
and_both true q a c = c
and_both false q a c = no a

kind_itself : (a : Scalar) → is_kind a a ≡ true
kind_itself kind.Int32 = refl
kind_itself kind.Int64 = refl
kind_itself kind.Bool = refl
kind_itself (kind.Wrap n) = (unsigned_Decides n n).1 refl
kind_itself (kind.Clamp n) = (unsigned_Decides n n).1 refl

mutual
  unfolding is_same are_same

  pub same_itself : (t : CmType) → is_same t t ≡ true
  same_itself (Single a) = kind_itself a
  same_itself (Array n t) = and_both (n == n) (is_same t t) ((unsigned_Decides n n).1 refl) (same_itself t)
  same_itself (Record p fs) =
      and_both (is_place p p) (are_same fs fs)
      (and_both (p.file == p.file) ((p.line == p.line) && (p.column == p.column)) ((unsigned_Decides p.file p.file).1 refl)
      (and_both (p.line == p.line) (p.column == p.column) ((unsigned_Decides p.line p.line).1 refl) ((unsigned_Decides p.column p.column).1 refl)))
      (fields_themselves fs)

  fields_themselves : (fs : FieldTypes) → are_same fs fs ≡ true
  fields_themselves NoFields = refl
  fields_themselves (Field n t fs) = and_both (bytes_eq n n) (is_same t t && are_same fs fs) ((bytes_eq-Decides n n).1 refl) (and_both (is_same t t) (are_same fs fs) (same_itself t) (fields_themselves fs))

-- ---- arms of one type

-- a value of the type that is needed stays as it is
pub fitted_same : (t : CmType) (v : Valued) → t ≡ v.ty → fitted t v ≡ Some v.value
fitted_same t v e =
    ap (λ (same : Bool). if same then Some v.value else (if converts v.ty t (known v) then cast t v.value else None)) (ap (is_same v.ty) e ∙ same_itself v.ty)

chosen_same : (first : Bool) (a b : Valued) → a.ty ≡ b.ty → arm_value first a b ≡ Some (if first then a else b)
chosen_same first a b e =
    ap (λ (same : Bool). option_and_then (λ (t : CmType). with_type t (fitted t (if first then a else b))) (if same then Some a.ty else joined a.ty b.ty)) (ap (is_same a.ty) (sym e) ∙ same_itself a.ty)
    ∙ by first where
      by : (first : Bool) → with_type a.ty (fitted a.ty (if first then a else b)) ≡ Some (if first then a else b)
      by true = ap (with_type a.ty) (fitted_same a.ty a refl)
      by false = ap (with_type a.ty) (fitted_same a.ty b e) ∙ ap (λ (t : CmType). Some (record { ty = t; value = b.value })) e

arm_type : (first : Bool) (a b : Valued) → a.ty ≡ b.ty → a.ty ≡ (if first then a else b).ty
arm_type true a b e = refl
arm_type false a b e = e

meant_arm : (first : Bool) (x y : CodeValued) → meant_valued (if first then x else y) ≡ (if first then meant_valued x else meant_valued y)
meant_arm true x y = refl
meant_arm false x y = refl

pub told_same : (p : Place) (first : Bool) (x y z : CodeValued) → is_same (meant_type x.ty) (meant_type y.ty) ≡ true → z ≡ (if first then x else y)
    → Gives (choice_faults p (meant_valued x) (meant_valued y)) (arm_value first (meant_valued x) (meant_valued y)) (chosen (meant_type x.ty) (meant_type y.ty)) (Ok z)
told_same p first x y z same is =
    let e = same_is (meant_type x.ty) (meant_type y.ty) same in
    let m = ap meant_valued is ∙ meant_arm first x y in
    let c : chosen (meant_type x.ty) (meant_type y.ty) ≡ Some (meant_type x.ty) = ap (λ (s : Bool). if s then Some (meant_type x.ty) else joined (meant_type x.ty) (meant_type y.ty)) same in (
      ap (λ (t : Option CmType). unless (is_some t) cause.TypeMismatch p) c,
      (
        chosen_same first (meant_valued x) (meant_valued y) e ∙ ap (λ (v : Valued). Some v) (sym m),
        c ∙ ap (λ (t : CmType). Some t) (arm_type first (meant_valued x) (meant_valued y) e ∙ ap (λ (v : Valued). v.ty) (sym m)),
      ),
    )

-- ---- arms of two number types

pub equal : (a b : ℤ) → is_equal a b ≡ true → a ≡ b
equal a b h = grind (arith, ints)

-- the conversion to a kind leaves a number of the kind as it is
pub kept : (k : Scalar) (v : Value) (z : ℤ) → is_of (Single k) v ≡ true → number_of v ≡ Some z → scalar_value k z ≡ v
unfolding is_of to_bool
kept kind.Int32 (Number y) z is e = ap (λ (n : ℤ). scalar_value kind.Int32 n) (sym (some_is y z e)) ∙ ap Number (equal _ _ is)
kept kind.Int64 (Number y) z is e = ap (λ (n : ℤ). scalar_value kind.Int64 n) (sym (some_is y z e)) ∙ ap Number (equal _ _ is)
kept (kind.Wrap m) (Number y) z is e = ap (λ (n : ℤ). scalar_value (kind.Wrap m) n) (sym (some_is y z e)) ∙ ap Number (equal _ _ is)
kept (kind.Clamp m) (Number y) z is e = ap (λ (n : ℤ). scalar_value (kind.Clamp m) n) (sym (some_is y z e)) ∙ ap Number (equal _ _ is)
kept kind.Bool (Truth true) z is e = ap (λ (n : ℤ). scalar_value kind.Bool n) (sym (some_is _ z e))
kept kind.Bool (Truth false) z is e = ap (λ (n : ℤ). scalar_value kind.Bool n) (sym (some_is _ z e))
kept kind.Bool (Number y) z is e = no is
kept kind.Int32 (Truth b) z is e = no is
kept kind.Int64 (Truth b) z is e = no is
kept (kind.Wrap m) (Truth b) z is e = no is
kept (kind.Clamp m) (Truth b) z is e = no is
kept k (Many all) z is e = absurd (none_some z e)

abbrev joint : Bool → Scalar
joint c = if c then kind.Int64 else kind.Int32

abbrev typed_value : CmType → Value → Valued
typed_value t v = record { ty = t; value = v }

fitted_by : (t : CmType) (v : Value) (c : Bool) (z : ℤ) → is_number t ≡ true → (is_int64 t ≡ true → c ≡ true) → is_of t v ≡ true → number_of v ≡ Some z
    → fitted (Single (joint c)) (typed_value t v) ≡ Some (scalar_value (joint c) z)
unfolding is_same
fitted_by (Single kind.Int32) v true z is wide of e = ap (option_map (scalar_value kind.Int64)) e
fitted_by (Single kind.Int32) v false z is wide of e = ap (λ (v : Value). Some v) (sym (kept kind.Int32 v z of e))
fitted_by (Single kind.Int64) v true z is wide of e = ap (λ (v : Value). Some v) (sym (kept kind.Int64 v z of e))
fitted_by (Single kind.Int64) v false z is wide of e = no (wide refl)
fitted_by (Single kind.Bool) v c z is wide of e = no is
fitted_by (Single (kind.Wrap n)) v true z is wide of e = ap (option_map (scalar_value kind.Int64)) e
fitted_by (Single (kind.Wrap n)) v false z is wide of e = ap (option_map (scalar_value kind.Int32)) e
fitted_by (Single (kind.Clamp n)) v true z is wide of e = ap (option_map (scalar_value kind.Int64)) e
fitted_by (Single (kind.Clamp n)) v false z is wide of e = ap (option_map (scalar_value kind.Int32)) e
fitted_by (Array n t) v c z is wide of e = no is
fitted_by (Record p fs) v c z is wide of e = no is

or_left : (p q : Bool) → p ≡ true → (p || q) ≡ true
or_left true q e = refl
or_left false q e = no e

or_right : (p q : Bool) → q ≡ true → (p || q) ≡ true
or_right true q e = refl
or_right false q e = e

abbrev Joins : CmType → CmType → Scalar → Type 0
Joins s t k = (is_number s ≡ true) × ((is_number t ≡ true) × (k ≡ joint (is_int64 s || is_int64 t)))

single_is : (j k : Scalar) → Single j ≡ Single k → j ≡ k
single_is j k e = cc

joined_by : (p q c : Bool) (k : Scalar) → Some (Single k) ≡ (if p && q then Some (if c then int64 else int32) else None) → (p ≡ true) × ((q ≡ true) × (k ≡ joint c))
joined_by true true true k e = (refl, (refl, single_is k kind.Int64 (some_is _ _ e)))
joined_by true true false k e = (refl, (refl, single_is k kind.Int32 (some_is _ _ e)))
joined_by true false c k e = absurd (none_some _ (sym e))
joined_by false q c k e = absurd (none_some _ (sym e))

joins : (s t : CmType) (k : Scalar) → Some (Single k) ≡ joined s t → Joins s t k
joins s t k e = joined_by (is_number s) (is_number t) (is_int64 s || is_int64 t) k e

arm_fitted : (first : Bool) (a b : Valued) (k : Scalar) (z : ℤ) → Joins a.ty b.ty k → IsSound a → IsSound b → number_of (if first then a else b).value ≡ Some z
    → fitted (Single k) (if first then a else b) ≡ Some (scalar_value k z)
arm_fitted true a b k z j sound also e =
    subst (λ (k : Scalar). fitted (Single k) a ≡ Some (scalar_value k z)) (sym j.1.1)
    (fitted_by a.ty a.value (is_int64 a.ty || is_int64 b.ty) z j.0 (or_left (is_int64 a.ty) (is_int64 b.ty)) sound.fits e)
arm_fitted false a b k z j sound also e =
    subst (λ (k : Scalar). fitted (Single k) b ≡ Some (scalar_value k z)) (sym j.1.1)
    (fitted_by b.ty b.value (is_int64 a.ty || is_int64 b.ty) z j.1.0 (or_right (is_int64 a.ty) (is_int64 b.ty)) also.fits e)

number_of_arm : (first : Bool) (x y w : CodeValued) (z : ℤ) → w ≡ (if first then x else y) → Some z ≡ number_of (meant_value w.value)
    → number_of (if first then meant_valued x else meant_valued y).value ≡ Some z
number_of_arm first x y w z is e = ap (λ (v : Valued). number_of v.value) (sym (ap meant_valued is ∙ meant_arm first x y)) ∙ sym e

chosen_joined : (s t : CmType) (k : Scalar) → is_same s t ≡ false → Some (Single k) ≡ joined s t → chosen s t ≡ Some (Single k)
chosen_joined s t k differ e = ap (λ (same : Bool). if same then Some s else joined s t) differ ∙ sym e

pub told_joined : (p : Place) (first : Bool) (x y w z : CodeValued) (k : Scalar) (n : ℤ) → is_same (meant_type x.ty) (meant_type y.ty) ≡ false
    → Some (Single k) ≡ joined (meant_type x.ty) (meant_type y.ty) → IsSound (meant_valued x) → IsSound (meant_valued y)
    → w ≡ (if first then x else y) → Some n ≡ number_of (meant_value w.value) → meant_type z.ty ≡ Single k → meant_value z.value ≡ scalar_value k n
    → Gives (choice_faults p (meant_valued x) (meant_valued y)) (arm_value first (meant_valued x) (meant_valued y)) (chosen (meant_type x.ty) (meant_type y.ty)) (Ok z)
told_joined p first x y w z k n differ e sound also is number ty value =
    let c = chosen_joined (meant_type x.ty) (meant_type y.ty) k differ e in
    let f = arm_fitted first (meant_valued x) (meant_valued y) k n (joins (meant_type x.ty) (meant_type y.ty) k e) sound also (number_of_arm first x y w n is number) in (
      ap (λ (t : Option CmType). unless (is_some t) cause.TypeMismatch p) c,
      (
        ap (option_and_then (λ (t : CmType). with_type t (fitted t (if first then meant_valued x else meant_valued y)))) c ∙ ap (with_type (Single k)) f
            ∙ ap (λ (v : Value). Some (typed_value (Single k) v)) (sym value) ∙ ap (λ (t : CmType). Some (typed_value t (meant_value z.value))) (sym ty),
        c ∙ ap (λ (t : CmType). Some t) (sym ty),
      ),
    )

pub told_unchosen : (p : Place) (a b : Valued) (x : Fail) → x ≡ fail.Refused (record { cause = cause.TypeMismatch; place = p; cycle = [] })
    → is_same a.ty b.ty ≡ false → None ≡ joined a.ty b.ty → Refuses (choice_faults p a b) x
told_unchosen p a b x e differ none =
    refuses (choice_faults p a b) x cause.TypeMismatch p e
    (subst (In (fault cause.TypeMismatch p)) (sym (ap (λ (same : Bool). unless (is_some (if same then Some a.ty else joined a.ty b.ty)) cause.TypeMismatch p) differ
    ∙ ap (λ (t : Option CmType). unless (is_some t) cause.TypeMismatch p) (sym none))) (inl refl))

arm_number : (first : Bool) (a b : Valued) (k : Scalar) → Joins a.ty b.ty k → IsSound a → IsSound b → (z : ℤ) × (number_of (if first then a else b).value ≡ Some z)
arm_number true a b k j sound also = sound_number a sound (rw (j.0) refl)
arm_number false a b k j sound also = sound_number b also (rw (j.1.0) refl)

pub told_no_number : (p : Place) (first : Bool) (x y w : CodeValued) (k : Scalar) (f : List Fault) (e : Fail)
    → Some (Single k) ≡ joined (meant_type x.ty) (meant_type y.ty) → IsSound (meant_valued x) → IsSound (meant_valued y)
    → w ≡ (if first then x else y) → None ≡ number_of (meant_value w.value) → Refuses f e
told_no_number p first x y w k f e j sound also is none =
    let m = arm_number first (meant_valued x) (meant_valued y) k (joins (meant_type x.ty) (meant_type y.ty) k j) sound also in
    absurd (none_some m.0 (none ∙ ap (λ (v : Valued). number_of v.value) (ap meant_valued is ∙ meant_arm first x y) ∙ m.1))

pub sound_arm : (first : Bool) (x y z : CodeValued) → IsSound (meant_valued x) → IsSound (meant_valued y) → z ≡ (if first then x else y) → IsSound (meant_valued z)
sound_arm true x y z sound also is = subst (λ (v : CodeValued). IsSound (meant_valued v)) (sym is) sound
sound_arm false x y z sound also is = subst (λ (v : CodeValued). IsSound (meant_valued v)) (sym is) also
