-- An operator that takes sound constants gives a value, but for a division by 0.
use Rattle.std.specs.Prelude.{◌≡◌, refl, suc, zero, ℤ, pos, negsuc, ◌==◌, Bool, true, false, not, ◌&&◌, if◌then◌else◌, List, [], ◌++◌, Option, Some, None, is_some, option_map, option_and_then, Ok}
use Rattle.std.specs.Int.{Width}
use Rattle.std.proofs.Common.{ap, sym, ◌∙◌, subst, inl, arith}
use Rattle.cm_base.specs.declared.cause.Cause.{Cause}
use Rattle.cm_base.specs.declared.cause.Cause.TheVariants as cause
use Rattle.cm_base.specs.declared.place.Place.{Place}
use Rattle.cm_base.specs.declared.host.Scalar.{Scalar}
use Rattle.cm_base.specs.declared.host.Scalar.TheVariants as kind
use Rattle.cm_base.specs.declared.failure.Fail.{Fail}
use Rattle.cm_base.specs.declared.failure.Fail.TheVariants as fail
use Rattle.cm_number.specs.Conversion.{to_bool}
use Rattle.cm_tree.specs.declared.operator.Unary.{Unary}
use Rattle.cm_tree.specs.declared.operator.Unary.TheVariants as u
use Rattle.cm_tree.specs.declared.operator.Binary.{Binary}
use Rattle.cm_tree.specs.declared.operator.Binary.TheVariants as o
use Rattle.cm_const.proofs.Sound.{operate_is}
use Rattle.cm_types.specs.declared.valued.Valued.{Valued as CodeValued}
use Rattle.cm_types.specs.Lawful.{IsSound}
use Rattle.cm_types.specs.Meant.{meant_valued}
use Rattle.cm_meaning.specs.Faults.{Fault, fault, unless}
use Rattle.cm_meaning.specs.Types.{CmType, Single, Array, Record, Value, Number, Truth, Many, is_of, number_of, truth_number}
use Rattle.cm_meaning.specs.Conversions.{Valued, is_number, is_bool, is_condition, arithmetic, operated, operated_alone, computed, computed_alone, width, operate, operate_alone, number_as, cast, with_type}
use Rattle.cm_meaning.specs.TypeRows.{operand_rows, is_division, is_zero, zero_rows}
use Rattle.cm_meaning.specs.Exact.{In, in_right}
use Rattle.const_values.specs.Answers.{Refuses, Gives}
use Rattle.const_values.specs.Operations.{divisor, operation_faults, alone_faults}

apart : false ≡ true → ⊥
apart h = cc

pub no : {A : Type 0} → false ≡ true → A
no h = absurd (apart h)

none_some : {A : Type 0} (x : A) → None ≡ Some x → ⊥
none_some x h = cc

-- ---- numbers of sound constants

-- the number that a constant of a number or truth type is
pub has_number : (t : CmType) (v : Value) → is_of t v ≡ true → is_condition t ≡ true → (z : ℤ) × (number_of v ≡ Some z)
unfolding is_of
has_number t (Number z) is takes = (z, refl)
has_number t (Truth b) is takes = (truth_number b, refl)
has_number (Single kind.Int32) (Many all) is takes = no is
has_number (Single kind.Int64) (Many all) is takes = no is
has_number (Single kind.Bool) (Many all) is takes = no is
has_number (Single (kind.Wrap n)) (Many all) is takes = no is
has_number (Single (kind.Clamp n)) (Many all) is takes = no is
has_number (Array n t) (Many all) is takes = no takes
has_number (Record p fs) (Many all) is takes = no takes

pub sound_number : (v : Valued) → IsSound v → is_condition v.ty ≡ true → (z : ℤ) × (number_of v.value ≡ Some z)
sound_number v sound takes = has_number v.ty v.value sound.fits takes

-- ---- what an operator takes

number_condition : (t : CmType) → is_number t ≡ true → is_condition t ≡ true
number_condition t is = rw is refl

bool_condition : (t : CmType) → is_bool t ≡ true → is_condition t ≡ true
bool_condition (Single kind.Bool) is = refl
bool_condition (Single kind.Int32) is = refl
bool_condition (Single kind.Int64) is = refl
bool_condition (Single (kind.Wrap n)) is = refl
bool_condition (Single (kind.Clamp n)) is = refl
bool_condition (Array n t) is = is
bool_condition (Record p fs) is = is

abbrev Taken : CmType → CmType → Type 0
Taken s t = (is_condition s ≡ true) × (is_condition t ≡ true)

if_both_takes : (p q : Bool) (v : Option CmType) (w : CmType) → (if p && q then v else None) ≡ Some w → (p ≡ true) × (q ≡ true)
if_both_takes true true v w e = (refl, refl)
if_both_takes true false v w e = absurd (none_some w e)
if_both_takes false q v w e = absurd (none_some w e)

takes_numbers : (s t : CmType) (v : Option CmType) (w : CmType) → (if is_number s && is_number t then v else None) ≡ Some w → Taken s t
takes_numbers s t v w e = let b = if_both_takes (is_number s) (is_number t) v w e in (number_condition s b.0, number_condition t b.1)

-- two truths, or what takes numbers
takes_either : (s t : CmType) (p q : Bool) (v v' : Option CmType) (w : CmType) → is_bool s ≡ p → is_bool t ≡ q
    → (if p && q then v else (if is_number s && is_number t then v' else None)) ≡ Some w → Taken s t
takes_either s t true true v v' w a b e = (bool_condition s a, bool_condition t b)
takes_either s t true false v v' w a b e = takes_numbers s t v' w e
takes_either s t false q v v' w a b e = takes_numbers s t v' w e

pub takes : (op : Binary) (s t w : CmType) → operated op s t ≡ Some w → Taken s t
takes o.Or s t w e = if_both_takes (is_condition s) (is_condition t) _ w e
takes o.And s t w e = if_both_takes (is_condition s) (is_condition t) _ w e
takes o.BitOr s t w e = takes_either s t (is_bool s) (is_bool t) _ _ w refl refl e
takes o.BitXor s t w e = takes_either s t (is_bool s) (is_bool t) _ _ w refl refl e
takes o.BitAnd s t w e = takes_either s t (is_bool s) (is_bool t) _ _ w refl refl e
takes o.Equal s t w e = takes_either s t (is_bool s) (is_bool t) _ _ w refl refl e
takes o.NotEqual s t w e = takes_either s t (is_bool s) (is_bool t) _ _ w refl refl e
takes o.Less s t w e = takes_numbers s t _ w e
takes o.LessEqual s t w e = takes_numbers s t _ w e
takes o.Greater s t w e = takes_numbers s t _ w e
takes o.GreaterEqual s t w e = takes_numbers s t _ w e
takes o.ShiftLeft s t w e = takes_numbers s t _ w e
takes o.ShiftRight s t w e = takes_numbers s t _ w e
takes o.ShiftRightZero s t w e = takes_numbers s t _ w e
takes o.Add s t w e = takes_numbers s t _ w e
takes o.Subtract s t w e = takes_numbers s t _ w e
takes o.Multiply s t w e = takes_numbers s t _ w e
takes o.Divide s t w e = takes_numbers s t _ w e
takes o.Remainder s t w e = takes_numbers s t _ w e

-- ---- divisions

zero_number : (z : ℤ) → to_bool z ≡ false → is_zero z ≡ true
unfolding to_bool
zero_number (pos zero) e = refl
zero_number (pos (suc n)) e = absurd (apart (sym e))
zero_number (negsuc n) e = absurd (apart (sym e))

other_number : (z : ℤ) → to_bool z ≡ true → is_zero z ≡ false
unfolding to_bool
other_number (pos zero) e = no e
other_number (pos (suc n)) e = let positive : (suc n == 0) ≡ false = grind arith in positive
other_number (negsuc n) e = refl

divided_zero : (b : Bool) (x : ℤ) → (if b then Some x else None) ≡ None → b ≡ false
divided_zero true x e = absurd (none_some x (sym e))
divided_zero false x e = refl

divided_other : (b : Bool) (x z : ℤ) → (if b then Some x else None) ≡ Some z → b ≡ true
divided_other true x z e = refl
divided_other false x z e = absurd (none_some z e)

-- where an operator gives nothing, it divides by 0
uncomputed : (op : Binary) (w : Width) (x y : ℤ) → computed op w x y ≡ None → (is_division op ≡ true) × (is_zero y ≡ true)
uncomputed o.Divide w x y e = (refl, zero_number y (divided_zero (to_bool y) _ e))
uncomputed o.Remainder w x y e = (refl, zero_number y (divided_zero (to_bool y) _ e))
uncomputed o.Or w x y e = absurd (none_some _ (sym e))
uncomputed o.And w x y e = absurd (none_some _ (sym e))
uncomputed o.BitOr w x y e = absurd (none_some _ (sym e))
uncomputed o.BitXor w x y e = absurd (none_some _ (sym e))
uncomputed o.BitAnd w x y e = absurd (none_some _ (sym e))
uncomputed o.Equal w x y e = absurd (none_some _ (sym e))
uncomputed o.NotEqual w x y e = absurd (none_some _ (sym e))
uncomputed o.Less w x y e = absurd (none_some _ (sym e))
uncomputed o.LessEqual w x y e = absurd (none_some _ (sym e))
uncomputed o.Greater w x y e = absurd (none_some _ (sym e))
uncomputed o.GreaterEqual w x y e = absurd (none_some _ (sym e))
uncomputed o.ShiftLeft w x y e = absurd (none_some _ (sym e))
uncomputed o.ShiftRight w x y e = absurd (none_some _ (sym e))
uncomputed o.ShiftRightZero w x y e = absurd (none_some _ (sym e))
uncomputed o.Add w x y e = absurd (none_some _ (sym e))
uncomputed o.Subtract w x y e = absurd (none_some _ (sym e))
uncomputed o.Multiply w x y e = absurd (none_some _ (sym e))

-- where it gives a number, its divisor is none of 0
computed_other : (op : Binary) (w : Width) (x y z : ℤ) → computed op w x y ≡ Some z → is_division op ≡ true → is_zero y ≡ false
computed_other o.Divide w x y z e d = other_number y (divided_other (to_bool y) _ z e)
computed_other o.Remainder w x y z e d = other_number y (divided_other (to_bool y) _ z e)
computed_other o.Or w x y z e d = no d
computed_other o.And w x y z e d = no d
computed_other o.BitOr w x y z e d = no d
computed_other o.BitXor w x y z e d = no d
computed_other o.BitAnd w x y z e d = no d
computed_other o.Equal w x y z e d = no d
computed_other o.NotEqual w x y z e d = no d
computed_other o.Less w x y z e d = no d
computed_other o.LessEqual w x y z e d = no d
computed_other o.Greater w x y z e d = no d
computed_other o.GreaterEqual w x y z e d = no d
computed_other o.ShiftLeft w x y z e d = no d
computed_other o.ShiftRight w x y z e d = no d
computed_other o.ShiftRightZero w x y z e d = no d
computed_other o.Add w x y z e d = no d
computed_other o.Subtract w x y z e d = no d
computed_other o.Multiply w x y z e d = no d

-- ---- the type in which an operator before a constant computes is one of a scalar

some_is : {A : Type 0} (x y : A) → Some x ≡ Some y → x ≡ y
some_is x y e = cc

one_single : (k : Scalar) (w : CmType) → Some (Single k) ≡ Some w → (j : Scalar) × (w ≡ Single j)
one_single k w e = (k, sym (some_is _ _ e))

bool_single : (b : Bool) (w : CmType) → (if b then Some (Single kind.Bool) else None) ≡ Some w → (j : Scalar) × (w ≡ Single j)
bool_single true w e = one_single kind.Bool w e
bool_single false w e = absurd (none_some w e)

arithmetic_single : (t w : CmType) → arithmetic t ≡ Some w → (j : Scalar) × (w ≡ Single j)
arithmetic_single (Single kind.Int32) w e = one_single kind.Int32 w e
arithmetic_single (Single kind.Int64) w e = one_single kind.Int64 w e
arithmetic_single (Single kind.Bool) w e = absurd (none_some w e)
arithmetic_single (Single (kind.Wrap n)) w e = one_single kind.Int32 w e
arithmetic_single (Single (kind.Clamp n)) w e = one_single kind.Int32 w e
arithmetic_single (Array n t) w e = absurd (none_some w e)
arithmetic_single (Record p fs) w e = absurd (none_some w e)

alone_single : (op : Unary) (t w : CmType) → operated_alone op t ≡ Some w → (j : Scalar) × (w ≡ Single j)
alone_single u.Minus t w e = arithmetic_single t w e
alone_single u.Complement t w e = arithmetic_single t w e
alone_single u.Not t w e = bool_single (is_condition t) w e

arithmetic_takes : (t w : CmType) → arithmetic t ≡ Some w → is_condition t ≡ true
arithmetic_takes (Single kind.Int32) w e = refl
arithmetic_takes (Single kind.Int64) w e = refl
arithmetic_takes (Single kind.Bool) w e = refl
arithmetic_takes (Single (kind.Wrap n)) w e = refl
arithmetic_takes (Single (kind.Clamp n)) w e = refl
arithmetic_takes (Array n t) w e = absurd (none_some w e)
arithmetic_takes (Record p fs) w e = absurd (none_some w e)

bool_takes : (b : Bool) (t w : CmType) → (if b then Some t else None) ≡ Some w → b ≡ true
bool_takes true t w e = refl
bool_takes false t w e = absurd (none_some w e)

alone_takes : (op : Unary) (t w : CmType) → operated_alone op t ≡ Some w → is_condition t ≡ true
alone_takes u.Minus t w e = arithmetic_takes t w e
alone_takes u.Complement t w e = arithmetic_takes t w e
alone_takes u.Not t w e = bool_takes (is_condition t) _ w e

-- ---- answers

pub refuses : (faults : List Fault) (x : Fail) (c : Cause) (p : Place) → x ≡ fail.Refused (record { cause = c; place = p; cycle = [] }) → In (fault c p) faults → Refuses faults x
refuses faults x c p e h = subst (Refuses faults) (sym e) h

divisor_none : (d : Bool) (b : Valued) (y : ℤ) (q : Place) → number_of b.value ≡ Some y → (d ≡ true → is_zero y ≡ false) → divisor d b q ≡ []
divisor_none false b y q e h = refl
divisor_none true b y q e h = ap (λ (n : Option ℤ). zero_rows n q) e ∙ ap (λ (z : Bool). unless (not z) cause.DivideByZero q) (h refl)

divisor_one : (d : Bool) (b : Valued) (y : ℤ) (q : Place) → number_of b.value ≡ Some y → d ≡ true → is_zero y ≡ true → In (fault cause.DivideByZero q) (divisor d b q)
divisor_one false b y q e f z = no f
divisor_one true b y q e f z =
    subst (In (fault cause.DivideByZero q)) (sym (ap (λ (n : Option ℤ). zero_rows n q) e ∙ ap (λ (z : Bool). unless (not z) cause.DivideByZero q) z)) (inl refl)

pub told_mismatch : (op : Binary) (p q : Place) (a b : Valued) (x : Fail)
    → x ≡ fail.Refused (record { cause = cause.TypeMismatch; place = p; cycle = [] }) → None ≡ operated op a.ty b.ty → Refuses (operation_faults op p q a b) x
told_mismatch op p q a b x e none =
    refuses (operation_faults op p q a b) x cause.TypeMismatch p e
    (subst (In (fault cause.TypeMismatch p)) (ap (λ (t : Option CmType). unless (is_some t) cause.TypeMismatch p ++ divisor (is_division op) b q) none) (inl refl))

module _ (op : Binary) (p q : Place) (a b : Valued) (k : Scalar) (x y : ℤ) (typed : Some (Single k) ≡ operated op a.ty b.ty) (left : number_of a.value ≡ Some x) (right : number_of b.value ≡ Some y) where
  result_is : number_as (Single k) (computed op (width (Single k)) x y) ≡ operate op a b
  result_is = operate_is op a b (Single k) x y typed (sym left) (sym right)

  zero_by : (c : Option ℤ) → computed op (width (Single k)) x y ≡ c → None ≡ number_as (Single k) c → In (fault cause.DivideByZero q) (operation_faults op p q a b)
  zero_by None e n =
      let z = uncomputed op (width (Single k)) x y e in
      in_right (fault cause.DivideByZero q) (operand_rows (operated op) (Some a.ty) (Some b.ty) p) (divisor (is_division op) b q) (divisor_one (is_division op) b y q right z.0 z.1)
  zero_by (Some z) e n = absurd (none_some _ n)

  none_by : (c : Option ℤ) (v : Valued) → computed op (width (Single k)) x y ≡ c → Some v ≡ number_as (Single k) c
      → (operation_faults op p q a b ≡ []) × (operated op a.ty b.ty ≡ Some v.ty)
  none_by None v e n = absurd (none_some v (sym n))
  none_by (Some z) v e n = (
    ap (λ (t : Option CmType). unless (is_some t) cause.TypeMismatch p ++ divisor (is_division op) b q) (sym typed)
        ∙ divisor_none (is_division op) b y q right (computed_other op (width (Single k)) x y z e),
    sym typed ∙ ap (λ (v : Valued). Some v.ty) (sym (some_is v _ n)),
  )

pub told_zero : (op : Binary) (p q : Place) (a b : Valued) (k : Scalar) (x : Fail)
    → x ≡ fail.Refused (record { cause = cause.DivideByZero; place = q; cycle = [] }) → IsSound a → IsSound b → Some (Single k) ≡ operated op a.ty b.ty → None ≡ operate op a b
    → Refuses (operation_faults op p q a b) x
told_zero op p q a b k x e sound also typed none =
    let c = takes op a.ty b.ty (Single k) (sym typed) in
    let m = sound_number a sound c.0 in
    let n = sound_number b also c.1 in
    refuses (operation_faults op p q a b) x cause.DivideByZero q e
    (zero_by op p q a b k m.0 n.0 typed m.1 n.1 (computed op (width (Single k)) m.0 n.0) refl (none ∙ sym (result_is op p q a b k m.0 n.0 typed m.1 n.1)))

pub told_operated : (op : Binary) (p q : Place) (a b : Valued) (k : Scalar) (v : CodeValued) → IsSound a → IsSound b → Some (Single k) ≡ operated op a.ty b.ty
    → Some (meant_valued v) ≡ operate op a b → Gives (operation_faults op p q a b) (operate op a b) (operated op a.ty b.ty) (Ok v)
told_operated op p q a b k v sound also typed is =
    let c = takes op a.ty b.ty (Single k) (sym typed) in
    let m = sound_number a sound c.0 in
    let n = sound_number b also c.1 in
    let r = none_by op p q a b k m.0 n.0 typed m.1 n.1 (computed op (width (Single k)) m.0 n.0) (meant_valued v) refl (is ∙ sym (result_is op p q a b k m.0 n.0 typed m.1 n.1)) in
    (r.0, (sym is, r.1))

-- ---- an operator before a constant

module _ (op : Unary) (p : Place) (a : Valued) where
  alone_faulty : (t : Option CmType) → operated_alone op a.ty ≡ t → IsSound a → None ≡ operate_alone op a → In (fault cause.TypeMismatch p) (alone_faults op p a)
  alone_faulty None e sound none = subst (λ (t : Option CmType). In (fault cause.TypeMismatch p) (unless (is_some t) cause.TypeMismatch p)) (sym e) (inl refl)
  alone_faulty (Some w) e sound none =
      let j = alone_single op a.ty w e in
      let m = sound_number a sound (alone_takes op a.ty w e) in
      absurd (none_some _ (none
      ∙ ap (λ (t : Option CmType). option_and_then (λ (t : CmType). number_as t (option_map (computed_alone op (width t)) (number_of a.value))) t) e
      ∙ ap (λ (t : CmType). number_as t (option_map (computed_alone op (width t)) (number_of a.value))) j.1
      ∙ ap (λ (n : Option ℤ). number_as (Single j.0) (option_map (computed_alone op (width (Single j.0))) n)) m.1))

  typed_as : (t : CmType) (z : Option ℤ) (v : Valued) → Some v ≡ number_as t z → t ≡ v.ty
  typed_as t z v e = by (option_and_then (λ (x : ℤ). cast t (Number x)) z) e where
    by : (w : Option Value) → Some v ≡ with_type t w → t ≡ v.ty
    by None e = absurd (none_some v (sym e))
    by (Some w) e = ap (λ (v : Valued). v.ty) (sym (some_is v _ e))

  alone_right : (t : Option CmType) (v : Valued) → operated_alone op a.ty ≡ t
      → Some v ≡ option_and_then (λ (t : CmType). number_as t (option_map (computed_alone op (width t)) (number_of a.value))) t
      → (alone_faults op p a ≡ []) × (operated_alone op a.ty ≡ Some v.ty)
  alone_right None v e is = absurd (none_some v (sym is))
  alone_right (Some w) v e is = (
    ap (λ (t : Option CmType). unless (is_some t) cause.TypeMismatch p) e,
    e ∙ ap (λ (t : CmType). Some t) (typed_as w (option_map (computed_alone op (width w)) (number_of a.value)) v is),
  )

pub told_alone_mismatch : (op : Unary) (p : Place) (a : Valued) (x : Fail)
    → x ≡ fail.Refused (record { cause = cause.TypeMismatch; place = p; cycle = [] }) → IsSound a → None ≡ operate_alone op a → Refuses (alone_faults op p a) x
told_alone_mismatch op p a x e sound none =
    refuses (alone_faults op p a) x cause.TypeMismatch p e (alone_faulty op p a (operated_alone op a.ty) refl sound none)

pub told_alone : (op : Unary) (p : Place) (a : Valued) (v : CodeValued) → Some (meant_valued v) ≡ operate_alone op a
    → Gives (alone_faults op p a) (operate_alone op a) (operated_alone op a.ty) (Ok v)
told_alone op p a v is =
    let r = alone_right op p a (operated_alone op a.ty) (meant_valued v) refl is in (r.0, (sym is, r.1))
