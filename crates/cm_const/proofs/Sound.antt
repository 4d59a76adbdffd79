-- Numbers of a type fit the width in which they are computed.
use Rattle.std.specs.Prelude.{◌≡◌, refl, ℕ, ◌<◌, ℤ, pos, Bool, true, false, ◌&&◌, ◌||◌, if◌then◌else◌, Option, Some, None, option_and_then, FitsSigned}
use Rattle.std.specs.Int.{Width, w32, w64}
use Rattle.std.proofs.Common.{sym, ap, ◌∙◌, subst, arith, to_z, of_z}
use Rattle.std.proofs.lemmas.Int.{ints, to_z-of_z}
use Rattle.cm_base.specs.declared.host.Scalar.{Scalar}
use Rattle.cm_base.specs.declared.host.Scalar.TheVariants as kind
use Rattle.cm_tree.specs.declared.operator.Binary.{Binary}
use Rattle.cm_tree.specs.declared.operator.Binary.TheVariants as o
use Rattle.cm_number.specs.Conversion.{to_wrap, to_clamp}
use Rattle.cm_number.proofs.Public.{to_signed-Fits, to_signed-to_signed, to_wrap_only, to_clamp_only}
use Rattle.cm_meaning.specs.Types.{CmType, Single, Array, Record, Value, Number, Truth, Many, is_of, holds, number_of, is_equal, int32, int64, scalar_value}
use Rattle.cm_meaning.specs.Conversions.{Valued, is_number, is_int64, width, joined, operated, shifted, arithmetic, number_as, computed, operate}
use Rattle.cm_types.specs.Lawful.{IsLawfulType, IsSound}
use Rattle.cm_const.specs.Operands.{Suits}

equal : (a b : ℤ) → is_equal a b ≡ true → a ≡ b
equal a b h = grind (arith, ints)

fits_kind : (k : Scalar) (z : ℤ) → IsLawfulType (Single k) → is_number (Single k) ≡ true → holds k z ≡ true → FitsSigned (width (Single k)) z
fits_kind kind.Int32 z l n h = subst (FitsSigned w32) (equal _ _ h) (to_signed-Fits w32 z)
fits_kind kind.Int64 z l n h = subst (FitsSigned w64) (equal _ _ h) (to_signed-Fits w64 z)
fits_kind kind.Bool z l n h = let e : false ≡ true = n in cc
fits_kind (kind.Wrap m) z l n h = let r = (to_wrap_only m z z (omega (arith, l))).0 (sym (equal _ _ h)) in omega (arith, ints, l, r.not_below, r.below)
fits_kind (kind.Clamp m) z l n h = let r = (to_clamp_only m z z).0 (sym (equal _ _ h)) in omega (arith, ints, l, r.above, r.below)

some : (a b : ℤ) → Some a ≡ Some b → a ≡ b
some a b e = cc

-- the number that a value of a number type is
pub fits : (t : CmType) (v : Value) (z : ℤ) → IsLawfulType t → is_number t ≡ true → is_of t v ≡ true → number_of v ≡ Some z → FitsSigned (width t) z
unfolding is_of
fits (Single kind.Int32) (Number y) z l n f e = subst (FitsSigned w32) (some y z e) (fits_kind kind.Int32 y l n f)
fits (Single kind.Int64) (Number y) z l n f e = subst (FitsSigned w64) (some y z e) (fits_kind kind.Int64 y l n f)
fits (Single (kind.Wrap m)) (Number y) z l n f e = subst (FitsSigned w32) (some y z e) (fits_kind (kind.Wrap m) y l n f)
fits (Single (kind.Clamp m)) (Number y) z l n f e = subst (FitsSigned w32) (some y z e) (fits_kind (kind.Clamp m) y l n f)
fits (Single kind.Bool) v z l n f e = let no : false ≡ true = n in cc
fits (Single kind.Int32) (Truth b) z l n f e = let no : false ≡ true = f in cc
fits (Single kind.Int64) (Truth b) z l n f e = let no : false ≡ true = f in cc
fits (Single (kind.Wrap m)) (Truth b) z l n f e = let no : false ≡ true = f in cc
fits (Single (kind.Clamp m)) (Truth b) z l n f e = let no : false ≡ true = f in cc
fits (Single kind.Int32) (Many all) z l n f e = let no : false ≡ true = f in cc
fits (Single kind.Int64) (Many all) z l n f e = let no : false ≡ true = f in cc
fits (Single (kind.Wrap m)) (Many all) z l n f e = let no : false ≡ true = f in cc
fits (Single (kind.Clamp m)) (Many all) z l n f e = let no : false ≡ true = f in cc
fits (Array m t) v z l n f e = let no : false ≡ true = n in cc
fits (Record p fs) v z l n f e = let no : false ≡ true = n in cc

wider : (z : ℤ) → FitsSigned w32 z → FitsSigned w64 z
wider z h = omega (arith, ints, h)

-- in the type of two numbers both fit
left_of : (p q : Bool) (x : ℤ) → FitsSigned (if p then w64 else w32) x → FitsSigned (width (if p || q then int64 else int32)) x
left_of true true x h = h
left_of true false x h = h
left_of false true x h = wider x h
left_of false false x h = h

right_of : (p q : Bool) (x : ℤ) → FitsSigned (if q then w64 else w32) x → FitsSigned (width (if p || q then int64 else int32)) x
right_of true true x h = h
right_of true false x h = wider x h
right_of false true x h = h
right_of false false x h = h

both_numbers : (p q : Bool) (t : Option CmType) (u : CmType) → (if p && q then t else None) ≡ Some u → (p ≡ true) × ((q ≡ true) × (t ≡ Some u))
both_numbers true true t u e = (refl, (refl, e))
both_numbers true false t u e = cc
both_numbers false q t u e = cc

one_type : (t u : CmType) → Some t ≡ Some u → t ≡ u
one_type t u e = cc

-- a shift is made in the width of its left side
shift_width : (t u : CmType) → arithmetic t ≡ Some u → width u ≡ width t
shift_width (Single kind.Int32) u e = ap width (sym (one_type int32 u e))
shift_width (Single kind.Int64) u e = ap width (sym (one_type int64 u e))
shift_width (Single kind.Bool) u e = cc
shift_width (Single (kind.Wrap m)) u e = ap width (sym (one_type int32 u e))
shift_width (Single (kind.Clamp m)) u e = ap width (sym (one_type int32 u e))
shift_width (Array m t) u e = cc
shift_width (Record p fs) u e = cc

-- a number as code reads it
abbrev read : ℤ → ℤ
read x = to_z w64 (of_z w64 x)

read_fits : (p : Bool) (x : ℤ) → FitsSigned (if p then w64 else w32) x → FitsSigned (if p then w64 else w32) (read x)
read_fits true x h = subst (FitsSigned w64) (sym (to_z-of_z w64 x h)) h
read_fits false x h = subst (FitsSigned w32) (sym (to_z-of_z w64 x (wider x h))) h

shifts : (a b : Valued) (u : CmType) (x : ℤ) → IsSound a → shifted a.ty b.ty ≡ Some u → number_of a.value ≡ Some x → FitsSigned (width u) (read x)
shifts a b u x sound e is =
    let j = both_numbers (is_number a.ty) (is_number b.ty) (arithmetic a.ty) u e in
    read_fits (is_int64 u) x (subst (λ (w : Width). FitsSigned w x) (sym (shift_width a.ty u j.1.1)) (fits a.ty a.value x sound.lawful j.0 sound.fits is))

divides : (a b : Valued) (u : CmType) (x y : ℤ) → IsSound a → IsSound b → joined a.ty b.ty ≡ Some u → number_of a.value ≡ Some x → number_of b.value ≡ Some y
    → FitsSigned (width u) (read x) × FitsSigned (width u) (read y)
divides a b u x y sound also e is with_y =
    let j = both_numbers (is_number a.ty) (is_number b.ty) (Some (if is_int64 a.ty || is_int64 b.ty then int64 else int32)) u e in
    let t = one_type (if is_int64 a.ty || is_int64 b.ty then int64 else int32) u j.1.1 in (
      read_fits (is_int64 u) x (subst (λ (v : CmType). FitsSigned (width v) x) t (left_of (is_int64 a.ty) (is_int64 b.ty) x (fits a.ty a.value x sound.lawful j.0 sound.fits is))),
      read_fits (is_int64 u) y (subst (λ (v : CmType). FitsSigned (width v) y) t (right_of (is_int64 a.ty) (is_int64 b.ty) y (fits b.ty b.value y also.lawful j.1.0 also.fits with_y))),
    )

-- the operands of an operation that takes them suit it, in the width of its type
pub suits : (op : Binary) (a b : Valued) (u : CmType) (x y : ℤ) → IsSound a → IsSound b → operated op a.ty b.ty ≡ Some u
    → number_of a.value ≡ Some x → number_of b.value ≡ Some y → Suits op (width u) (read x) (read y)
suits o.ShiftLeft a b u x y s r e f g = shifts a b u x s e f
suits o.ShiftRight a b u x y s r e f g = shifts a b u x s e f
suits o.ShiftRightZero a b u x y s r e f g = shifts a b u x s e f
suits o.Divide a b u x y s r e f g = divides a b u x y s r e f g
suits o.Remainder a b u x y s r e f g = divides a b u x y s r e f g
suits o.Or a b u x y s r e f g = tt
suits o.And a b u x y s r e f g = tt
suits o.BitOr a b u x y s r e f g = tt
suits o.BitXor a b u x y s r e f g = tt
suits o.BitAnd a b u x y s r e f g = tt
suits o.Equal a b u x y s r e f g = tt
suits o.NotEqual a b u x y s r e f g = tt
suits o.Less a b u x y s r e f g = tt
suits o.LessEqual a b u x y s r e f g = tt
suits o.Greater a b u x y s r e f g = tt
suits o.GreaterEqual a b u x y s r e f g = tt
suits o.Add a b u x y s r e f g = tt
suits o.Subtract a b u x y s r e f g = tt
suits o.Multiply a b u x y s r e f g = tt

pub suits_told : (op : Binary) (a b : Valued) (u : CmType) (x y : ℤ) → IsSound a → IsSound b → Some u ≡ operated op a.ty b.ty
    → Some x ≡ number_of a.value → Some y ≡ number_of b.value → Suits op (width u) (read x) (read y)
suits_told op a b u x y s r e f g = suits op a b u x y s r (sym e) (sym f) (sym g)

-- an operation that takes its operands, by their numbers
pub operate_is : (op : Binary) (a b : Valued) (u : CmType) (x y : ℤ) → Some u ≡ operated op a.ty b.ty → Some x ≡ number_of a.value → Some y ≡ number_of b.value
    → number_as u (computed op (width u) x y) ≡ operate op a b
operate_is op a b u x y e f g =
    ap (λ (t : Option CmType). option_and_then (λ (t : CmType). number_as t (option_and_then (λ (x : ℤ). option_and_then (λ (y : ℤ). computed op (width t) x y) (Some y)) (Some x))) t) e
    ∙ ap (λ (n : Option ℤ). option_and_then (λ (t : CmType). number_as t (option_and_then (λ (x : ℤ). option_and_then (λ (y : ℤ). computed op (width t) x y) (Some y)) n)) (operated op a.ty b.ty)) f
    ∙ ap (λ (n : Option ℤ). option_and_then (λ (t : CmType). number_as t (option_and_then (λ (x : ℤ). option_and_then (λ (y : ℤ). computed op (width t) x y) n) (number_of a.value))) (operated op a.ty b.ty)) g

-- its value in the kind that it has
pub in_kind_is : (op : Binary) (k : Scalar) (w : Width) (a b x : ℤ) (t : CmType) (v : Value) → w ≡ width (Single k) → Some x ≡ computed op w a b
    → t ≡ Single k → v ≡ scalar_value k x → Some (record { ty = t; value = v }) ≡ number_as (Single k) (computed op (width (Single k)) a b)
in_kind_is op k w a b x t v e f g h =
    ap (λ (t : CmType). Some (record { ty = t; value = v })) g ∙ ap (λ (v : Value). Some (record { ty = Single k; value = v })) h
    ∙ ap (number_as (Single k)) (f ∙ ap (λ (w : Width). computed op w a b) e)

-- a number that was converted to a kind is one of it
equal_back : (a b : ℤ) → a ≡ b → is_equal a b ≡ true
equal_back a b e = grind (arith, ints)

wraps_again : (m : ℕ) (z : ℤ) → 0 < m → to_wrap m (to_wrap m z) ≡ to_wrap m z
wraps_again m z some =
    let r = (to_wrap_only m z (to_wrap m z) some).0 refl in
    sym ((to_wrap_only m (to_wrap m z) (to_wrap m z) some).1 (record { not_below = r.not_below; below = r.below; same = record { multiple = pos 0; is = omega (arith, ints) } }))

clamps_again : (m : ℕ) (z : ℤ) → to_clamp m (to_clamp m z) ≡ to_clamp m z
clamps_again m z =
    let r = (to_clamp_only m z (to_clamp m z)).0 refl in
    sym ((to_clamp_only m (to_clamp m z) (to_clamp m z)).1 (record { above = r.above; below = r.below; closest = λ x _ _. omega (arith, ints) }))

pub is_of_kind : (k : Scalar) (z : ℤ) → IsLawfulType (Single k) → is_of (Single k) (scalar_value k z) ≡ true
unfolding is_of
is_of_kind kind.Int32 z l = equal_back _ _ (to_signed-to_signed w32 z)
is_of_kind kind.Int64 z l = equal_back _ _ (to_signed-to_signed w64 z)
is_of_kind kind.Bool z l = refl
is_of_kind (kind.Wrap m) z l = equal_back _ _ (wraps_again m z (omega (arith, l)))
is_of_kind (kind.Clamp m) z l = equal_back _ _ (clamps_again m z)

pub sound_kind : (k : Scalar) (z : ℤ) (t : CmType) (v : Value) → IsLawfulType (Single k) → t ≡ Single k → v ≡ scalar_value k z → IsSound (record { ty = t; value = v })
sound_kind k z t v l e f =
    record { lawful = subst IsLawfulType (sym e) l; fits = ap (λ (t : CmType). is_of t v) e ∙ ap (is_of (Single k)) f ∙ is_of_kind k z l }
