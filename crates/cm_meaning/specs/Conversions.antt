-- Which types convert to which, and what the operators take and give: docs/LANGUAGE.md, "Conversions" and "Operators".
use Rattle.std.specs.Prelude.{Bool, true, false, ◌&&◌, ◌||◌, not, if◌then◌else◌, ℤ, ◌+ℤ◌, ◌-ℤ◌, ◌*ℤ◌, neg_ℤ, int_lt, int_le, Option, Some, None, option_map, option_and_then}
use Rattle.std.specs.Int.{Width, w32, w64}
use Rattle.cm_base.specs.declared.host.Scalar.TheVariants as kind
use Rattle.cm_tree.specs.declared.operator.Unary.{Unary}
use Rattle.cm_tree.specs.declared.operator.Unary.TheVariants as u
use Rattle.cm_tree.specs.declared.operator.Binary.{Binary}
use Rattle.cm_tree.specs.declared.operator.Binary.TheVariants as o
use Rattle.cm_number.specs.Conversion.{to_signed, to_bool}
use Rattle.cm_number.specs.Bitwise.{bitwise_and, bitwise_or, bitwise_xor, bitwise_not}
use Rattle.cm_number.specs.Division.{quotient, remainder}
use Rattle.cm_number.specs.Shift.{left_shift, right_shift, zero_filled_shift}
use Rattle.cm_meaning.specs.Types.{CmType, Single, Number, int32, int64, bool, is_same, Value, scalar_value, truth_number, number_of, is_equal, holds}

-- ---- kinds of types

abbrev pub is_number : CmType → Bool
is_number (Single kind.Bool) = false
is_number (Single k) = true
is_number _ = false

abbrev pub is_bool : CmType → Bool
is_bool (Single kind.Bool) = true
is_bool _ = false

-- in arithmetic `wrap` and `clamp` become `int32`
abbrev pub arithmetic : CmType → Option CmType
arithmetic (Single kind.Bool) = None
arithmetic (Single kind.Int64) = Some int64
arithmetic (Single k) = Some int32
arithmetic _ = None

abbrev pub is_int64 : CmType → Bool
is_int64 (Single kind.Int64) = true
is_int64 _ = false

-- the arithmetic type of two numbers: if one side is `int64`, both are
abbrev pub joined : CmType → CmType → Option CmType
joined a b = if is_number a && is_number b then Some (if is_int64 a || is_int64 b then int64 else int32) else None

-- ---- implicit conversions

-- `int32` to `int64`, and `wrap` and `clamp` to both
abbrev pub widens : CmType → CmType → Bool
widens (Single kind.Int32) (Single kind.Int64) = true
widens (Single (kind.Wrap n)) (Single kind.Int32) = true
widens (Single (kind.Wrap n)) (Single kind.Int64) = true
widens (Single (kind.Clamp n)) (Single kind.Int32) = true
widens (Single (kind.Clamp n)) (Single kind.Int64) = true
widens _ _ = false

-- the number of a constant, where there is one, is held by the type
abbrev pub holds_known : CmType → Option ℤ → Bool
holds_known (Single k) (Some z) = holds k z
holds_known _ _ = false

-- equal types; a wider type; any number to `bool`; a constant number to any number type that holds its value
abbrev pub converts : CmType → CmType → Option ℤ → Bool
converts from to known = is_same from to || (widens from to || (is_number from && (is_bool to || (is_number to && holds_known to known))))

-- what a condition, `&&`, `||` and `!` take: a number or a truth value
abbrev pub is_condition : CmType → Bool
is_condition t = is_number t || is_bool t

-- ---- the types of operations

abbrev pub if_both : (CmType → Bool) → CmType → CmType → Option CmType → Option CmType
if_both takes a b result = if takes a && takes b then result else None

-- what a shift gives: the arithmetic type of its left side
abbrev pub shifted : CmType → CmType → Option CmType
shifted a b = if_both is_number a b (arithmetic a)

-- `& | ^` also take two `bool`
abbrev pub bitwise : CmType → CmType → Option CmType
bitwise a b = if is_bool a && is_bool b then Some bool else joined a b

-- `== !=` take two numbers or two `bool`
abbrev pub equated : CmType → CmType → Option CmType
equated a b = if is_bool a && is_bool b then Some bool else if_both is_number a b (Some bool)

-- the type of an operation, where it takes its operands
abbrev pub operated : Binary → CmType → CmType → Option CmType
operated o.Or a b = if_both is_condition a b (Some bool)
operated o.And a b = if_both is_condition a b (Some bool)
operated o.BitOr a b = bitwise a b
operated o.BitXor a b = bitwise a b
operated o.BitAnd a b = bitwise a b
operated o.Equal a b = equated a b
operated o.NotEqual a b = equated a b
operated o.Less a b = if_both is_number a b (Some bool)
operated o.LessEqual a b = if_both is_number a b (Some bool)
operated o.Greater a b = if_both is_number a b (Some bool)
operated o.GreaterEqual a b = if_both is_number a b (Some bool)
operated o.ShiftLeft a b = shifted a b
operated o.ShiftRight a b = shifted a b
operated o.ShiftRightZero a b = shifted a b
operated o.Add a b = joined a b
operated o.Subtract a b = joined a b
operated o.Multiply a b = joined a b
operated o.Divide a b = joined a b
operated o.Remainder a b = joined a b

abbrev pub operated_alone : Unary → CmType → Option CmType
operated_alone u.Minus a = arithmetic a
operated_alone u.Complement a = arithmetic a
operated_alone u.Not a = if is_condition a then Some bool else None

-- `?:` takes two equal types, or two numbers with the arithmetic type
abbrev pub chosen : CmType → CmType → Option CmType
chosen a b = if is_same a b then Some a else joined a b

-- ---- the values of operations

abbrev pub width : CmType → Width
width t = if is_int64 t then w64 else w32

abbrev pub told : Bool → Option ℤ
told b = Some (truth_number b)

-- a division by 0 has no value
abbrev pub divided : (ℤ → ℤ → ℤ) → ℤ → ℤ → Option ℤ
divided by a b = if to_bool b then Some (by a b) else None

-- at a width, of numbers, or of truth values as 0 and 1
abbrev pub computed : Binary → Width → ℤ → ℤ → Option ℤ
computed o.Or w a b = told (to_bool a || to_bool b)
computed o.And w a b = told (to_bool a && to_bool b)
computed o.BitOr w a b = Some (bitwise_or w a b)
computed o.BitXor w a b = Some (bitwise_xor w a b)
computed o.BitAnd w a b = Some (bitwise_and w a b)
computed o.Equal w a b = told (is_equal a b)
computed o.NotEqual w a b = told (not (is_equal a b))
computed o.Less w a b = told (int_lt a b)
computed o.LessEqual w a b = told (int_le a b)
computed o.Greater w a b = told (int_lt b a)
computed o.GreaterEqual w a b = told (int_le b a)
computed o.ShiftLeft w a b = Some (left_shift w a b)
computed o.ShiftRight w a b = Some (right_shift w a b)
computed o.ShiftRightZero w a b = Some (zero_filled_shift w a b)
computed o.Add w a b = Some (to_signed w (a +ℤ b))
computed o.Subtract w a b = Some (to_signed w (a -ℤ b))
computed o.Multiply w a b = Some (to_signed w (a *ℤ b))
computed o.Divide w a b = divided (quotient w) a b
computed o.Remainder w a b = divided remainder a b

abbrev pub computed_alone : Unary → Width → ℤ → ℤ
computed_alone u.Minus w a = to_signed w (neg_ℤ a)
computed_alone u.Complement w a = bitwise_not a
computed_alone u.Not w a = truth_number (not (to_bool a))

-- ---- values with their types

pub record Valued : Type 0 where
  pub ty : CmType
  pub value : Value

-- a number or a truth value as one of another such type
abbrev pub cast : CmType → Value → Option Value
cast (Single k) v = option_map (scalar_value k) (number_of v)
cast _ v = None

-- the number of a constant, where it is one
abbrev pub known : Valued → Option ℤ
known v = if is_number v.ty then number_of v.value else None

-- a constant where a value of this type is needed
abbrev pub fitted : CmType → Valued → Option Value
fitted t v = if is_same v.ty t then Some v.value else if converts v.ty t (known v) then cast t v.value else None

abbrev pub with_type : CmType → Option Value → Option Valued
with_type t value = option_map (λ (v : Value). record { ty = t; value = v }) value

abbrev pub both_numbers : (ℤ → ℤ → Option ℤ) → Value → Value → Option ℤ
both_numbers f a b = option_and_then (λ (x : ℤ). option_and_then (λ (y : ℤ). f x y) (number_of b)) (number_of a)

abbrev pub number_as : CmType → Option ℤ → Option Valued
number_as t z = with_type t (option_and_then (λ (x : ℤ). cast t (Number x)) z)

-- the value of an operation on constants, in its type
abbrev pub operate : Binary → Valued → Valued → Option Valued
operate op a b = option_and_then (λ (t : CmType). number_as t (both_numbers (computed op (width t)) a.value b.value)) (operated op a.ty b.ty)

abbrev pub operate_alone : Unary → Valued → Option Valued
operate_alone op a = option_and_then (λ (t : CmType). number_as t (option_map (computed_alone op (width t)) (number_of a.value))) (operated_alone op a.ty)

-- the value of the arm that is chosen, in the type of both
abbrev pub choose : Valued → Valued → Valued → Option Valued
choose c a b =
    if is_condition c.ty
    then option_and_then (λ (t : CmType). option_and_then (λ (z : ℤ). with_type t (fitted t (if to_bool z then a else b))) (number_of c.value)) (chosen a.ty b.ty)
    else None
