-- What the operators give: docs/LANGUAGE.md, "Operators". A truth value is 0 or 1.
use Rattle.std.specs.Prelude.{Bool, true, false, not, ◌&&◌, ℤ, pos, ◌+ℤ◌, ◌-ℤ◌, ◌*ℤ◌, neg_ℤ, int_lt}
use Rattle.std.specs.Int.{Width, w32, w64}
use Rattle.cm_base.specs.declared.host.Scalar.{Scalar}
use Rattle.cm_base.specs.declared.host.Scalar.TheVariants as kinds
use Rattle.cm_number.specs.Conversion.{to_bool}
use Rattle.cm_number.specs.Division.{quotient, remainder}
use Rattle.cm_number.specs.Shift.{left_shift, right_shift, zero_filled_shift}
use Rattle.cm_number.specs.Bitwise.{bitwise_and, bitwise_or, bitwise_xor, bitwise_not}
use Rattle.cm_scalar.specs.Scalars.{converted}
use Rattle.cm_core.specs.declared.operator.UnaryOp.{UnaryOp}
use Rattle.cm_core.specs.declared.operator.UnaryOp.TheVariants.{Negate, Not, Invert}
use Rattle.cm_core.specs.declared.operator.BinaryOp.{BinaryOp}
use Rattle.cm_core.specs.declared.operator.BinaryOp.TheVariants.{Add, Subtract, Multiply, Divide, Remainder, BitAnd, BitOr, BitXor, ShiftLeft, ShiftRight, ShiftRightZero, Equal, NotEqual, Less, LessOrEqual, Greater, GreaterOrEqual}
use Rattle.cm_core.specs.declared.operator.LogicOp.{LogicOp}
use Rattle.cm_core.specs.declared.operator.LogicOp.TheVariants.{And, Or}
use Rattle.cm_core.specs.declared.operator.CountOp.{CountOp}
use Rattle.cm_core.specs.declared.operator.CountOp.TheVariants.{Up, Down}

-- the type that arithmetic has where one side is of the kind and the other no `int64`
abbrev pub arithmetic : Scalar → Scalar
arithmetic kinds.Int32 = kinds.Int32
arithmetic kinds.Int64 = kinds.Int64
arithmetic kinds.Bool = kinds.Int32
arithmetic (kinds.Wrap n) = kinds.Int32
arithmetic (kinds.Clamp n) = kinds.Int32

abbrev pub width_of : Scalar → Width
width_of kinds.Int32 = w32
width_of kinds.Int64 = w64
width_of kinds.Bool = w32
width_of (kinds.Wrap n) = w32
width_of (kinds.Clamp n) = w32

abbrev pub truth : Bool → ℤ
truth true = pos 1
truth false = pos 0

abbrev pub is_equal : ℤ → ℤ → Bool
is_equal x y = not (int_lt x y) && not (int_lt y x)

-- an operator with one operand, which computes in the kind
abbrev pub unary : UnaryOp → Scalar → ℤ → ℤ
unary Negate kind x = converted kind (neg_ℤ x)
unary Not kind x = truth (not (to_bool x))
unary Invert kind x = bitwise_not x

-- an operator with two operands, which computes in the kind; sums, differences and products wrap
abbrev pub binary : BinaryOp → Scalar → ℤ → ℤ → ℤ
binary Add kind x y = converted kind (x +ℤ y)
binary Subtract kind x y = converted kind (x -ℤ y)
binary Multiply kind x y = converted kind (x *ℤ y)
binary Divide kind x y = quotient (width_of kind) x y
binary Remainder kind x y = remainder x y
binary BitAnd kind x y = bitwise_and (width_of kind) x y
binary BitOr kind x y = bitwise_or (width_of kind) x y
binary BitXor kind x y = bitwise_xor (width_of kind) x y
binary ShiftLeft kind x y = left_shift (width_of kind) x y
binary ShiftRight kind x y = right_shift (width_of kind) x y
binary ShiftRightZero kind x y = zero_filled_shift (width_of kind) x y
binary Equal kind x y = truth (is_equal x y)
binary NotEqual kind x y = truth (not (is_equal x y))
binary Less kind x y = truth (int_lt x y)
binary LessOrEqual kind x y = truth (not (int_lt y x))
binary Greater kind x y = truth (int_lt y x)
binary GreaterOrEqual kind x y = truth (not (int_lt x y))

-- whether the right side is needed, where the left one is so
abbrev pub needs_right : LogicOp → Bool → Bool
needs_right And left = left
needs_right Or left = not left

-- `++` adds 1 and `--` subtracts it
abbrev pub count_op : CountOp → BinaryOp
count_op Up = Add
count_op Down = Subtract
