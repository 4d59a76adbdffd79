-- What the operators of instructions compute, on bits as whole numbers: Core Specification 1.0, 4.3,
-- "Numerics". A number of a type is below 2 ^ 32 or 2 ^ 64. None stands for a trap.
use Rattle.std.specs.Prelude.{ℕ, ◌+◌, ◌-◌, ◌*◌, ◌/◌, ◌%◌, ◌^◌, List, Bool, not, ◌&&◌, ◌==◌, nat_lt, nat_le, if◌then◌else◌, Option, Some, None, int_lt, int_le, int_div, int_rem, bit_and, bit_or, bit_xor, count_ones}
use Rattle.std.specs.Int.{Width, w8, w16, w32, w64, cast_signed, cast_unsigned, from_bool, int_shr, rotate_left, rotate_right, leading_zeros, trailing_zeros, to_le_bytes, from_le_bytes, byte_len}
use mir.Val.{bits, hbits}
use Rattle.wasm_tree.specs.declared.module.ValType.{ValType}
use Rattle.wasm_tree.specs.declared.module.ValType.TheVariants.{I32, I64}
use Rattle.wasm_tree.specs.declared.op.LoadOp.{LoadOp}
use Rattle.wasm_tree.specs.declared.op.LoadOp.TheVariants as load
use Rattle.wasm_tree.specs.declared.op.StoreOp.{StoreOp}
use Rattle.wasm_tree.specs.declared.op.StoreOp.TheVariants as store
use Rattle.wasm_tree.specs.declared.op.CompareOp.{CompareOp}
use Rattle.wasm_tree.specs.declared.op.CompareOp.TheVariants as compare
use Rattle.wasm_tree.specs.declared.op.UnaryOp.{UnaryOp}
use Rattle.wasm_tree.specs.declared.op.UnaryOp.TheVariants as unary
use Rattle.wasm_tree.specs.declared.op.BinaryOp.{BinaryOp}
use Rattle.wasm_tree.specs.declared.op.BinaryOp.TheVariants as binary
use Rattle.wasm_tree.specs.declared.op.ConvertOp.{ConvertOp}
use Rattle.wasm_tree.specs.declared.op.ConvertOp.TheVariants as convert

abbrev pub width : ValType → Width
width I32 = w32
width I64 = w64

-- 1 for 0, and else 0
abbrev pub test_of : ℕ → ℕ
test_of x = from_bool (x == 0)

abbrev pub compares : Width → CompareOp → ℕ → ℕ → Bool
compares w compare.Equal x y = x == y
compares w compare.NotEqual x y = not (x == y)
compares w compare.LessSigned x y = int_lt (cast_signed w x) (cast_signed w y)
compares w compare.LessUnsigned x y = nat_lt x y
compares w compare.GreaterSigned x y = int_lt (cast_signed w y) (cast_signed w x)
compares w compare.GreaterUnsigned x y = nat_lt y x
compares w compare.LessEqualSigned x y = int_le (cast_signed w x) (cast_signed w y)
compares w compare.LessEqualUnsigned x y = nat_le x y
compares w compare.GreaterEqualSigned x y = int_le (cast_signed w y) (cast_signed w x)
compares w compare.GreaterEqualUnsigned x y = nat_le y x

abbrev pub compare_of : Width → CompareOp → ℕ → ℕ → ℕ
compare_of w op x y = from_bool (compares w op x y)

abbrev pub unary_of : Width → UnaryOp → ℕ → ℕ
unary_of w unary.LeadingZeros x = leading_zeros w x
unary_of w unary.TrailingZeros x = trailing_zeros w x
unary_of w unary.PopulationCount x = count_ones x

-- nothing where the divisor is 0
abbrev pub unless_zero : ℕ → ℕ → Option ℕ
unless_zero y quotient = if y == 0 then None else Some quotient

-- the least number by -1, whose quotient is out of range
abbrev pub overflows : Width → ℕ → ℕ → Bool
overflows w x y = (x == 2 ^ hbits w) && (y == 2 ^ bits w - 1)

abbrev pub signed_quotient : Width → ℕ → ℕ → Option ℕ
signed_quotient w x y = if overflows w x y then None else unless_zero y (cast_unsigned w (int_div (cast_signed w x) (cast_signed w y)))

abbrev pub binary_of : Width → BinaryOp → ℕ → ℕ → Option ℕ
binary_of w binary.Add x y = Some ((x + y) % 2 ^ bits w)
binary_of w binary.Sub x y = Some ((x + (2 ^ bits w - y)) % 2 ^ bits w)
binary_of w binary.Mul x y = Some ((x * y) % 2 ^ bits w)
binary_of w binary.DivSigned x y = signed_quotient w x y
binary_of w binary.DivUnsigned x y = unless_zero y (x / y)
binary_of w binary.RemSigned x y = unless_zero y (cast_unsigned w (int_rem (cast_signed w x) (cast_signed w y)))
binary_of w binary.RemUnsigned x y = unless_zero y (x % y)
binary_of w binary.And x y = Some (bit_and x y)
binary_of w binary.Or x y = Some (bit_or x y)
binary_of w binary.Xor x y = Some (bit_xor x y)
binary_of w binary.ShiftLeft x y = Some ((x * 2 ^ (y % bits w)) % 2 ^ bits w)
binary_of w binary.ShiftRightSigned x y = Some (cast_unsigned w (int_shr (cast_signed w x) (y % bits w)))
binary_of w binary.ShiftRightUnsigned x y = Some (x / 2 ^ (y % bits w))
binary_of w binary.RotateLeft x y = Some (rotate_left w x y)
binary_of w binary.RotateRight x y = Some (rotate_right w x y)

abbrev pub convert_of : ConvertOp → ℕ → ℕ
convert_of convert.WrapI64 x = x % 2 ^ 32
convert_of convert.ExtendI32Signed x = cast_unsigned w64 (cast_signed w32 x)
convert_of convert.ExtendI32Unsigned x = x

-- the type of the value that is loaded, and how many bits are read
abbrev pub load_type : LoadOp → ValType
load_type load.I32 = I32
load_type load.I64 = I64
load_type load.I32Signed8 = I32
load_type load.I32Unsigned8 = I32
load_type load.I32Signed16 = I32
load_type load.I32Unsigned16 = I32
load_type load.I64Signed8 = I64
load_type load.I64Unsigned8 = I64
load_type load.I64Signed16 = I64
load_type load.I64Unsigned16 = I64
load_type load.I64Signed32 = I64
load_type load.I64Unsigned32 = I64

abbrev pub load_width : LoadOp → Width
load_width load.I32 = w32
load_width load.I64 = w64
load_width load.I32Signed8 = w8
load_width load.I32Unsigned8 = w8
load_width load.I32Signed16 = w16
load_width load.I32Unsigned16 = w16
load_width load.I64Signed8 = w8
load_width load.I64Unsigned8 = w8
load_width load.I64Signed16 = w16
load_width load.I64Unsigned16 = w16
load_width load.I64Signed32 = w32
load_width load.I64Unsigned32 = w32

-- the bits of a narrow signed number at the type of its load
abbrev pub extended : LoadOp → ℕ → ℕ
extended load.I32 x = x
extended load.I64 x = x
extended load.I32Signed8 x = cast_unsigned w32 (cast_signed w8 x)
extended load.I32Unsigned8 x = x
extended load.I32Signed16 x = cast_unsigned w32 (cast_signed w16 x)
extended load.I32Unsigned16 x = x
extended load.I64Signed8 x = cast_unsigned w64 (cast_signed w8 x)
extended load.I64Unsigned8 x = x
extended load.I64Signed16 x = cast_unsigned w64 (cast_signed w16 x)
extended load.I64Unsigned16 x = x
extended load.I64Signed32 x = cast_unsigned w64 (cast_signed w32 x)
extended load.I64Unsigned32 x = x

-- memory is little-endian
abbrev pub loaded : LoadOp → List ℕ → ℕ
loaded op bytes = extended op (from_le_bytes (load_width op) bytes)

abbrev pub load_size : LoadOp → ℕ
load_size op = byte_len (load_width op)

abbrev pub store_type : StoreOp → ValType
store_type store.I32 = I32
store_type store.I64 = I64
store_type store.I32Low8 = I32
store_type store.I32Low16 = I32
store_type store.I64Low8 = I64
store_type store.I64Low16 = I64
store_type store.I64Low32 = I64

abbrev pub store_width : StoreOp → Width
store_width store.I32 = w32
store_width store.I64 = w64
store_width store.I32Low8 = w8
store_width store.I32Low16 = w16
store_width store.I64Low8 = w8
store_width store.I64Low16 = w16
store_width store.I64Low32 = w32

-- the low bits, low byte first
abbrev pub stored : StoreOp → ℕ → List ℕ
stored op x = to_le_bytes (store_width op) (x % 2 ^ bits (store_width op))

abbrev pub store_size : StoreOp → ℕ
store_size op = byte_len (store_width op)
