-- The code of conversions, behind that of what is converted.
use Rattle.std.specs.Prelude.{ℕ, ◌-◌, ◌^◌, ◌==◌, nat_le, Bool, false, if◌then◌else◌, List, [], ◌∷◌, ◌++◌, Option, Some, None, pos}
use Rattle.std.specs.Int.{w32, trailing_zeros}
use Rattle.cm_base.specs.declared.host.Scalar.{Scalar}
use Rattle.cm_base.specs.declared.host.Scalar.TheVariants as kinds
use Rattle.wasm_tree.specs.declared.module.ValType.{ValType}
use Rattle.wasm_tree.specs.declared.module.ValType.TheVariants.{I32, I64}
use Rattle.wasm_tree.specs.declared.op.BinaryOp.TheVariants as binary
use Rattle.wasm_tree.specs.declared.op.CompareOp.TheVariants as compare
use Rattle.wasm_tree.specs.declared.op.ConvertOp.TheVariants as convert
use Rattle.wasm_tree.specs.declared.instr.Instr.{Instr}
use Rattle.wasm_tree.specs.declared.instr.Instr.TheVariants as instr
use Rattle.operator_code.specs.declared.scratch.Scratch.{Scratch}
use Rattle.operator_code.specs.Operands.{type_of, number}

-- the local of the type
abbrev pub local_of : Scratch → ValType → ℕ
local_of s I32 = s.narrow
local_of s I64 = s.wide

-- what all values of the kind are below, and not below 0
abbrev pub bound_of : Scalar → Option ℕ
bound_of kinds.Int32 = None
bound_of kinds.Int64 = None
bound_of kinds.Bool = Some 2
bound_of (kinds.Wrap n) = Some n
bound_of (kinds.Clamp n) = Some n

abbrev pub are_below : Option ℕ → ℕ → Bool
are_below None n = false
are_below (Some m) n = nat_le m n

-- to 32 bits
abbrev pub narrow_code : ValType → List Instr
narrow_code I32 = []
narrow_code I64 = instr.Convert convert.WrapI64 ∷ []

-- to 64 bits
abbrev pub widen_code : ValType → List Instr
widen_code I32 = instr.Convert convert.ExtendI32Signed ∷ []
widen_code I64 = []

-- whether it is other than 0
abbrev pub truth_code : Scalar → List Instr
truth_code kinds.Bool = []
truth_code kind = number (type_of kind) (pos 0) ∷ instr.Compare (type_of kind) compare.NotEqual ∷ []

-- the remainder, and where it is below 0 its sum with the divisor
abbrev pub floor_code : ValType → ℕ → ℕ → List Instr
floor_code ty n v =
    number ty (pos n) ∷ instr.Binary ty binary.RemSigned ∷ instr.LocalTee v ∷ number ty (pos n) ∷ instr.Binary ty binary.Add
    ∷ instr.LocalGet v ∷ instr.LocalGet v ∷ number ty (pos 0) ∷ instr.Compare ty compare.LessSigned ∷ instr.Select ∷ []

-- the number, or 0 where it is below 0
abbrev pub least_code : ValType → ℕ → List Instr
least_code ty v =
    instr.LocalTee v ∷ number ty (pos 0) ∷ instr.LocalGet v ∷ number ty (pos 0) ∷ instr.Compare ty compare.GreaterSigned ∷ instr.Select ∷ []

-- the number, or the greatest where it is above that
abbrev pub most_code : ValType → ℕ → ℕ → List Instr
most_code ty top v =
    instr.LocalTee v ∷ number ty (pos top) ∷ instr.LocalGet v ∷ number ty (pos top) ∷ instr.Compare ty compare.LessSigned ∷ instr.Select ∷ []

-- whether it is a power of 2
abbrev pub is_power : ℕ → Bool
is_power n = n == 2 ^ trailing_zeros w32 n

-- the low bits
abbrev pub mask_code : ValType → ℕ → List Instr
mask_code ty n = number ty (pos (n - 1)) ∷ instr.Binary ty binary.And ∷ []

abbrev pub remainder_code : ℕ → List Instr
remainder_code n = instr.I32Const (pos n) ∷ instr.Binary I32 binary.RemUnsigned ∷ []

abbrev pub modulus_code : Scratch → Option ℕ → ValType → ℕ → List Instr
modulus_code s (Some m) ty n = remainder_code n
modulus_code s None ty n = floor_code ty n (local_of s ty) ++ narrow_code ty

-- to `wrap<n>`, and to an index of n elements
abbrev pub wrap_code : Scratch → Scalar → ℕ → List Instr
wrap_code s from n =
    if are_below (bound_of from) n then []
    else (if is_power n then mask_code (type_of from) n ++ narrow_code (type_of from) else modulus_code s (bound_of from) (type_of from) n)

abbrev pub hold_code : Scratch → Option ℕ → ValType → ℕ → List Instr
hold_code s (Some m) ty top = most_code ty top (local_of s ty)
hold_code s None ty top = least_code ty (local_of s ty) ++ (most_code ty top (local_of s ty) ++ narrow_code ty)

-- to `clamp<n>`
abbrev pub clamp_code : Scratch → Scalar → ℕ → List Instr
clamp_code s from n = if are_below (bound_of from) n then [] else hold_code s (bound_of from) (type_of from) (n - 1)

abbrev pub conversion_code : Scratch → Scalar → Scalar → List Instr
conversion_code s from kinds.Int32 = narrow_code (type_of from)
conversion_code s from kinds.Int64 = widen_code (type_of from)
conversion_code s from kinds.Bool = truth_code from
conversion_code s from (kinds.Wrap n) = wrap_code s from n
conversion_code s from (kinds.Clamp n) = clamp_code s from n
