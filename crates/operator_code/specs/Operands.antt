-- Scalars as operands of instructions: docs/MODULE.md, "Numbers in code".
use Rattle.std.specs.Prelude.{ℕ, ℤ}
use Rattle.std.specs.Int.{cast_unsigned}
use Rattle.cm_base.specs.declared.host.Scalar.{Scalar}
use Rattle.cm_base.specs.declared.host.Scalar.TheVariants as kinds
use Rattle.cm_core.specs.Operators.{width_of}
use Rattle.wasm_tree.specs.declared.module.ValType.{ValType}
use Rattle.wasm_tree.specs.declared.module.ValType.TheVariants.{I32, I64}
use Rattle.wasm_tree.specs.declared.instr.Instr.{Instr}
use Rattle.wasm_tree.specs.declared.instr.Instr.TheVariants as instr

-- the type of a scalar of the kind
abbrev pub type_of : Scalar → ValType
type_of kinds.Int32 = I32
type_of kinds.Int64 = I64
type_of kinds.Bool = I32
type_of (kinds.Wrap n) = I32
type_of (kinds.Clamp n) = I32

-- its bits, a truth value being 0 or 1
abbrev pub bits_of : Scalar → ℤ → ℕ
bits_of kind z = cast_unsigned (width_of kind) z

-- a constant of the type
abbrev pub number : ValType → ℤ → Instr
number I32 z = instr.I32Const z
number I64 z = instr.I64Const z
