-- The code of operators, behind that of their operands.
use Rattle.std.specs.Prelude.{zero, List, [], ◌∷◌, ◌++◌, ℤ, negsuc}
use Rattle.cm_base.specs.declared.host.Scalar.{Scalar}
use Rattle.cm_core.specs.declared.operator.UnaryOp.{UnaryOp}
use Rattle.cm_core.specs.declared.operator.UnaryOp.TheVariants.{Negate, Not, Invert}
use Rattle.cm_core.specs.declared.operator.BinaryOp.{BinaryOp}
use Rattle.cm_core.specs.declared.operator.BinaryOp.TheVariants as op
use Rattle.wasm_tree.specs.declared.module.ValType.{ValType}
use Rattle.wasm_tree.specs.declared.module.ValType.TheVariants.{I32, I64}
use Rattle.wasm_tree.specs.declared.op.BinaryOp.TheVariants as binary
use Rattle.wasm_tree.specs.declared.op.CompareOp.TheVariants as compare
use Rattle.wasm_tree.specs.declared.op.ConvertOp.TheVariants as convert
use Rattle.wasm_tree.specs.declared.instr.Instr.{Instr}
use Rattle.wasm_tree.specs.declared.instr.Instr.TheVariants as instr
use Rattle.operator_code.specs.Operands.{type_of, number}

-- the instruction of an operator that computes in the type
abbrev pub instr_of : BinaryOp → ValType → Instr
instr_of op.Add ty = instr.Binary ty binary.Add
instr_of op.Subtract ty = instr.Binary ty binary.Sub
instr_of op.Multiply ty = instr.Binary ty binary.Mul
instr_of op.Divide ty = instr.Binary ty binary.DivSigned
instr_of op.Remainder ty = instr.Binary ty binary.RemSigned
instr_of op.BitAnd ty = instr.Binary ty binary.And
instr_of op.BitOr ty = instr.Binary ty binary.Or
instr_of op.BitXor ty = instr.Binary ty binary.Xor
instr_of op.ShiftLeft ty = instr.Binary ty binary.ShiftLeft
instr_of op.ShiftRight ty = instr.Binary ty binary.ShiftRightSigned
instr_of op.ShiftRightZero ty = instr.Binary ty binary.ShiftRightUnsigned
instr_of op.Equal ty = instr.Compare ty compare.Equal
instr_of op.NotEqual ty = instr.Compare ty compare.NotEqual
instr_of op.Less ty = instr.Compare ty compare.LessSigned
instr_of op.LessOrEqual ty = instr.Compare ty compare.LessEqualSigned
instr_of op.Greater ty = instr.Compare ty compare.GreaterSigned
instr_of op.GreaterOrEqual ty = instr.Compare ty compare.GreaterEqualSigned

-- the type of what it gives
abbrev pub result_of : BinaryOp → ValType → ValType
result_of op.Equal ty = I32
result_of op.NotEqual ty = I32
result_of op.Less ty = I32
result_of op.LessOrEqual ty = I32
result_of op.Greater ty = I32
result_of op.GreaterOrEqual ty = I32
result_of _ ty = ty

abbrev pub operator_code : BinaryOp → Scalar → List Instr
operator_code o kind = instr_of o (type_of kind) ∷ []

-- an amount of the other width has the same low bits after its conversion
abbrev pub amount_code : ValType → ValType → List Instr
amount_code I32 I32 = []
amount_code I32 I64 = instr.Convert convert.WrapI64 ∷ []
amount_code I64 I32 = instr.Convert convert.ExtendI32Signed ∷ []
amount_code I64 I64 = []

abbrev pub shift_code : BinaryOp → Scalar → Scalar → List Instr
shift_code o kind amount = amount_code (type_of kind) (type_of amount) ++ instr_of o (type_of kind) ∷ []

-- The quotient by -1 is the product with it: `div_s` traps at the least number.
abbrev pub division_instr : BinaryOp → ValType → ℤ → Instr
division_instr op.Divide ty (negsuc zero) = instr.Binary ty binary.Mul
division_instr o ty d = instr_of o ty

abbrev pub division_code : BinaryOp → Scalar → ℤ → List Instr
division_code o kind d = division_instr o (type_of kind) d ∷ []

abbrev pub unary_code : UnaryOp → Scalar → List Instr
unary_code Negate kind = number (type_of kind) (negsuc 0) ∷ instr.Binary (type_of kind) binary.Mul ∷ []
unary_code Not kind = instr.Test (type_of kind) ∷ []
unary_code Invert kind = number (type_of kind) (negsuc 0) ∷ instr.Binary (type_of kind) binary.Xor ∷ []
