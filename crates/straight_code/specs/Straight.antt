-- Code of plain instructions, one after the other, as trees and by what they take and leave.
use Rattle.std.specs.Prelude.{ℕ, List, [], ◌∷◌, ◌++◌}
use Rattle.std.specs.List.{AllByRecursion}
use Rattle.wasm_tree.specs.declared.module.ValType.{ValType}
use Rattle.wasm_tree.specs.declared.instr.Instr.{Instr}
use Rattle.wasm_tree.specs.declared.instr.Instr.TheVariants as instr
use Rattle.wasm_tree.specs.Reduce.{Seq, Nil, Plain, State}
use Rattle.wasm_tree.specs.Typed.{Context, Typed}

-- the instructions as a sequence
abbrev pub plains : List Instr → Seq
plains [] = Nil
plains (i ∷ code) = Plain i (plains code)

-- it goes on with what follows it: it opens and ends no sequence, branches nowhere and calls nothing
abbrev pub IsStraight : Instr → Type 0
IsStraight instr.Nop = Unit {0}
IsStraight instr.Drop = Unit {0}
IsStraight instr.Select = Unit {0}
IsStraight (instr.LocalGet local) = Unit {0}
IsStraight (instr.LocalSet local) = Unit {0}
IsStraight (instr.LocalTee local) = Unit {0}
IsStraight (instr.Load op place) = Unit {0}
IsStraight (instr.Store op place) = Unit {0}
IsStraight (instr.I32Const value) = Unit {0}
IsStraight (instr.I64Const value) = Unit {0}
IsStraight (instr.Test type) = Unit {0}
IsStraight (instr.Compare type op) = Unit {0}
IsStraight (instr.Binary type op) = Unit {0}
IsStraight (instr.Convert op) = Unit {0}
IsStraight _ = ⊥

abbrev pub AreStraight : List Instr → Type 0
AreStraight code = AllByRecursion IsStraight code

-- it neither reads nor writes a local
abbrev pub NamesNoLocal : Instr → Type 0
NamesNoLocal (instr.LocalGet local) = ⊥
NamesNoLocal (instr.LocalSet local) = ⊥
NamesNoLocal (instr.LocalTee local) = ⊥
NamesNoLocal _ = Unit {0}

abbrev pub NameNoLocals : List Instr → Type 0
NameNoLocals code = AllByRecursion NamesNoLocal code

-- how many reductions an instruction counts: none for a constant
abbrev pub step_of : Instr → ℕ
step_of (instr.I32Const value) = 0
step_of (instr.I64Const value) = 0
step_of _ = 1

-- it takes these operands and leaves those, the last one first, whatever is below them and wherever it stands
abbrev pub IsTypedIn : Context → List Instr → List ValType → List ValType → Type 0
IsTypedIn c code ins outs = (labels : List (List ValType)) (below : List ValType) → Typed c labels (plains code) (ins ++ below) (outs ++ below)

-- these operands on those that are there
abbrev pub with_operands : List ℕ → State → State
with_operands ins st = record st { values = ins ++ st.values }
