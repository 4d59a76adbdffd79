-- What is promised of the code of operators and conversions.
use Rattle.std.specs.Prelude.{ℕ, ◌≡◌, ◌<◌, List, [], ◌∷◌, length, slice_get, Some, sum_by}
use Rattle.wasm_tree.specs.declared.module.ValType.{ValType}
use Rattle.wasm_tree.specs.declared.module.ValType.TheVariants.{I32, I64}
use Rattle.wasm_tree.specs.declared.instr.Instr.{Instr}
use Rattle.wasm_tree.specs.Reduce.{Func, State}
use Rattle.wasm_tree.specs.Typed.{Context}
use Rattle.wasm_steps.specs.Steps.{Does, quiet}
use Rattle.straight_code.specs.Straight.{plains, step_of, with_operands, IsTypedIn}
use Rattle.operator_code.specs.declared.scratch.Scratch.{Scratch}

-- one reduction for each instruction other than a constant
abbrev pub steps_of : List Instr → ℕ
steps_of code = sum_by step_of code

-- wherever it stands, it takes these operands, the last one first, to this one, and changes nothing else
abbrev pub Computes : List Instr → List ℕ → ℕ → Type 0
Computes code ins out = (funcs : List Func) (st : State) → Does funcs (plains code) (steps_of code) quiet (with_operands ins st) (with_operands (out ∷ []) st)

abbrev pub IsTypedAs : List Instr → List ValType → ValType → Type 0
IsTypedAs code ins out = (c : Context) → IsTypedIn c code ins (out ∷ [])

-- ---- with locals

-- there are locals for scratch
pub record HasRoom (s : Scratch) (locals : List ℕ) : Type 0 where
  pub narrow : s.narrow < length locals
  pub wide : s.wide < length locals

-- the same locals but for those for scratch
pub record SameBut (s : Scratch) (before after : List ℕ) : Type 0 where
  pub count : length after ≡ length before
  pub others : (i : ℕ) → (i ≡ s.narrow → ⊥) → (i ≡ s.wide → ⊥) → slice_get after i ≡ slice_get before i

-- how a state ends with an operand in place of others
pub record Turned (s : Scratch) (funcs : List Func) (code : List Instr) (ins : List ℕ) (out : ℕ) (st : State) : Type 0 where
  pub locals : List ℕ
  pub same : SameBut s st.locals locals
  pub does : Does funcs (plains code) (steps_of code) quiet (with_operands ins st) (with_operands (out ∷ []) (record st { locals = locals }))

-- wherever it stands, it takes these operands to this one, and changes locals for scratch at most
abbrev pub Turns : Scratch → List Instr → List ℕ → ℕ → Type 0
Turns s code ins out = (funcs : List Func) (st : State) → HasRoom s st.locals → Turned s funcs code ins out st

-- the locals for scratch have their types
pub record HasTypes (s : Scratch) (c : Context) : Type 0 where
  pub narrow : slice_get c.locals s.narrow ≡ Some I32
  pub wide : slice_get c.locals s.wide ≡ Some I64

abbrev pub IsTypedWith : Scratch → List Instr → ValType → ValType → Type 0
IsTypedWith s code from to = (c : Context) → HasTypes s c → IsTypedIn c code (from ∷ []) (to ∷ [])
