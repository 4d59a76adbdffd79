-- What each function of a module needs: the most locals and operands that it holds, and the most open sequences.
use Rattle.std.specs.Prelude.{ℕ, suc, ◌≡◌, ◌+◌, ◌≤◌, ◌++◌, length, slice_get, Some}
use Rattle.std.specs.List.{AllByRecursion}
use Rattle.wasm_tree.specs.declared.module.FuncType.{FuncType}
use Rattle.wasm_tree.specs.declared.module.FuncBody.{FuncBody}
use Rattle.wasm_tree.specs.declared.module.Module.{Module}
use Rattle.wasm_tree.specs.Numbers.{declared_locals, type_at}
use Rattle.wasm_sound.specs.Governed.{Rules, Permits}
use Rattle.wasm_sound.specs.Rooms.{Rooms}
use Rattle.wasm_valid.specs.Bodies.{context_of, result_one}
use Rattle.wasm_valid.specs.Checking.{at_begin, Stays}

-- a body of this type holds no more operands and open sequences, wherever its code is reached
abbrev pub HoldsNoMore : Module → FuncType → FuncBody → ℕ → ℕ → Type 0
HoldsNoMore m type body cells marks = Stays (context_of m type body.locals) (result_one type.results) cells marks (at_begin (result_one type.results)) body.code

-- the function of this number has this type and this body, for which there is room
pub record IsNeed (m : Module) (rooms : Rooms) (rules : Rules) (number : ℕ) (type : FuncType) (body : FuncBody) : Type 0 where
  pub cells : ℕ
  pub marks : ℕ
  pub holds : HoldsNoMore m type body cells marks
  pub cells_fit : length (type.params ++ declared_locals body.locals) + cells ≤ rooms.cells number
  pub marks_fit : marks ≤ rooms.labels number
  pub permits : AllByRecursion (Permits rules number) body.code

-- so it is for each of the module's own functions
abbrev pub AreNeeds : Module → Rooms → Rules → Type 0
AreNeeds m rooms rules = (k type : ℕ) (body : FuncBody) → slice_get m.functions k ≡ Some type → slice_get m.codes k ≡ Some body → IsNeed m rooms rules (suc k) (type_at m type) body
