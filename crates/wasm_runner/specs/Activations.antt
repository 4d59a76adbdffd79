-- Where a run stands among the functions of a module: Core Specification 1.0, 4.2.12, "Frames".
use Rattle.std.specs.Prelude.{◌≡◌, ◌<◌, ℕ, List, [], ◌∷◌, length, false, slice_get, Some}
use Rattle.wasm_tree.specs.declared.instr.Instr.TheVariants as instr
use Rattle.wasm_tree.specs.declared.module.FuncBody.{FuncBody}
use Rattle.wasm_tree.specs.Reduce.{Func, Config, To, pieces}
use Rattle.wasm_steps.specs.Steps.{reduce}
use Rattle.wasm_sound.specs.Sound.{Scope, IsScope}
use Rattle.wasm_runner.specs.declared.function.Function.{Function}
use Rattle.wasm_runner.specs.declared.place.Block.{Block}
use Rattle.wasm_runner.specs.declared.place.Caller.{Caller}
use Rattle.wasm_runner.specs.declared.calls.Activation.{Activation}
use Rattle.wasm_runner.specs.Jumps.{AreJumps}
use Rattle.wasm_runner.specs.Standing.{Stacks, IsAt}
use Rattle.wasm_runner.specs.Steps.{GivesBack}

-- ---- functions

-- what is prepared of a function, and its code
pub record IsPrepared (body : FuncBody) (f : Func) (function : Function) : Type 0 where
  pub params : function.params ≡ f.params
  pub locals : function.locals ≡ f.locals
  pub results : function.results ≡ f.results
  pub spells : pieces body.code ≡ record { arm = false; rest = f.body } ∷ []

-- each of the module's own functions has its code, and each code its jumps
pub record IsProgram (scope : Scope) (codes : List FuncBody) (functions : List Function) : Type 0 where
  pub is : IsScope scope
  pub own : (n : ℕ) (f : Func) → slice_get scope.funcs n ≡ Some f →
      (body : FuncBody) × (function : Function) × (slice_get codes n ≡ Some body) × (slice_get functions n ≡ Some function) × IsPrepared body f function
  pub jumps : (n : ℕ) (body : FuncBody) → slice_get codes n ≡ Some body →
      (function : Function) × (slice_get functions n ≡ Some function) × AreJumps body.code function.jumps.items

-- ---- activations

-- in the function that runs the stacks stand for the configuration
pub record IsActive (scope : Scope) (codes : List FuncBody) (s : Stacks) (now : Activation) (c : Config) : Type 0 where
  pub body : FuncBody
  pub found : slice_get codes now.function ≡ Some body
  pub is : IsAt scope codes body.code s now.depth now.place c

-- the next reduction calls the function of this number
pub record IsCalling (scope : Scope) (codes : List FuncBody) (s : Stacks) (now : Activation) (number : ℕ) (c : Config) : Type 0 where
  pub active : IsActive scope codes s now c
  pub there : slice_get active.body.code now.place.at ≡ Some (instr.Call number)

-- one reduction leads to another activation
pub record Enters (scope : Scope) (codes : List FuncBody) (s : Stacks) (now : Activation) (c : Config) : Type 0 where
  pub next : Config
  pub reduces : reduce scope.funcs c ≡ To next
  pub is : IsActive scope codes s now next

-- the next reduction gives back to the caller what the cells from `sp` on hold
abbrev pub IsLeaving : Scope → List FuncBody → Stacks → Activation → (sp : ℕ) → Config → Type 0
IsLeaving scope codes s now sp c = GivesBack scope codes s now.depth now.place.base now.place.floor sp c

-- ---- that there are such configurations

abbrev pub stacks : (cells : List ℕ) → List Block → List Caller → (globals memory : List ℕ) → Stacks
stacks cells blocks callers globals memory =
    record { cells = cells; blocks = blocks; callers = callers; globals = globals; memory = memory }

-- the module's functions are prepared so, and some configuration calls
pub record CallsSomewhere (functions : List Function) (cells : List ℕ) (callers : List Caller) (now : Activation) (number : ℕ) : Type 0 where
  pub scope : Scope
  pub codes : List FuncBody
  pub program : IsProgram scope codes functions
  pub blocks : List Block
  pub globals : List ℕ
  pub memory : List ℕ
  pub c : Config
  pub is : IsCalling scope codes (stacks cells blocks callers globals memory) now number c

-- some configuration ends a function whose caller waits
pub record LeavesSomewhere (cells : List ℕ) (callers : List Caller) (now : Activation) (sp : ℕ) : Type 0 where
  pub scope : Scope
  pub codes : List FuncBody
  pub blocks : List Block
  pub globals : List ℕ
  pub memory : List ℕ
  pub c : Config
  pub is : IsLeaving scope codes (stacks cells blocks callers globals memory) now sp c
  pub waits : now.depth < length callers
