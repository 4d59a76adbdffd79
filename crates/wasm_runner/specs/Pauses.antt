-- What a run inside one function comes to.
use Rattle.std.specs.Prelude.{◌≡◌, ◌<◌, ◌≤◌, ℕ, List, slice_get, Some}
use Rattle.wasm_tree.specs.declared.instr.Instr.{Instr}
use Rattle.wasm_tree.specs.declared.instr.Instr.TheVariants as instr
use Rattle.wasm_tree.specs.declared.module.FuncBody.{FuncBody}
use Rattle.wasm_tree.specs.Reduce.{Config, Out, Trapped, exec}
use Rattle.wasm_runner.specs.declared.place.Place.{Place}
use Rattle.wasm_runner.specs.declared.code.Pause.{Pause}
use Rattle.wasm_runner.specs.declared.code.Pause.TheVariants as pause
use Rattle.wasm_sound.specs.Sound.{Scope}
use Rattle.wasm_runner.specs.Standing.{Stacks, IsAt}
use Rattle.wasm_runner.specs.Steps.{GivesBack}

-- with so many reductions the run is the one from another configuration with those that are left
pub record Leaves (scope : Scope) (codes : List FuncBody) (s : Stacks) (depth : ℕ) (place : Place) (sp : ℕ) (c : Config) (steps left : ℕ) : Type 0 where
  pub next : Config
  pub same : exec scope.funcs steps c ≡ exec scope.funcs left next
  pub some : 0 < left
  pub fewer : left ≤ steps
  pub is : GivesBack scope codes s depth place.base place.floor sp next

pub record Calls (scope : Scope) (codes : List FuncBody) (code : List Instr) (s : Stacks) (depth : ℕ) (function : ℕ) (place : Place) (c : Config) (steps left : ℕ) : Type 0 where
  pub next : Config
  pub same : exec scope.funcs steps c ≡ exec scope.funcs left next
  pub some : 0 < left
  pub fewer : left ≤ steps
  pub there : slice_get code place.at ≡ Some (instr.Call function)
  pub is : IsAt scope codes code s depth place next

-- why a run of `steps` reductions from a place pauses
abbrev pub Paused : Scope → List FuncBody → List Instr → Stacks → ℕ → Place → Config → ℕ → Pause → Type 0
Paused scope codes code s depth place c steps pause.Spent = exec scope.funcs steps c ≡ Out
Paused scope codes code s depth place c steps pause.Trapped = exec scope.funcs steps c ≡ Trapped
Paused scope codes code s depth place c steps (pause.Calls function at left) = Calls scope codes code s depth function at c steps left
Paused scope codes code s depth place c steps (pause.Leaves sp left) = Leaves scope codes s depth place sp c steps left
