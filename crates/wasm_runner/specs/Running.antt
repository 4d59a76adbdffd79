-- A module that runs: Core Specification 1.0, 4.2.5, "Module Instances".
use Rattle.std.specs.Prelude.{◌≡◌, ℕ, List, Bool, true, length, slice_get, Some, Contains}
use Rattle.wasm_tree.specs.declared.module.ExportKind.TheVariants as exported
use Rattle.wasm_tree.specs.declared.module.FuncType.{FuncType}
use Rattle.wasm_tree.specs.declared.module.Module.{Module}
use Rattle.wasm_tree.specs.Numbers.{function_types}
use Rattle.wasm_tree.specs.Valid.{memory_size}
use Rattle.wasm_sound.specs.Kinds.{AreOf}
use Rattle.wasm_sound.specs.Reached.{IsInstanceOf}
use Rattle.wasm_valid.specs.Checked.{Checked}
use Rattle.wasm_runner.specs.declared.function.Function.{Function}
use Rattle.wasm_runner.specs.Prepared.{IsReady}

-- the module, its globals, its memory, and whether each call so far returned
pub record Running : Type 0 where
  pub of : Checked
  pub globals : List ℕ
  pub memory : List ℕ
  pub live : Bool

abbrev pub running : Checked → (globals memory : List ℕ) → Bool → Running
running checked globals memory live = record { of = checked; globals = globals; memory = memory; live = live }

-- it can run, its globals and its memory are as long as the module's, and where each call returned it is an instance
pub record CanRun (r : Running) (functions : List Function) (cells blocks callers : ℕ) : Type 0 where
  pub ready : IsReady r.of.of functions cells blocks
  pub alike : callers ≡ blocks
  pub globals : length r.globals ≡ length r.of.of.globals
  pub memory : length r.memory ≡ memory_size r.of.of.memory
  pub instance : r.live ≡ true → IsInstanceOf r.of.of r.globals r.memory

-- the function of this number is exported, and takes these arguments
pub record Takes (m : Module) (number : ℕ) (arguments : List ℕ) : Type 0 where
  pub name : List ℕ
  pub exported : Contains m.exports (record { name = name; kind = exported.Function number })
  pub type : FuncType
  pub has : slice_get (function_types m) number ≡ Some type
  pub given : AreOf type.params arguments
