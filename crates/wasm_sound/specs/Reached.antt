-- Where the calls of a module's exports come to, and what holds there: Core Specification 1.0, 4.5.5 and the soundness of
-- validation in its appendix.
use Rattle.std.specs.Prelude.{ℕ, ℤ, ◌≡◌, ◌+◌, ◌<◌, ◌≤◌, List, length, map, sum_by, slice_get, Contains, Some}
use Rattle.std.specs.List.{AllByRecursion}
use Rattle.wasm_tree.specs.declared.module.FuncType.{FuncType}
use Rattle.wasm_tree.specs.declared.module.ExportKind.TheVariants as exported
use Rattle.wasm_tree.specs.declared.module.Module.{Module}
use Rattle.wasm_tree.specs.Cells.{cells_of}
use Rattle.wasm_tree.specs.Instance.{funcs_of, begun_at}
use Rattle.wasm_tree.specs.Numbers.{function_types}
use Rattle.wasm_tree.specs.Reduce.{Func, CallFrame, Config, Step, To, Asks, Ends, Traps, Sticks}
use Rattle.wasm_tree.specs.Valid.{memory_size}
use Rattle.wasm_steps.specs.Steps.{reduce}
use Rattle.wasm_sound.specs.Kinds.{AreOf}

-- ---- runs

-- a run comes from one configuration to the other by reductions, whatever the host answers
pub data Reaches (funcs : List Func) : Config → Config → Type 0 where
  Stay : (c : Config) → Reaches funcs c c
  Reduced : (c d e : Config) → reduce funcs c ≡ To d → Reaches funcs d e → Reaches funcs c e
  Answered : (number : ℤ) (memory : List ℕ) (c d e : Config) → reduce funcs c ≡ Asks number memory d → Reaches funcs d e → Reaches funcs c e

-- ---- instances

-- the module's own memory, of its only size
pub record IsMemoryOf (m : Module) (memory : List ℕ) : Type 0 where
  pub size : length memory ≡ memory_size m.memory
  pub bytes : AllByRecursion (λ byte. byte < 256) memory

-- globals and a memory that an instance of the module may have
pub record IsInstanceOf (m : Module) (globals memory : List ℕ) : Type 0 where
  pub typed : AreOf (map (λ global. global.ty) m.globals) globals
  pub own : IsMemoryOf m memory

-- a call of this function from outside, with arguments of its types
pub record IsCall (m : Module) (c : Config) : Type 0 where
  pub number : ℕ
  pub name : List ℕ
  pub exported : Contains m.exports (record { name = name; kind = exported.Function number })
  pub type : FuncType
  pub has : slice_get (function_types m) number ≡ Some type
  pub arguments : List ℕ
  pub given : AreOf type.params arguments
  pub globals : List ℕ
  pub memory : List ℕ
  pub instance : IsInstanceOf m globals memory
  pub begins : c ≡ begun_at (funcs_of m) number arguments globals memory

-- a call of an export comes here
pub record IsReached (m : Module) (c : Config) : Type 0 where
  pub start : Config
  pub call : IsCall m start
  pub comes : Reaches (funcs_of m) start c

-- ---- bounds

-- how many labels are open and how many callers wait, in all
abbrev pub marks_of_frame : CallFrame → ℕ
marks_of_frame frame = length frame.labels + 1

abbrev pub marks_of : Config → ℕ
marks_of c = length c.labels + sum_by marks_of_frame c.frames

-- the reduction isn't stuck, and where it ends the call, the module is left as an instance
abbrev pub IsSafe : Module → Step → Type 0
IsSafe m (To next) = Unit {0}
IsSafe m (Asks number memory next) = Unit {0}
IsSafe m (Ends globals memory) = IsInstanceOf m globals memory
IsSafe m Traps = Unit {0}
IsSafe m Sticks = ⊥

-- no call of an export holds more cells or marks than this, and none gets stuck
pub record AreBounds (m : Module) (most_cells most_marks : ℕ) : Type 0 where
  pub cells : (c : Config) → IsReached m c → cells_of c ≤ most_cells
  pub marks : (c : Config) → IsReached m c → marks_of c ≤ most_marks
  pub safe : (c : Config) → IsReached m c → IsSafe m (reduce (funcs_of m) c)
