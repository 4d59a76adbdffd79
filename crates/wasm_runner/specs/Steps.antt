-- What one step of the runner's loop does: a reduction, or a constant, which costs nothing.
use Rattle.std.specs.Prelude.{◌≡◌, ◌+◌, ◌≤◌, ℕ, List, length, drop, take, reverse, slice_get, Some, map}
use Rattle.wasm_tree.specs.declared.module.ValType.{ValType}
use Rattle.wasm_tree.specs.declared.instr.Instr.{Instr}
use Rattle.wasm_tree.specs.declared.instr.Instr.TheVariants as instr
use Rattle.wasm_tree.specs.declared.module.FuncBody.{FuncBody}
use Rattle.wasm_tree.specs.Reduce.{Config, To, Traps, give_back, exec}
use Rattle.wasm_steps.specs.Steps.{reduce}
use Rattle.wasm_runner.specs.declared.place.Place.{Place}
use Rattle.wasm_runner.specs.declared.step.Step.{Step}
use Rattle.wasm_runner.specs.declared.step.Step.TheVariants as took
use Rattle.wasm_sound.specs.Kinds.{AreOf}
use Rattle.wasm_sound.specs.Sound.{Scope, AreFrames, most_memory}
use Rattle.wasm_runner.specs.Standing.{Stacks, IsAt, HasRoom, AreCallers, waiting, cells_of_frames, blocks_of}

-- one reduction leads to where the stacks stand
pub record Goes (scope : Scope) (codes : List FuncBody) (code : List Instr) (s : Stacks) (depth : ℕ) (place : Place) (c : Config) : Type 0 where
  pub next : Config
  pub reduces : reduce scope.funcs c ≡ To next
  pub is : IsAt scope codes code s depth place next

-- no reduction does
pub record Stays (scope : Scope) (codes : List FuncBody) (code : List Instr) (s : Stacks) (depth : ℕ) (place : Place) (c : Config) : Type 0 where
  pub next : Config
  pub same : (k : ℕ) → exec scope.funcs k c ≡ exec scope.funcs k next
  pub is : IsAt scope codes code s depth place next

-- the next reduction gives back to the caller what the cells from `sp` on hold
pub record GivesBack (scope : Scope) (codes : List FuncBody) (s : Stacks) (depth : ℕ) (base floor sp : ℕ) (c : Config) : Type 0 where
  pub reduces : reduce scope.funcs c ≡ give_back c.state c.frames
  pub results : List ValType
  pub few : length results ≤ 1
  pub given : AreOf (reverse results) (take (length results) c.state.values)
  pub shown : take (length results) (drop sp s.cells) ≡ take (length results) c.state.values
  pub low : sp + length results ≤ base
  pub callers : AreFrames scope results c.frames
  pub waits : drop base s.cells ≡ waiting c.frames
  pub base_is : base + cells_of_frames c.frames ≡ length s.cells
  pub lp_is : floor + blocks_of c.frames ≡ length s.blocks
  pub callers_are : AreCallers (length s.cells) codes floor (drop floor s.blocks) (drop depth s.callers) c.frames
  pub depth_is : depth + length c.frames ≡ length s.callers
  pub globals_are : c.state.globals ≡ s.globals
  pub memory_is : c.state.memory ≡ s.memory
  pub shared : AreOf (map (λ var. var.ty) scope.vars) c.state.globals
  pub memory : length c.state.memory ≤ most_memory
  pub room : HasRoom scope.funcs (length s.cells) (length s.blocks) (length s.callers) c

-- one reduction leads to the end of the function
pub record Exits (scope : Scope) (codes : List FuncBody) (s : Stacks) (depth : ℕ) (base floor sp : ℕ) (c : Config) : Type 0 where
  pub next : Config
  pub reduces : reduce scope.funcs c ≡ To next
  pub is : GivesBack scope codes s depth base floor sp next

abbrev pub Took : Scope → List FuncBody → List Instr → Stacks → ℕ → Place → Config → Step → Type 0
Took scope codes code s depth place c (took.Go at sp lp) = Goes scope codes code s depth (record place { at = at; sp = sp; lp = lp }) c
Took scope codes code s depth place c (took.Free at sp) = (at ≡ place.at + 1) × Stays scope codes code s depth (record place { at = at; sp = sp }) c
Took scope codes code s depth place c took.Trap = reduce scope.funcs c ≡ Traps
Took scope codes code s depth place c (took.Call function) = (slice_get code place.at ≡ Some (instr.Call function)) × IsAt scope codes code s depth place c
Took scope codes code s depth place c took.Leave = GivesBack scope codes s depth place.base place.floor place.sp c
Took scope codes code s depth place c (took.Exit sp) = Exits scope codes s depth place.base place.floor sp c
