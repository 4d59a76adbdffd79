-- How a runner's cells and marks stand for a configuration. Cells are one stack that grows downward and holds operands
-- and locals alike; a mark is kept for each open block and for each caller that waits.
use Rattle.std.specs.Prelude.{◌≡◌, ◌+◌, ◌≤◌, ℕ, List, [], ◌∷◌, ◌++◌, length, drop, reverse, slice_get, Some, sum_by}
use Rattle.wasm_tree.specs.declared.instr.Instr.{Instr}
use Rattle.wasm_tree.specs.declared.module.FuncBody.{FuncBody}
use Rattle.wasm_tree.specs.Reduce.{Func, Label, CallFrame, Config, pieces}
use Rattle.wasm_tree.specs.Cells.{cells_below, cells_of_frame, cells_of}
use Rattle.wasm_runner.specs.declared.place.Block.{Block}
use Rattle.wasm_runner.specs.declared.place.Caller.{Caller}
use Rattle.wasm_runner.specs.declared.place.Place.{Place}
use Rattle.wasm_runner.specs.Jumps.{Stands, rests}
use Rattle.wasm_sound.specs.Sound.{Scope, IsSound}
use Rattle.wasm_sound.specs.Reached.{Reaches}

-- ---- what a configuration holds

abbrev pub below_of : List Label → List ℕ
below_of [] = []
below_of (label ∷ labels) = label.below ++ below_of labels

-- the operands and locals of the callers, the innermost caller's first
abbrev pub waiting : List CallFrame → List ℕ
waiting [] = []
waiting (frame ∷ frames) = frame.values ++ (below_of frame.labels ++ (reverse frame.locals ++ waiting frames))

-- operands, the last one first, those below open blocks, locals, the last one first, and so for the callers
abbrev pub held : Config → List ℕ
held c = c.state.values ++ (below_of c.labels ++ (reverse c.state.locals ++ waiting c.frames))

abbrev pub cells_of_frames : List CallFrame → ℕ
cells_of_frames frames = sum_by cells_of_frame frames

-- how many blocks are open in callers
abbrev pub blocks_of : List CallFrame → ℕ
blocks_of frames = sum_by (λ frame. length frame.labels) frames

-- ---- marks

-- a mark stands for a label over these many cells
pub record IsBlock (cells : ℕ) (code : List Instr) (mark : Block) (label : Label) (labels : List Label) (rest : ℕ) : Type 0 where
  pub arity : mark.arity ≡ label.arity
  pub height : mark.height + (length label.below + (cells_below labels + rest)) ≡ cells
  pub leads : Stands (label.target ∷ rests labels) (pieces (drop mark.target code))

-- the first marks stand for these labels
abbrev pub AreBlocks : (cells : ℕ) → List Instr → List Block → List Label → (rest : ℕ) → Type 0
AreBlocks cells code marks [] rest = Unit {0}
AreBlocks cells code [] (label ∷ labels) rest = ⊥
AreBlocks cells code (mark ∷ marks) (label ∷ labels) rest = IsBlock cells code mark label labels rest × AreBlocks cells code marks labels rest

-- a mark stands for a caller
pub record IsCaller (cells : ℕ) (codes : List FuncBody) (floor : ℕ) (blocks : List Block) (mark : Caller) (frame : CallFrame) (frames : List CallFrame) : Type 0 where
  pub body : FuncBody
  pub found : slice_get codes mark.function ≡ Some body
  pub arity : mark.arity ≡ frame.arity
  pub leads : Stands (frame.rest ∷ rests frame.labels) (pieces (drop mark.back body.code))
  pub base : mark.base + cells_of_frames frames ≡ cells
  pub floor_is : floor + length frame.labels ≡ mark.floor
  pub open_blocks : AreBlocks cells body.code blocks frame.labels (length frame.locals + cells_of_frames frames)

abbrev pub AreCallers : (cells : ℕ) → List FuncBody → (floor : ℕ) → List Block → List Caller → List CallFrame → Type 0
AreCallers cells codes floor blocks [] [] = Unit {0}
AreCallers cells codes floor blocks [] (frame ∷ frames) = ⊥
AreCallers cells codes floor blocks (mark ∷ marks) [] = ⊥
AreCallers cells codes floor blocks (mark ∷ marks) (frame ∷ frames) =
    IsCaller cells codes floor blocks mark frame frames × AreCallers cells codes mark.floor (drop (length frame.labels) blocks) marks frames

-- ---- room

pub record IsWithin (cells blocks callers : ℕ) (c : Config) : Type 0 where
  pub cells_fit : cells_of c ≤ cells
  pub blocks_fit : length c.labels + blocks_of c.frames ≤ blocks
  pub callers_fit : length c.frames ≤ callers

-- wherever a run comes to, cells and marks suffice
pub record HasRoom (funcs : List Func) (cells blocks callers : ℕ) (c : Config) : Type 0 where
  pub wherever : (d : Config) → Reaches funcs c d → IsWithin cells blocks callers d

-- ---- places

-- the runner's stacks: cells, marks of blocks, marks of callers, globals and memory
pub record Stacks : Type 0 where
  pub cells : List ℕ
  pub blocks : List Block
  pub callers : List Caller
  pub globals : List ℕ
  pub memory : List ℕ

-- at a place of this code the stacks stand for the configuration
pub record Shows (codes : List FuncBody) (code : List Instr) (s : Stacks) (depth : ℕ) (place : Place) (c : Config) : Type 0 where
  pub stands : Stands (c.code ∷ rests c.labels) (pieces (drop place.at code))
  pub holds : drop place.sp s.cells ≡ held c
  pub sp_is : place.sp + length (held c) ≡ length s.cells
  pub base_is : place.base + cells_of_frames c.frames ≡ length s.cells
  pub blocks_are : AreBlocks (length s.cells) code (drop place.lp s.blocks) c.labels (length c.state.locals + cells_of_frames c.frames)
  pub floor_is : place.lp + length c.labels ≡ place.floor
  pub lp_is : place.floor + blocks_of c.frames ≡ length s.blocks
  pub callers_are : AreCallers (length s.cells) codes place.floor (drop place.floor s.blocks) (drop depth s.callers) c.frames
  pub depth_is : depth + length c.frames ≡ length s.callers
  pub globals_are : c.state.globals ≡ s.globals
  pub memory_is : c.state.memory ≡ s.memory

-- the same, where the configuration is typed and has room
pub record IsAt (scope : Scope) (codes : List FuncBody) (code : List Instr) (s : Stacks) (depth : ℕ) (place : Place) (c : Config) : Type 0 where
  pub shows : Shows codes code s depth place c
  pub sound : IsSound scope c
  pub room : HasRoom scope.funcs (length s.cells) (length s.blocks) (length s.callers) c

-- at some depth it stands for some configuration
pub record IsSomewhere (code : List Instr) (cells : List ℕ) (blocks : List Block) (globals memory : List ℕ) (place : Place) : Type 0 where
  pub scope : Scope
  pub codes : List FuncBody
  pub callers : List Caller
  pub depth : ℕ
  pub c : Config
  pub is : IsAt scope codes code (record { cells = cells; blocks = blocks; callers = callers; globals = globals; memory = memory }) depth place c
