-- What the code of a module of interface 2 owes for `frames`, so that the module keeps a source's runs:
-- docs/MODULE.md, "How a run goes".
use Rattle.std.specs.Prelude.{◌≡◌, ◌+◌, ◌<◌, ◌≤◌, ◌++◌, ◌⊎◌, ℕ, suc, List, [], ◌∷◌, length, codes, Some, ℤ, negsuc}
use Rattle.std.specs.List.{AllByRecursion}
use Rattle.cm_base.specs.declared.play.Item.{Item}
use Rattle.cm_base.specs.HostEnds.{IsLawful}
use Rattle.cm_base.specs.Parts.{Inputs, Frame}
use Rattle.cm_base.specs.Players.{Source}
use Rattle.cm_base.specs.Tasks.{AreInputs}
use Rattle.wasm_tree.specs.declared.interface.Interface.TheVariants.{Blocks}
use Rattle.wasm_tree.specs.declared.module.Module.{Module}
use Rattle.wasm_tree.specs.HostRun.{Block, Instance, frame_told, zeros_of}
use Rattle.wasm_tree.specs.Instance.{funcs_of, call_of, first_globals, first_memory}
use Rattle.wasm_tree.specs.Reduce.{Func, Config, Step, Asks, Ends}
use Rattle.wasm_tree.specs.Section.{CmajorSection, Slot, ends_of}
use Rattle.wasm_tree.specs.Slots.{write_values, write_block}
use Rattle.wasm_steps.specs.Steps.{Leads, reduce}
use Rattle.wasm_runs.specs.Calling.{Keeping, CallKeeps, CallsKeep, InitKeeps, IsFree}

-- ---- marks

-- The relation at a mark, or where a call of `frames` begins: the frames that are left, their streams in
-- the entries from the next one on, where the call goes on, and the next entry.
abbrev pub Waiting : Type 0 → Type 1
Waiting World = World → List (List ℤ) → List Inputs → Config → ℕ → Type 0

-- after the last mark a few reductions end the call, and the relation between two calls holds again
pub record BlockEnds {World : Type 0} (Kept : Keeping World) (funcs : List Func) (cost : ℕ) (current : List (List ℤ)) (world : World) (next : Config) : Type 0 where
  pub count : ℕ
  pub last : Config
  pub leads : Leads funcs count [] next last
  pub few : count < cost
  pub globals : List ℕ
  pub memory : List ℕ
  pub is : reduce funcs last ≡ Ends globals memory
  pub kept : Kept world current globals memory

abbrev pub BlockGoesOn : {World : Type 0} → Keeping World → Waiting World → List Func → ℕ → List (List ℤ) → World → List Inputs → Config → ℕ → Type 0
BlockGoesOn Kept Waits funcs cost current world [] next entry = BlockEnds Kept funcs cost current world next
BlockGoesOn Kept Waits funcs cost current world (inputs ∷ others) next entry = Waits world current (inputs ∷ others) next entry

-- a stretch comes to its mark, and the outputs in its entry are those of the frame
pub record StretchMarks {World : Type 0} (Kept : Keeping World) (Waits : Waiting World) (told : World → List Item) (funcs : List Func) (slots : List Slot) (cost frame : ℕ) (current : List (List ℤ)) (others : List Inputs) (entry : ℕ) (world : World) (step : Step) (trace : List Item) : Type 0 where
  pub memory : List ℕ
  pub next : Config
  pub is : step ≡ Asks (negsuc 0) memory next
  pub tells : told world ≡ frame_told slots entry frame memory trace
  pub goes_on : BlockGoesOn Kept Waits funcs cost current world others next (entry + 1)

-- ---- what a module owes

-- the frames of interface 2: a call begins, and a stretch goes to its mark
pub record BlocksKeep {World : Type 0} (Kept : Keeping World) (Waits : Waiting World) (m : Module) (section : CmajorSection) (length_of_block : ℕ) (source : Source World) : Type 0 where
  pub begins : (inputs : Inputs) (others : List Inputs) (world : World) (current : List (List ℤ)) (globals memory : List ℕ) →
      AllByRecursion (AreInputs source.ends) (inputs ∷ others) → length (inputs ∷ others) ≤ length_of_block → Kept world current globals memory →
      Waits world current (inputs ∷ others)
      (call_of m (codes "frames") (length (inputs ∷ others) ∷ []) globals (write_values section.slots current (write_block section.slots 0 (inputs ∷ others) memory))) 0
  pub stretches : (n frame : ℕ) (inputs : Inputs) (others coming : List Inputs) (world : World) (current : List (List ℤ)) (next : Config) (entry : ℕ) →
      AreInputs source.ends inputs → Waits world current (inputs ∷ others) next entry →
      CallKeeps (funcs_of m) section.slots frame source.cost n next (source.player.told world) source.player.told
      (StretchMarks Kept Waits source.player.told (funcs_of m) section.slots source.cost frame current others entry) (source.player.perform n (Frame frame inputs) coming world)

-- what a module of interface 2 owes in all
pub record OwesBlocks {World : Type 0} (Kept : Keeping World) (Waits : Waiting World) (m : Module) (section : CmajorSection) (size : ℕ) (source : Source World) : Type 0 where
  pub interface : section.interface ≡ Blocks (suc size)
  pub lawful : IsLawful source.ends
  pub endpoints : ends_of section ≡ source.ends
  pub nothing_told : source.player.told source.first ≡ []
  pub init : InitKeeps Kept m section source (zeros_of (ends_of section)) (first_globals m) (first_memory m)
  pub calls : CallsKeep Kept m section source
  pub blocks : BlocksKeep Kept Waits m section (suc size) source

-- ---- worlds and instances

-- a call of `frames` waits for the first of the frames that come, and for some of those after it
pub record IsWaiting {World : Type 0} (Waits : Waiting World) (told : World → List Item) (coming : List Inputs) (world : World) (instance : Instance) : Type 0 where
  pub block : Block
  pub is : instance.block ≡ Some block
  pub tells : told world ≡ instance.trace
  pub inputs : Inputs
  pub others : List Inputs
  pub later : List Inputs
  pub comes : coming ≡ inputs ∷ (others ++ later)
  pub counts : block.count ≡ block.told + length (inputs ∷ others)
  pub waits : Waits world instance.current (inputs ∷ others) block.next block.told

abbrev pub Related : {World : Type 0} → Keeping World → Waiting World → (World → List Item) → List Inputs → World → Instance → Type 0
Related Kept Waits told coming world instance = IsFree Kept told world instance ⊎ IsWaiting Waits told coming world instance
