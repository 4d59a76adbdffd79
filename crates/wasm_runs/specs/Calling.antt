-- What the code of a module owes for each call, so that the module keeps a source's runs: docs/PROOFS.md, "The
-- headline".
use Rattle.std.specs.Prelude.{◌≡◌, ◌+◌, ◌*◌, ◌<◌, ◌≤◌, ◌++◌, ℕ, List, [], ◌∷◌, slice_set, codes, Some, None, ℤ, pos}
use Rattle.cm_base.specs.declared.host.Kind.TheVariants as kinds
use Rattle.cm_base.specs.declared.play.Item.{Item}
use Rattle.cm_base.specs.declared.play.Item.TheVariants as item
use Rattle.cm_base.specs.HostEnds.{IsLawful}
use Rattle.cm_base.specs.Parts.{Inputs, Part, Init, Send, Frame}
use Rattle.cm_base.specs.Players.{Left, Goes, Spent, Traps, Source}
use Rattle.cm_base.specs.Tasks.{AreInputs, IsTaken}
use Rattle.wasm_tree.specs.declared.interface.Interface.TheVariants.{Single}
use Rattle.wasm_tree.specs.declared.module.Module.{Module}
use Rattle.wasm_tree.specs.HostRun.{Instance, no_more, frame_told, zeros_of}
use Rattle.wasm_tree.specs.Instance.{funcs_of, call_of, first_globals, first_memory}
use Rattle.wasm_tree.specs.Reduce.{Func, Config, Step, Ends}
use Rattle.wasm_tree.specs.Section.{CmajorSection, Slot, ends_of}
use Rattle.wasm_tree.specs.Slots.{event_name, event_slot, write_event, write_inputs, read_slot}
use Rattle.wasm_tree.specs.Stopped.{kept_globals, restored_globals, kept_current, restored_current}
use Rattle.wasm_steps.specs.Steps.{Emission, HostCall, host_calls, Leads, reduce}
use Rattle.wasm_runs.specs.Follows.{Grows}

-- ---- events

-- a call of the host with the number of an output event endpoint tells an event
pub record TellsEvent (slots : List Slot) (frame : ℕ) (call : HostCall) (told : Item) : Type 0 where
  pub number : ℕ
  pub is : call.number ≡ pos number
  pub slot : Slot
  pub found : event_slot slots number ≡ Some slot
  pub tells : told ≡ item.Event frame number (read_slot slot 0 call.memory)

abbrev pub TellEvents : List Slot → ℕ → List HostCall → List Item → Type 0
TellEvents slots frame [] items = items ≡ []
TellEvents slots frame (call ∷ calls) [] = ⊥
TellEvents slots frame (call ∷ calls) (told ∷ items) = TellsEvent slots frame call told × TellEvents slots frame calls items

-- ---- a call against a part of the source

-- fewer reductions than `most` lead to a last one, and the events of them are told
pub record CallEnds (funcs : List Func) (slots : List Slot) (frame most : ℕ) (c : Config) (trace : List Item) (After : Step → List Item → Type 0) : Type 0 where
  pub count : ℕ
  pub es : List Emission
  pub last : Config
  pub items : List Item
  pub leads : Leads funcs count es c last
  pub few : count < most
  pub heard : TellEvents slots frame (host_calls es) items
  pub after : After (reduce funcs last) (trace ++ items)

-- from `least` to `most` reductions lead on, and their events are all that the source told
pub record CallLacks (funcs : List Func) (slots : List Slot) (frame least most : ℕ) (c : Config) (trace told : List Item) : Type 0 where
  pub count : ℕ
  pub es : List Emission
  pub last : Config
  pub items : List Item
  pub leads : Leads funcs count es c last
  pub enough : least ≤ count
  pub few : count ≤ most
  pub heard : TellEvents slots frame (host_calls es) items
  pub tells : told ≡ trace ++ items

-- a call against what the source's part leaves with n turns
abbrev pub CallKeeps : {World : Type 0} → List Func → List Slot → (frame cost n : ℕ) → Config → List Item → (World → List Item) → (World → Step → List Item → Type 0) → Left World → Type 0
CallKeeps funcs slots frame cost n c trace told After (Goes world) = CallEnds funcs slots frame (cost * (n + 1)) c trace (After world)
CallKeeps funcs slots frame cost n c trace told After (Spent world) = CallLacks funcs slots frame n (cost * (n + 1)) c trace (told world)
CallKeeps funcs slots frame cost n c trace told After (Traps world) = ⊥

-- The relation between the source's world and the module between two calls: the host's current values, the
-- globals and the memory.
abbrev pub Keeping : Type 0 → Type 1
Keeping World = World → List (List ℤ) → List ℕ → List ℕ → Type 0

-- the call returns, the source told what `finish` makes of the memory and the trace, and the relation holds again
pub record CallReturns {World : Type 0} (Kept : Keeping World) (told : World → List Item) (current : List (List ℤ)) (finish : List ℕ → List Item → List Item) (world : World) (step : Step) (trace : List Item) : Type 0 where
  pub globals : List ℕ
  pub memory : List ℕ
  pub is : step ≡ Ends globals memory
  pub tells : told world ≡ finish memory trace
  pub kept : Kept world current globals memory

-- ---- what a module owes

-- `init` from the first instance
abbrev pub InitKeeps : {World : Type 0} → Keeping World → Module → CmajorSection → Source World → (current : List (List ℤ)) → (globals memory : List ℕ) → Type 0
InitKeeps Kept m section source current globals memory = (n : ℕ) (coming : List Inputs) →
    CallKeeps (funcs_of m) section.slots 0 source.cost n (call_of m (codes "init") [] globals memory)
    (source.player.told source.first) source.player.told (CallReturns Kept source.player.told current no_more) (source.player.perform n Init coming source.first)

-- setting values, and calls for events
pub record CallsKeep {World : Type 0} (Kept : Keeping World) (m : Module) (section : CmajorSection) (source : Source World) : Type 0 where
  pub grows : Grows source.player
  pub sets : (endpoint : ℕ) (value : List ℤ) (world : World) (current : List (List ℤ)) (globals memory : List ℕ) → IsTaken kinds.Value source.ends endpoint value →
      Kept world current globals memory → Kept (source.player.set endpoint value world) (slice_set current endpoint value) globals memory
  pub sends : (n frame endpoint : ℕ) (value : List ℤ) (inputs : Inputs) (coming : List Inputs) (world : World) (current : List (List ℤ)) (globals memory : List ℕ) →
      IsTaken kinds.Event source.ends endpoint value → AreInputs source.ends inputs → Kept world current globals memory →
      CallKeeps (funcs_of m) section.slots frame source.cost n
      (call_of m (event_name section.slots endpoint) [] globals (write_event section.slots endpoint value (write_inputs section.slots inputs current memory)))
      (source.player.told world) source.player.told (CallReturns Kept source.player.told current no_more) (source.player.perform n (Send frame endpoint value inputs) coming world)

-- a frame of interface 1
abbrev pub SinglesKeep : {World : Type 0} → Keeping World → Module → CmajorSection → Source World → Type 0
SinglesKeep {World} Kept m section source =
    (n frame : ℕ) (inputs : Inputs) (coming : List Inputs) (world : World) (current : List (List ℤ)) (globals memory : List ℕ) → AreInputs source.ends inputs → Kept world current globals memory →
    CallKeeps (funcs_of m) section.slots frame source.cost n (call_of m (codes "frame") [] globals (write_inputs section.slots inputs current memory))
    (source.player.told world) source.player.told (CallReturns Kept source.player.told current (frame_told section.slots 0 frame)) (source.player.perform n (Frame frame inputs) coming world)

-- what a module of interface 1 owes in all
pub record OwesSingles {World : Type 0} (Kept : Keeping World) (m : Module) (section : CmajorSection) (source : Source World) : Type 0 where
  pub interface : section.interface ≡ Single
  pub lawful : IsLawful source.ends
  pub endpoints : ends_of section ≡ source.ends
  pub nothing_told : source.player.told source.first ≡ []
  pub init : InitKeeps Kept m section source (zeros_of (ends_of section)) (first_globals m) (first_memory m)
  pub calls : CallsKeep Kept m section source
  pub frames : SinglesKeep Kept m section source

-- ---- worlds and instances

-- no call of `frames` waits
pub record IsFree {World : Type 0} (Kept : Keeping World) (told : World → List Item) (world : World) (instance : Instance) : Type 0 where
  pub block : instance.block ≡ None
  pub tells : told world ≡ instance.trace
  pub kept : Kept world instance.current instance.globals instance.memory

-- what the relation between two calls says besides, where runs are stopped and resumed: a part doesn't depend on
-- the frames that come, and the globals and current values come back from a snapshot
pub record CanResume {World : Type 0} (Kept : Keeping World) (m : Module) (section : CmajorSection) (source : Source World) : Type 0 where
  pub ignores : (n : ℕ) (part : Part) (coming : List Inputs) (world : World) → source.player.perform n part coming world ≡ source.player.perform n part [] world
  pub globals : (world : World) (current : List (List ℤ)) (globals memory : List ℕ) → Kept world current globals memory → restored_globals m.globals (kept_globals m.globals globals) ≡ globals
  pub current : (world : World) (current : List (List ℤ)) (globals memory : List ℕ) → Kept world current globals memory → restored_current (ends_of section) (kept_current (ends_of section) current) ≡ current
