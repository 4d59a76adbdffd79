-- What a host's run of a module is: docs/MODULE.md, "How a run goes". The module is a player of the tasks of a
-- run (`Parts` and `Players` of `cm_base`) by calls of its exports, each with a budget of reductions. Here a part
-- is a part of a run, and a frame is the last part of a frame of the script.
use Rattle.std.specs.Prelude.{ℕ, ◌+◌, ◌==◌, List, [], ◌∷◌, ◌++◌, length, map, take, replicate, slice_set, Bool, true, false, if◌then◌else◌, Option, Some, None, unwrap_or, ℤ, pos, codes}
use Rattle.cm_base.specs.declared.host.HostEnd.{HostEnd}
use Rattle.cm_base.specs.declared.play.Item.{Item}
use Rattle.cm_base.specs.declared.play.Item.TheVariants as item
use Rattle.cm_base.specs.declared.play.Saved.{Saved}
use Rattle.cm_base.specs.declared.play.Script.{Script}
use Rattle.cm_base.specs.Parts.{Inputs, Part, Init, Send, Frame, Task, tasks_of}
use Rattle.cm_base.specs.Players.{Left, Goes, Spent, Traps, Player, Stop, Outcome, PartEnd, stops, play, play_part}
use Rattle.wasm_tree.specs.declared.interface.Interface.{Interface}
use Rattle.wasm_tree.specs.declared.interface.Interface.TheVariants.{Single, Blocks}
use Rattle.wasm_tree.specs.declared.module.Module.{Module}
use Rattle.wasm_tree.specs.Calls.{Heard, Returned, Marked, Exhausted, Failed, heard}
use Rattle.wasm_tree.specs.Instance.{funcs_of, call_of, first_globals, first_memory}
use Rattle.wasm_tree.specs.Reduce.{Config, exec}
use Rattle.wasm_tree.specs.Section.{CmajorSection, Slot, ends_of}
use Rattle.wasm_tree.specs.Slots.{write_inputs, write_block, write_values, write_event, event_name, outputs_at}

-- what a host calls: a module, what its section says, and how many reductions a call may take, or a stretch of
-- a call of `frames`
pub record Machine : Type 0 where
  pub «module» : Module
  pub section : CmajorSection
  pub steps : ℕ

-- a call of `frames` that has frames left: where it goes on, how many frames it has told, and of how many
pub record Block : Type 0 where
  pub next : Config
  pub told : ℕ
  pub count : ℕ

-- what a run keeps between its parts
pub record Instance : Type 0 where
  pub globals : List ℕ
  pub memory : List ℕ
  pub current : List (List ℤ)
  pub block : Option Block
  pub trace : List Item

-- ---- calls

-- what a host hears from here on, with the whole budget
abbrev pub hears : Machine → (marks : Bool) → (frame : ℕ) → Config → List Item → Heard
hears machine marks frame c told = heard machine.section.slots marks frame (exec (funcs_of machine.module) machine.steps c) told

-- what a call leaves that is to return: then the trace is what `finish` makes of the memory and of what was told
abbrev pub call_left : Instance → (finish : List ℕ → List Item → List Item) → Heard → Left Instance
call_left instance finish (Returned globals memory told) =
    Goes (record instance { globals = globals; memory = memory; block = None; trace = finish memory told })
call_left instance finish (Marked memory next told) = Traps (record instance { trace = told })
call_left instance finish (Exhausted told) = Spent (record instance { trace = told })
call_left instance finish (Failed told) = Traps (record instance { trace = told })

-- nothing more is told
abbrev pub no_more : List ℕ → List Item → List Item
no_more memory told = told

-- the frame is told, with the outputs at this entry
abbrev pub frame_told : List Slot → (entry frame : ℕ) → List ℕ → List Item → List Item
frame_told slots entry frame memory told = told ++ item.Frame frame (outputs_at slots entry memory) ∷ []

-- ---- frames of interface 1

-- one call, and then the outputs are read
abbrev pub single_frame : Machine → (frame : ℕ) → Inputs → Instance → Left Instance
single_frame machine frame inputs instance =
    let slots = machine.section.slots in
    let c = call_of machine.module (codes "frame") [] instance.globals (write_inputs slots inputs instance.current instance.memory) in
    call_left instance (frame_told slots 0 frame) (hears machine false frame c instance.trace)

-- ---- frames of interface 2

-- the end of a call of `frames`, after its last frame: it belongs to that frame's part, and an event in it to the next frame
abbrev pub block_end : Machine → (frame : ℕ) → Config → Instance → Left Instance
block_end machine frame next instance = call_left instance no_more (hears machine false (frame + 1) next instance.trace)

-- the frame is told with the outputs at its entry; then the call waits for its next frame, or after the last one it ends
abbrev pub marked : Machine → (frame : ℕ) → Block → Instance → List ℕ → Config → List Item → Left Instance
marked machine frame block instance memory next told =
    let now = record instance { trace = frame_told machine.section.slots block.told frame memory told } in
    if block.told + 1 == block.count then block_end machine frame next now
    else Goes (record now { block = Some (record { next = next; told = block.told + 1; count = block.count }) })

-- a stretch of a call of `frames`, up to a mark. A call that ends before traps
abbrev pub stretch : Machine → (frame : ℕ) → Block → Instance → Heard → Left Instance
stretch machine frame block instance (Returned globals memory told) = Traps (record instance { trace = told })
stretch machine frame block instance (Marked memory next told) = marked machine frame block instance memory next told
stretch machine frame block instance (Exhausted told) = Spent (record instance { trace = told })
stretch machine frame block instance (Failed told) = Traps (record instance { trace = told })

-- a new call of `frames` takes as many of the frames that follow as its block has room for
abbrev pub new_block : Machine → (length_of_block : ℕ) → List Inputs → Instance → Block
new_block machine length_of_block coming instance =
    let slots = machine.section.slots in
    let inputs = take length_of_block coming in
    record {
      next = call_of machine.module (codes "frames") (length inputs ∷ []) instance.globals (write_values slots instance.current (write_block slots 0 inputs instance.memory));
      told = 0;
      count = length inputs;
    }

abbrev pub block_frame : Machine → (length_of_block frame : ℕ) → List Inputs → Instance → Left Instance
block_frame machine length_of_block frame coming instance =
    let block = unwrap_or instance.block (new_block machine length_of_block coming instance) in
    stretch machine frame block instance (hears machine true frame block.next instance.trace)

-- ---- parts

abbrev pub frame_part : Interface → Machine → (frame : ℕ) → Inputs → List Inputs → Instance → Left Instance
frame_part Single machine frame inputs following instance = single_frame machine frame inputs instance
frame_part (Blocks length_of_block) machine frame inputs following instance = block_frame machine length_of_block frame (inputs ∷ following) instance

abbrev pub module_part : Machine → Part → List Inputs → Instance → Left Instance
module_part machine Init following instance =
    call_left instance no_more (hears machine false 0 (call_of machine.module (codes "init") [] instance.globals instance.memory) instance.trace)
module_part machine (Send frame endpoint value inputs) following instance =
    let slots = machine.section.slots in
    let memory = write_event slots endpoint value (write_inputs slots inputs instance.current instance.memory) in
    call_left instance no_more (hears machine false frame (call_of machine.module (event_name slots endpoint) [] instance.globals memory) instance.trace)
module_part machine (Frame frame inputs) following instance = frame_part machine.section.interface machine frame inputs following instance

-- ---- runs

abbrev pub module_player : Module → CmajorSection → Player Instance
module_player m section =
    record {
      set = λ endpoint value instance. record instance { current = slice_set instance.current endpoint value };
      perform = λ steps. module_part (record { «module» = m; section = section; steps = steps });
      told = λ instance. instance.trace;
    }

-- the host's values start at zero
abbrev pub zeros_of : List HostEnd → List (List ℤ)
zeros_of ends = map (λ end. replicate (length end.shape) (pos 0)) ends

abbrev pub first_instance : Module → CmajorSection → Instance
first_instance m section =
    record { globals = first_globals m; memory = first_memory m; current = zeros_of (ends_of section); block = None; trace = [] }

-- where a run of tasks stops that begins with this instance, with a budget of so many reductions
abbrev pub module_stops : Module → CmajorSection → List Task → Instance → (steps : ℕ) → Stop Instance
module_stops m section tasks first steps = stops (module_player m section) steps tasks first

abbrev pub module_play : Module → CmajorSection → List Task → Instance → (steps : ℕ) → Outcome
module_play m section tasks first steps = play (module_player m section) steps tasks first

-- how the part of this number comes out
abbrev pub module_play_part : Module → CmajorSection → List Task → Instance → (steps number : ℕ) → PartEnd
module_play_part m section tasks first steps number = play_part (module_player m section) steps steps number tasks first

abbrev pub host_tasks : CmajorSection → List Saved → Script → (frames : ℕ) → List Task
host_tasks section saved script frames = tasks_of (ends_of section) saved script frames

-- the run of the module over so many frames
abbrev pub host_run : Module → CmajorSection → List Saved → Script → (frames steps : ℕ) → Outcome
host_run m section saved script frames steps = module_play m section (host_tasks section saved script frames) (first_instance m section) steps

abbrev pub host_stops : Module → CmajorSection → List Saved → Script → (frames steps : ℕ) → Stop Instance
host_stops m section saved script frames steps = module_stops m section (host_tasks section saved script frames) (first_instance m section) steps

abbrev pub host_part : Module → CmajorSection → List Saved → Script → (frames steps number : ℕ) → PartEnd
host_part m section saved script frames steps number =
    module_play_part m section (host_tasks section saved script frames) (first_instance m section) steps number
