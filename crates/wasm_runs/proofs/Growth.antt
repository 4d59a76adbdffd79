-- A player of a module only adds to what it told.
use Rattle.std.proofs.Common.{ℕ, ◌+◌, List, [], ◌∷◌, Bool, true, false, Some, refl}
use Rattle.std.specs.Prelude.{codes, unwrap_or, ◌==◌, if◌then◌else◌}
use Rattle.cm_base.specs.declared.play.Item.{Item}
use Rattle.cm_base.specs.Parts.{Inputs, Part, Init, Send, Frame}
use Rattle.cm_base.specs.Players.{Left, Goes}
use Rattle.wasm_tree.specs.declared.module.Module.{Module}
use Rattle.wasm_tree.specs.declared.interface.Interface.{Interface}
use Rattle.wasm_tree.specs.declared.interface.Interface.TheVariants.{Single, Blocks}
use Rattle.wasm_tree.specs.Section.{CmajorSection}
use Rattle.wasm_tree.specs.Reduce.{Config, exec}
use Rattle.wasm_tree.specs.Calls.{Heard, Returned, Marked, Exhausted, Failed}
use Rattle.wasm_tree.specs.HostRun.{Machine, Block, Instance, hears, call_left, no_more, frame_told, stretch, block_end, new_block, frame_part, module_part, module_player}
use Rattle.wasm_tree.specs.Instance.{funcs_of, call_of}
use Rattle.wasm_tree.specs.Slots.{event_name, write_event, write_inputs}
use Rattle.wasm_tree.specs.Keeps.{IsFront}
use Rattle.wasm_runs.specs.Follows.{told_after, Grows}
use Rattle.wasm_runs.proofs.Fronts.{front_same, front_add, front_then}
use Rattle.wasm_runs.proofs.Heard.{heard_told, heard_grows}
use Rattle.wasm_runs.proofs.Calls.{Adds, trace_of, call_left_grows, adds_none, adds_frame}

-- after a mark: the end of the call, or a wait
abbrev mark_or_end : Bool → Left Instance → Instance → Left Instance
mark_or_end last ends now = if last then ends else Goes now

mark_or_end_grows : (last : Bool) (told : List Item) (ends : Left Instance) (now : Instance) → IsFront told (told_after trace_of ends) → IsFront told now.trace →
    IsFront told (told_after trace_of (mark_or_end last ends now))
mark_or_end_grows true told ends now first second = first
mark_or_end_grows false told ends now first second = second

-- a part that is a call
call_grows : (machine : Machine) (frame : ℕ) (c : Config) (instance : Instance) (finish : List ℕ → List Item → List Item) → Adds finish →
    IsFront instance.trace (told_after trace_of (call_left instance finish (hears machine false frame c instance.trace)))
call_grows machine frame c instance finish adds =
    front_then (heard_grows machine.section.slots false frame (exec (funcs_of machine.module) machine.steps c) instance.trace)
    (call_left_grows instance finish adds (hears machine false frame c instance.trace))

-- a stretch, whatever is heard
pub stretch_grows : (machine : Machine) (frame : ℕ) (block : Block) (instance : Instance) (h : Heard) → IsFront (heard_told h) (told_after trace_of (stretch machine frame block instance h))
stretch_grows machine frame block instance (Returned globals memory told) = front_same told
stretch_grows machine frame block instance (Marked memory next told) =
    let now = record instance { trace = frame_told machine.section.slots block.told frame memory told } in
    mark_or_end_grows (block.told + 1 == block.count) told (block_end machine frame next now)
    (record now { block = Some (record { next = next; told = block.told + 1; count = block.count }) })
    (front_then (front_add told _) (call_grows machine (frame + 1) next now no_more adds_none)) (front_add told _)
stretch_grows machine frame block instance (Exhausted told) = front_same told
stretch_grows machine frame block instance (Failed told) = front_same told

-- a stretch from what was told before
block_grows : (machine : Machine) (frame : ℕ) (block : Block) (instance : Instance) →
    IsFront instance.trace (told_after trace_of (stretch machine frame block instance (hears machine true frame block.next instance.trace)))
block_grows machine frame block instance =
    front_then (heard_grows machine.section.slots true frame (exec (funcs_of machine.module) machine.steps block.next) instance.trace)
    (stretch_grows machine frame block instance (hears machine true frame block.next instance.trace))

frame_grows : (interface : Interface) (machine : Machine) (frame : ℕ) (inputs : Inputs) (coming : List Inputs) (instance : Instance) →
    IsFront instance.trace (told_after trace_of (frame_part interface machine frame inputs coming instance))
frame_grows Single machine frame inputs coming instance =
    call_grows machine frame (call_of machine.module (codes "frame") [] instance.globals (write_inputs machine.section.slots inputs instance.current instance.memory)) instance
    (frame_told machine.section.slots 0 frame) (adds_frame machine.section.slots 0 frame)
frame_grows (Blocks size) machine frame inputs coming instance =
    block_grows machine frame (unwrap_or instance.block (new_block machine size (inputs ∷ coming) instance)) instance

part_grows : (machine : Machine) (part : Part) (coming : List Inputs) (instance : Instance) → IsFront instance.trace (told_after trace_of (module_part machine part coming instance))
part_grows machine Init coming instance =
    call_grows machine 0 (call_of machine.module (codes "init") [] instance.globals instance.memory) instance no_more adds_none
part_grows machine (Send frame endpoint value inputs) coming instance =
    let slots = machine.section.slots in
    call_grows machine frame
    (call_of machine.module (event_name slots endpoint) [] instance.globals (write_event slots endpoint value (write_inputs slots inputs instance.current instance.memory)))
    instance no_more adds_none
part_grows machine (Frame frame inputs) coming instance = frame_grows machine.section.interface machine frame inputs coming instance

pub module_grows : (m : Module) (section : CmajorSection) → Grows (module_player m section)
module_grows m section = record {
  sets = λ endpoint value instance. refl;
  parts = λ steps. part_grows (record { «module» = m; section = section; steps = steps });
}
