-- A module doesn't see the numbers of frames: a run that begins later tells the same so many frames later.
use Rattle.std.proofs.Common.{◌≡◌, ℕ, zero, suc, ◌+◌, List, [], ◌∷◌, ◌++◌, map, Bool, true, false, Option, Some, None, refl, sym, ap, ◌∙◌, append_assoc, ℤ, pos, negsuc, arith}
use Rattle.std.specs.Prelude.{codes, unwrap_or, ◌==◌, if◌then◌else◌}
use Rattle.std.specs.List.{AllByRecursion}
use Rattle.std.proofs.lemmas.List.{map-append}
use Rattle.cm_base.specs.declared.host.HostEnd.{HostEnd}
use Rattle.cm_base.specs.declared.play.Item.{Item}
use Rattle.cm_base.specs.declared.play.Item.TheVariants as item
use Rattle.cm_base.specs.Parts.{Inputs, Part, Init, Send, Frame, Task, Set, Begin, following}
use Rattle.cm_base.specs.Players.{Left, Goes, Spent, Traps, Stop, AtEnd, OutIn, TrappedIn, after_part, stops, Ending, Ended, Out, Trapped, Outcome, outcome_of}
use Rattle.cm_base.specs.Tasks.{IsTask}
use Rattle.wasm_tree.specs.declared.interface.Interface.{Interface}
use Rattle.wasm_tree.specs.declared.interface.Interface.TheVariants.{Single, Blocks}
use Rattle.wasm_tree.specs.declared.module.Module.{Module}
use Rattle.wasm_tree.specs.Calls.{Heard, Returned, Marked, Exhausted, Failed, if_some, emitted, heard}
use Rattle.wasm_tree.specs.HostRun.{Machine, Block, Instance, hears, call_left, no_more, frame_told, block_end, marked, stretch, new_block, frame_part, module_part, module_player}
use Rattle.wasm_tree.specs.Instance.{funcs_of, call_of}
use Rattle.wasm_tree.specs.Reduce.{Config, Run, Done, Trapped as RunTrapped, Out as RunOut, Stuck, Emits, exec}
use Rattle.wasm_tree.specs.Section.{CmajorSection, Slot}
use Rattle.wasm_tree.specs.Slots.{event_slot, read_slot, outputs_at, event_name, write_event, write_inputs}
use Rattle.wasm_tree.specs.Stopped.{later_item, joined_traces}
use Rattle.wasm_runs.proofs.Joined.{later_part, later_task}

-- ---- what is moved

-- an instance, so many frames later and after this trace
abbrev pub moved : ℕ → List Item → Instance → Instance
moved frames before instance = record instance { trace = joined_traces frames before instance.trace }

abbrev pub moved_left : ℕ → List Item → Left Instance → Left Instance
moved_left frames before (Goes instance) = Goes (moved frames before instance)
moved_left frames before (Spent instance) = Spent (moved frames before instance)
moved_left frames before (Traps instance) = Traps (moved frames before instance)

abbrev moved_heard : ℕ → List Item → Heard → Heard
moved_heard frames before (Returned globals memory told) = Returned globals memory (joined_traces frames before told)
moved_heard frames before (Marked memory next told) = Marked memory next (joined_traces frames before told)
moved_heard frames before (Exhausted told) = Exhausted (joined_traces frames before told)
moved_heard frames before (Failed told) = Failed (joined_traces frames before told)

-- one more item
one_more : (frames : ℕ) (before told : List Item) (i : Item) → joined_traces frames before told ++ later_item frames i ∷ [] ≡ joined_traces frames before (told ++ i ∷ [])
one_more frames before told i = append_assoc before (map (later_item frames) told) (later_item frames i ∷ []) ∙ ap (λ l. before ++ l) (sym (map-append (later_item frames) told (i ∷ [])))

-- ---- calls

slot_moves : (found : Option Slot) (frames frame number : ℕ) (memory : List ℕ) (before told : List Item) (go on : List Item → Heard) →
    ((now : List Item) → on (joined_traces frames before now) ≡ moved_heard frames before (go now)) →
    if_some found (Failed (joined_traces frames before told)) (λ slot. on (joined_traces frames before told ++ item.Event (frames + frame) number (read_slot slot 0 memory) ∷ []))
    ≡ moved_heard frames before (if_some found (Failed told) (λ slot. go (told ++ item.Event frame number (read_slot slot 0 memory) ∷ [])))
slot_moves None frames frame number memory before told go on same = refl
slot_moves (Some slot) frames frame number memory before told go on same = ap on (one_more frames before told (item.Event frame number (read_slot slot 0 memory))) ∙ same _

emitted_moves : (slots : List Slot) (marks : Bool) (frames frame : ℕ) (number : ℤ) (memory : List ℕ) (next : Config) (before told : List Item) (go on : List Item → Heard) →
    ((now : List Item) → on (joined_traces frames before now) ≡ moved_heard frames before (go now)) →
    emitted slots marks (frames + frame) number memory next (joined_traces frames before told) on ≡ moved_heard frames before (emitted slots marks frame number memory next told go)
emitted_moves slots marks frames frame (pos number) memory next before told go on same = slot_moves (event_slot slots number) frames frame number memory before told go on same
emitted_moves slots true frames frame (negsuc zero) memory next before told go on same = refl
emitted_moves slots false frames frame (negsuc zero) memory next before told go on same = refl
emitted_moves slots marks frames frame (negsuc (suc n)) memory next before told go on same = refl

-- what is heard of a call
heard_moves : (slots : List Slot) (marks : Bool) (frames frame : ℕ) (run : Run) (before told : List Item) →
    heard slots marks (frames + frame) run (joined_traces frames before told) ≡ moved_heard frames before (heard slots marks frame run told)
unfolding heard
heard_moves slots marks frames frame (Done globals memory) before told = refl
heard_moves slots marks frames frame RunTrapped before told = refl
heard_moves slots marks frames frame RunOut before told = refl
heard_moves slots marks frames frame Stuck before told = refl
heard_moves slots marks frames frame (Emits number memory next rest) before told =
    emitted_moves slots marks frames frame number memory next before told (heard slots marks frame rest) (heard slots marks (frames + frame) rest) (heard_moves slots marks frames frame rest before)

-- a call, where what is told after it is moved too
abbrev Moves : ℕ → (List ℕ → List Item → List Item) → (List ℕ → List Item → List Item) → Type 0
Moves frames finish on = (memory : List ℕ) (before told : List Item) → on memory (joined_traces frames before told) ≡ joined_traces frames before (finish memory told)

call_moves : (frames : ℕ) (before : List Item) (instance : Instance) (finish on : List ℕ → List Item → List Item) → Moves frames finish on → (h : Heard) →
    call_left (moved frames before instance) on (moved_heard frames before h) ≡ moved_left frames before (call_left instance finish h)
call_moves frames before instance finish on moves (Returned globals memory told) = ap (λ trace. Goes (record instance { globals = globals; memory = memory; block = None; trace = trace })) (moves memory before told)
call_moves frames before instance finish on moves (Marked memory next told) = refl
call_moves frames before instance finish on moves (Exhausted told) = refl
call_moves frames before instance finish on moves (Failed told) = refl

none_moves : (frames : ℕ) → Moves frames no_more no_more
none_moves frames memory before told = refl

frame_moves : (slots : List Slot) (entry frames frame : ℕ) → Moves frames (frame_told slots entry frame) (frame_told slots entry (frames + frame))
frame_moves slots entry frames frame memory before told = one_more frames before told (item.Frame frame (outputs_at slots entry memory))

whole_call_moves : (machine : Machine) (frames frame : ℕ) (before : List Item) (instance : Instance) (c : Config) (finish on : List ℕ → List Item → List Item) → Moves frames finish on →
    call_left (moved frames before instance) on (hears machine false (frames + frame) c (joined_traces frames before instance.trace))
    ≡ moved_left frames before (call_left instance finish (hears machine false frame c instance.trace))
whole_call_moves machine frames frame before instance c finish on moves =
    ap (call_left (moved frames before instance) on) (heard_moves machine.section.slots false frames frame (exec (funcs_of machine.module) machine.steps c) before instance.trace)
    ∙ call_moves frames before instance finish on moves (hears machine false frame c instance.trace)

-- ---- blocks

end_moves : (machine : Machine) (frames frame : ℕ) (before : List Item) (next : Config) (instance : Instance) →
    block_end machine (frames + frame) next (moved frames before instance) ≡ moved_left frames before (block_end machine frame next instance)
end_moves machine frames frame before next instance =
    let same : (frames + frame) + 1 ≡ frames + (frame + 1) = omega arith in
    ap (λ f. call_left (moved frames before instance) no_more (hears machine false f next (joined_traces frames before instance.trace))) same
    ∙ whole_call_moves machine frames (frame + 1) before instance next no_more no_more (none_moves frames)

choice_moves : (last : Bool) (frames : ℕ) (before : List Item) (ends on : Left Instance) (now : Instance) → on ≡ moved_left frames before ends →
    (if last then on else Goes (moved frames before now)) ≡ moved_left frames before (if last then ends else Goes now)
choice_moves true frames before ends on now same = same
choice_moves false frames before ends on now same = refl

mark_moves : (machine : Machine) (frames frame : ℕ) (before : List Item) (block : Block) (instance : Instance) (memory : List ℕ) (next : Config) (told : List Item) →
    marked machine (frames + frame) block (moved frames before instance) memory next (joined_traces frames before told) ≡ moved_left frames before (marked machine frame block instance memory next told)
mark_moves machine frames frame before block instance memory next told =
    let slots = machine.section.slots in
    let now = record instance { trace = frame_told slots block.told frame memory told } in
    let same : frame_told slots block.told (frames + frame) memory (joined_traces frames before told) ≡ joined_traces frames before now.trace = one_more frames before told (item.Frame frame (outputs_at slots block.told memory)) in
    ap (λ trace. if block.told + 1 == block.count then block_end machine (frames + frame) next (record instance { trace = trace })
    else Goes (record instance { trace = trace; block = Some (record { next = next; told = block.told + 1; count = block.count }) })) same
    ∙ choice_moves (block.told + 1 == block.count) frames before (block_end machine frame next now) (block_end machine (frames + frame) next (moved frames before now))
    (record now { block = Some (record { next = next; told = block.told + 1; count = block.count }) }) (end_moves machine frames frame before next now)

stretch_moves : (machine : Machine) (frames frame : ℕ) (before : List Item) (block : Block) (instance : Instance) (h : Heard) →
    stretch machine (frames + frame) block (moved frames before instance) (moved_heard frames before h) ≡ moved_left frames before (stretch machine frame block instance h)
stretch_moves machine frames frame before block instance (Returned globals memory told) = refl
stretch_moves machine frames frame before block instance (Marked memory next told) = mark_moves machine frames frame before block instance memory next told
stretch_moves machine frames frame before block instance (Exhausted told) = refl
stretch_moves machine frames frame before block instance (Failed told) = refl

frame_part_moves : (interface : Interface) (machine : Machine) (frames frame : ℕ) (before : List Item) (inputs : Inputs) (coming : List Inputs) (instance : Instance) →
    frame_part interface machine (frames + frame) inputs coming (moved frames before instance) ≡ moved_left frames before (frame_part interface machine frame inputs coming instance)
frame_part_moves Single machine frames frame before inputs coming instance =
    let slots = machine.section.slots in
    whole_call_moves machine frames frame before instance (call_of machine.module (codes "frame") [] instance.globals (write_inputs slots inputs instance.current instance.memory))
    (frame_told slots 0 frame) (frame_told slots 0 (frames + frame)) (frame_moves slots 0 frames frame)
frame_part_moves (Blocks size) machine frames frame before inputs coming instance =
    let block = unwrap_or instance.block (new_block machine size (inputs ∷ coming) instance) in
    ap (stretch machine (frames + frame) block (moved frames before instance)) (heard_moves machine.section.slots true frames frame (exec (funcs_of machine.module) machine.steps block.next) before instance.trace)
    ∙ stretch_moves machine frames frame before block instance (hears machine true frame block.next instance.trace)

-- ---- parts and runs

-- a part after the inits
abbrev IsLater : Part → Type 0
IsLater Init = ⊥
IsLater (Send frame endpoint value inputs) = Unit {0}
IsLater (Frame frame inputs) = Unit {0}

-- what a part leaves
part_moves : (machine : Machine) (frames : ℕ) (before : List Item) (part : Part) (coming : List Inputs) (instance : Instance) → IsLater part →
    module_part machine (later_part frames part) coming (moved frames before instance) ≡ moved_left frames before (module_part machine part coming instance)
part_moves machine frames before Init coming instance is = absurd is
part_moves machine frames before (Send frame endpoint value inputs) coming instance is =
    let slots = machine.section.slots in
    whole_call_moves machine frames frame before instance
    (call_of machine.module (event_name slots endpoint) [] instance.globals (write_event slots endpoint value (write_inputs slots inputs instance.current instance.memory)))
    no_more no_more (none_moves frames)
part_moves machine frames before (Frame frame inputs) coming instance is = frame_part_moves machine.section.interface machine frames frame before inputs coming instance

is_later : (ends : List HostEnd) (part : Part) → IsTask ends (Begin part) → IsLater part
is_later ends Init is = is
is_later ends (Send frame endpoint value inputs) is = tt
is_later ends (Frame frame inputs) is = tt

following_later : (frames : ℕ) (tasks : List Task) → following (map (later_task frames) tasks) ≡ following tasks
following_later frames [] = refl
following_later frames (Set endpoint value ∷ tasks) = refl
following_later frames (Begin Init ∷ tasks) = refl
following_later frames (Begin (Send frame endpoint value inputs) ∷ tasks) = refl
following_later frames (Begin (Frame frame inputs) ∷ tasks) = ap (λ l. inputs ∷ l) (following_later frames tasks)

-- how a run ends that begins later
abbrev pub moved_ending : ℕ → Ending → Ending
moved_ending frames Ended = Ended
moved_ending frames (Out part) = Out (later_part frames part)
moved_ending frames (Trapped part) = Trapped (later_part frames part)

abbrev pub moved_outcome : ℕ → List Item → Outcome → Outcome
moved_outcome frames before outcome = record { trace = joined_traces frames before outcome.trace; ending = moved_ending frames outcome.ending }

-- where a run stops that begins later
abbrev pub moved_stop : ℕ → List Item → Stop Instance → Stop Instance
moved_stop frames before (AtEnd instance) = AtEnd (moved frames before instance)
moved_stop frames before (OutIn part instance) = OutIn (later_part frames part) (moved frames before instance)
moved_stop frames before (TrappedIn part instance) = TrappedIn (later_part frames part) (moved frames before instance)

-- what it tells is moved too
pub outcome_moves : (frames : ℕ) (before : List Item) (stop : Stop Instance) →
    outcome_of (λ (i : Instance). i.trace) (moved_stop frames before stop) ≡ moved_outcome frames before (outcome_of (λ (i : Instance). i.trace) stop)
outcome_moves frames before (AtEnd instance) = refl
outcome_moves frames before (OutIn part instance) = refl
outcome_moves frames before (TrappedIn part instance) = refl

after_moves : (frames : ℕ) (before : List Item) (part : Part) (left : Left Instance) (go on : Instance → Stop Instance) → ((instance : Instance) → on (moved frames before instance) ≡ moved_stop frames before (go instance)) →
    after_part (later_part frames part) (moved_left frames before left) on ≡ moved_stop frames before (after_part part left go)
after_moves frames before part (Goes instance) go on same = same instance
after_moves frames before part (Spent instance) go on same = refl
after_moves frames before part (Traps instance) go on same = refl

-- a run of tasks that come so many frames later stops so much later
pub stops_move : (m : Module) (section : CmajorSection) (ends : List HostEnd) (steps frames : ℕ) (before : List Item) (tasks : List Task) (instance : Instance) → AllByRecursion (IsTask ends) tasks →
    stops (module_player m section) steps (map (later_task frames) tasks) (moved frames before instance) ≡ moved_stop frames before (stops (module_player m section) steps tasks instance)
unfolding stops
stops_move m section ends steps frames before [] instance all = refl
stops_move m section ends steps frames before (Set endpoint value ∷ tasks) instance all =
    stops_move m section ends steps frames before tasks ((module_player m section).set endpoint value instance) all.1
stops_move m section ends steps frames before (Begin part ∷ tasks) instance all =
    let machine : Machine = record { «module» = m; section = section; steps = steps } in
    ap (λ coming. after_part (later_part frames part) (module_part machine (later_part frames part) coming (moved frames before instance))
    (stops (module_player m section) steps (map (later_task frames) tasks))) (following_later frames tasks)
    ∙ (ap (λ left. after_part (later_part frames part) left (stops (module_player m section) steps (map (later_task frames) tasks)))
    (part_moves machine frames before part (following tasks) instance (is_later ends part all.0))
    ∙ after_moves frames before part (module_part machine part (following tasks) instance) (stops (module_player m section) steps tasks) (stops (module_player m section) steps (map (later_task frames) tasks))
    (λ next. stops_move m section ends steps frames before tasks next all.1))
