-- The parts of a run that the player carries out.
use Rattle.std.proofs.Common.{◌≡◌, ◌≢◌, ◌<◌, ◌≤◌, ◌+◌, ◌++◌, ℕ, zero, suc, List, [], ◌∷◌, length, take, Bool, true, false, Option, Some, None, refl, sym, ap, ◌∙◌, subst, append_assoc, arith, ℤ}
use Rattle.std.specs.Prelude.{codes, unwrap_or}
use Rattle.cm_base.specs.declared.play.Item.{Item}
use Rattle.cm_base.specs.declared.play.Item.TheVariants as item
use Rattle.cm_base.specs.Parts.{Inputs, inputs_at, Part, Init, Send, Frame, Task, Begin, at_of, following}
use Rattle.cm_base.specs.Players.{Stop, after_part, stops}
use Rattle.wasm_tree.specs.declared.interface.Interface.{Interface}
use Rattle.wasm_tree.specs.declared.interface.Interface.TheVariants.{Single, Blocks}
use Rattle.wasm_tree.specs.Calls.{Heard, Returned}
use Rattle.wasm_tree.specs.HostRun.{Instance, Block, hears, call_left, no_more, frame_told, new_block, frame_part, module_part, module_player, stretch}
use Rattle.wasm_tree.specs.Instance.{call_of}
use Rattle.wasm_tree.specs.Reduce.{Config}
use Rattle.wasm_tree.specs.Keeps.{IsFront}
use Rattle.wasm_tree.specs.Slots.{write_inputs, write_event, write_values, write_block, event_name, outputs_at}
use Rattle.wasm_runner.specs.declared.host.Ended.{Ended}
use Rattle.wasm_runner.specs.declared.host.Ended.TheVariants as ended
use Rattle.wasm_runs.proofs.Calls.{call_left_grows, adds_frame}
use Rattle.wasm_runs.proofs.Fronts.{front_then}
use Rattle.wasm_runs.proofs.Growth.{module_grows}
use Rattle.wasm_runs.proofs.Runs.{stops_grow}
use Rattle.wasm_valid.specs.Checked.{Checked}
use Rattle.module_player.specs.declared.came.At.{At}
use Rattle.module_player.specs.declared.came.At.TheVariants as at
use Rattle.module_player.specs.declared.came.Came.{Came}
use Rattle.module_player.specs.declared.came.Came.TheVariants as came
use Rattle.module_player.specs.Coming.{told_of, CallTells, CallReturns, CallLacks, CallFails, CallStops, Comes, ComesThrough, ComesSpent, ComesTrapped, ComesHalted, part_came, place_of, trace_at, machine_of, block_of, stop_of_block, frame_list}
use Rattle.module_player.specs.Telling.{TellsAll, TellsNone, TellsNext, StopsAmong}
use Rattle.wasm_tree.specs.Section.{Slot, ends_of, block_length}
use Rattle.wasm_valid.specs.Views.{interface_number}
use Rattle.wasm_runner.specs.Running.{Running, running}
use Rattle.module_player.specs.Given.{Given, given_by, inputs_from}
use Rattle.module_player.specs.Writing.{ends_in}
use Rattle.module_player.specs.Playing.{Playing, playing, IsSame, instance_of, goes, ComesTo, ComesOf}
use Rattle.module_player.proofs.Pieces.{part_comes, stops_first, after_grows, told_is}
use Rattle.module_player.proofs.Chains.{tells_both, stops_both, stops_before, goes_begin}
use Rattle.module_player.proofs.Quiet.{following_list, inputs_many}

-- ---- calls of `init` and of an `e`

-- a call that is a part, of the run of `p`
part_of : {T : Type 0} (tells : T → Item → Bool → T → Type 0) (p q : Playing) (part : Part) (place : At) (frame : ℕ) (c : Config) (before : T) (end : Ended) (after : T) → place_of place ≡ at_of part → q.current ≡ p.current →
    ((left : List Task) (trace : List Item) → goes p (Begin part ∷ left) (instance_of p trace) ≡ after_part part (call_left (instance_of p trace) no_more (hears (machine_of p.of p.steps) false frame c trace)) (goes p left)) →
    ((trace : List Item) → CallTells tells trace (hears (machine_of p.of p.steps) false frame c trace) before end q.globals q.memory after) →
    ComesOf tells p (Begin part ∷ []) before (part_came end place) q after
part_of tells p q part place frame c before end after named same is told left trace =
    subst (λ current. Comes tells trace (goes p left) (goes p (Begin part ∷ left) (instance_of p trace)) before (part_came end place) q.globals q.memory current after) (sym same)
    (subst (λ stop. Comes tells trace (goes p left) stop before (part_came end place) q.globals q.memory p.current after) (sym (is left trace))
    (part_comes tells p.of.of p.of.section p.steps left part place named (instance_of p trace) (hears (machine_of p.of p.steps) false frame c trace) before end q.globals q.memory after (told trace)))

pub init_comes : {T : Type 0} (tells : T → Item → Bool → T → Type 0) (p q : Playing) (before : T) (end : Ended) (after : T) → q.current ≡ p.current →
    ((trace : List Item) → CallTells tells trace (hears (machine_of p.of p.steps) false 0 (call_of p.of.of (codes "init") [] p.globals p.memory) trace) before end q.globals q.memory after) →
    ComesOf tells p (Begin Init ∷ []) before (part_came end at.Init) q after
init_comes tells p q before end after same told =
    part_of tells p q Init at.Init 0 (call_of p.of.of (codes "init") [] p.globals p.memory) before end after refl same
    (λ left trace. goes_begin p Init left (instance_of p trace)) told

pub send_comes : {T : Type 0} (tells : T → Item → Bool → T → Type 0) (p q : Playing) (frame endpoint : ℕ) (value : List ℤ) (inputs : Inputs) (memory : List ℕ) (before : T) (end : Ended) (after : T) → q.current ≡ p.current →
    memory ≡ write_event p.of.section.slots endpoint value (write_inputs p.of.section.slots inputs p.current p.memory) →
    ((trace : List Item) → CallTells tells trace (hears (machine_of p.of p.steps) false frame (call_of p.of.of (event_name p.of.section.slots endpoint) [] p.globals memory) trace) before end q.globals q.memory after) →
    ComesOf tells p (Begin (Send frame endpoint value inputs) ∷ []) before (part_came end (at.Frame frame)) q after
send_comes tells p q frame endpoint value inputs memory before end after same written told =
    let slots = p.of.section.slots in
    let call : List ℕ → Config = λ m. call_of p.of.of (event_name slots endpoint) [] p.globals m in
    part_of tells p q (Send frame endpoint value inputs) (at.Frame frame) frame (call (write_event slots endpoint value (write_inputs slots inputs p.current p.memory))) before end after refl same
    (λ left trace. goes_begin p (Send frame endpoint value inputs) left (instance_of p trace))
    (λ trace. subst (λ m. CallTells tells trace (hears (machine_of p.of p.steps) false frame (call m) trace) before end q.globals q.memory after) written (told trace))

-- ---- a frame of interface 1

single_goes : (p : Playing) (frame : ℕ) (inputs : Inputs) (memory : List ℕ) (left : List Task) (trace : List Item) → p.of.section.interface ≡ Single → memory ≡ write_inputs p.of.section.slots inputs p.current p.memory →
    goes p (Begin (Frame frame inputs) ∷ left) (instance_of p trace)
    ≡ after_part (Frame frame inputs) (call_left (instance_of p trace) (frame_told p.of.section.slots 0 frame) (hears (machine_of p.of p.steps) false frame (call_of p.of.of (codes "frame") [] p.globals memory) trace)) (goes p left)
single_goes p frame inputs memory left trace interface written =
    goes_begin p (Frame frame inputs) left (instance_of p trace)
    ∙ (ap (λ i. after_part (Frame frame inputs) (frame_part i (machine_of p.of p.steps) frame inputs (following left) (instance_of p trace)) (goes p left)) interface
    ∙ ap (λ m. after_part (Frame frame inputs) (call_left (instance_of p trace) (frame_told p.of.section.slots 0 frame) (hears (machine_of p.of p.steps) false frame (call_of p.of.of (codes "frame") [] p.globals m) trace)) (goes p left)) (sym written))

-- the call doesn't return
frame_early : {T : Type 0} (tells : T → Item → Bool → T → Type 0) (p : Playing) (left : List Task) (frame : ℕ) (inputs : Inputs) (instance : Instance) (h : Heard) (before : T) (end : Ended) (globals memory : List ℕ) (after : T) → end ≢ ended.Done →
    CallTells tells instance.trace h before end globals memory after →
    Comes tells instance.trace (goes p left) (after_part (Frame frame inputs) (call_left instance (frame_told p.of.section.slots 0 frame) h) (goes p left)) before (part_came end (at.Frame frame)) globals memory instance.current after
frame_early tells p left frame inputs instance h before _ _ _ _ not (CallReturns items globals memory after is all) = absurd (not refl)
frame_early tells p left frame inputs instance h before _ _ _ _ not (CallLacks items globals memory after is all) =
    ComesSpent items globals memory instance.current after (Frame frame inputs) (record instance { trace = instance.trace ++ items }) (at.Frame frame) all
    (ap (λ x. after_part (Frame frame inputs) (call_left instance (frame_told p.of.section.slots 0 frame) x) (goes p left)) is) refl refl
frame_early tells p left frame inputs instance h before _ _ _ _ not (CallFails items globals memory after is all) =
    ComesTrapped items globals memory instance.current after (Frame frame inputs) (record instance { trace = instance.trace ++ items }) (at.Frame frame) all
    (ap (λ x. after_part (Frame frame inputs) (call_left instance (frame_told p.of.section.slots 0 frame) x) (goes p left)) is) refl refl
frame_early tells p left frame inputs instance h before _ _ _ _ not (CallStops items globals memory after is all) =
    let finish = frame_told p.of.section.slots 0 frame in
    let front = front_then (call_left_grows instance finish (adds_frame p.of.section.slots 0 frame) h) (after_grows p.of.of p.of.section p.steps (Frame frame inputs) (call_left instance finish h) left) in
    ComesHalted (items ++ front.rest) globals memory instance.current after
    (front.joined ∙ (ap (λ l. l ++ front.rest) (sym (told_is h) ∙ is) ∙ append_assoc instance.trace items front.rest))
    (stops_before tells before items front.rest after all)

-- the call returns
record Returning {T : Type 0} (tells : T → Item → Bool → T → Type 0) (told : List Item) (h : Heard) (before : T) (globals memory : List ℕ) (after : T) : Type 0 where
  items : List Item
  is : h ≡ Returned globals memory (told ++ items)
  all : TellsAll tells before items after

returning : {T : Type 0} (tells : T → Item → Bool → T → Type 0) (told : List Item) (h : Heard) (before : T) (end : Ended) (globals memory : List ℕ) (after : T) → end ≡ ended.Done → CallTells tells told h before end globals memory after → Returning tells told h before globals memory after
returning tells told h before _ _ _ _ e (CallReturns items globals memory after is all) = record { items = items; is = is; all = all }
returning tells told h before _ _ _ _ e (CallLacks items globals memory after is all) = absurd (cc (e))
returning tells told h before _ _ _ _ e (CallFails items globals memory after is all) = absurd (cc (e))
returning tells told h before _ _ _ _ e (CallStops items globals memory after is all) = absurd (cc (e))

-- and the frame is told
frame_done : {T : Type 0} (tells : T → Item → Bool → T → Type 0) (p : Playing) (left : List Task) (frame : ℕ) (inputs : Inputs) (instance : Instance) (h : Heard) (before between : T) (globals memory : List ℕ) (after : T) (on : Bool) →
    Returning tells instance.trace h before globals memory between → tells between (item.Frame frame (outputs_at p.of.section.slots 0 memory)) on after → (end : Came) → (on ≡ true → end ≡ came.Ended) → (on ≡ false → end ≡ came.Stopped) →
    Comes tells instance.trace (goes p left) (after_part (Frame frame inputs) (call_left instance (frame_told p.of.section.slots 0 frame) h) (goes p left)) before end globals memory instance.current after
frame_done tells p left frame inputs instance h before between globals memory after true r told end ended stopped =
    let one = item.Frame frame (outputs_at p.of.section.slots 0 memory) in
    subst (λ e. Comes tells instance.trace (goes p left) (after_part (Frame frame inputs) (call_left instance (frame_told p.of.section.slots 0 frame) h) (goes p left)) before e globals memory instance.current after) (sym (ended refl))
    (ComesThrough (r.items ++ one ∷ []) globals memory instance.current after (tells_both tells before between after r.items (one ∷ []) r.all (TellsNext between after after one [] told (TellsNone after)))
    (ap (λ x. after_part (Frame frame inputs) (call_left instance (frame_told p.of.section.slots 0 frame) x) (goes p left)) r.is
    ∙ ap (λ l. goes p left (record { globals = globals; memory = memory; current = instance.current; block = None; trace = l })) (append_assoc instance.trace r.items (one ∷ []))))
frame_done tells p left frame inputs instance h before between globals memory after false r told end ended stopped =
    let one = item.Frame frame (outputs_at p.of.section.slots 0 memory) in
    let now : Instance = record { globals = globals; memory = memory; current = instance.current; block = None; trace = (instance.trace ++ r.items) ++ one ∷ [] } in
    let front = stops_grow (module_player p.of.of p.of.section) (module_grows p.of.of p.of.section) p.steps left now in
    subst (λ e. Comes tells instance.trace (goes p left) (after_part (Frame frame inputs) (call_left instance (frame_told p.of.section.slots 0 frame) h) (goes p left)) before e globals memory instance.current after) (sym (stopped refl))
    (ComesHalted (r.items ++ (one ∷ front.rest)) globals memory instance.current after
    (ap (λ x. trace_at (after_part (Frame frame inputs) (call_left instance (frame_told p.of.section.slots 0 frame) x) (goes p left))) r.is
    ∙ (front.joined ∙ (append_assoc (instance.trace ++ r.items) (one ∷ []) front.rest ∙ append_assoc instance.trace r.items (one ∷ front.rest))))
    (stops_both tells before between after r.items (one ∷ front.rest) r.all (stops_first tells between one front.rest after told)))

-- a frame whose call doesn't return
pub single_early : {T : Type 0} (tells : T → Item → Bool → T → Type 0) (p q : Playing) (frame : ℕ) (inputs : Inputs) (memory : List ℕ) (before : T) (end : Ended) (after : T) → q.current ≡ p.current → p.of.section.interface ≡ Single → end ≢ ended.Done →
    memory ≡ write_inputs p.of.section.slots inputs p.current p.memory →
    ((trace : List Item) → CallTells tells trace (hears (machine_of p.of p.steps) false frame (call_of p.of.of (codes "frame") [] p.globals memory) trace) before end q.globals q.memory after) →
    ComesOf tells p (Begin (Frame frame inputs) ∷ []) before (part_came end (at.Frame frame)) q after
single_early tells p q frame inputs memory before end after same interface not written told left trace =
    subst (λ current. Comes tells trace (goes p left) (goes p (Begin (Frame frame inputs) ∷ left) (instance_of p trace)) before (part_came end (at.Frame frame)) q.globals q.memory current after) (sym same)
    (subst (λ stop. Comes tells trace (goes p left) stop before (part_came end (at.Frame frame)) q.globals q.memory p.current after) (sym (single_goes p frame inputs memory left trace interface written))
    (frame_early tells p left frame inputs (instance_of p trace) (hears (machine_of p.of p.steps) false frame (call_of p.of.of (codes "frame") [] p.globals memory) trace) before end q.globals q.memory after not (told trace)))

-- a frame whose call returns
pub single_comes : {T : Type 0} (tells : T → Item → Bool → T → Type 0) (p q : Playing) (frame : ℕ) (inputs : Inputs) (memory : List ℕ) (before between : T) (end : Ended) (on : Bool) (comes : Came) (after : T) → q.current ≡ p.current → p.of.section.interface ≡ Single → end ≡ ended.Done →
    memory ≡ write_inputs p.of.section.slots inputs p.current p.memory →
    ((trace : List Item) → CallTells tells trace (hears (machine_of p.of p.steps) false frame (call_of p.of.of (codes "frame") [] p.globals memory) trace) before end q.globals q.memory between) →
    tells between (item.Frame frame (outputs_at p.of.section.slots 0 q.memory)) on after → (on ≡ true → comes ≡ came.Ended) → (on ≡ false → comes ≡ came.Stopped) →
    ComesOf tells p (Begin (Frame frame inputs) ∷ []) before comes q after
single_comes tells p q frame inputs memory before between end on comes after same interface done written told one ended stopped left trace =
    let h = hears (machine_of p.of p.steps) false frame (call_of p.of.of (codes "frame") [] p.globals memory) trace in
    subst (λ current. Comes tells trace (goes p left) (goes p (Begin (Frame frame inputs) ∷ left) (instance_of p trace)) before comes q.globals q.memory current after) (sym same)
    (subst (λ stop. Comes tells trace (goes p left) stop before comes q.globals q.memory p.current after) (sym (single_goes p frame inputs memory left trace interface written))
    (frame_done tells p left frame inputs (instance_of p trace) h before between q.globals q.memory after on (returning tells trace h before end q.globals q.memory between done (told trace)) one comes ended stopped))

-- ---- frames of interface 2

block_goes : (p : Playing) (length_of_block frame : ℕ) (inputs : Inputs) (more : List Inputs) (memory : List ℕ) (left : List Task) (trace : List Item) → p.of.section.interface ≡ Blocks length_of_block →
    take length_of_block ((inputs ∷ more) ++ following left) ≡ inputs ∷ more → memory ≡ write_values p.of.section.slots p.current (write_block p.of.section.slots 0 (inputs ∷ more) p.memory) →
    goes p (frame_list frame (inputs ∷ more) ++ left) (instance_of p trace)
    ≡ stop_of_block p.of p.steps frame (block_of p.of (length (inputs ∷ more)) p.globals memory) inputs more left (instance_of p trace)
block_goes p size frame inputs more memory left trace interface full written =
    let machine = machine_of p.of p.steps in
    let instance = instance_of p trace in
    let rest = frame_list (frame + 1) more ++ left in
    let stop : Block → Stop Instance = λ block. after_part (Frame frame inputs) (stretch machine frame block instance (hears machine true frame block.next trace)) (goes p rest) in
    let made : List Inputs → List ℕ → Block = λ taken m. record { next = call_of p.of.of (codes "frames") (length taken ∷ []) p.globals m; told = 0; count = length taken } in
    let whole : List Inputs → List ℕ = λ taken. write_values p.of.section.slots p.current (write_block p.of.section.slots 0 taken p.memory) in
    let taken : take size (inputs ∷ following rest) ≡ inputs ∷ more = ap (λ l. take size (inputs ∷ l)) (following_list (frame + 1) more left) ∙ full in
    goes_begin p (Frame frame inputs) rest instance
    ∙ (ap (λ i. after_part (Frame frame inputs) (frame_part i machine frame inputs (following rest) instance) (goes p rest)) interface
    ∙ (ap (λ t. stop (made t (whole t))) taken ∙ ap (λ m. stop (made (inputs ∷ more) m)) (sym written)))

-- a call of `frames` after what the frames carry is written
pub block_comes : {T : Type 0} (tells : T → Item → Bool → T → Type 0) (p q : Playing) (length_of_block frame : ℕ) (carried : List Inputs) (count : ℕ) (memory : List ℕ) (before : T) (end : Came) (after : T) → q.current ≡ p.current →
    p.of.section.interface ≡ Blocks length_of_block → length carried ≡ count → 0 < count → memory ≡ write_values p.of.section.slots p.current (write_block p.of.section.slots 0 carried p.memory) →
    ((instance : Instance) (inputs : Inputs) (more : List Inputs) (rest : List Task) → length (inputs ∷ more) ≡ count →
    Comes tells instance.trace (goes p rest) (stop_of_block p.of p.steps frame (block_of p.of count p.globals memory) inputs more rest instance) before end q.globals q.memory instance.current after) →
    (left : List Task) → take length_of_block (carried ++ following left) ≡ carried → (trace : List Item) →
    Comes tells trace (goes p left) (goes p (frame_list frame carried ++ left) (instance_of p trace)) before end q.globals q.memory q.current after
block_comes tells p q size frame [] count memory before end after same interface many some written told left full trace = absurd (omega (arith, many, some))
block_comes tells p q size frame (inputs ∷ more) count memory before end after same interface many some written told left full trace =
    subst (λ current. Comes tells trace (goes p left) (goes p (frame_list frame (inputs ∷ more) ++ left) (instance_of p trace)) before end q.globals q.memory current after) (sym same)
    (subst (λ stop. Comes tells trace (goes p left) stop before end q.globals q.memory p.current after)
    (sym (block_goes p size frame inputs more memory left trace interface full written ∙ ap (λ n. stop_of_block p.of p.steps frame (block_of p.of n p.globals memory) inputs more left (instance_of p trace)) many))
    (told (instance_of p trace) inputs more left many))

-- ---- from the instance before the writes

abbrev pub ToldCall : {T : Type 0} → (tells : T → Item → Bool → T → Type 0) → (steps frame : ℕ) → (name : List Slot → List ℕ) → Running → T → Ended → Playing → T → Type 0
ToldCall tells steps frame name r before end q after =
    (trace : List Item) → CallTells tells trace (hears (machine_of r.of steps) false frame (call_of r.of.of (name r.of.section.slots) [] r.globals r.memory) trace) before end q.globals q.memory after

-- the inputs and an event are written, and the event's function is called
pub send_all : {T : Type 0} (tells : T → Item → Bool → T → Type 0) (r0 r1 r2 : Running) (given : Given) (steps frame endpoint : ℕ) (value : List ℤ) (streams : List (List ℤ)) (q : Playing) (before : T) (end : Ended) (after : T) →
    given.slots ≡ r0.of.section.slots → q.current ≡ given.current → r1.memory ≡ write_inputs given.slots (inputs_at (ends_in given.slots) streams frame) given.current r0.memory → r1 ≡ running r0.of r0.globals r1.memory r0.live →
    r2.memory ≡ write_event r1.of.section.slots endpoint value r1.memory → r2 ≡ running r1.of r1.globals r2.memory r1.live → ToldCall tells steps frame (λ slots. event_name slots endpoint) r2 before end q after →
    ComesOf tells (playing r0 steps given.current) (Begin (Send frame endpoint value (inputs_at (ends_of r0.of.section) streams frame)) ∷ []) before (part_came end (at.Frame frame)) q after
send_all tells r0 r1 r2 given steps frame endpoint value streams q before end after slots current first_memory first second_memory second told =
    let of1 : r1.of ≡ r0.of = ap (λ (r : Running). r.of) first in
    let kept : r2 ≡ running r0.of r0.globals r2.memory r0.live = second ∙ ap (λ (r : Running). running r.of r.globals r2.memory r.live) first in
    let inputs : r1.memory ≡ write_inputs r0.of.section.slots (inputs_at (ends_of r0.of.section) streams frame) given.current r0.memory =
    first_memory ∙ ap (λ (s : List Slot). write_inputs s (inputs_at (ends_in s) streams frame) given.current r0.memory) slots in
    let memory : r2.memory ≡ write_event r0.of.section.slots endpoint value (write_inputs r0.of.section.slots (inputs_at (ends_of r0.of.section) streams frame) given.current r0.memory) =
    second_memory ∙ (ap (λ (c : Checked). write_event c.section.slots endpoint value r1.memory) of1 ∙ ap (λ m. write_event r0.of.section.slots endpoint value m) inputs) in
    send_comes tells (playing r0 steps given.current) q frame endpoint value (inputs_at (ends_of r0.of.section) streams frame) r2.memory before end after current memory
    (subst (λ (r : Running). ToldCall tells steps frame (λ s. event_name s endpoint) r before end q after) kept told)

written_for : (r0 r1 : Running) (given : Given) (frame : ℕ) (streams : List (List ℤ)) → given.slots ≡ r0.of.section.slots → r1.memory ≡ write_inputs given.slots (inputs_at (ends_in given.slots) streams frame) given.current r0.memory →
    r1.memory ≡ write_inputs r0.of.section.slots (inputs_at (ends_of r0.of.section) streams frame) given.current r0.memory
written_for r0 r1 given frame streams slots memory = memory ∙ ap (λ (s : List Slot). write_inputs s (inputs_at (ends_in s) streams frame) given.current r0.memory) slots

pub single_all_early : {T : Type 0} (tells : T → Item → Bool → T → Type 0) (r0 r1 : Running) (given : Given) (steps frame : ℕ) (streams : List (List ℤ)) (q : Playing) (before : T) (end : Ended) (after : T) →
    given.slots ≡ r0.of.section.slots → q.current ≡ given.current → r0.of.section.interface ≡ Single → end ≢ ended.Done → r1.memory ≡ write_inputs given.slots (inputs_at (ends_in given.slots) streams frame) given.current r0.memory →
    r1 ≡ running r0.of r0.globals r1.memory r0.live → ToldCall tells steps frame (λ slots. codes "frame") r1 before end q after →
    ComesOf tells (playing r0 steps given.current) (Begin (Frame frame (inputs_at (ends_of r0.of.section) streams frame)) ∷ []) before (part_came end (at.Frame frame)) q after
single_all_early tells r0 r1 given steps frame streams q before end after slots current interface not memory kept told =
    single_early tells (playing r0 steps given.current) q frame (inputs_at (ends_of r0.of.section) streams frame) r1.memory before end after current interface not (written_for r0 r1 given frame streams slots memory)
    (subst (λ (r : Running). ToldCall tells steps frame (λ s. codes "frame") r before end q after) kept told)

pub single_all : {T : Type 0} (tells : T → Item → Bool → T → Type 0) (r0 r1 : Running) (given : Given) (outputs : List Slot) (steps frame : ℕ) (streams : List (List ℤ)) (q : Playing) (before between : T) (end : Ended) (on : Bool) (comes : Came) (after : T) →
    given.slots ≡ r0.of.section.slots → outputs ≡ r0.of.section.slots → q.current ≡ given.current → r0.of.section.interface ≡ Single → end ≡ ended.Done →
    r1.memory ≡ write_inputs given.slots (inputs_at (ends_in given.slots) streams frame) given.current r0.memory → r1 ≡ running r0.of r0.globals r1.memory r0.live → ToldCall tells steps frame (λ slots. codes "frame") r1 before end q between →
    tells between (item.Frame frame (outputs_at outputs 0 q.memory)) on after → (on ≡ true → comes ≡ came.Ended) → (on ≡ false → comes ≡ came.Stopped) →
    ComesOf tells (playing r0 steps given.current) (Begin (Frame frame (inputs_at (ends_of r0.of.section) streams frame)) ∷ []) before comes q after
single_all tells r0 r1 given outputs steps frame streams q before between end on comes after slots reads current interface done memory kept told one goes_on stopped =
    single_comes tells (playing r0 steps given.current) q frame (inputs_at (ends_of r0.of.section) streams frame) r1.memory before between end on comes after current interface done (written_for r0 r1 given frame streams slots memory)
    (subst (λ (r : Running). ToldCall tells steps frame (λ s. codes "frame") r before end q between) kept told)
    (subst (λ (s : List Slot). tells between (item.Frame frame (outputs_at s 0 q.memory)) on after) reads one) goes_on stopped

-- a block of frames, whose call is told as `call_frames` says
abbrev pub ToldBlock : {T : Type 0} → (tells : T → Item → Bool → T → Type 0) → (steps frame count : ℕ) → Running → T → Came → Playing → T → Type 0
ToldBlock tells steps frame count r before end q after =
    (instance : Instance) (inputs : Inputs) (more : List Inputs) (rest : List Task) → length (inputs ∷ more) ≡ count →
    Comes tells instance.trace (stops (module_player r.of.of r.of.section) steps rest) (stop_of_block r.of steps frame (block_of r.of count r.globals r.memory) inputs more rest instance) before end q.globals q.memory instance.current after

is_blocks : (interface : Interface) → interface_number interface ≡ 2 → interface ≡ Blocks (block_length interface)
is_blocks Single e = absurd (omega (arith, e))
is_blocks (Blocks size) e = refl

pub block_all : {T : Type 0} (tells : T → Item → Bool → T → Type 0) (r0 r1 : Running) (given : Given) (steps frame count : ℕ) (streams : List (List ℤ)) (q : Playing) (before : T) (end : Came) (after : T) →
    given.slots ≡ r0.of.section.slots → q.current ≡ given.current → interface_number r0.of.section.interface ≡ 2 → 0 < count →
    r1.memory ≡ write_values given.slots given.current (write_block given.slots 0 (inputs_from (ends_in given.slots) streams frame count) r0.memory) → r1 ≡ running r0.of r0.globals r1.memory r0.live → ToldBlock tells steps frame count r1 before end q after →
    (left : List Task) → take (block_length r0.of.section.interface) (inputs_from (ends_of r0.of.section) streams frame count ++ following left) ≡ inputs_from (ends_of r0.of.section) streams frame count → (trace : List Item) →
    Comes tells trace (goes (playing r0 steps given.current) left) (goes (playing r0 steps given.current) (frame_list frame (inputs_from (ends_of r0.of.section) streams frame count) ++ left) (instance_of (playing r0 steps given.current) trace)) before end q.globals q.memory q.current after
block_all tells r0 r1 given steps frame count streams q before end after slots current two some memory kept told =
    let carried = inputs_from (ends_of r0.of.section) streams frame count in
    block_comes tells (playing r0 steps given.current) q (block_length r0.of.section.interface) frame carried count r1.memory before end after current (is_blocks r0.of.section.interface two) (inputs_many (ends_of r0.of.section) streams frame count) some
    (memory ∙ ap (λ (s : List Slot). write_values s given.current (write_block s 0 (inputs_from (ends_in s) streams frame count) r0.memory)) slots)
    (subst (λ (r : Running). ToldBlock tells steps frame count r before end q after) kept told)
