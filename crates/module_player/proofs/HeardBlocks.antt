-- A call of `frames` whose marks end frames, as a piece of a run.
use Rattle.std.proofs.Common.{◌≡◌, ◌≢◌, ◌+◌, ◌++◌, ◌⊎◌, inl, inr, ℕ, suc, List, [], ◌∷◌, length, Bool, true, false, Some, refl, sym, ap, ◌∙◌, subst, append_assoc, append-nil, ℤ, arith}
use Rattle.std.specs.Prelude.{◌==◌, if◌then◌else◌}
use Rattle.std.proofs.lemmas.Bool.{eq-eqb}
use Rattle.std.proofs.lemmas.Bool.Decides.{eqb_tells}
use Rattle.cm_base.specs.declared.play.Item.{Item}
use Rattle.cm_base.specs.declared.play.Item.TheVariants as item
use Rattle.cm_base.specs.Parts.{Inputs, Frame, Task, following}
use Rattle.cm_base.specs.Players.{Left, Goes as LeftGoes, Spent, Traps, Stop, after_part, stops}
use Rattle.wasm_tree.specs.declared.interface.Interface.TheVariants.{Blocks}
use Rattle.wasm_tree.specs.Section.{Slot}
use Rattle.wasm_tree.specs.Reduce.{Config, Run, Done, Trapped, exec}
use Rattle.wasm_tree.specs.Calls.{Heard, Marked, Failed, emitted, heard}
use Rattle.wasm_tree.specs.HostRun.{Block, Instance, hears, no_more, frame_told, stretch, marked, block_end, frame_part, module_player}
use Rattle.wasm_tree.specs.Instance.{funcs_of}
use Rattle.wasm_tree.specs.Keeps.{IsFront}
use Rattle.wasm_tree.specs.Slots.{outputs_at}
use Rattle.wasm_valid.specs.Checked.{Checked}
use Rattle.wasm_runner.specs.declared.host.HostAnswer.TheVariants as answer
use Rattle.wasm_runner.specs.declared.host.Ended.{Ended}
use Rattle.wasm_runner.specs.declared.host.Ended.TheVariants as ended
use Rattle.wasm_runner.specs.Following.{Follows, Returns, Fails, Lacks, Goes, Renews, Stops, Refuses}
use Rattle.wasm_runs.specs.Follows.{told_after}
use Rattle.wasm_runs.proofs.Calls.{trace_of, call_left_grows, adds_none}
use Rattle.wasm_runs.proofs.Fronts.{front_same, front_then}
use Rattle.wasm_runs.proofs.Growth.{stretch_grows}
use Rattle.wasm_runs.proofs.Heard.{heard_told, heard_grows}
use Rattle.module_player.specs.declared.came.At.TheVariants as at
use Rattle.module_player.specs.declared.came.Came.{Came}
use Rattle.module_player.specs.declared.came.Came.TheVariants as came
use Rattle.module_player.specs.declared.host.Telling.{Telling}
use Rattle.module_player.specs.Coming.{Comes, ComesSpent, ComesTrapped, ComesHalted, part_came, machine_of, frame_list, block_came}
use Rattle.module_player.specs.Emitting.{Counts, IsNext, SendsEvent, EndsFrame, IsRefused}
use Rattle.module_player.specs.Telling.{TellsNone}
use Rattle.module_player.proofs.Hosts.{counts_of, TellingEmits, emits_at, keeps}
use Rattle.module_player.proofs.HeardCalls.{sent, heard_event, heard_mark, heard_refused_marks, call_heard}
use Rattle.module_player.proofs.Pieces.{comes_more, stops_first, after_grows, part_comes}

-- how the run goes on behind the call
abbrev behind : Checked → ℕ → List Task → Instance → Stop Instance
behind checked steps rest = stops (module_player checked.of checked.section) steps rest

-- where the run stops, by what is heard of the stretch
abbrev stop_at : Checked → (steps frame : ℕ) → Block → Inputs → List Inputs → List Task → Instance → Heard → Stop Instance
stop_at checked steps frame block inputs more rest instance h =
    after_part (Frame frame inputs) (stretch (machine_of checked steps) frame block instance h) (behind checked steps (frame_list (frame + 1) more ++ rest))

-- ---- the end of the call in a stretch

-- marks may still come
came_is : {T : Type 0} (end : Ended) (h : Telling T) (now : Counts) (n : ℕ) → counts_of h ≡ now → now.marks ≡ suc n → block_came end h.marks h.frame ≡ block_came end (suc n) now.frame
came_is end h now n here left = ap (λ c. block_came end c.marks c.frame) here ∙ ap (λ m. block_came end m now.frame) left

-- none may
came_last : (end : Ended) (marks frame f : ℕ) → marks ≡ 0 → frame ≡ suc f → block_came end marks frame ≡ part_came end (at.Frame f)
came_last end marks frame f none is = ap (λ m. block_came end m frame) none ∙ ap (λ k. block_came end 0 k) is ∙ came_zero end f
  where
    came_zero : (end : Ended) (f : ℕ) → block_came end 0 (suc f) ≡ part_came end (at.Frame f)
    came_zero ended.Done f = refl
    came_zero ended.StepsSpent f = refl
    came_zero ended.Trapped f = refl
    came_zero ended.Stopped f = refl

trapped_here : {T : Type 0} (tells : T → Item → Bool → T → Type 0) (go on : Instance → Stop Instance) (told : List Item) (now : Counts) (inputs : Inputs) (instance : Instance) (end : Came) (globals memory : List ℕ) (before : T) → end ≡ came.Trapped (at.Frame now.frame) →
    Comes tells told go (after_part (Frame now.frame inputs) (Traps (record instance { trace = told })) on) before end globals memory instance.current before
trapped_here tells go on told now inputs instance end globals memory before is =
    subst (λ w. Comes tells told go (after_part (Frame now.frame inputs) (Traps (record instance { trace = told })) on) before w globals memory instance.current before) (sym is)
    (ComesTrapped [] globals memory instance.current before (Frame now.frame inputs) (record instance { trace = told }) (at.Frame now.frame) (TellsNone before) refl (sym (append-nil told)) refl)

spent_here : {T : Type 0} (tells : T → Item → Bool → T → Type 0) (go on : Instance → Stop Instance) (told : List Item) (now : Counts) (inputs : Inputs) (instance : Instance) (end : Came) (globals memory : List ℕ) (before : T) → end ≡ came.StepsSpent (at.Frame now.frame) →
    Comes tells told go (after_part (Frame now.frame inputs) (Spent (record instance { trace = told })) on) before end globals memory instance.current before
spent_here tells go on told now inputs instance end globals memory before is =
    subst (λ w. Comes tells told go (after_part (Frame now.frame inputs) (Spent (record instance { trace = told })) on) before w globals memory instance.current before) (sym is)
    (ComesSpent [] globals memory instance.current before (Frame now.frame inputs) (record instance { trace = told }) (at.Frame now.frame) (TellsNone before) refl (sym (append-nil told)) refl)

-- ---- a mark

-- the counts after a mark
next_is : (now next : Counts) (n : ℕ) → IsNext now next → now.marks ≡ suc n → next ≡ record { frame = now.frame + 1; marks = n; entry = now.entry + 1 }
next_is now next n is left =
    let fewer : next.marks ≡ n = (let e : now.marks ≡ suc next.marks = is.marks in omega arith) in
    ap (λ f. record { frame = f; marks = next.marks; entry = next.entry }) is.frame
    ∙ (ap (λ m. record { frame = now.frame + 1; marks = m; entry = next.entry }) fewer
    ∙ ap (λ e. record { frame = now.frame + 1; marks = n; entry = e }) is.entry)

-- the item of a frame, and the instance that has it told
abbrev frame_of : List Slot → (frame entry : ℕ) → List ℕ → Item
frame_of slots frame entry memory = item.Frame frame (outputs_at slots entry memory)

abbrev with_frame : Checked → (frame : ℕ) → Block → Instance → List ℕ → List Item → Instance
with_frame checked frame block instance memory told = record instance { trace = frame_told checked.section.slots block.told frame memory told }

abbrev next_block : Block → Config → Block
next_block block next = record { next = next; told = block.told + 1; count = block.count }

mark_ends : (checked : Checked) (steps frame : ℕ) (block : Block) (instance : Instance) (memory : List ℕ) (next : Config) (told : List Item) → block.told + 1 ≡ block.count →
    marked (machine_of checked steps) frame block instance memory next told ≡ block_end (machine_of checked steps) frame next (with_frame checked frame block instance memory told)
mark_ends checked steps frame block instance memory next told last = rw (eq-eqb (block.told + 1) block.count last) refl

mark_waits : (checked : Checked) (steps frame : ℕ) (block : Block) (instance : Instance) (memory : List ℕ) (next : Config) (told : List Item) → block.told + 1 ≢ block.count →
    marked (machine_of checked steps) frame block instance memory next told ≡ LeftGoes (record (with_frame checked frame block instance memory told) { block = Some (next_block block next) })
mark_waits checked steps frame block instance memory next told more =
    elim (eqb_tells (block.told + 1) block.count) [
      | inl same ↦ absurd (more same.1)
      | inr apart ↦ rw apart.0 refl
    ]

-- a mark adds its frame to what was told
mark_or_end_grows : (last : Bool) (told : List Item) (ends : Left Instance) (now : Instance) → IsFront told (told_after trace_of ends) → IsFront told now.trace →
    IsFront told (told_after trace_of (if last then ends else LeftGoes now))
mark_or_end_grows true told ends now first second = first
mark_or_end_grows false told ends now first second = second

marked_grows : (checked : Checked) (steps frame : ℕ) (block : Block) (instance : Instance) (memory : List ℕ) (next : Config) (told : List Item) →
    IsFront (told ++ frame_of checked.section.slots frame block.told memory ∷ []) (told_after trace_of (marked (machine_of checked steps) frame block instance memory next told))
marked_grows checked steps frame block instance memory next told =
    let now = with_frame checked frame block instance memory told in
    mark_or_end_grows (block.told + 1 == block.count) now.trace (block_end (machine_of checked steps) frame next now)
    (record now { block = Some (next_block block next) })
    (front_then (heard_grows checked.section.slots false (frame + 1) (exec (funcs_of checked.of) steps next) now.trace)
    (call_left_grows now no_more adds_none (hears (machine_of checked steps) false (frame + 1) next now.trace)))
    (front_same now.trace)

-- where frames are left, the run goes on with the next stretch
goes_on : (checked : Checked) (steps length_of_block : ℕ) → checked.section.interface ≡ Blocks length_of_block → (frame : ℕ) (block : Block) (inputs coming : Inputs) (more : List Inputs) (rest : List Task) (instance : Instance)
    (memory : List ℕ) (next : Config) (told : List Item) → block.told + 1 ≢ block.count →
    stop_at checked steps frame block inputs (coming ∷ more) rest instance (Marked memory next told)
    ≡ stop_at checked steps (frame + 1) (next_block block next) coming more rest (record (with_frame checked frame block instance memory told) { block = Some (next_block block next) })
    (hears (machine_of checked steps) true (frame + 1) next (with_frame checked frame block instance memory told).trace)
unfolding stops
goes_on checked steps length_of_block interface frame block inputs coming more rest instance memory next told left =
    let tasks = frame_list (frame + 1 + 1) more ++ rest in
    ap (λ l. after_part (Frame frame inputs) l (behind checked steps (frame_list (frame + 1) (coming ∷ more) ++ rest))) (mark_waits checked steps frame block instance memory next told left)
    ∙ ap (λ i. after_part (Frame (frame + 1) coming)
    (frame_part i (machine_of checked steps) (frame + 1) coming (following tasks) (record (with_frame checked frame block instance memory told) { block = Some (next_block block next) }))
    (behind checked steps tasks)) interface

-- ---- the teller stops

-- at an event
stops_at_event : {T : Type 0} (tells : T → Item → Bool → T → Type 0) (checked : Checked) (steps frame : ℕ) (block : Block) (inputs : Inputs) (more : List Inputs) (rest : List Task) (instance : Instance) (event : Item) (told : List Item) (h : Heard) →
    IsFront (told ++ event ∷ []) (heard_told h) → (globals memory : List ℕ) (before after : T) → tells before event false after →
    Comes tells told (behind checked steps rest) (stop_at checked steps frame block inputs more rest instance h) before came.Stopped globals memory instance.current after
stops_at_event tells checked steps frame block inputs more rest instance event told h grows globals memory before after stopped =
    let machine = machine_of checked steps in
    let front = front_then (front_then grows (stretch_grows machine frame block instance h)) (after_grows checked.of checked.section steps (Frame frame inputs) (stretch machine frame block instance h) (frame_list (frame + 1) more ++ rest)) in
    ComesHalted (event ∷ front.rest) globals memory instance.current after (front.joined ∙ append_assoc told (event ∷ []) front.rest) (stops_first tells before event front.rest after stopped)

-- at a frame
stops_at_frame : {T : Type 0} (tells : T → Item → Bool → T → Type 0) (checked : Checked) (steps frame : ℕ) (block : Block) (inputs : Inputs) (more : List Inputs) (rest : List Task) (instance : Instance) (moment : List ℕ) (next : Config) (told : List Item) →
    (globals memory : List ℕ) (before after : T) → tells before (frame_of checked.section.slots frame block.told moment) false after →
    Comes tells told (behind checked steps rest) (stop_at checked steps frame block inputs more rest instance (Marked moment next told)) before came.Stopped globals memory instance.current after
stops_at_frame tells checked steps frame block inputs more rest instance moment next told globals memory before after stopped =
    let ended = frame_of checked.section.slots frame block.told moment in
    let front = front_then (marked_grows checked steps frame block instance moment next told)
    (after_grows checked.of checked.section steps (Frame frame inputs) (marked (machine_of checked steps) frame block instance moment next told) (frame_list (frame + 1) more ++ rest)) in
    ComesHalted (ended ∷ front.rest) globals memory instance.current after (front.joined ∙ append_assoc told (ended ∷ []) front.rest) (stops_first tells before ended front.rest after stopped)

-- the item of a mark, by the count of the block
frame_told_at : {T : Type 0} (tells : T → Item → Bool → T → Type 0) (slots : List Slot) (now : Counts) (block : Block) (before : T) (number : ℤ) (memory : List ℕ) (on : Bool) (after : T) → block.told ≡ now.entry →
    EndsFrame tells slots now before number memory on after → tells before (frame_of slots now.frame block.told memory) on after
frame_told_at tells slots now block before number memory on after same ends = subst (λ e. tells before (frame_of slots now.frame e memory) on after) (sym same) ends.told

halted : {T : Type 0} (tells : T → Item → Bool → T → Type 0) (checked : Checked) (steps : ℕ) (now next : Counts) (block : Block) → block.told ≡ now.entry → (inputs : Inputs) (more : List Inputs) (rest : List Task) (instance : Instance)
    (number : ℤ) (moment : List ℕ) (config : Config) (run : Run) (told : List Item) (globals memory : List ℕ) (before after : T) →
    (((next ≡ now) × SendsEvent tells checked.section.slots now.frame before number moment false after) ⊎ (IsNext now next × EndsFrame tells checked.section.slots now before number moment false after)) →
    Comes tells told (behind checked steps rest)
    (stop_at checked steps now.frame block inputs more rest instance (emitted checked.section.slots true now.frame number moment config told (heard checked.section.slots true now.frame run)))
    before came.Stopped globals memory instance.current after
halted tells checked steps now next block same inputs more rest instance number moment config run told globals memory before after (inl e) =
    let slots = checked.section.slots in
    let s = e.1 in
    let event : Item = sent now.frame s.endpoint s.slot moment in
    subst (λ h. Comes tells told (behind checked steps rest) (stop_at checked steps now.frame block inputs more rest instance h) before came.Stopped globals memory instance.current after)
    (sym (heard_event slots true now.frame number moment config told (heard slots true now.frame run) s.endpoint s.slot s.is s.found))
    (stops_at_event tells checked steps now.frame block inputs more rest instance event told (heard slots true now.frame run (told ++ event ∷ []))
    (heard_grows slots true now.frame run (told ++ event ∷ [])) globals memory before after s.told)
halted tells checked steps now next block same inputs more rest instance number moment config run told globals memory before after (inr e) =
    let slots = checked.section.slots in
    subst (λ h. Comes tells told (behind checked steps rest) (stop_at checked steps now.frame block inputs more rest instance h) before came.Stopped globals memory instance.current after)
    (sym (heard_mark slots now.frame number moment config told (heard slots true now.frame run) e.1.is))
    (stops_at_frame tells checked steps now.frame block inputs more rest instance moment config told globals memory before after
    (frame_told_at tells slots now block before number moment false after same e.1))

-- ---- the end behind the last mark

ends_behind : {T : Type 0} (tells : T → Item → Bool → T → Type 0) (checked : Checked) (steps : ℕ) (now : Counts) (block : Block) → block.told ≡ now.entry → block.told + 1 ≡ block.count → (inputs : Inputs) (rest : List Task) (instance : Instance)
    (number : ℤ) (moment : List ℕ) (next : Config) (told : List Item) (host after last : Telling T) (end : Ended) (globals memory : List ℕ) → now.marks ≡ suc 0 → after.outputs.now ≡ checked.section.slots →
    (IsNext now (counts_of after) × EndsFrame tells checked.section.slots now host.teller.now number moment true after.teller.now) →
    Follows (TellingEmits tells) (funcs_of checked.of) steps (exec (funcs_of checked.of) steps next) after end globals memory last →
    Comes tells told (behind checked steps rest) (stop_at checked steps now.frame block inputs [] rest instance (Marked moment next told)) host.teller.now (block_came end last.marks last.frame) globals memory instance.current last.teller.now
ends_behind tells checked steps now block same count inputs rest instance number moment next told host after last end globals memory left slots does follows =
    let ended = with_frame checked now.frame block instance moment told in
    let place = next_is now (counts_of after) 0 does.0 left in
    let calls = call_heard tells (funcs_of checked.of) steps checked.section.slots (record { frame = now.frame + 1; marks = 0; entry = now.entry + 1 }) (exec (funcs_of checked.of) steps next) after end globals memory last follows slots place refl ended.trace in
    let comes = part_comes tells checked.of checked.section steps rest (Frame now.frame inputs) (at.Frame now.frame) refl ended (hears (machine_of checked steps) false (now.frame + 1) next ended.trace) after.teller.now end globals memory last.teller.now calls in
    let kept = keeps tells (funcs_of checked.of) steps (exec (funcs_of checked.of) steps next) after end globals memory last follows in
    let none : last.marks ≡ 0 = (let f = kept.fewer in let m : after.marks ≡ 0 = ap (λ c. c.marks) place in omega arith) in
    let frame : last.frame ≡ suc now.frame = (let s = kept.sum in let m : after.marks ≡ 0 = ap (λ c. c.marks) place in let g : after.frame ≡ now.frame + 1 = ap (λ c. c.frame) place in omega arith) in
    subst (λ w. Comes tells told (behind checked steps rest) (stop_at checked steps now.frame block inputs [] rest instance (Marked moment next told)) host.teller.now w globals memory instance.current last.teller.now)
    (sym (came_last end last.marks last.frame now.frame none frame))
    (subst (λ l. Comes tells told (behind checked steps rest) (after_part (Frame now.frame inputs) l (behind checked steps rest)) host.teller.now (part_came end (at.Frame now.frame)) globals memory instance.current last.teller.now)
    (sym (mark_ends checked steps now.frame block instance moment next told count))
    (comes_more tells told (frame_of checked.section.slots now.frame block.told moment) (behind checked steps rest) _ host.teller.now after.teller.now
    (frame_told_at tells checked.section.slots now block host.teller.now number moment true after.teller.now same does.1)
    (part_came end (at.Frame now.frame)) globals memory instance.current last.teller.now comes))

-- ---- the whole call

pub block_heard : {T : Type 0} (tells : T → Item → Bool → T → Type 0) (checked : Checked) (steps length_of_block : ℕ) → checked.section.interface ≡ Blocks length_of_block → (rest : List Task) (now : Counts)
    (run : Run) (a : Telling T) (end : Ended) (globals memory : List ℕ) (b : Telling T) → Follows (TellingEmits tells) (funcs_of checked.of) steps run a end globals memory b →
    a.outputs.now ≡ checked.section.slots → counts_of a ≡ now → (inputs : Inputs) (more : List Inputs) → now.marks ≡ suc (length more) → (block : Block) → block.told ≡ now.entry → block.count ≡ now.entry + now.marks →
    (instance : Instance) (told : List Item) →
    Comes tells told (behind checked steps rest) (stop_at checked steps now.frame block inputs more rest instance (heard checked.section.slots true now.frame run told)) a.teller.now
    (block_came end b.marks b.frame) globals memory instance.current b.teller.now
unfolding heard
block_heard tells checked steps size interface rest now _ _ _ _ _ _ (Returns globals memory host) slots here inputs more left block same count instance told =
    trapped_here tells (behind checked steps rest) (behind checked steps (frame_list (now.frame + 1) more ++ rest)) told now inputs instance (block_came ended.Done host.marks host.frame) globals memory host.teller.now
    (came_is ended.Done host now (length more) here left)
block_heard tells checked steps size interface rest now _ _ _ _ _ _ (Fails globals memory host) slots here inputs more left block same count instance told =
    trapped_here tells (behind checked steps rest) (behind checked steps (frame_list (now.frame + 1) more ++ rest)) told now inputs instance (block_came ended.Trapped host.marks host.frame) globals memory host.teller.now
    (came_is ended.Trapped host now (length more) here left)
block_heard tells checked steps size interface rest now _ _ _ _ _ _ (Lacks globals memory host) slots here inputs more left block same count instance told =
    spent_here tells (behind checked steps rest) (behind checked steps (frame_list (now.frame + 1) more ++ rest)) told now inputs instance (block_came ended.StepsSpent host.marks host.frame) globals memory host.teller.now
    (came_is ended.StepsSpent host now (length more) here left)
block_heard tells checked steps size interface rest now _ _ _ _ _ _ (Goes number moment next run host after last end globals memory e follows) slots here inputs more left block same count instance told =
    let does = emits_at tells checked.section.slots now host after number moment answer.Go slots here e in
    let s = does.1 in
    let event : Item = sent now.frame s.endpoint s.slot moment in
    let later = block_heard tells checked steps size interface rest now run after end globals memory last follows (e.2 ∙ slots) does.0 inputs more left block same count instance (told ++ event ∷ []) in
    subst (λ h. Comes tells told (behind checked steps rest) (stop_at checked steps now.frame block inputs more rest instance h) host.teller.now (block_came end last.marks last.frame) globals memory instance.current last.teller.now)
    (sym (heard_event checked.section.slots true now.frame number moment next told (heard checked.section.slots true now.frame run) s.endpoint s.slot s.is s.found))
    (comes_more tells told event (behind checked steps rest) _ host.teller.now after.teller.now s.told (block_came end last.marks last.frame) globals memory instance.current last.teller.now later)
block_heard tells checked steps size interface rest now _ _ _ _ _ _ (Renews number moment next run host after last end globals memory e follows) slots here inputs [] left block same count instance told =
    let does = emits_at tells checked.section.slots now host after number moment answer.Fresh slots here e in
    subst (λ h. Comes tells told (behind checked steps rest) (stop_at checked steps now.frame block inputs [] rest instance h) host.teller.now (block_came end last.marks last.frame) globals memory instance.current last.teller.now)
    (sym (heard_mark checked.section.slots now.frame number moment next told (heard checked.section.slots true now.frame run) does.1.is))
    (ends_behind tells checked steps now block same (let n : now.marks ≡ suc 0 = left in omega arith) inputs rest instance number moment next told host after last end globals memory left (e.2 ∙ slots) does follows)
block_heard tells checked steps size interface rest now _ _ _ _ _ _ (Renews number moment next run host after last end globals memory e follows) slots here inputs (coming ∷ more) left block same count instance told =
    let does = emits_at tells checked.section.slots now host after number moment answer.Fresh slots here e in
    let ended = with_frame checked now.frame block instance moment told in
    let n : now.marks ≡ suc (suc (length more)) = left in
    let place = next_is now (counts_of after) (suc (length more)) does.0 left in
    let later = block_heard tells checked steps size interface rest (record { frame = now.frame + 1; marks = suc (length more); entry = now.entry + 1 }) (exec (funcs_of checked.of) steps next) after end globals memory last follows (e.2 ∙ slots) place
    coming more refl (next_block block next) (ap (λ k. k + 1) same) (omega arith) (record ended { block = Some (next_block block next) }) ended.trace in
    subst (λ h. Comes tells told (behind checked steps rest) (stop_at checked steps now.frame block inputs (coming ∷ more) rest instance h) host.teller.now (block_came end last.marks last.frame) globals memory instance.current last.teller.now)
    (sym (heard_mark checked.section.slots now.frame number moment next told (heard checked.section.slots true now.frame run) does.1.is))
    (subst (λ x. Comes tells told (behind checked steps rest) x host.teller.now (block_came end last.marks last.frame) globals memory instance.current last.teller.now)
    (sym (goes_on checked steps size interface now.frame block inputs coming more rest instance moment next told (λ last. absurd (omega arith))))
    (comes_more tells told (frame_of checked.section.slots now.frame block.told moment) (behind checked steps rest) _ host.teller.now after.teller.now
    (frame_told_at tells checked.section.slots now block host.teller.now number moment true after.teller.now same does.1)
    (block_came end last.marks last.frame) globals memory instance.current last.teller.now later))
block_heard tells checked steps size interface rest now _ _ _ _ _ _ (Stops number moment next run host after globals memory e) slots here inputs more left block same count instance told =
    halted tells checked steps now (counts_of after) block same inputs more rest instance number moment next run told globals memory host.teller.now after.teller.now
    (emits_at tells checked.section.slots now host after number moment answer.Stop slots here e)
block_heard tells checked steps size interface rest now _ _ _ _ _ _ (Refuses number moment next run host after globals memory e) slots here inputs more left block same count instance told =
    let does = emits_at tells checked.section.slots now host after number moment answer.Trap slots here e in
    let refused = subst (λ m. IsRefused checked.section.slots m number) left does.2 in
    subst (λ h. Comes tells told (behind checked steps rest) (stop_at checked steps now.frame block inputs more rest instance h) host.teller.now (block_came ended.Trapped after.marks after.frame) globals memory instance.current after.teller.now)
    (sym (heard_refused_marks checked.section.slots (length more) now.frame number moment next told (heard checked.section.slots true now.frame run) refused))
    (subst (λ t. Comes tells told (behind checked steps rest) (stop_at checked steps now.frame block inputs more rest instance (Failed told)) host.teller.now (block_came ended.Trapped after.marks after.frame) globals memory instance.current t) (sym does.1)
    (trapped_here tells (behind checked steps rest) (behind checked steps (frame_list (now.frame + 1) more ++ rest)) told now inputs instance (block_came ended.Trapped after.marks after.frame) globals memory host.teller.now
    (came_is ended.Trapped after now (length more) does.0 left)))
