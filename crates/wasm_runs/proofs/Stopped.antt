-- Runs of a module that are stopped and resumed keep those of the source over both scripts joined.
use Rattle.std.proofs.Common.{◌≡◌, ℕ, ◌+◌, ◌*◌, List, [], ◌∷◌, ◌++◌, map, Option, refl, sym, ap, ◌∙◌, subst, append-nil, ℤ}
use Rattle.std.specs.List.{AllByRecursion}
use Rattle.cm_base.specs.declared.host.HostEnd.{HostEnd}
use Rattle.cm_base.specs.declared.play.Item.{Item}
use Rattle.cm_base.specs.declared.play.Saved.{Saved}
use Rattle.cm_base.specs.declared.play.Script.{Script}
use Rattle.cm_base.specs.Parts.{Inputs, Part, Init, Send, Frame, Task, Set, Begin, following, frames_from, tasks_after_init, tasks_of}
use Rattle.cm_base.specs.Players.{Left, Goes, Spent, Traps, Player, Stop, AtEnd, OutIn, TrappedIn, last_world, after_part, stops, Ending, Ended, Out, Trapped, Outcome, outcome_of, play, Source}
use Rattle.cm_base.specs.Scripts.{IsScriptFor, AreSaved}
use Rattle.cm_base.specs.Tasks.{IsTask}
use Rattle.cm_base.proofs.TaskLemmas.{tasks_fit, frames_fit}
use Rattle.wasm_tree.specs.declared.module.Module.{Module}
use Rattle.wasm_tree.specs.HostRun.{Block, Instance, first_instance, host_stops, module_player}
use Rattle.wasm_tree.specs.Section.{CmajorSection, ends_of}
use Rattle.wasm_tree.specs.Stopped.{joined_traces, snapshot_of, restored_instance, resumed_run, Resumes, KeepsStopped}
use Rattle.wasm_runs.specs.Calling.{Keeping, IsFree, CanResume}
use Rattle.wasm_runs.specs.Follows.{StopFollows, flipped}
use Rattle.wasm_runs.proofs.Joined.{later_task, tasks_joined}
use Rattle.wasm_runs.proofs.Moved.{moved, moved_ending, moved_outcome, outcome_moves, stops_move}
use Rattle.wasm_runs.proofs.Relations.{Relation, section_parts, section_lawful}
use Rattle.wasm_runs.proofs.Runs.{plays_keep, begun_stops_follow, agree_flipped}

-- ---- runs put together

-- goes on from where a run ends
abbrev at_end : {World : Type 0} → Stop World → (World → Stop World) → Stop World
at_end (AtEnd world) go = go world
at_end (OutIn part world) go = OutIn part world
at_end (TrappedIn part world) go = TrappedIn part world

-- what a part does doesn't depend on the frames that come
abbrev Ignores : {World : Type 0} → Player World → Type 0
Ignores {World} player = (n : ℕ) (part : Part) (coming : List Inputs) (world : World) → player.perform n part coming world ≡ player.perform n part [] world

part_joins : {World : Type 0} (part : Part) (left : Left World) (go on rest : World → Stop World) → ((world : World) → on world ≡ at_end (go world) rest) →
    after_part part left on ≡ at_end (after_part part left go) rest
part_joins part (Goes world) go on rest same = same world
part_joins part (Spent world) go on rest same = refl
part_joins part (Traps world) go on rest same = refl

-- tasks after others, where parts don't depend on the frames that come
stops_join : {World : Type 0} (player : Player World) → Ignores player → (n : ℕ) (xs ys : List Task) (world : World) → stops player n (xs ++ ys) world ≡ at_end (stops player n xs world) (stops player n ys)
unfolding stops
stops_join player ignores n [] ys world = refl
stops_join player ignores n (Set endpoint value ∷ xs) ys world = stops_join player ignores n xs ys (player.set endpoint value world)
stops_join player ignores n (Begin part ∷ xs) ys world =
    ap (λ left. after_part part left (stops player n (xs ++ ys))) (ignores n part (following (xs ++ ys)) world ∙ sym (ignores n part (following xs) world))
    ∙ part_joins part (player.perform n part (following xs) world) (stops player n xs) (stops player n (xs ++ ys)) (stops player n ys) (λ next. stops_join player ignores n xs ys next)

-- a run goes on from where its first tasks end
goes_on : {World : Type 0} (player : Player World) → Ignores player → (n : ℕ) (xs ys : List Task) (world last : World) → stops player n xs world ≡ AtEnd last → play player n (xs ++ ys) world ≡ play player n ys last
goes_on player ignores n xs ys world last e =
    ap (outcome_of player.told) (stops_join player ignores n xs ys world ∙ ap (λ stop. at_end stop (stops player n ys)) e)

came_to_end : {World : Type 0} (told : World → List Item) (stop : Stop World) (go : World → Stop World) → (outcome_of told (at_end stop go)).ending ≡ Ended → (last : World) × (stop ≡ AtEnd last)
came_to_end told (AtEnd world) go e = (world, refl)
came_to_end told (OutIn part world) go e = absurd (cc (e))
came_to_end told (TrappedIn part world) go e = absurd (cc (e))

-- a run that ends came to the end of its first tasks
first_end : {World : Type 0} (player : Player World) → Ignores player → (n : ℕ) (xs ys : List Task) (world : World) → (play player n (xs ++ ys) world).ending ≡ Ended → (last : World) × (stops player n xs world ≡ AtEnd last)
first_end player ignores n xs ys world e =
    came_to_end player.told (stops player n xs world) (stops player n ys) (sym (ap (λ stop. (outcome_of player.told stop).ending) (stops_join player ignores n xs ys world)) ∙ e)

-- where one run ends, the one that follows it does
end_follows : {A B : Type 0} (R : A → B → Type 0) (tell_a : A → List Item) (tell_b : B → List Item) (stop : Stop A) (other : Stop B) (last : A) → StopFollows R tell_a tell_b stop other → stop ≡ AtEnd last →
    (end : B) × (other ≡ AtEnd end) × R last end
end_follows R tell_a tell_b (AtEnd a) (AtEnd b) last follows e = (b, refl, subst (λ x. R x b) (ap last_world e) follows)
end_follows R tell_a tell_b (AtEnd a) (OutIn part b) last follows e = absurd follows
end_follows R tell_a tell_b (AtEnd a) (TrappedIn part b) last follows e = absurd follows
end_follows R tell_a tell_b (OutIn part a) other last follows e = absurd (cc (e))
end_follows R tell_a tell_b (TrappedIn part a) other last follows e = absurd follows

-- ---- the instance that is resumed

instance_is : (i : Instance) (globals : List ℕ) (current : List (List ℤ)) (block : Option Block) (trace : List Item) → globals ≡ i.globals → current ≡ i.current → block ≡ i.block → trace ≡ i.trace →
    record { globals = globals; memory = i.memory; current = current; block = block; trace = trace } ≡ i
instance_is i globals current block trace first second third fourth =
    ap (λ g. record { globals = g; memory = i.memory; current = current; block = block; trace = trace }) first
    ∙ (ap (λ c. record { globals = i.globals; memory = i.memory; current = c; block = block; trace = trace }) second
    ∙ (ap (λ b. record { globals = i.globals; memory = i.memory; current = i.current; block = b; trace = trace }) third
    ∙ ap (λ t. record { globals = i.globals; memory = i.memory; current = i.current; block = i.block; trace = t }) fourth))

-- the instance restored from its snapshot, with its trace before it
restores_same : {World : Type 0} (Kept : Keeping World) (m : Module) (section : CmajorSection) (source : Source World) → CanResume Kept m section source → (frames : ℕ) (world : World) (instance : Instance) → IsFree Kept source.player.told world instance →
    moved frames instance.trace (restored_instance m section (snapshot_of m section instance)) ≡ instance
restores_same Kept m section source can frames world instance free =
    instance_is instance _ _ _ _ (can.globals world instance.current instance.globals instance.memory free.kept) (can.current world instance.current instance.globals instance.memory free.kept)
    (sym free.block) (append-nil instance.trace)

task_later : (ends : List HostEnd) (frames : ℕ) (task : Task) → IsTask ends task → IsTask ends (later_task frames task)
task_later ends frames (Set endpoint value) is = is
task_later ends frames (Begin Init) is = is
task_later ends frames (Begin (Send frame endpoint value inputs)) is = is
task_later ends frames (Begin (Frame frame inputs)) is = is

tasks_later_fit : (ends : List HostEnd) (frames : ℕ) (tasks : List Task) → AllByRecursion (IsTask ends) tasks → AllByRecursion (IsTask ends) (map (later_task frames) tasks)
tasks_later_fit ends frames [] all = tt
tasks_later_fit ends frames (task ∷ tasks) all = (task_later ends frames task all.0, tasks_later_fit ends frames tasks all.1)

ended_before : (frames : ℕ) (ending : Ending) → moved_ending frames ending ≡ Ended → ending ≡ Ended
ended_before frames Ended e = refl
ended_before frames (Out part) e = cc (e)
ended_before frames (Trapped part) e = cc (e)

-- ---- both scripts

-- the tasks of the second script where the first one ends
abbrev late_tasks : CmajorSection → Script → Script → List Task
late_tasks section first second = map (later_task first.frames) (frames_from (ends_of section) second 0 second.frames)

-- the run of the module that goes on is the resumed one, so many frames later
goes_on_resumed : {World : Type 0} (Kept : Keeping World) (m : Module) (section : CmajorSection) (source : Source World) → CanResume Kept m section source → (first second : Script) (steps : ℕ) (world : World) (instance : Instance) →
    IsFree Kept source.player.told world instance → AllByRecursion (IsTask (ends_of section)) (frames_from (ends_of section) second 0 second.frames) →
    play (module_player m section) steps (late_tasks section first second) instance
    ≡ moved_outcome first.frames instance.trace (resumed_run m section (snapshot_of m section instance) second second.frames steps)
goes_on_resumed Kept m section source can first second steps world instance free all =
    let tasks = frames_from (ends_of section) second 0 second.frames in
    let again = restored_instance m section (snapshot_of m section instance) in
    ap (play (module_player m section) steps (late_tasks section first second)) (sym (restores_same Kept m section source can first.frames world instance free))
    ∙ (ap (outcome_of (module_player m section).told) (stops_move m section (ends_of section) steps first.frames instance.trace tasks again all)
    ∙ outcome_moves first.frames instance.trace (stops (module_player m section) steps tasks again))

-- from where both stopped
resumes_from : {World : Type 0} (Kept : Keeping World) (m : Module) (section : CmajorSection) (source : Source World) → CanResume Kept m section source → (saved : List Saved) (first second : Script) (steps : ℕ) (outcome : Outcome) (world : World) (instance : Instance) →
    IsFree Kept source.player.told world instance → host_stops m section saved first first.frames steps ≡ AtEnd instance → AllByRecursion (IsTask (ends_of section)) (frames_from (ends_of section) second 0 second.frames) →
    outcome ≡ play (module_player m section) steps (late_tasks section first second) instance → outcome.ending ≡ Ended → Resumes m section saved first second steps outcome
resumes_from Kept m section source can saved first second steps outcome world instance free stopped all same e =
    let late = resumed_run m section (snapshot_of m section instance) second second.frames steps in
    let moves : outcome ≡ moved_outcome first.frames instance.trace late = same ∙ goes_on_resumed Kept m section source can first second steps world instance free all in
    let late_ended : late.ending ≡ Ended = ended_before first.frames late.ending (sym (ap (λ (o : Outcome). o.ending) moves) ∙ e) in
    record {
      instance = instance;
      stopped = stopped;
      resumed = late_ended;
      is = moves ∙ ap (λ ending. record { trace = joined_traces first.frames instance.trace late.trace; ending = moved_ending first.frames ending }) late_ended;
    }

-- the run of the source over the tasks of both scripts
abbrev whole_run : {World : Type 0} → Source World → CmajorSection → List Saved → Script → Script → ℕ → Outcome
whole_run source section saved first second n = play source.player n (tasks_of (ends_of section) saved first first.frames ++ late_tasks section first second) source.first

-- a run of the source that ends
stopped_forth : {World : Type 0} (Kept : Keeping World) (m : Module) (section : CmajorSection) (source : Source World) → Relation Kept m section source → CanResume Kept m section source →
    (saved : List Saved) (first second : Script) → AreSaved (ends_of section) saved → IsScriptFor (ends_of section) first → IsScriptFor (ends_of section) second →
    (n : ℕ) → (whole_run source section saved first second n).ending ≡ Ended → Resumes m section saved first second (source.cost * (n + 1)) (whole_run source section saved first second n)
stopped_forth Kept m section source relation can saved first second are is_first is_second n e =
    let ends = ends_of section in
    let target = module_player m section in
    let bound = source.cost * (n + 1) in
    let tasks = tasks_after_init ends saved first first.frames in
    let late = late_tasks section first second in
    let parts = section_parts Kept m section source relation in
    let all_second = frames_fit ends second 0 second.frames (section_lawful Kept m section source relation).each is_second in
    let stop = first_end source.player can.ignores n (Begin Init ∷ tasks) late source.first e in
    let on = goes_on source.player can.ignores n (Begin Init ∷ tasks) late source.first stop.0 stop.1 in
    let met = end_follows (relation.R []) source.player.told target.told (stops source.player n (Begin Init ∷ tasks) source.first) (stops target bound (Begin Init ∷ tasks) (first_instance m section)) stop.0
    (begun_stops_follow ends relation.R source.player target n bound parts.target_grows parts.agree (λ part coming x y is fit next. (parts.parts part coming x y is fit next).forth n)
    Init tasks source.first (first_instance m section) (tasks_fit ends saved first first.frames (section_lawful Kept m section source relation) are is_first) ((relation.init (following tasks)).forth n)) stop.1 in
    let free = relation.frees stop.0 met.0 met.2 in
    let later = plays_keep ends source.cost relation.R source.player target parts late stop.0 met.0 (tasks_later_fit ends first.frames (frames_from ends second 0 second.frames) all_second)
    (relation.relates (following late) stop.0 met.0 free) in
    let ended : (play source.player n late stop.0).ending ≡ Ended = sym (ap (λ (o : Outcome). o.ending) on) ∙ e in
    resumes_from Kept m section source can saved first second bound _ stop.0 met.0 free met.1 all_second (on ∙ sym (later.forward n ended)) e

-- runs of the module that end
stopped_back : {World : Type 0} (Kept : Keeping World) (m : Module) (section : CmajorSection) (source : Source World) → Relation Kept m section source → CanResume Kept m section source →
    (saved : List Saved) (first second : Script) → AreSaved (ends_of section) saved → IsScriptFor (ends_of section) first → IsScriptFor (ends_of section) second →
    (steps : ℕ) (instance : Instance) → host_stops m section saved first first.frames steps ≡ AtEnd instance → (resumed_run m section (snapshot_of m section instance) second second.frames steps).ending ≡ Ended →
    Resumes m section saved first second steps (whole_run source section saved first second steps)
stopped_back Kept m section source relation can saved first second are is_first is_second steps instance stopped e =
    let ends = ends_of section in
    let target = module_player m section in
    let tasks = tasks_after_init ends saved first first.frames in
    let late = late_tasks section first second in
    let parts = section_parts Kept m section source relation in
    let all_second = frames_fit ends second 0 second.frames (section_lawful Kept m section source relation).each is_second in
    let met = end_follows (flipped relation.R []) target.told source.player.told (stops target steps (Begin Init ∷ tasks) (first_instance m section)) (stops source.player steps (Begin Init ∷ tasks) source.first) instance
    (begun_stops_follow ends (flipped relation.R) target source.player steps steps parts.source_grows (agree_flipped parts.agree) (λ part coming y x is fit next. (parts.parts part coming x y is fit next).back steps)
    Init tasks (first_instance m section) source.first (tasks_fit ends saved first first.frames (section_lawful Kept m section source relation) are is_first) ((relation.init (following tasks)).back steps)) stopped in
    let free = relation.frees met.0 instance met.2 in
    let on = goes_on source.player can.ignores steps (Begin Init ∷ tasks) late source.first met.0 met.1 in
    let later = plays_keep ends source.cost relation.R source.player target parts late met.0 instance (tasks_later_fit ends first.frames (frames_from ends second 0 second.frames) all_second)
    (relation.relates (following late) met.0 instance free) in
    let moves = goes_on_resumed Kept m section source can first second steps met.0 instance free all_second in
    let ended : (play target steps late instance).ending ≡ Ended = ap (λ (o : Outcome). o.ending) moves ∙ ap (moved_ending first.frames) e in
    let same = on ∙ later.backward steps ended in
    resumes_from Kept m section source can saved first second steps _ met.0 instance free stopped all_second same (ap (λ (o : Outcome). o.ending) same ∙ ended)

-- over the endpoints of the section
section_stopped : {World : Type 0} (Kept : Keeping World) (m : Module) (section : CmajorSection) (source : Source World) → Relation Kept m section source → CanResume Kept m section source → KeepsStopped (record source { ends = ends_of section }) m section
section_stopped Kept m section source relation can saved first second are is_first is_second =
    let ends = ends_of section in
    let same = λ (n : ℕ). ap (λ tasks. play source.player n tasks source.first) (tasks_joined ends saved first second is_first) in
    record {
      forward = λ n e. subst (Resumes m section saved first second (source.cost * (n + 1))) (sym (same n))
          (stopped_forth Kept m section source relation can saved first second are is_first is_second n (sym (ap (λ (o : Outcome). o.ending) (same n)) ∙ e));
      backward = λ steps instance stopped e. subst (Resumes m section saved first second steps) (sym (same steps))
          (stopped_back Kept m section source relation can saved first second are is_first is_second steps instance stopped e);
    }

-- the runs that are stopped and resumed, which come of a relation
pub stopped_keep : {World : Type 0} (Kept : Keeping World) (m : Module) (section : CmajorSection) (source : Source World) → Relation Kept m section source → CanResume Kept m section source → KeepsStopped source m section
stopped_keep Kept m section source relation can =
    subst (λ (ends : List HostEnd). KeepsStopped (record source { ends = ends }) m section) relation.endpoints (section_stopped Kept m section source relation can)
