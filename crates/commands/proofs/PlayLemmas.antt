-- How `play` ends.
use Rattle.std.proofs.Common.{◌≡◌, ℕ, List, [], Option, Some, None, refl, sym, subst, false, inl, inr}
use Rattle.std.specs.Prelude.{IfSome, Err, ◌⊎◌}
use Rattle.cm_base.specs.declared.forms.FormFail.{FormFail}
use Rattle.cm_base.specs.declared.forms.FormFail.TheVariants as no_script
use Rattle.cm_base.specs.declared.forms.FormFault.{FormFault}
use Rattle.cm_base.specs.declared.host.HostEnd.{HostEnd}
use Rattle.cm_base.specs.declared.play.Saved.{Saved}
use Rattle.cm_base.specs.declared.play.Script.{Script}
use Rattle.cm_base.specs.Players.{Ending, Ended, Out, Trapped, Outcome}
use Rattle.cm_io.specs.Files.{Files}
use Rattle.cm_io.specs.Seen.{Seen, OnlyRead}
use Rattle.input_script.specs.Script.{script_in}
use Rattle.item_lines.specs.declared.telling.Told.{Told}
use Rattle.item_lines.specs.declared.telling.Told.TheVariants as heard
use Rattle.item_lines.specs.Telling.{Outside, is_heard}
use Rattle.json_value.specs.Form.{Answers}
use Rattle.run_lines.specs.declared.ending.RunEnd.{RunEnd}
use Rattle.run_lines.specs.declared.ending.RunEnd.TheVariants as run
use Rattle.run_lines.specs.Runs.{RunTells, Whole, Cut, NotBegun, end_of, end_at}
use Rattle.wasm_reader.specs.Fault.{IsCause}
use Rattle.wasm_tree.specs.declared.failure.ModuleFail.{ModuleFail}
use Rattle.wasm_tree.specs.declared.failure.ModuleFail.TheVariants as fail
use Rattle.wasm_tree.specs.declared.module.Module.{Module}
use Rattle.wasm_tree.specs.Section.{CmajorSection, ends_of}
use Rattle.wasm_tree.specs.Spelled.{Spelled}
use Rattle.wasm_tree.specs.Valid.{Valid}
use Rattle.wasm_valid.specs.Rules.{IsFailure}
use Rattle.commands.specs.declared.status.FileRef.{FileRef}
use Rattle.commands.specs.declared.status.FileRef.TheVariants as file
use Rattle.commands.specs.declared.status.Status.{Status}
use Rattle.commands.specs.declared.status.Status.TheVariants as status
use Rattle.commands.specs.Files.{HasFile, Unread, AfterFile, IsPlayFile, least_limit}
use Rattle.commands.specs.Playing.{HasModule, RefusesModule, Misspelled, Invalid, NoModule, HasScript, RefusesScript, Malformed, NoScript, IsPlayDue, IsBefore, RunIsTold, PlayRuns, run_of}
use Rattle.commands.specs.Statuses.{MayAnswer, HasCause, OnExplained, OnUnwritten, status_of_module, status_of_run}
use Rattle.commands.specs.Steps.{Stopped, FileAbsent, ReadFailed, FileTooBig, PatchRefused, ModuleIsRefused, StateIsRefused, ScriptRefused, OutOfMemory, Ends}
use Rattle.commands.specs.Words.{Play}
use Rattle.commands.proofs.StepLemmas.{told, told_both, told_all, stop_of, stop_later}

-- ---- a file that is refused

pub misspelled : (bytes : List ℕ) (f : ModuleFail) → IsCause f bytes → (status_of_module f ≡ status.NoMemory) ⊎ RefusesModule bytes (status_of_module f)
misspelled bytes (fail.Refused refused) is = inr (Misspelled refused is)
misspelled bytes fail.NoMemory is = inl refl

pub invalid : (m : Module) (bytes : List ℕ) (f : ModuleFail) → Spelled bytes m → IsFailure m bytes f → (status_of_module f ≡ status.NoMemory) ⊎ RefusesModule bytes (status_of_module f)
invalid m bytes (fail.Refused refused) spelled is = inr (Invalid m refused spelled is)
invalid m bytes fail.NoMemory spelled is = inl refl

-- the fault with which a script is refused
pub script_answer : (ends : List HostEnd) (bytes : List ℕ) (f : FormFail) (fault : FormFault) → f ≡ no_script.Refused fault → Answers {X = Script} (Err f) (script_in ends bytes) → script_in ends bytes ≡ Err fault
script_answer ends bytes f fault is answers = subst (λ (e : FormFail). Answers {X = Script} (Err e) (script_in ends bytes)) is answers

-- a file of `play` that has no bytes to work on
pub unread_play : (before after : Seen) (reads : FileRef → Type 0) (f : FileRef) (name : List ℕ) (limit : ℕ) (decide : List ℕ → Status → Type 0) (s : Status) → reads f →
    Stopped before after (λ g. g ≡ f) (λ files. Unread files f name limit) s → Stopped before after reads (λ files. AfterFile files f name limit decide) s
unread_play before after reads f name limit decide s is stop =
    stop_of before after _ reads (λ files. Unit {0}) _ _ s (λ g e. subst reads (sym e) is) (told_all before.holds) (λ files t u d. inl d) stop

module_refused : (before after : Seen) (name bytes : List ℕ) (s : Status) → IfSome before.holds (λ files. HasFile files name (least_limit file.Module) bytes) → RefusesModule bytes s →
    Stopped before after IsPlayFile (λ files. NoModule files name) s
module_refused before after name bytes _ has (Misspelled refused is) =
    ModuleIsRefused refused tt (told before.holds _ _ (λ files h. inr (record { bytes = bytes; file = h; holds = Misspelled refused is })) has)
module_refused before after name bytes _ has (Invalid m refused spelled is) =
    ModuleIsRefused refused tt (told before.holds _ _ (λ files h. inr (record { bytes = bytes; file = h; holds = Invalid m refused spelled is })) has)

-- a module that is refused
pub module_stop : (before after : Seen) (name bytes : List ℕ) (s : Status) → IfSome before.holds (λ files. HasFile files name (least_limit file.Module) bytes) →
    ((s ≡ status.NoMemory) ⊎ RefusesModule bytes s) → Stopped before after IsPlayFile (λ files. NoModule files name) s
module_stop before after name bytes s has (inl e) = subst (Stopped before after IsPlayFile (λ files. NoModule files name)) (sym e) OutOfMemory
module_stop before after name bytes s has (inr r) = module_refused before after name bytes s has r

script_refused : (before after : Seen) (name bytes : List ℕ) (ends : List HostEnd) (s : Status) → IfSome before.holds (λ files. HasFile files name (least_limit file.Input) bytes) → RefusesScript ends bytes s →
    Stopped before after (λ f. f ≡ file.Input) (λ files. NoScript files name ends) s
script_refused before after name bytes ends _ has (Malformed fault is) =
    ScriptRefused fault refl (told before.holds _ _ (λ files h. inr (record { bytes = bytes; file = h; holds = Malformed fault is })) has)

-- a script that is refused
pub script_stop : (before after : Seen) (name bytes : List ℕ) (ends : List HostEnd) (s : Status) → IfSome before.holds (λ files. HasFile files name (least_limit file.Input) bytes) →
    ((s ≡ status.NoMemory) ⊎ RefusesScript ends bytes s) → Stopped before after (λ f. f ≡ file.Input) (λ files. NoScript files name ends) s
script_stop before after name bytes ends s has (inl e) = subst (Stopped before after (λ f. f ≡ file.Input) (λ files. NoScript files name ends)) (sym e) OutOfMemory
script_stop before after name bytes ends s has (inr r) = script_refused before after name bytes ends s has r

-- no script, so nothing is run
pub script_later : (before mid after : Seen) (wasm input : List ℕ) (steps : ℕ) (m : Module) (section : CmajorSection) (s : Status) → OnlyRead before mid → OnlyRead mid after → IfSome before.holds (λ files. HasModule files wasm m section) →
    Stopped mid after (λ f. f ≡ file.Input) (λ files. NoScript files input (ends_of section)) s → Stopped before after IsPlayFile (λ files. IsPlayDue files wasm input steps) s
script_later before mid after wasm input steps m section s first second has stop =
    stop_of before after _ IsPlayFile (λ files. HasModule files wasm m section) _ _ s (λ f e. subst IsPlayFile (sym e) tt) has (λ files t h d. inr (m, section, h, inl d)) (stop_later before mid after _ _ s first second.counts stop)

-- such a step comes before the run
pub stopped_before : (before after : Seen) (reads : FileRef → Type 0) (due : Files → Status → Type 0) (s : Status) → Stopped before after reads due s → IsBefore s
stopped_before before after reads due _ (FileAbsent f r rose d) = tt
stopped_before before after reads due _ (ReadFailed f r rose) = tt
stopped_before before after reads due _ (FileTooBig f n r past d) = tt
stopped_before before after reads due _ (PatchRefused r m d) = tt
stopped_before before after reads due _ (ModuleIsRefused r m d) = tt
stopped_before before after reads due _ (StateIsRefused fault m d) = tt
stopped_before before after reads due _ (ScriptRefused fault m d) = tt
stopped_before before after reads due _ OutOfMemory = tt

-- ---- the run

run_may : (wasm input : List ℕ) (steps : ℕ) (end : RunEnd) → MayAnswer (Play wasm input steps) (status_of_run end)
run_may wasm input steps run.Ended = tt
run_may wasm input steps (run.StepsSpent at) = tt
run_may wasm input steps (run.Trapped at) = tt
run_may wasm input steps run.PutFailed = refl
run_may wasm input steps (run.ListenerFailed number) = inr tt
run_may wasm input steps run.NoMemory = tt

pub run_caused : (before after : Seen) (end : RunEnd) → HasCause before after (status_of_run end)
run_caused before after run.Ended = tt
run_caused before after (run.StepsSpent at) = tt
run_caused before after (run.Trapped at) = tt
run_caused before after run.PutFailed = tt
run_caused before after (run.ListenerFailed number) = tt
run_caused before after run.NoMemory = tt

pub run_unwritten : (end : RunEnd) (P : Type 0) → P → OnUnwritten (status_of_run end) P
run_unwritten run.Ended P p = tt
run_unwritten (run.StepsSpent at) P p = p
run_unwritten (run.Trapped at) P p = p
run_unwritten run.PutFailed P p = p
run_unwritten (run.ListenerFailed number) P p = p
run_unwritten run.NoMemory P p = p

run_explained : (ending : Ending) (P : Status → Type 0) → P (status_of_run (end_of ending)) → OnExplained (status_of_run (end_of ending)) (P (status_of_run (end_of ending)))
run_explained Ended P p = p
run_explained (Out part) P p = p
run_explained (Trapped part) P p = p

cut_explained : (answer : Told) (P : Status → Type 0) → is_heard answer ≡ false → OnExplained (status_of_run (end_at answer)) (P (status_of_run (end_at answer)))
cut_explained heard.Heard P not = absurd (cc not)
cut_explained heard.PutFailed P not = tt
cut_explained heard.PutLacksMemory P not = tt
cut_explained heard.LineLacksMemory P not = tt
cut_explained (heard.ListenerFailed number) P not = tt
cut_explained (heard.ListenerLacksMemory number) P not = tt

-- the end that is due explains the answer, and any other is a fault or want of memory
pub told_explained : (ends : List HostEnd) (run : Outcome) (before after : Outside) (end : RunEnd) (P : Status → Type 0) → P (status_of_run (end_of run.ending)) → RunTells ends run before after end →
    OnExplained (status_of_run end) (P (status_of_run end))
told_explained ends run before after end P due (Whole is told) =
    subst (λ (e : RunEnd). OnExplained (status_of_run e) (P (status_of_run e))) (sym is) (run_explained run.ending P due)
told_explained ends run before after end P due (Cut first item others between answer parts told tells not is) =
    subst (λ (e : RunEnd). OnExplained (status_of_run e) (P (status_of_run e))) (sym is) (cut_explained answer P not)
told_explained ends run before after end P due (NotBegun is same) =
    subst (λ (e : RunEnd). OnExplained (status_of_run e) (P (status_of_run e))) (sym is) tt

pub both_told : (held held' : Option Files) → IfSome held (λ old. IfSome held' (λ new. Unit {0}))
both_told None held' = tt
both_told (Some old) None = tt
both_told (Some old) (Some new) = tt

-- the run that is told begins with nothing saved
pub run_is_told : (m : Module) (section : CmajorSection) (saved : List Saved) (script : Script) (steps : ℕ) (before after : Outside) (end : RunEnd) (s : Status) → saved ≡ [] →
    RunTells (ends_of section) (run_of m section saved script steps) before after end → s ≡ status_of_run end → RunIsTold m section script steps before after s
run_is_told m section saved script steps before after end s none tells answered =
    record { end = end; answered = answered; tells = subst (λ (l : List Saved). RunTells (ends_of section) (run_of m section l script steps) before after end) none tells }

-- `play` ends with the end of its run
pub run_ends : (before after : Seen) (wasm input : List ℕ) (steps : ℕ) (m : Module) (section : CmajorSection) (script : Script) (out out' : Outside) (s : Status) → after.holds ≡ before.holds →
    IfSome before.holds (λ files. HasModule files wasm m section) → IfSome before.holds (λ files. HasScript files input (ends_of section) script) → RunIsTold m section script steps out out' s →
    Ends (Play wasm input steps) before after s
run_ends before after wasm input steps m section script out out' s same has_module has_script is =
    subst (λ (t : Status). Ends (Play wasm input steps) before after t) (sym is.answered) (record {
      may = run_may wasm input steps is.end;
      explained = told_explained (ends_of section) (run_of m section [] script steps) out out' is.end (λ t. IfSome before.holds (λ files. IsPlayDue files wasm input steps t))
          (told_both before.holds _ _ _ (λ files h g. inr (m, section, h, inr (script, g, refl))) has_module has_script) is.tells;
      caused = run_caused before after is.end;
      done = λ e. both_told before.holds after.holds;
      others = same;
      unwritten = run_unwritten is.end (after.holds ≡ before.holds) same;
    })

-- and with it what was told
pub run_tells : (held : Option Files) (wasm input : List ℕ) (steps : ℕ) (m : Module) (section : CmajorSection) (script : Script) (out out' : Outside) (s : Status) → Valid m section →
    IfSome held (λ files. HasModule files wasm m section) → IfSome held (λ files. HasScript files input (ends_of section) script) → RunIsTold m section script steps out out' s →
    PlayRuns held wasm input steps out out' s
run_tells held wasm input steps m section script out out' s valid has_module has_script is =
    record { m = m; section = section; script = script; valid = valid; has_module = has_module; has_script = has_script; told = is }
