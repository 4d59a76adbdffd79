-- How `resume` ends.
use Rattle.std.proofs.Common.{◌≡◌, ℕ, List, [], length, Bool, true, false, Option, Some, None, refl, sym, ◌∙◌, ap, subst, arith, inl, inr}
use Rattle.std.specs.Prelude.{IfSome, IfErr, OnOk, IsTrue, ◌↔◌, Result, Ok, Err, ◌⊎◌}
use Rattle.cm_base.specs.declared.forms.FormRule.TheVariants as rule
use Rattle.cm_base.specs.declared.forms.FormPart.TheVariants.{Whole as WholeFile}
use Rattle.cm_base.specs.declared.play.Saved.{Saved}
use Rattle.cm_base.specs.declared.play.Script.{Script}
use Rattle.cm_base.specs.Players.{Stop as Halt, AtEnd, Outcome}
use Rattle.cm_io.specs.Files.{Files, KeepsOthers}
use Rattle.cm_io.specs.Seen.{Seen, CountsStay, OnlyRead, IfTold}
use Rattle.item_lines.specs.Telling.{Outside}
use Rattle.json_value.specs.Form.{fault}
use Rattle.module_player.specs.Playing.{Playing, instance_of}
use Rattle.run_lines.specs.declared.ending.RunEnd.{RunEnd}
use Rattle.run_lines.specs.declared.ending.RunEnd.TheVariants as run
use Rattle.run_lines.specs.Runs.{RunTells, IsLeft, end_of}
use Rattle.saved_state.specs.declared.state.State.{State}
use Rattle.saved_state.specs.declared.state.State.TheVariants as states
use Rattle.saved_state.specs.declared.state.Version2.{Version2}
use Rattle.wasm_runner.specs.Snapshots.{Fits}
use Rattle.wasm_tree.specs.declared.module.Module.{Module}
use Rattle.wasm_tree.specs.HostRun.{Instance}
use Rattle.wasm_tree.specs.Section.{CmajorSection, ends_of}
use Rattle.wasm_tree.specs.Stopped.{resumed_run, resumed_stops}
use Rattle.wasm_tree.specs.Valid.{Valid}
use Rattle.wasm_valid.specs.Checked.{Checked}
use Rattle.commands.specs.declared.status.FileRef.TheVariants as file
use Rattle.commands.specs.declared.status.Status.{Status}
use Rattle.commands.specs.declared.status.Status.TheVariants as status
use Rattle.commands.specs.declared.status.Target.TheVariants as target
use Rattle.commands.specs.declared.stop.Stop.{Stop}
use Rattle.commands.specs.Compile.{IsDone}
use Rattle.commands.specs.Files.{HasFile, Unread, IsResumeFile, KeepsUnwritten}
use Rattle.commands.specs.Playing.{HasScript, NoScript, IsBefore, RefusesModule, Misspelled, Invalid, SpellsValid}
use Rattle.commands.specs.Restoring.{RefusesState, PastLimit, NoForm, SpellsState, most_state}
use Rattle.commands.specs.Resuming.{HasStopped, RefusesStopped, LacksState, IsVersion1, LacksModule, Misfits, NoStopped, IsResumeDue, AnswersAfter, ByRun, ByFault, ByMemory, ResumeRuns, HoldsState, HoldsNew, IsResumed, refused_whole, state_after}
use Rattle.commands.specs.Statuses.{MayAnswer, WritesAlso, status_of_run}
use Rattle.commands.specs.Steps.{Stopped, FileTooBig, StateIsRefused, OutOfMemory, StateStopped, InState, InModule, Unwritten, WriteFailed, WriteLacksMemory, FailsToWrite, Ends, ended}
use Rattle.commands.specs.Words.{Resume}
use Rattle.commands.proofs.EndLemmas.{kept, stop_ends}
use Rattle.commands.proofs.PlayLemmas.{unread_play, stopped_before, told_explained, run_caused, run_unwritten, both_told}
use Rattle.commands.proofs.RestoreLemmas.{least_limit_of}
use Rattle.commands.proofs.StepLemmas.{told, told_both, told_all, stop_of, stop_later, rose_later}

-- ---- a state file that is refused

state_refused : (before after : Seen) (name bytes : List ℕ) (s : Status) → IfSome before.holds (λ files. HasFile files name most_state bytes) → RefusesState bytes s →
    Stopped before after (λ f. f ≡ file.State) (λ files. NoStopped files name) s
state_refused before after name bytes _ has (PastLimit past) =
    FileTooBig file.State (length bytes) refl (omega (arith, least_limit_of bytes, past)) (told before.holds _ _ (λ files h. inr (record { bytes = bytes; file = h; holds = LacksState _ (PastLimit past) })) has)
state_refused before after name bytes _ has (NoForm found within is) =
    StateIsRefused found refl (told before.holds _ _ (λ files h. inr (record { bytes = bytes; file = h; holds = LacksState _ (NoForm found within is) })) has)

module_refused : (before after : Seen) (name bytes : List ℕ) (state : Version2) (s : Status) → IfSome before.holds (λ files. HasFile files name most_state bytes) → SpellsState bytes (states.Version2 state) → RefusesModule state.module_bytes s →
    StateStopped before after (λ files. NoStopped files name) s
module_refused before after name bytes state _ has spelled (Misspelled refused is) =
    InModule refused (told before.holds _ _ (λ files h. inr (record { bytes = bytes; file = h; holds = LacksModule state _ spelled (Misspelled refused is) })) has)
module_refused before after name bytes state _ has spelled (Invalid m refused of is) =
    InModule refused (told before.holds _ _ (λ files h. inr (record { bytes = bytes; file = h; holds = LacksModule state _ spelled (Invalid m refused of is) })) has)

run_refused : (before after : Seen) (name bytes : List ℕ) (s : Status) → IfSome before.holds (λ files. HasFile files name most_state bytes) → RefusesStopped bytes s → StateStopped before after (λ files. NoStopped files name) s
run_refused before after name bytes _ has (LacksState s r) = InState s (state_refused before after name bytes s has r)
run_refused before after name bytes _ has (IsVersion1 saved spelled) =
    InState _ (StateIsRefused (fault rule.Version WholeFile 0) refl (told before.holds _ _ (λ files h. inr (record { bytes = bytes; file = h; holds = IsVersion1 saved spelled })) has))
run_refused before after name bytes _ has (LacksModule state s spelled r) = module_refused before after name bytes state s has spelled r
run_refused before after name bytes _ has (Misfits state m section spelled of misfits) =
    InState _ (StateIsRefused (fault rule.Snapshot WholeFile 0) refl (told before.holds _ _ (λ files h. inr (record { bytes = bytes; file = h; holds = Misfits state m section spelled of misfits })) has))

-- what a test tells
pub true_has : {P : Type 0} (b : Bool) → (IsTrue b ↔ P) → b ≡ true → P
true_has b h e = h.0 e

pub false_not : {P : Type 0} (b : Bool) → (IsTrue b ↔ P) → b ≡ false → P → ⊥
false_not b h e q = let f : b ≡ true = h.1 q in let no : true ≡ false = sym f ∙ e in cc

-- ---- bytes that are refused

abbrev pub OrRefused : List ℕ → Status → Type 0
OrRefused bytes s = (s ≡ status.NoMemory) ⊎ RefusesStopped bytes s

pub lacks_state : (bytes : List ℕ) (s : Status) → ((s ≡ status.NoMemory) ⊎ RefusesState bytes s) → OrRefused bytes s
lacks_state bytes s (inl e) = inl e
lacks_state bytes s (inr r) = inr (LacksState s r)

pub lacks_module : (bytes : List ℕ) (state : Version2) (found : State) (s : Status) → found ≡ states.Version2 state → SpellsState bytes found → ((s ≡ status.NoMemory) ⊎ RefusesModule state.module_bytes s) → OrRefused bytes s
lacks_module bytes state found s is spelled (inl e) = inl e
lacks_module bytes state found s is spelled (inr r) = inr (LacksModule state s (subst (SpellsState bytes) is spelled) r)

pub is_first : (bytes : List ℕ) (saved : List Saved) (found : State) (s : Status) → found ≡ states.Version1 saved → SpellsState bytes found → s ≡ refused_whole rule.Version → OrRefused bytes s
is_first bytes saved found s is spelled e = inr (subst (RefusesStopped bytes) (sym e) (IsVersion1 saved (subst (SpellsState bytes) is spelled)))

pub misfits : (bytes : List ℕ) (state : Version2) (m : Module) (section : CmajorSection) (found : State) (s : Status) → found ≡ states.Version2 state → SpellsState bytes found → SpellsValid m section state.module_bytes
    → (Fits m section state.snapshot → ⊥) → s ≡ refused_whole rule.Snapshot → OrRefused bytes s
misfits bytes state m section found s is spelled of not e =
    inr (subst (RefusesStopped bytes) (sym e) (Misfits state m section (subst (SpellsState bytes) is spelled) of not))

-- a state file in which there is no stopped run
pub no_run_stop : (before after : Seen) (name bytes : List ℕ) (s : Status) → IfSome before.holds (λ files. HasFile files name most_state bytes) → ((s ≡ status.NoMemory) ⊎ RefusesStopped bytes s) →
    StateStopped before after (λ files. NoStopped files name) s
no_run_stop before after name bytes s has (inl e) = subst (StateStopped before after (λ files. NoStopped files name)) (sym e) (InState status.NoMemory OutOfMemory)
no_run_stop before after name bytes s has (inr r) = run_refused before after name bytes s has r

-- one that has no bytes to work on
pub unread_state : (before after : Seen) (name : List ℕ) (s : Status) → Stopped before after (λ g. g ≡ file.State) (λ files. Unread files file.State name most_state) s → StateStopped before after (λ files. NoStopped files name) s
unread_state before after name s stop = InState s (unread_play before after (λ f. f ≡ file.State) file.State name most_state RefusesStopped s refl stop)

-- the same with the name of the file
pub state_named : {X : Type 0} (step : Result X Status) (stop : Stop) (before after : Seen) (due : Files → Status → Type 0) → ((step ≡ Err stop.status) ⊎ (stop.status ≡ status.NoMemory)) → IfErr step (StateStopped before after due) →
    StateStopped before after due stop.status
state_named step stop before after due (inl e) p = subst (λ (q : Result _ Status). IfErr q (StateStopped before after due)) e p
state_named step stop before after due (inr e) p = subst (StateStopped before after due) (sym e) (InState status.NoMemory OutOfMemory)

-- ---- steps before the run

pub state_ends : (before after : Seen) (state input : List ℕ) (steps : ℕ) (new : Option (List ℕ)) (s : Status) → after.holds ≡ before.holds → StateStopped before after (λ files. NoStopped files state) s →
    Ends (Resume state input steps new) before after s
state_ends before after state input steps new _ same (InState s stop) =
    stop_ends (Resume state input steps new) before after (λ files. IsResumeDue files state input steps) s same (λ files t d. d)
    (stop_of before after (λ f. f ≡ file.State) IsResumeFile (λ files. Unit {0}) _ _ s (λ f e. subst IsResumeFile (sym e) tt) (told_all before.holds) (λ files t u d. inl d) stop)
state_ends before after state input steps new _ same (InModule r due) =
    record { may = tt; explained = told before.holds _ _ (λ files d. inl d) due; caused = tt; done = λ e. cc; others = kept (Resume state input steps new) before after same; unwritten = same }

pub state_before : (before after : Seen) (due : Files → Status → Type 0) (s : Status) → StateStopped before after due s → IsBefore s
state_before before after due _ (InState s stop) = stopped_before before after _ due s stop
state_before before after due _ (InModule r d) = tt

-- no script, so nothing is run
pub no_script_stop : (before mid after : Seen) (state input : List ℕ) (steps : ℕ) (stopped : Version2) (m : Module) (section : CmajorSection) (s : Status) → OnlyRead before mid → OnlyRead mid after →
    IfSome before.holds (λ files. HasStopped files state stopped m section) → Stopped mid after (λ f. f ≡ file.Input) (λ files. NoScript files input (ends_of section)) s →
    Stopped before after IsResumeFile (λ files. IsResumeDue files state input steps) s
no_script_stop before mid after state input steps stopped m section s first second has stop =
    stop_of before after _ IsResumeFile (λ files. HasStopped files state stopped m section) _ _ s (λ f e. subst IsResumeFile (sym e) tt) has (λ files t h d. inr (stopped, m, section, h, inl d)) (stop_later before mid after _ _ s first second.counts stop)

-- ---- the run

-- what was found before the run: a stopped run and a script
pub record IsFound (held : Option Files) (state input : List ℕ) (stopped : Version2) (m : Module) (section : CmajorSection) (script : Script) : Type 0 where
  pub valid : Valid m section
  pub fits : Fits m section stopped.snapshot
  pub has_state : IfSome held (λ files. HasStopped files state stopped m section)
  pub has_script : IfSome held (λ files. HasScript files input (ends_of section) script)

module _ (state input : List ℕ) (steps : ℕ) (new : Option (List ℕ)) (stopped : Version2) (m : Module) (section : CmajorSection) (script : Script) (out out' : Outside) where
  abbrev run_due : Outcome
  run_due = resumed_run m section stopped.snapshot script script.frames steps

  abbrev Tells : RunEnd → Type 0
  Tells end = RunTells (ends_of section) run_due out out' end

  out_may : (new : Option (List ℕ)) → WritesAlso new target.Out
  out_may None = refl
  out_may (Some name) = tt

  may : (end : RunEnd) → MayAnswer (Resume state input steps new) (status_of_run end)
  may run.Ended = tt
  may (run.StepsSpent at) = tt
  may (run.Trapped at) = tt
  may run.PutFailed = out_may new
  may (run.ListenerFailed number) = inr tt
  may run.NoMemory = tt

  ended_by : (end : RunEnd) → status_of_run end ≡ status.Ok → end ≡ run.Ended
  ended_by run.Ended e = refl
  ended_by (run.StepsSpent at) e = absurd (cc (e))
  ended_by (run.Trapped at) e = absurd (cc (e))
  ended_by run.PutFailed e = absurd (cc (e))
  ended_by (run.ListenerFailed number) e = absurd (cc (e))
  ended_by run.NoMemory e = absurd (cc (e))

  due_is : (held : Option Files) → IsFound held state input stopped m section script → IfSome held (λ files. IsResumeDue files state input steps (status_of_run (end_of run_due.ending)))
  due_is held found = told_both held _ _ _ (λ files h g. inr (stopped, m, section, h, inr (script, g, refl))) found.has_state found.has_script

  -- a run that didn't come to its end ends the command
  pub early_ends : (before after : Seen) (end : RunEnd) (s : Status) → after.holds ≡ before.holds → IsFound before.holds state input stopped m section script → Tells end → (end ≡ run.Ended → ⊥) → s ≡ status_of_run end →
      Ends (Resume state input steps new) before after s
  early_ends before after end s same found tells early answered = subst (λ (t : Status). Ends (Resume state input steps new) before after t) (sym answered) (record {
    may = may end;
    explained = told_explained (ends_of section) run_due out out' end (λ t. IfSome before.holds (λ files. IsResumeDue files state input steps t)) (due_is before.holds found) tells;
    caused = run_caused before after end;
    done = λ e. absurd (early (ended_by end e));
    others = kept (Resume state input steps new) before after same;
    unwritten = run_unwritten end (after.holds ≡ before.holds) same;
  })

  runs : (held : Option Files) (end : RunEnd) (s : Status) → IsFound held state input stopped m section script → Tells end → AnswersAfter new end s → ResumeRuns held state input steps new out out' s
  runs held end s found tells answered =
      record { stopped = stopped; m = m; section = section; script = script; valid = found.valid; fits = found.fits; has_state = found.has_state; has_script = found.has_script; end = end; answered = answered; tells = tells }

  -- and with it what was told
  pub early_tells : (held : Option Files) (end : RunEnd) (s : Status) → IsFound held state input stopped m section script → Tells end → s ≡ status_of_run end → ResumeRuns held state input steps new out out' s
  early_tells held end s found tells answered = runs held end s found tells (subst (AnswersAfter new end) (sym answered) (ByRun end))

  -- ---- the file that is written after it

  others_on : (new : Option (List ℕ)) (before mid after : Seen) → mid.holds ≡ before.holds → KeepsUnwritten new mid after → KeepsUnwritten new before after
  others_on None before mid after same k = k ∙ same
  others_on (Some name) before mid after same k = subst (λ (h : Option Files). KeepsOthers h after.holds name) same k

  written_both : (held held' : Option Files) (name : List ℕ) (instance : Instance) → IsFound held state input stopped m section script → resumed_stops m section stopped.snapshot script script.frames steps ≡ AtEnd instance →
      IfSome held' (λ files. HoldsState files name (state_after stopped m section script instance)) → IfSome held (λ old. IfSome held' (λ new. IsResumed old new state input steps name))
  written_both None held' name instance found ends w = tt
  written_both (Some old) None name instance found ends w = tt
  written_both (Some old) (Some now) name instance found ends w =
      record { stopped = stopped; m = m; section = section; script = script; has_state = found.has_state; has_script = found.has_script; instance = instance; ends = ends; holds = w }

  is_done : (new : Option (List ℕ)) (before after : Seen) (instance : Instance) → IsFound before.holds state input stopped m section script → resumed_stops m section stopped.snapshot script script.frames steps ≡ AtEnd instance →
      HoldsNew new after (state_after stopped m section script instance) → IfSome before.holds (λ old. IfSome after.holds (IsDone (Resume state input steps new) old))
  is_done None before after instance found ends w = both_told before.holds after.holds
  is_done (Some name) before after instance found ends w = written_both before.holds after.holds name instance found ends w

  fails : (new : Option (List ℕ)) (before mid after : Seen) (s : Status) → OnlyRead before mid → CountsStay mid after → KeepsUnwritten new mid after → FailsToWrite new mid after s → Ends (Resume state input steps new) before after s
  fails None before mid after s read stay others failed = absurd failed
  fails (Some name) before mid after _ read stay others (WriteFailed rose) =
      record { may = tt; explained = tt; caused = rose_later _ _ _ read.counts.faults stay.faults rose; done = λ e. cc; others = others_on (Some name) before mid after read.files others; unwritten = tt }
  fails (Some name) before mid after _ read stay others (WriteLacksMemory same) =
      record { may = tt; explained = tt; caused = tt; done = λ e. cc; others = others_on (Some name) before mid after read.files others; unwritten = same ∙ read.files }

  -- a run that came to its end: the write of the file, where one is named, ends the command
  pub late_ends : {X : Type 0} (r : Result X Stop) (before mid after : Seen) (instance : Instance) → OnlyRead before mid → CountsStay mid after → KeepsUnwritten new mid after → IsFound before.holds state input stopped m section script →
      Tells run.Ended → resumed_stops m section stopped.snapshot script script.frames steps ≡ AtEnd instance → OnOk r (HoldsNew new after (state_after stopped m section script instance)) →
      IfErr r (λ stop. FailsToWrite new mid after stop.status) → Ends (Resume state input steps new) before after (ended r)
  late_ends (Ok x) before mid after instance read stay others found tells ends w failed = record {
    may = tt;
    explained = told_explained (ends_of section) run_due out out' run.Ended (λ t. IfSome before.holds (λ files. IsResumeDue files state input steps t)) (due_is before.holds found) tells;
    caused = tt;
    done = λ e. is_done new before after instance found ends w;
    others = others_on new before mid after read.files others;
    unwritten = tt;
  }
  late_ends (Err stop) before mid after instance read stay others found tells ends w failed = fails new before mid after stop.status read stay others failed

  answered_so : (new : Option (List ℕ)) (mid after : Seen) (s : Status) → FailsToWrite new mid after s → AnswersAfter new run.Ended s
  answered_so None mid after s failed = absurd failed
  answered_so (Some name) mid after _ (WriteFailed rose) = ByFault name refl
  answered_so (Some name) mid after _ (WriteLacksMemory same) = ByMemory name refl

  pub late_tells : {X : Type 0} (r : Result X Stop) (held : Option Files) (mid after : Seen) → IsFound held state input stopped m section script → Tells run.Ended → IfErr r (λ stop. FailsToWrite new mid after stop.status) →
      ResumeRuns held state input steps new out out' (ended r)
  late_tells (Ok x) held mid after found tells failed = runs held run.Ended status.Ok found tells (ByRun run.Ended)
  late_tells (Err stop) held mid after found tells failed = runs held run.Ended stop.status found tells (answered_so new mid after stop.status failed)

-- the state that is written is that of the player where the run stopped
pub left_state : {X : Type 0} (r : Result X Stop) (new : Option (List ℕ)) (after : Seen) (stopped : Version2) (script : Script) (of : Checked) (p : Playing) (trace : List _) → p.of ≡ of →
    OnOk r (HoldsNew new after (state_after stopped p.of.of p.of.section script (instance_of p []))) → OnOk r (HoldsNew new after (state_after stopped of.of of.section script (instance_of p trace)))
left_state r new after stopped script of p trace same w = subst (λ (c : Checked). OnOk r (HoldsNew new after (state_after stopped c.of c.section script (instance_of p [])))) same w

-- a state for which there is no memory isn't written
pub lacks_memory : (new : Option (List ℕ)) (name : List ℕ) (before after : Seen) (s : Status) → new ≡ Some name → after.holds ≡ before.holds → s ≡ status.NoMemory → FailsToWrite new before after s
lacks_memory new name before after s is same e =
    subst (λ (n : Option (List ℕ)). FailsToWrite n before after s) (sym is) (subst (FailsToWrite (Some name) before after) (sym e) (WriteLacksMemory same))
