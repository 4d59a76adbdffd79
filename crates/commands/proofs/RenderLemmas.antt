-- How `render` ends.
use Rattle.std.proofs.Common.{◌≡◌, ℕ, ◌+◌, ◌*◌, List, Option, Some, None, refl, sym, ◌∙◌, ap, subst, arith, false, inl, inr}
use Rattle.std.specs.Prelude.{IfSome}
use Rattle.cm_base.specs.declared.play.Item.{Item}
use Rattle.cm_base.specs.declared.play.Saved.{Saved}
use Rattle.cm_base.specs.declared.play.Script.{Script}
use Rattle.cm_base.specs.declared.host.HostEnd.{HostEnd}
use Rattle.cm_base.specs.Parts.{Part, part_at, tasks_of}
use Rattle.cm_base.specs.Players.{Ending, Ended, Out, Trapped, Outcome, Stop, AtEnd, OutIn, TrappedIn, outcome_of}
use Rattle.cm_base.specs.Scripts.{IsScriptFor, AreSaved}
use Rattle.cm_io.specs.Files.{Files}
use Rattle.cm_io.specs.Seen.{Seen, OnlyRead}
use Rattle.cm_meaning.specs.Linked.{Linked}
use Rattle.cm_meaning.specs.PatchRun.{host_ends}
use Rattle.item_lines.specs.declared.telling.Told.{Told}
use Rattle.item_lines.specs.declared.telling.Told.TheVariants as heard
use Rattle.item_lines.specs.Telling.{Outside, is_heard}
use Rattle.module_build.specs.Build.{KeepsPatch, KeepsForm}
use Rattle.patch_sizes.specs.PatchSizes.{cost}
use Rattle.run_lines.specs.declared.ending.RunEnd.{RunEnd}
use Rattle.run_lines.specs.Runs.{RunTells, Whole, Cut, NotBegun, end_of, end_at}
use Rattle.through_meaning.proofs.Formed.{worked}
use Rattle.through_meaning.proofs.Sized.{cost_is}
use Rattle.through_meaning.specs.Patches.{IsThroughPatch}
use Rattle.wasm_runs.proofs.Over.{out_at, spent_over}
use Rattle.wasm_tree.proofs.SectionCodes.{section_unique}
use Rattle.wasm_tree.specs.declared.module.Module.{Module}
use Rattle.wasm_tree.specs.HostRun.{Instance, host_tasks, first_instance, host_stops, module_player}
use Rattle.wasm_tree.specs.Section.{CmajorSection, ends_of}
use Rattle.wasm_tree.specs.Valid.{Valid}
use Rattle.commands.specs.declared.status.FileRef.{FileRef}
use Rattle.commands.specs.declared.status.FileRef.TheVariants as file
use Rattle.commands.specs.declared.status.Status.{Status}
use Rattle.commands.specs.declared.status.Status.TheVariants as status
use Rattle.commands.specs.Files.{IsPatchFile, IsRenderFile, IsStateFile}
use Rattle.commands.specs.Patch.{MeanPatch, NameSome, PatchOf, NamedPatchOf, NoPatch}
use Rattle.commands.specs.Playing.{HasScript, NoScript, run_of}
use Rattle.commands.specs.Rendering.{reductions_for, LacksTurns, RunsWithin, IsRunDue, RunEnds, OutOfTurns, IsScriptDue, IsRenderDue, RenderRuns}
use Rattle.commands.specs.Restoring.{NoSaved, SavedFor}
use Rattle.commands.specs.Statuses.{MayAnswer, HasCause, OnExplained, OnUnwritten, status_of_patch_run}
use Rattle.commands.specs.Steps.{Stopped, Ends}
use Rattle.commands.specs.Words.{Render}
use Rattle.commands.proofs.EndLemmas.{meant, patch_of}
use Rattle.commands.proofs.PlayLemmas.{both_told}
use Rattle.commands.proofs.RestoreLemmas.{saved_told}
use Rattle.commands.proofs.StepLemmas.{told_all, told_both, stop_of, stop_later}

-- ---- the run of the module is one of the patch

out_of : {World : Type 0} (tells : World → List Item) (s : Stop World) (part : Part) → (outcome_of tells s).ending ≡ Out part → (last : World) × (s ≡ OutIn part last)
out_of tells (AtEnd world) part e = absurd (cc (e))
out_of tells (OutIn other world) part e = let same : other ≡ part = cc (e) in (world, ap (λ p. OutIn p world) same)
out_of tells (TrappedIn other world) part e = absurd (cc (e))

lacks_turns : (patch : Linked) (m : Module) (saved : List Saved) (script : Script) (turns : ℕ) (k : KeepsPatch patch m) → AreSaved (host_ends patch) saved → IsScriptFor (host_ends patch) script → (part : Part) →
    (run_of m k.section saved script (reductions_for patch turns)).ending ≡ Out part → LacksTurns patch saved script turns part
lacks_turns patch m saved script turns k in_range belongs part e =
    let stop = out_of (λ (i : Instance). i.trace) (host_stops m k.section saved script script.frames (reductions_for patch turns)) part e in
    let at = out_at (module_player m k.section) (reductions_for patch turns) (host_tasks k.section saved script script.frames) (first_instance m k.section) stop.0 part stop.1 in
    record {
      number = at.0;
      is_part = subst (λ (ends : List HostEnd). part_at at.0 (tasks_of ends saved script script.frames) ≡ Some part) k.endpoints at.1;
      spent = spent_over (k.runs saved script script.frames in_range belongs (omega arith)) turns at.0 at.2;
    }

own_within : (patch : Linked) (m : Module) (saved : List Saved) (script : Script) (turns : ℕ) (k : KeepsPatch patch m) → AreSaved (host_ends patch) saved → IsScriptFor (host_ends patch) script →
    RunsWithin patch saved script turns (run_of m k.section saved script (reductions_for patch turns))
own_within patch m saved script turns k in_range belongs =
    let keeps = k.runs saved script script.frames in_range belongs (omega arith) in
    record {
      enough = keeps.forward turns;
      ended = keeps.backward (reductions_for patch turns);
      reached = keeps.reached turns;
      told = keeps.told (reductions_for patch turns);
      lacks = lacks_turns patch m saved script turns k in_range belongs;
      never_traps = keeps.never_traps (reductions_for patch turns);
    }

-- the module that keeps a patch runs within the turns that its reductions are worth
runs_within : (patch : Linked) (m : Module) (section : CmajorSection) (saved : List Saved) (script : Script) (turns : ℕ) (k : KeepsPatch patch m) → section ≡ k.section → AreSaved (host_ends patch) saved → IsScriptFor (host_ends patch) script →
    RunsWithin patch saved script turns (run_of m section saved script (reductions_for patch turns))
runs_within patch m section saved script turns k same in_range belongs =
    subst (λ (s : CmajorSection). RunsWithin patch saved script turns (run_of m s saved script (reductions_for patch turns))) (sym same) (own_within patch m saved script turns k in_range belongs)

-- how many reductions a turn is worth
pub reductions_are : (input output : List ℕ) (turns : ℕ) (p : Linked) → IsThroughPatch input output p → 4352 * (turns + 1) ≡ reductions_for p turns
reductions_are input output turns p is =
    let w = worked is in
    ap (λ (c : ℕ). c * (turns + 1)) (sym (ap cost w.is ∙ cost_is w.files w.parts input output w.known w.names w.places))

-- ---- the patch

-- the patch that was found; where files are told, they hold it
patch_for : (held : Option Files) (manifest input output : List ℕ) → IfSome held (λ files. NamedPatchOf files manifest input output) → NameSome input output →
    (patch : Linked) × IsThroughPatch input output patch × ((texts : List (List ℕ)) × MeanPatch texts patch) × IfSome held (λ files. PatchOf files manifest patch)
patch_for None manifest input output found some = let p = meant some.texts input output some.named in (p.0, p.1, (some.texts, p.2), tt)
patch_for (Some files) manifest input output found some = let p = patch_of files manifest input output found in (p.0, p.1, (p.2.texts, p.2.mean), p.2)

-- the section of a module that keeps the patch is the one that it keeps it with
section_is : (input output : List ℕ) (m : Module) (section : CmajorSection) (patch : Linked) (keeps : KeepsForm input output m) (is : IsThroughPatch input output patch) → Valid m section → section ≡ (keeps patch is).section
section_is input output m section patch keeps is valid = section_unique m section (keeps patch is).section valid.cmajor.described (keeps patch is).valid.cmajor.described

-- ---- what is told

-- what was found before a run of the module: the names of the patch, saved parameters and a script
pub record IsFound (held : Option Files) (manifest words : List ℕ) (state : Option (List ℕ)) (input output : List ℕ) (m : Module) (section : CmajorSection) (saved : List Saved) (script : Script) : Type 0 where
  pub named : IfSome held (λ files. NamedPatchOf files manifest input output)
  pub some : NameSome input output
  pub keeps : KeepsForm input output m
  pub valid : Valid m section
  pub has_saved : SavedFor state held (ends_of section) saved
  pub in_range : AreSaved (ends_of section) saved
  pub has_script : IfSome held (λ files. HasScript files words (ends_of section) script)
  pub belongs : IsScriptFor (ends_of section) script

-- the run of the module is told, which is one of the patch
pub render_tells : (held : Option Files) (manifest words : List ℕ) (turns : ℕ) (state : Option (List ℕ)) (input output : List ℕ) (m : Module) (section : CmajorSection) (saved : List Saved) (script : Script) (steps : ℕ) (out out' : Outside) (end : RunEnd) (s : Status) →
    IsFound held manifest words state input output m section saved script → ((p : Linked) → IsThroughPatch input output p → steps ≡ reductions_for p turns) → RunTells (ends_of section) (run_of m section saved script steps) out out' end →
    s ≡ status_of_patch_run end → RenderRuns held manifest words turns state out out' s
render_tells held manifest words turns state input output m section saved script steps out out' end s found worth tells answered =
    let p = patch_for held manifest input output found.named found.some in
    let same = section_is input output m section p.0 found.keeps p.1 found.valid in
    let k = found.keeps p.0 p.1 in
    let ends : ends_of section ≡ host_ends p.0 = ap ends_of same ∙ k.endpoints in
    let in_range = subst (λ (e : List HostEnd). AreSaved e saved) ends found.in_range in
    let belongs = subst (λ (e : List HostEnd). IsScriptFor e script) ends found.belongs in
    record {
      texts = p.2.0;
      patch = p.0;
      means = p.2.1;
      saved = saved;
      in_range = in_range;
      script = script;
      has_patch = p.3;
      has_saved = subst (λ (e : List HostEnd). SavedFor state held e saved) ends found.has_saved;
      has_script = subst (λ (e : List HostEnd). IfSome held (λ files. HasScript files words e script)) ends found.has_script;
      told = record {
        run = run_of m section saved script (reductions_for p.0 turns);
        within = runs_within p.0 m section saved script turns k same in_range belongs;
        end = end;
        answered = answered;
        tells = subst (λ (e : List HostEnd). RunTells e (run_of m section saved script (reductions_for p.0 turns)) out out' end) ends
            (subst (λ (n : ℕ). RunTells (ends_of section) (run_of m section saved script n) out out' end) (worth p.0 p.1) tells);
      };
    }

-- ---- the end

ends_so : (before after : Seen) (manifest input : List ℕ) (turns : ℕ) (state : Option (List ℕ)) (s : Status) → after.holds ≡ before.holds → MayAnswer (Render manifest input turns state) s →
    OnExplained s (IfSome before.holds (λ files. IsRenderDue files manifest input turns state s)) → HasCause before after s → OnUnwritten s (after.holds ≡ before.holds) → Ends (Render manifest input turns state) before after s
ends_so before after manifest input turns state s same may explained caused unwritten =
    record { may = may; explained = explained; caused = caused; done = λ e. both_told before.holds after.holds; others = same; unwritten = unwritten }

lacks_memory : (before after : Seen) (manifest input : List ℕ) (turns : ℕ) (state : Option (List ℕ)) → after.holds ≡ before.holds → Ends (Render manifest input turns state) before after status.NoMemory
lacks_memory before after manifest input turns state same = ends_so before after manifest input turns state status.NoMemory same tt tt tt same

cut_ends : (before after : Seen) (manifest input : List ℕ) (turns : ℕ) (state : Option (List ℕ)) (answer : Told) → after.holds ≡ before.holds → is_heard answer ≡ false → Ends (Render manifest input turns state) before after (status_of_patch_run (end_at answer))
cut_ends before after manifest input turns state heard.Heard same not = absurd (cc not)
cut_ends before after manifest input turns state heard.PutFailed same not = ends_so before after manifest input turns state _ same refl tt tt same
cut_ends before after manifest input turns state heard.PutLacksMemory same not = lacks_memory before after manifest input turns state same
cut_ends before after manifest input turns state heard.LineLacksMemory same not = lacks_memory before after manifest input turns state same
cut_ends before after manifest input turns state (heard.ListenerFailed number) same not = ends_so before after manifest input turns state (status.ListenerFault number) same (inl tt) tt tt same
cut_ends before after manifest input turns state (heard.ListenerLacksMemory number) same not = lacks_memory before after manifest input turns state same

whole_ends : (before after : Seen) (manifest input : List ℕ) (turns : ℕ) (state : Option (List ℕ)) (patch : Linked) (saved : List Saved) (script : Script) (due : Outcome) (ending : Ending) → after.holds ≡ before.holds → RunsWithin patch saved script turns due → due.ending ≡ ending →
    ((t : Status) → IsRunDue patch saved script turns t → IfSome before.holds (λ files. IsRenderDue files manifest input turns state t)) → Ends (Render manifest input turns state) before after (status_of_patch_run (end_of ending))
whole_ends before after manifest input turns state patch saved script due Ended same within is lift =
    ends_so before after manifest input turns state status.Ok same tt (lift status.Ok (RunEnds (ap (λ (o : Outcome). o.ending) (within.ended is) ∙ is))) tt tt
whole_ends before after manifest input turns state patch saved script due (Out part) same within is lift =
    ends_so before after manifest input turns state _ same tt
    (lift _ (OutOfTurns part (λ e. let other : due.ending ≡ Ended = ap (λ (o : Outcome). o.ending) (within.enough e) ∙ e in cc (other, is)) (within.lacks part is))) tt same
whole_ends before after manifest input turns state patch saved script due (Trapped part) same within is lift = absurd (within.never_traps part is)

told_ends : (before after : Seen) (manifest input : List ℕ) (turns : ℕ) (state : Option (List ℕ)) (patch : Linked) (saved : List Saved) (script : Script) (ends : List HostEnd) (due : Outcome) (out out' : Outside) (end : RunEnd) → after.holds ≡ before.holds → RunsWithin patch saved script turns due →
    ((t : Status) → IsRunDue patch saved script turns t → IfSome before.holds (λ files. IsRenderDue files manifest input turns state t)) → RunTells ends due out out' end → Ends (Render manifest input turns state) before after (status_of_patch_run end)
told_ends before after manifest input turns state patch saved script ends due out out' end same within lift (Whole is all) =
    subst (λ (e : RunEnd). Ends (Render manifest input turns state) before after (status_of_patch_run e)) (sym is) (whole_ends before after manifest input turns state patch saved script due due.ending same within refl lift)
told_ends before after manifest input turns state patch saved script ends due out out' end same within lift (Cut first item others between answer parts all tells not is) =
    subst (λ (e : RunEnd). Ends (Render manifest input turns state) before after (status_of_patch_run e)) (sym is) (cut_ends before after manifest input turns state answer same not)
told_ends before after manifest input turns state patch saved script ends due out out' end same within lift (NotBegun is nothing) =
    subst (λ (e : RunEnd). Ends (Render manifest input turns state) before after (status_of_patch_run e)) (sym is) (lacks_memory before after manifest input turns state same)

-- what is due for the run is due for `render`
run_due : (held : Option Files) (manifest input : List ℕ) (turns : ℕ) (state : Option (List ℕ)) (patch : Linked) (saved : List Saved) (script : Script) → IfSome held (λ files. PatchOf files manifest patch) → SavedFor state held (host_ends patch) saved →
    IfSome held (λ files. HasScript files input (host_ends patch) script) → (t : Status) → IsRunDue patch saved script turns t → IfSome held (λ files. IsRenderDue files manifest input turns state t)
run_due held manifest input turns state patch saved script has_patch has_saved has_script t due =
    told_both held _ _ _ (λ files p later. inr (patch, p, inr later)) has_patch
    (told_both held _ _ (λ files. (saved : List Saved) × SavedFor state (Some files) (host_ends patch) saved × IsScriptDue files input turns patch saved t) (λ files h g. (saved, h, inr (script, g, due)))
    (saved_told state held (host_ends patch) saved has_saved) has_script)

-- `render` ends with the end of its run
pub render_ends : (before after : Seen) (manifest input : List ℕ) (turns : ℕ) (state : Option (List ℕ)) (out out' : Outside) (s : Status) → after.holds ≡ before.holds → RenderRuns before.holds manifest input turns state out out' s →
    Ends (Render manifest input turns state) before after s
render_ends before after manifest input turns state out out' s same r =
    subst (λ (t : Status). Ends (Render manifest input turns state) before after t) (sym r.told.answered)
    (told_ends before after manifest input turns state r.patch r.saved r.script (host_ends r.patch) r.told.run out out' r.told.end same r.told.within
    (run_due before.holds manifest input turns state r.patch r.saved r.script r.has_patch r.has_saved r.has_script) r.told.tells)

-- ---- steps before the run

in_render : (state : Option (List ℕ)) (f : FileRef) → IsPatchFile f → IsRenderFile state f
in_render state file.Manifest is = is
in_render state (file.Source number) is = is
in_render state file.State is = absurd is
in_render state file.Input is = absurd is
in_render state file.Module is = is

-- no patch, so nothing is run
pub no_patch_stop : (before after : Seen) (manifest input : List ℕ) (turns : ℕ) (state : Option (List ℕ)) (s : Status) → Stopped before after IsPatchFile (λ files. NoPatch files manifest) s →
    Stopped before after (IsRenderFile state) (λ files. IsRenderDue files manifest input turns state) s
no_patch_stop before after manifest input turns state s stop =
    stop_of before after IsPatchFile (IsRenderFile state) (λ files. Unit {0}) _ _ s (in_render state) (told_all before.holds) (λ files t u d. inl d) stop

state_in_render : (state : Option (List ℕ)) (f : FileRef) → IsStateFile state f → IsRenderFile state f
state_in_render None f is = absurd is
state_in_render (Some name) f is = subst (IsRenderFile (Some name)) (sym is) refl

-- no state, so nothing is run
pub no_state_stop : (before mid after : Seen) (manifest words : List ℕ) (turns : ℕ) (state : Option (List ℕ)) (input output : List ℕ) (s : Status) → OnlyRead before mid → OnlyRead mid after →
    IfSome before.holds (λ files. NamedPatchOf files manifest input output) → NameSome input output → Stopped mid after (IsStateFile state) (λ files. NoSaved files state) s →
    Stopped before after (IsRenderFile state) (λ files. IsRenderDue files manifest words turns state) s
no_state_stop before mid after manifest words turns state input output s first second found some stop =
    let p = patch_for before.holds manifest input output found some in
    stop_of before after _ (IsRenderFile state) (λ files. PatchOf files manifest p.0) _ _ s (state_in_render state) p.3
    (λ files t has d. inr (p.0, has, inl d)) (stop_later before mid after _ _ s first second.counts stop)

-- no script, so nothing is run
pub no_script_stop : (before mid after : Seen) (manifest words : List ℕ) (turns : ℕ) (state : Option (List ℕ)) (input output : List ℕ) (m : Module) (section : CmajorSection) (saved : List Saved) (s : Status) → OnlyRead before mid → OnlyRead mid after →
    IfSome before.holds (λ files. NamedPatchOf files manifest input output) → NameSome input output → KeepsForm input output m → Valid m section → SavedFor state before.holds (ends_of section) saved →
    Stopped mid after (λ f. f ≡ file.Input) (λ files. NoScript files words (ends_of section)) s → Stopped before after (IsRenderFile state) (λ files. IsRenderDue files manifest words turns state) s
no_script_stop before mid after manifest words turns state input output m section saved s first second found some keeps valid has_saved stop =
    let p = patch_for before.holds manifest input output found some in
    let ends : ends_of section ≡ host_ends p.0 = ap ends_of (section_is input output m section p.0 keeps p.1 valid) ∙ (keeps p.0 p.1).endpoints in
    let saves = saved_told state before.holds (host_ends p.0) saved (subst (λ (e : List HostEnd). SavedFor state before.holds e saved) ends has_saved) in
    let both = told_both before.holds _ _ (λ files. PatchOf files manifest p.0 × SavedFor state (Some files) (host_ends p.0) saved) (λ files h g. (h, g)) p.3 saves in
    stop_of before after _ (IsRenderFile state) (λ files. PatchOf files manifest p.0 × SavedFor state (Some files) (host_ends p.0) saved) _ _ s (λ f e. subst (IsRenderFile state) (sym e) tt) both
    (λ files t has d. inr (p.0, has.0, inr (saved, has.1, inl (subst (λ (e : List HostEnd). NoScript files words e t) ends d)))) (stop_later before mid after _ _ s first second.counts stop)

-- memory ran out before the run
pub memory_ends : (before after : Seen) (manifest input : List ℕ) (turns : ℕ) (state : Option (List ℕ)) → after.holds ≡ before.holds → Ends (Render manifest input turns state) before after status.NoMemory
memory_ends = lacks_memory
