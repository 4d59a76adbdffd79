use Rattle.std.proofs.Common.{◌≡◌, Option, refl, ◌∙◌, subst, inl, inr}
use Rattle.std.specs.Prelude.{IfSome}
use Rattle.std.proofs.lemmas.Result.{err_from_is_err_and, IfOk-at_ok}
use Rattle.cm_base.specs.declared.play.Script.{Script}
use Rattle.cm_base.specs.Scripts.{IsScriptFor}
use Rattle.cm_io.specs.Files.{Files}
use Rattle.wasm_tree.specs.Section.{ends_of}
use Rattle.commands.specs.declared.status.FileRef.TheVariants as file
use Rattle.commands.specs.Playing.{HasScript}
use Rattle.commands.specs.Restoring.{SavedFor}
use Rattle.commands.specs.Words.{Render, name_of}
use Rattle.commands.proofs.EndLemmas.{stop_ends}
use Rattle.commands.proofs.PlayLemmas.{stopped_before}
use Rattle.commands.proofs.RenderLemmas.{no_patch_stop, no_state_stop, no_script_stop, memory_ends, render_tells, render_ends}
use Rattle.commands.proofs.StepLemmas.{about_err, read_on}
use Rattle.commands.proofs.render.render_files.Goals as goal

pub returns-in_err-patch-clause-ends : goal.returns-in_err-patch-clause-ends
returns-in_err-patch-clause-ends g c =
    let p = err_from_is_err_and c.from_residual.result c.from_residual.ensures.1 in
    rw (p.1, p.2) (stop_ends (Render c.args.manifest.now c.args.input.now c.args.turns (name_of c.args.state)) _ _ _ _ c.in_err-patch.ensures.only_read.files (λ files t d. d)
    (no_patch_stop _ _ c.args.manifest.now c.args.input.now c.args.turns (name_of c.args.state) _ c.in_err-patch.ensures.stopped))

pub returns-in_err-patch-clause-told : goal.returns-in_err-patch-clause-told
returns-in_err-patch-clause-told g c =
    let p = err_from_is_err_and c.from_residual.result c.from_residual.ensures.1 in
    rw (p.1, p.2) (inl (stopped_before _ _ _ _ _ c.in_err-patch.ensures.stopped, refl))

pub returns-in_err-valid-clause-ends : goal.returns-in_err-valid-clause-ends
returns-in_err-valid-clause-ends g c =
    let p = err_from_is_err_and c.from_residual-in_err-valid.result c.from_residual-in_err-valid.ensures.1 in
    rw (p.1, p.2) (memory_ends _ _ c.args.manifest.now c.args.input.now c.args.turns (name_of c.args.state) c.in_ok-patch.ensures.only_read.files)

pub returns-in_err-valid-clause-told : goal.returns-in_err-valid-clause-told
returns-in_err-valid-clause-told g c =
    let p = err_from_is_err_and c.from_residual-in_err-valid.result c.from_residual-in_err-valid.ensures.1 in
    rw (p.1, p.2) (inl (tt, refl))

pub returns-in_err-saved-clause-ends : goal.returns-in_err-saved-clause-ends
returns-in_err-saved-clause-ends g c =
    let p = err_from_is_err_and c.from_residual-in_err-saved.result c.from_residual-in_err-saved.ensures.1 in
    rw (p.1, p.2) (stop_ends (Render c.args.manifest.now c.args.input.now c.args.turns (name_of c.args.state)) _ _ _ _ (c.in_err-saved.ensures.only_read.files ∙ c.in_ok-patch.ensures.only_read.files) (λ files t d. d)
    (no_state_stop _ _ _ c.args.manifest.now c.args.input.now c.args.turns (name_of c.args.state) _ _ _ c.in_ok-patch.ensures.only_read c.in_err-saved.ensures.only_read c.in_ok-patch.ensures.found c.in_ok-patch.ensures.some c.in_err-saved.ensures.stopped))

pub returns-in_err-saved-clause-told : goal.returns-in_err-saved-clause-told
returns-in_err-saved-clause-told g c =
    let p = err_from_is_err_and c.from_residual-in_err-saved.result c.from_residual-in_err-saved.ensures.1 in
    rw (p.1, p.2) (inl (stopped_before _ _ _ _ _ c.in_err-saved.ensures.stopped, refl))

pub returns-in_err-script-clause-ends : goal.returns-in_err-script-clause-ends
returns-in_err-script-clause-ends g c =
    let p = err_from_is_err_and c.from_residual-in_err-script.result c.from_residual-in_err-script.ensures.1 in
    let read = read_on _ _ _ c.in_ok-patch.ensures.only_read c.in_ok-saved.ensures.only_read in
    let stopped = rw c.host-2.ensures.same at c.read_input.ensures.stopped in
    let stop = about_err _ c.read_input.result c.in_err-script.field-0.0 _ _ (λ f. f ≡ file.Input) _ c.in_err-script.ensures stopped in
    let has_saved = subst (λ (h : Option Files). SavedFor (name_of c.args.state) h (ends_of c.in_ok-valid.valid.section) c.in_ok-saved.saved) c.in_ok-patch.ensures.only_read.files (rw c.host.ensures.same at c.in_ok-saved.ensures.saved) in
    rw (p.1, p.2) (stop_ends (Render c.args.manifest.now c.args.input.now c.args.turns (name_of c.args.state)) _ _ _ _ (c.read_input.ensures.only_read.files ∙ read.files) (λ files t d. d)
    (no_script_stop _ _ _ c.args.manifest.now c.args.input.now c.args.turns (name_of c.args.state) _ _ _ _ c.in_ok-saved.saved _ read c.read_input.ensures.only_read c.in_ok-patch.ensures.found c.in_ok-patch.ensures.some
    c.in_ok-valid.ensures.keeps c.in_ok-valid.ensures.valid has_saved stop))

pub returns-in_err-script-clause-told : goal.returns-in_err-script-clause-told
returns-in_err-script-clause-told g c =
    let p = err_from_is_err_and c.from_residual-in_err-script.result c.from_residual-in_err-script.ensures.1 in
    let stop = about_err _ c.read_input.result c.in_err-script.field-0.0 _ _ (λ f. f ≡ file.Input) _ c.in_err-script.ensures c.read_input.ensures.stopped in
    rw (p.1, p.2) (inl (stopped_before _ _ _ _ _ stop, refl))

pub returns-clause-told : goal.returns-clause-told
returns-clause-told g c =
    let section = c.in_ok-valid.valid.section in
    let read = read_on _ _ _ c.in_ok-patch.ensures.only_read c.in_ok-saved.ensures.only_read in
    let saves = rw c.host.ensures.same at c.in_ok-saved.ensures.saved in
    let in_range = rw c.host.ensures.same at c.in_ok-saved.ensures.in_range in
    let has_saved = subst (λ (h : Option Files). SavedFor (name_of c.args.state) h (ends_of section) c.in_ok-saved.saved) c.in_ok-patch.ensures.only_read.files saves in
    let found = rw c.host-2.ensures.same at c.read_input.ensures.found in
    let script = IfOk-at_ok (λ (s : Script). IfSome (g.F.Folder.seen c.read_saved.new.folder).holds (λ files. HasScript files c.args.input.now (ends_of section) s)) c.in_ok-script.ensures found in
    let has_script = subst (λ (h : Option Files). IfSome h (λ files. HasScript files c.args.input.now (ends_of section) c.in_ok-script.script)) read.files script in
    let belongs = IfOk-at_ok (IsScriptFor (ends_of section)) c.in_ok-script.ensures (rw c.host-2.ensures.same at c.read_input.ensures.belongs) in
    let answered = c.ended_with.ensures ∙ c.of_patch_run.ensures in
    let runs = render_tells _ c.args.manifest.now c.args.input.now c.args.turns (name_of c.args.state) _ _ _ section c.in_ok-saved.saved c.in_ok-script.script _ _ _ c.tell_run-end.result _
    (record { named = c.in_ok-patch.ensures.found; some = c.in_ok-patch.ensures.some; keeps = c.in_ok-valid.ensures.keeps; valid = c.in_ok-valid.ensures.valid; has_saved = has_saved; in_range = in_range; has_script = has_script; belongs = belongs })
    c.reductions-steps.ensures c.tell_run-end.ensures.told answered in
    inr runs

pub returns-clause-ends : goal.returns-clause-ends
returns-clause-ends g c =
    let section = c.in_ok-valid.valid.section in
    let read = read_on _ _ _ c.in_ok-patch.ensures.only_read c.in_ok-saved.ensures.only_read in
    let saves = rw c.host.ensures.same at c.in_ok-saved.ensures.saved in
    let in_range = rw c.host.ensures.same at c.in_ok-saved.ensures.in_range in
    let has_saved = subst (λ (h : Option Files). SavedFor (name_of c.args.state) h (ends_of section) c.in_ok-saved.saved) c.in_ok-patch.ensures.only_read.files saves in
    let found = rw c.host-2.ensures.same at c.read_input.ensures.found in
    let script = IfOk-at_ok (λ (s : Script). IfSome (g.F.Folder.seen c.read_saved.new.folder).holds (λ files. HasScript files c.args.input.now (ends_of section) s)) c.in_ok-script.ensures found in
    let has_script = subst (λ (h : Option Files). IfSome h (λ files. HasScript files c.args.input.now (ends_of section) c.in_ok-script.script)) read.files script in
    let belongs = IfOk-at_ok (IsScriptFor (ends_of section)) c.in_ok-script.ensures (rw c.host-2.ensures.same at c.read_input.ensures.belongs) in
    let answered = c.ended_with.ensures ∙ c.of_patch_run.ensures in
    let runs = render_tells _ c.args.manifest.now c.args.input.now c.args.turns (name_of c.args.state) _ _ _ section c.in_ok-saved.saved c.in_ok-script.script _ _ _ c.tell_run-end.result _
    (record { named = c.in_ok-patch.ensures.found; some = c.in_ok-patch.ensures.some; keeps = c.in_ok-valid.ensures.keeps; valid = c.in_ok-valid.ensures.valid; has_saved = has_saved; in_range = in_range; has_script = has_script; belongs = belongs })
    c.reductions-steps.ensures c.tell_run-end.ensures.told answered in
    render_ends _ _ c.args.manifest.now c.args.input.now c.args.turns (name_of c.args.state) _ _ _ (c.read_input.ensures.only_read.files ∙ read.files) runs
