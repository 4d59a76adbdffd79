use Rattle.std.proofs.Common.{◌≡◌, Option, refl, ◌∙◌, subst, inl, inr}
use Rattle.std.specs.Prelude.{IfSome}
use Rattle.std.proofs.lemmas.Result.{err_from_is_err_and, IfOk-at_ok}
use Rattle.cm_base.specs.declared.play.Script.{Script}
use Rattle.cm_io.specs.Files.{Files}
use Rattle.wasm_tree.specs.Section.{ends_of}
use Rattle.wasm_tree.specs.Valid.{Valid}
use Rattle.wasm_valid.specs.Checked.{Checked}
use Rattle.commands.specs.declared.status.FileRef.TheVariants as file
use Rattle.commands.specs.Files.{IsPlayFile}
use Rattle.commands.specs.Playing.{HasModule, HasScript}
use Rattle.commands.specs.Words.{Play}
use Rattle.commands.proofs.EndLemmas.{stop_ends}
use Rattle.commands.proofs.PlayLemmas.{script_later, stopped_before, run_is_told, run_ends, run_tells}
use Rattle.commands.proofs.StepLemmas.{about_err}
use Rattle.commands.proofs.play.play_files.Goals as goal

pub returns-in_err-valid-clause-ends : goal.returns-in_err-valid-clause-ends
returns-in_err-valid-clause-ends g c =
    let p = err_from_is_err_and c.from_residual.result c.from_residual.ensures.1 in
    let stop = about_err _ c.read_valid.result c.in_err-valid.field-0.0 _ _ IsPlayFile _ c.in_err-valid.ensures c.read_valid.ensures.stopped in
    rw (p.1, p.2) (stop_ends (Play c.args.wasm.now c.args.input.now c.args.steps) _ _ _ _ c.read_valid.ensures.only_read.files (λ files t d. inl d) stop)

pub returns-in_err-valid-clause-told : goal.returns-in_err-valid-clause-told
returns-in_err-valid-clause-told g c =
    let p = err_from_is_err_and c.from_residual.result c.from_residual.ensures.1 in
    let stop = about_err _ c.read_valid.result c.in_err-valid.field-0.0 _ _ IsPlayFile _ c.in_err-valid.ensures c.read_valid.ensures.stopped in
    rw (p.1, p.2) (inl (stopped_before _ _ _ _ _ stop, refl))

pub returns-in_err-script-clause-ends : goal.returns-in_err-script-clause-ends
returns-in_err-script-clause-ends g c =
    let p = err_from_is_err_and c.from_residual-in_err-script.result c.from_residual-in_err-script.ensures.1 in
    let has = IfOk-at_ok (λ (v : Checked). IfSome (g.F.Folder.seen c.args.folder.now).holds (λ files. HasModule files c.args.wasm.now v.of v.section)) c.in_ok-valid.ensures c.read_valid.ensures.found in
    let stopped = rw c.host.ensures.same at c.read_input.ensures.stopped in
    let stop = about_err _ c.read_input.result c.in_err-script.field-0.0 _ _ (λ f. f ≡ file.Input) _ c.in_err-script.ensures stopped in
    rw (p.1, p.2) (stop_ends (Play c.args.wasm.now c.args.input.now c.args.steps) _ _ _ _ (c.read_input.ensures.only_read.files ∙ c.read_valid.ensures.only_read.files) (λ files t d. d)
    (script_later _ _ _ c.args.wasm.now c.args.input.now c.args.steps _ _ _ c.read_valid.ensures.only_read c.read_input.ensures.only_read has stop))

pub returns-in_err-script-clause-told : goal.returns-in_err-script-clause-told
returns-in_err-script-clause-told g c =
    let p = err_from_is_err_and c.from_residual-in_err-script.result c.from_residual-in_err-script.ensures.1 in
    let stop = about_err _ c.read_input.result c.in_err-script.field-0.0 _ _ (λ f. f ≡ file.Input) _ c.in_err-script.ensures c.read_input.ensures.stopped in
    rw (p.1, p.2) (inl (stopped_before _ _ _ _ _ stop, refl))

pub returns-clause-ends : goal.returns-clause-ends
returns-clause-ends g c =
    let has = IfOk-at_ok (λ (v : Checked). IfSome (g.F.Folder.seen c.args.folder.now).holds (λ files. HasModule files c.args.wasm.now v.of v.section)) c.in_ok-valid.ensures c.read_valid.ensures.found in
    let found = rw c.host.ensures.same at c.read_input.ensures.found in
    let script = IfOk-at_ok (λ (s : Script). IfSome (g.F.Folder.seen c.read_valid.new.folder).holds (λ files. HasScript files c.args.input.now (ends_of c.in_ok-valid.valid.section) s)) c.in_ok-script.ensures found in
    let has_script = subst (λ (h : Option Files). IfSome h (λ files. HasScript files c.args.input.now (ends_of c.in_ok-valid.valid.section) c.in_ok-script.script)) c.read_valid.ensures.only_read.files script in
    run_ends _ _ c.args.wasm.now c.args.input.now c.args.steps c.in_ok-valid.valid.of c.in_ok-valid.valid.section c.in_ok-script.script _ _ _ (c.read_input.ensures.only_read.files ∙ c.read_valid.ensures.only_read.files) has has_script
    (run_is_told _ _ _ _ c.args.steps _ _ c.tell_run-end.result _ c.nothing_saved-saved.ensures.none c.tell_run-end.ensures.told (c.ended_with.ensures ∙ c.of_run.ensures))

pub returns-clause-told : goal.returns-clause-told
returns-clause-told g c =
    let has = IfOk-at_ok (λ (v : Checked). IfSome (g.F.Folder.seen c.args.folder.now).holds (λ files. HasModule files c.args.wasm.now v.of v.section)) c.in_ok-valid.ensures c.read_valid.ensures.found in
    let valid = IfOk-at_ok (λ (v : Checked). Valid v.of v.section) c.in_ok-valid.ensures c.read_valid.ensures.valid in
    let found = rw c.host.ensures.same at c.read_input.ensures.found in
    let script = IfOk-at_ok (λ (s : Script). IfSome (g.F.Folder.seen c.read_valid.new.folder).holds (λ files. HasScript files c.args.input.now (ends_of c.in_ok-valid.valid.section) s)) c.in_ok-script.ensures found in
    let has_script = subst (λ (h : Option Files). IfSome h (λ files. HasScript files c.args.input.now (ends_of c.in_ok-valid.valid.section) c.in_ok-script.script)) c.read_valid.ensures.only_read.files script in
    inr (run_tells _ c.args.wasm.now c.args.input.now c.args.steps c.in_ok-valid.valid.of c.in_ok-valid.valid.section c.in_ok-script.script _ _ _ valid has has_script
    (run_is_told _ _ _ _ c.args.steps _ _ c.tell_run-end.result _ c.nothing_saved-saved.ensures.none c.tell_run-end.ensures.told (c.ended_with.ensures ∙ c.of_run.ensures)))
