use Rattle.std.proofs.Common.{◌≡◌, Option, refl, ◌∙◌, subst, inl, inr}
use Rattle.std.specs.Prelude.{IfSome}
use Rattle.std.proofs.lemmas.Result.{err_from_is_err_and, IfOk-at_ok}
use Rattle.cm_base.specs.declared.play.Script.{Script}
use Rattle.cm_io.specs.Files.{Files}
use Rattle.module_player.specs.Playing.{instance_of}
use Rattle.wasm_runner.specs.Snapshots.{Fits}
use Rattle.wasm_tree.specs.Section.{ends_of}
use Rattle.wasm_tree.specs.Valid.{Valid}
use Rattle.commands.specs.declared.resume.StoppedRun.{StoppedRun}
use Rattle.commands.specs.declared.status.FileRef.TheVariants as file
use Rattle.commands.specs.Playing.{HasScript}
use Rattle.commands.specs.Resuming.{HasStopped}
use Rattle.commands.specs.Words.{Resume, name_of}
use Rattle.commands.proofs.EndLemmas.{stop_ends}
use Rattle.commands.proofs.PlayLemmas.{stopped_before}
use Rattle.commands.proofs.ResumeLemmas.{state_named, state_ends, state_before, no_script_stop, early_ends, early_tells, late_ends, late_tells, left_state}
use Rattle.commands.proofs.StepLemmas.{about_err, read_on}
use Rattle.commands.proofs.resume.resume_files.Goals as goal

pub returns-in_err-stopped-clause-ends : goal.returns-in_err-stopped-clause-ends
returns-in_err-stopped-clause-ends g c =
    let p = err_from_is_err_and c.from_residual.result c.from_residual.ensures.1 in
    let stop = state_named c.read_stopped.result c.in_err-stopped.field-0.0 _ _ _ c.in_err-stopped.ensures c.read_stopped.ensures.stopped in
    rw (p.1, p.2) (state_ends _ _ c.args.state.now c.args.input.now c.args.steps (name_of c.args.new) _ c.read_stopped.ensures.only_read.files stop)

pub returns-in_err-stopped-clause-told : goal.returns-in_err-stopped-clause-told
returns-in_err-stopped-clause-told g c =
    let p = err_from_is_err_and c.from_residual.result c.from_residual.ensures.1 in
    let stop = state_named c.read_stopped.result c.in_err-stopped.field-0.0 _ _ _ c.in_err-stopped.ensures c.read_stopped.ensures.stopped in
    rw (p.1, p.2) (inl (state_before _ _ _ _ stop, refl))

pub returns-in_err-script-clause-ends : goal.returns-in_err-script-clause-ends
returns-in_err-script-clause-ends g c =
    let p = err_from_is_err_and c.from_residual-in_err-script.result c.from_residual-in_err-script.ensures.1 in
    let has = IfOk-at_ok (λ (r : StoppedRun). IfSome (g.F.Folder.seen c.args.folder.now).holds (λ files. HasStopped files c.args.state.now r.state r.valid.of r.valid.section)) c.in_ok-stopped.ensures c.read_stopped.ensures.found in
    let stopped = rw c.host.ensures.same at c.read_input.ensures.stopped in
    let stop = about_err _ c.read_input.result c.in_err-script.field-0.0 _ _ (λ f. f ≡ file.Input) _ c.in_err-script.ensures stopped in
    rw (p.1, p.2) (stop_ends (Resume c.args.state.now c.args.input.now c.args.steps (name_of c.args.new)) _ _ _ _ (c.read_input.ensures.only_read.files ∙ c.read_stopped.ensures.only_read.files) (λ files t d. d)
    (no_script_stop _ _ _ c.args.state.now c.args.input.now c.args.steps _ _ _ _ c.read_stopped.ensures.only_read c.read_input.ensures.only_read has stop))

pub returns-in_err-script-clause-told : goal.returns-in_err-script-clause-told
returns-in_err-script-clause-told g c =
    let p = err_from_is_err_and c.from_residual-in_err-script.result c.from_residual-in_err-script.ensures.1 in
    let stop = about_err _ c.read_input.result c.in_err-script.field-0.0 _ _ (λ f. f ≡ file.Input) _ c.in_err-script.ensures c.read_input.ensures.stopped in
    rw (p.1, p.2) (inl (stopped_before _ _ _ _ _ stop, refl))

pub returns-in-Ok-clause-ends : goal.returns-in-Ok-clause-ends
returns-in-Ok-clause-ends g c =
    let has = IfOk-at_ok (λ (r : StoppedRun). IfSome (g.F.Folder.seen c.args.folder.now).holds (λ files. HasStopped files c.args.state.now r.state r.valid.of r.valid.section)) c.in_ok-stopped.ensures c.read_stopped.ensures.found in
    let valid = IfOk-at_ok (λ (r : StoppedRun). Valid r.valid.of r.valid.section) c.in_ok-stopped.ensures c.read_stopped.ensures.valid in
    let fits = IfOk-at_ok (λ (r : StoppedRun). Fits r.valid.of r.valid.section r.state.snapshot) c.in_ok-stopped.ensures c.read_stopped.ensures.fits in
    let told = rw c.host.ensures.same at c.read_input.ensures.found in
    let script = IfOk-at_ok (λ (s : Script). IfSome (g.F.Folder.seen c.read_stopped.new.folder).holds (λ files. HasScript files c.args.input.now (ends_of c.in_ok-stopped.stopped.valid.section) s)) c.in_ok-script.ensures told in
    let has_script = subst (λ (h : Option Files). IfSome h (λ files. HasScript files c.args.input.now (ends_of c.in_ok-stopped.stopped.valid.section) c.in_ok-script.script)) c.read_stopped.ensures.only_read.files script in
    let left = c.in-Ok.ensures.left in
    late_ends c.args.state.now c.args.input.now c.args.steps (name_of c.args.new) c.in_ok-stopped.stopped.state c.in_ok-stopped.stopped.valid.of c.in_ok-stopped.stopped.valid.section c.in_ok-script.script _ _ c.write_new.result _ _ _
    (instance_of c.in-Ok.player left.trace) (read_on _ _ _ c.read_stopped.ensures.only_read c.read_input.ensures.only_read) c.write_new.ensures.counts c.write_new.ensures.others
    (record { valid = valid; fits = fits; has_state = has; has_script = has_script }) c.in-Ok.ensures.told left.ends
    (left_state c.write_new.result (name_of c.args.new) _ c.in_ok-stopped.stopped.state c.in_ok-script.script c.in_ok-stopped.stopped.valid c.in-Ok.player left.trace left.of c.write_new.ensures.written) c.write_new.ensures.failure

pub returns-in-Ok-clause-told : goal.returns-in-Ok-clause-told
returns-in-Ok-clause-told g c =
    let has = IfOk-at_ok (λ (r : StoppedRun). IfSome (g.F.Folder.seen c.args.folder.now).holds (λ files. HasStopped files c.args.state.now r.state r.valid.of r.valid.section)) c.in_ok-stopped.ensures c.read_stopped.ensures.found in
    let valid = IfOk-at_ok (λ (r : StoppedRun). Valid r.valid.of r.valid.section) c.in_ok-stopped.ensures c.read_stopped.ensures.valid in
    let fits = IfOk-at_ok (λ (r : StoppedRun). Fits r.valid.of r.valid.section r.state.snapshot) c.in_ok-stopped.ensures c.read_stopped.ensures.fits in
    let told = rw c.host.ensures.same at c.read_input.ensures.found in
    let script = IfOk-at_ok (λ (s : Script). IfSome (g.F.Folder.seen c.read_stopped.new.folder).holds (λ files. HasScript files c.args.input.now (ends_of c.in_ok-stopped.stopped.valid.section) s)) c.in_ok-script.ensures told in
    let has_script = subst (λ (h : Option Files). IfSome h (λ files. HasScript files c.args.input.now (ends_of c.in_ok-stopped.stopped.valid.section) c.in_ok-script.script)) c.read_stopped.ensures.only_read.files script in
    inr (late_tells c.args.state.now c.args.input.now c.args.steps (name_of c.args.new) c.in_ok-stopped.stopped.state c.in_ok-stopped.stopped.valid.of c.in_ok-stopped.stopped.valid.section c.in_ok-script.script _ _ c.write_new.result _ _ _
    (record { valid = valid; fits = fits; has_state = has; has_script = has_script }) c.in-Ok.ensures.told c.write_new.ensures.failure)

pub returns-clause-ends : goal.returns-clause-ends
returns-clause-ends g c =
    let has = IfOk-at_ok (λ (r : StoppedRun). IfSome (g.F.Folder.seen c.args.folder.now).holds (λ files. HasStopped files c.args.state.now r.state r.valid.of r.valid.section)) c.in_ok-stopped.ensures c.read_stopped.ensures.found in
    let valid = IfOk-at_ok (λ (r : StoppedRun). Valid r.valid.of r.valid.section) c.in_ok-stopped.ensures c.read_stopped.ensures.valid in
    let fits = IfOk-at_ok (λ (r : StoppedRun). Fits r.valid.of r.valid.section r.state.snapshot) c.in_ok-stopped.ensures c.read_stopped.ensures.fits in
    let told = rw c.host.ensures.same at c.read_input.ensures.found in
    let script = IfOk-at_ok (λ (s : Script). IfSome (g.F.Folder.seen c.read_stopped.new.folder).holds (λ files. HasScript files c.args.input.now (ends_of c.in_ok-stopped.stopped.valid.section) s)) c.in_ok-script.ensures told in
    let has_script = subst (λ (h : Option Files). IfSome h (λ files. HasScript files c.args.input.now (ends_of c.in_ok-stopped.stopped.valid.section) c.in_ok-script.script)) c.read_stopped.ensures.only_read.files script in
    early_ends c.args.state.now c.args.input.now c.args.steps (name_of c.args.new) c.in_ok-stopped.stopped.state c.in_ok-stopped.stopped.valid.of c.in_ok-stopped.stopped.valid.section c.in_ok-script.script _ _ _ _ c.in-Err.end _
    (c.read_input.ensures.only_read.files ∙ c.read_stopped.ensures.only_read.files) (record { valid = valid; fits = fits; has_state = has; has_script = has_script }) c.in-Err.ensures.told c.in-Err.ensures.early (c.ended_with.ensures ∙ c.of_run.ensures)

pub returns-clause-told : goal.returns-clause-told
returns-clause-told g c =
    let has = IfOk-at_ok (λ (r : StoppedRun). IfSome (g.F.Folder.seen c.args.folder.now).holds (λ files. HasStopped files c.args.state.now r.state r.valid.of r.valid.section)) c.in_ok-stopped.ensures c.read_stopped.ensures.found in
    let valid = IfOk-at_ok (λ (r : StoppedRun). Valid r.valid.of r.valid.section) c.in_ok-stopped.ensures c.read_stopped.ensures.valid in
    let fits = IfOk-at_ok (λ (r : StoppedRun). Fits r.valid.of r.valid.section r.state.snapshot) c.in_ok-stopped.ensures c.read_stopped.ensures.fits in
    let told = rw c.host.ensures.same at c.read_input.ensures.found in
    let script = IfOk-at_ok (λ (s : Script). IfSome (g.F.Folder.seen c.read_stopped.new.folder).holds (λ files. HasScript files c.args.input.now (ends_of c.in_ok-stopped.stopped.valid.section) s)) c.in_ok-script.ensures told in
    let has_script = subst (λ (h : Option Files). IfSome h (λ files. HasScript files c.args.input.now (ends_of c.in_ok-stopped.stopped.valid.section) c.in_ok-script.script)) c.read_stopped.ensures.only_read.files script in
    inr (early_tells c.args.state.now c.args.input.now c.args.steps (name_of c.args.new) c.in_ok-stopped.stopped.state c.in_ok-stopped.stopped.valid.of c.in_ok-stopped.stopped.valid.section c.in_ok-script.script _ _ _ c.in-Err.end _
    (record { valid = valid; fits = fits; has_state = has; has_script = has_script }) c.in-Err.ensures.told (c.ended_with.ensures ∙ c.of_run.ensures))
