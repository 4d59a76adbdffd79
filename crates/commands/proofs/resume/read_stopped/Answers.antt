use Rattle.std.proofs.lemmas.Result.{err_from_is_err_and}
use Rattle.commands.proofs.ResumeLemmas.{no_run_stop, unread_state}
use Rattle.commands.proofs.StepLemmas.{if_err}
use Rattle.commands.proofs.resume.read_stopped.Goals as goal

pub returns-in_err-bytes-clause-stopped : goal.returns-in_err-bytes-clause-stopped
returns-in_err-bytes-clause-stopped g c =
    let p = err_from_is_err_and c.from_residual.result c.from_residual.ensures.1 in
    rw (p.1, p.2) (unread_state _ _ c.args.name.now _ c.in_err-bytes.ensures.stopped)

pub returns-clause-stopped : goal.returns-clause-stopped
returns-clause-stopped g c =
    let stop = rw c.as_slice.ensures at c.stopped_in.ensures.refused in
    if_err _ _ c.stopped_in.result _ _ (λ s. no_run_stop _ _ c.args.name.now _ s c.in_ok-bytes.ensures.held) stop
