use Rattle.std.proofs.lemmas.Result.{err_from_is_err_and}
use Rattle.commands.specs.declared.status.FileRef.TheVariants as file
use Rattle.commands.proofs.StepLemmas.{unread_stop, refused_stop, if_err}
use Rattle.commands.proofs.patch.read_names.Goals as goal

pub returns-in_err-bytes-clause-stopped : goal.returns-in_err-bytes-clause-stopped
returns-in_err-bytes-clause-stopped g c =
    let p = err_from_is_err_and c.from_residual.result c.from_residual.ensures.1 in
    rw (p.1, p.2) (unread_stop _ _ file.Manifest c.args.manifest.now 1048576 _ _ tt c.in_err-bytes.ensures.stopped)

pub returns-clause-stopped : goal.returns-clause-stopped
returns-clause-stopped g c =
    let stop = rw c.as_slice.ensures at c.source_names.ensures.stopped in
    if_err _ _ c.source_names.result _ _ (λ s. refused_stop _ _ file.Manifest c.args.manifest.now _ 1048576 _ s c.in_ok-bytes.ensures.held) stop
