use Rattle.std.proofs.lemmas.Result.{err_from_is_err_and}
use Rattle.commands.specs.declared.status.FileRef.TheVariants as file
use Rattle.commands.specs.Files.{IsPlayFile}
use Rattle.commands.proofs.PlayLemmas.{unread_play, module_stop}
use Rattle.commands.proofs.StepLemmas.{if_err}
use Rattle.commands.proofs.play.read_valid.Goals as goal

pub returns-in_err-bytes-clause-stopped : goal.returns-in_err-bytes-clause-stopped
returns-in_err-bytes-clause-stopped g c =
    let p = err_from_is_err_and c.from_residual.result c.from_residual.ensures.1 in
    rw (p.1, p.2) (unread_play _ _ IsPlayFile file.Module c.args.name.now 33554432 _ _ tt c.in_err-bytes.ensures.stopped)

pub returns-clause-stopped : goal.returns-clause-stopped
returns-clause-stopped g c =
    let stop = rw c.as_slice.ensures at c.valid_module.ensures.refused in
    if_err _ _ c.valid_module.result _ _ (λ s. module_stop _ _ c.args.name.now _ s c.in_ok-bytes.ensures.held) stop
