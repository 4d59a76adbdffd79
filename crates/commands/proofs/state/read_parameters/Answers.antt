use Rattle.std.proofs.Common.{◌≡◌, refl}
use Rattle.std.proofs.lemmas.Result.{err_from_is_err_and}
use Rattle.commands.specs.declared.status.FileRef.TheVariants as file
use Rattle.commands.proofs.PlayLemmas.{unread_play}
use Rattle.commands.proofs.RestoreLemmas.{state_stop}
use Rattle.commands.proofs.StepLemmas.{if_err}
use Rattle.commands.proofs.state.read_parameters.Goals as goal

pub returns-in_err-bytes-clause-stopped : goal.returns-in_err-bytes-clause-stopped
returns-in_err-bytes-clause-stopped g c =
    let p = err_from_is_err_and c.from_residual.result c.from_residual.ensures.1 in
    rw (p.1, p.2) (unread_play _ _ (λ f. f ≡ file.State) file.State c.args.name.now 67108864 _ _ refl c.in_err-bytes.ensures.stopped)

pub returns-clause-stopped : goal.returns-clause-stopped
returns-clause-stopped g c =
    let stop = rw c.as_slice.ensures at c.parameters_of.ensures.refused in
    if_err _ _ c.parameters_of.result _ _ (λ s. state_stop _ _ c.args.name.now _ s c.in_ok-bytes.ensures.held) stop
