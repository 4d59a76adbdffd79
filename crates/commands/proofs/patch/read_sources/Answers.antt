use Rattle.std.proofs.lemmas.Result.{err_from_is_err_and}
use Rattle.commands.specs.Steps.{OutOfMemory}
use Rattle.commands.proofs.PatchLemmas.{read_stop, read_all}
use Rattle.commands.proofs.patch.read_sources.Goals as goal

pub returns-in_err-text-clause-stopped : goal.returns-in_err-text-clause-stopped
returns-in_err-text-clause-stopped g c =
    let p = err_from_is_err_and c.from_residual.result c.from_residual.ensures.1 in
    rw (p.1, p.2) (read_stop _ _ _ c.args.names.now c.loop-index.index c.loop-index.left c.loop-index.texts c.as_str.result.now c.index-names-index.result _ c.loop-index-test.true c.requires c.index-names-index.is
    c.as_str.ensures c.loop-index.invariant.only_read c.in_err-text.ensures.only_read c.loop-index.invariant.to c.in_err-text.ensures.stopped)

pub returns-in_err-push-clause-stopped : goal.returns-in_err-push-clause-stopped
returns-in_err-push-clause-stopped g c =
    let p = err_from_is_err_and c.from_residual-in_err-push.result c.from_residual-in_err-push.ensures.1 in
    rw (p.1, p.2) OutOfMemory

pub returns-clause-found : goal.returns-clause-found
returns-clause-found g c = read_all _ c.args.names.now c.loop-index.index c.loop-index.left c.loop-index.texts c.loop-index-test.false c.loop-index.invariant.to
