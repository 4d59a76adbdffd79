use Rattle.std.specs.Prelude.{IfSome}
use Rattle.std.proofs.lemmas.Result.{err_from_is_err_and, IfOk-at_ok}
use Rattle.commands.specs.Patch.{SourcesOf}
use Rattle.commands.proofs.PatchLemmas.{names_stop, sources_stop, no_meaning_stop}
use Rattle.commands.proofs.patch.read_patch.Goals as goal

pub returns-in_err-names-clause-stopped : goal.returns-in_err-names-clause-stopped
returns-in_err-names-clause-stopped g c =
    let p = err_from_is_err_and c.from_residual.result c.from_residual.ensures.1 in
    rw (p.1, p.2) (names_stop _ _ c.in_err-names.field-0.0 _ _ c.args.manifest.now c.in_err-names.ensures c.read_names.ensures.stopped)

pub returns-in_err-texts-clause-stopped : goal.returns-in_err-texts-clause-stopped
returns-in_err-texts-clause-stopped g c =
    let p = err_from_is_err_and c.from_residual-in_err-texts.result c.from_residual-in_err-texts.ensures.1 in
    let named = IfOk-at_ok (λ n. IfSome (g.F.Folder.seen c.args.folder.now).holds (λ files. SourcesOf files c.args.manifest.now n)) c.in_ok-names.ensures c.read_names.ensures.found in
    let stop = rw c.as_slice.ensures at c.in_err-texts.ensures.stopped in
    rw (p.1, p.2) (sources_stop _ _ _ c.args.manifest.now _ _ c.read_names.ensures.only_read c.in_err-texts.ensures.only_read named stop)

pub returns-clause-stopped : goal.returns-clause-stopped
returns-clause-stopped g c =
    let named = IfOk-at_ok (λ n. IfSome (g.F.Folder.seen c.args.folder.now).holds (λ files. SourcesOf files c.args.manifest.now n)) c.in_ok-names.ensures c.read_names.ensures.found in
    let have = rw c.as_slice.ensures at c.in_ok-texts.ensures.found in
    no_meaning_stop c.meaning.result _ _ _ c.args.manifest.now _ _ c.read_names.ensures.only_read c.in_ok-texts.ensures.only_read named have c.meaning.ensures.stopped
