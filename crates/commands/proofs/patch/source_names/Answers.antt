use Rattle.std.proofs.lemmas.Result.{err_from_is_err_and}
use Rattle.commands.specs.Steps.{LacksMemory}
use Rattle.commands.proofs.ManifestLemmas.{manifest_refused, few_names}
use Rattle.commands.proofs.patch.source_names.Goals as goal

pub returns-in_err-found-clause-stopped : goal.returns-in_err-found-clause-stopped
returns-in_err-found-clause-stopped c =
    let p = err_from_is_err_and c.from_residual.result c.from_residual.ensures.1 in
    rw (p.1, p.2) (manifest_refused _ _ c.in_err-found.ensures.refused)

pub returns-in_err-file_names-clause-stopped : goal.returns-in_err-file_names-clause-stopped
returns-in_err-file_names-clause-stopped c =
    let p = err_from_is_err_and c.from_residual-in_err-file_names.result c.from_residual-in_err-file_names.ensures.1 in
    rw (p.1, p.2) LacksMemory

pub returns-clause-few : goal.returns-clause-few
returns-clause-few c =
    let names = rw c.as_slice.ensures at c.in_ok-file_names.ensures in
    few_names c.args.manifest.now c.args.bytes.now c.in_ok-file_names.field-0
    (record { id = c.in_ok-found.found.id; paths = c.in_ok-found.found.sources; is_manifest = c.in_ok-found.ensures.manifest; are_names = names })
