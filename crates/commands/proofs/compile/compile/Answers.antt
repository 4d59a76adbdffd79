use Rattle.std.proofs.Common.{inl}
use Rattle.std.proofs.lemmas.Result.{err_from_is_err_and}
use Rattle.commands.specs.Words.{Compile}
use Rattle.commands.proofs.EndLemmas.{stop_ends, write_ends}
use Rattle.commands.proofs.compile.compile.Goals as goal

pub returns-in_err-patch : goal.returns-in_err-patch
returns-in_err-patch g c =
    let p = err_from_is_err_and c.from_residual.result c.from_residual.ensures.1 in
    rw (p.1, p.2) (stop_ends (Compile c.args.manifest.now c.args.out.now) _ _ _ _ c.in_err-patch.ensures.only_read.files (λ files t d. inl d) c.in_err-patch.ensures.stopped)

pub returns : goal.returns
returns g c =
    let written = rw c.as_slice.ensures at c.write_file.ensures.written in
    write_ends _ c.write_file.result _ _ _ c.args.manifest.now c.args.out.now _ _ _ c.read_patch.ensures.only_read c.write_file.ensures.counts c.write_file.ensures.others c.in_ok-patch.ensures.found
    c.in_ok-bytes.ensures written c.write_file.ensures.failure
