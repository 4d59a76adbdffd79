use Rattle.std.proofs.Common.{refl, ap}
use Rattle.std.proofs.lemmas.Result.{err_from_is_err_and}
use Rattle.commands.specs.Words.{name_of}
use Rattle.commands.proofs.ResumeLemmas.{lacks_memory}
use Rattle.commands.proofs.resume.write_new.Goals as goal

pub returns-in_err-bytes-in-Some-clause-failure : goal.returns-in_err-bytes-in-Some-clause-failure
returns-in_err-bytes-in-Some-clause-failure g c =
    let p = err_from_is_err_and c.from_residual.result c.from_residual.ensures.1 in
    rw p.1 (lacks_memory (name_of c.args.new) _ _ _ _ (ap name_of c.in-Some.is) refl p.2)
