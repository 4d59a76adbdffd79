use Rattle.std.proofs.Common.{refl}
use Rattle.std.proofs.lemmas.Result.{err_from_is_err_and}
use Rattle.commands.specs.Steps.{WriteFailed, WriteLacksMemory}
use Rattle.commands.proofs.files.write_file.Goals as goal

pub returns-in_err-from_str-clause-failure : goal.returns-in_err-from_str-clause-failure
returns-in_err-from_str-clause-failure g c =
    let p = err_from_is_err_and c.from_residual.result c.from_residual.ensures.1 in
    rw (p.1, p.2) (WriteLacksMemory refl)

pub returns-in-Failed-clause-failure : goal.returns-in-Failed-clause-failure
returns-in-Failed-clause-failure g c = WriteFailed c.in-Failed.ensures.failed_counted

pub returns-in-NoMemory-clause-failure : goal.returns-in-NoMemory-clause-failure
returns-in-NoMemory-clause-failure g c = rw c.from.ensures (WriteLacksMemory c.in-NoMemory.ensures.no_memory)
