use Rattle.std.proofs.Common.{refl}
use Rattle.commands.specs.Steps.{ReadFailed, OutOfMemory}
use Rattle.commands.proofs.FileLemmas.{long_stop, absent_stop}
use Rattle.commands.proofs.files.read_file.Goals as goal

pub returns-then-length-limit-clause-stopped : goal.returns-then-length-limit-clause-stopped
returns-then-length-limit-clause-stopped g c =
    long_stop _ _ c.args.file c.args.limit c.len-length.result c.args.name.now _ c.len-length.ensures c.in-Bytes.ensures.bytes c.requires.least c.if-length-limit.true

pub returns-in-Absent-clause-stopped : goal.returns-in-Absent-clause-stopped
returns-in-Absent-clause-stopped g c = absent_stop _ _ c.args.file c.args.limit c.args.name.now c.in-Absent.ensures.absent_counted c.in-Absent.ensures.absent_held_not

pub returns-in-Failed-clause-stopped : goal.returns-in-Failed-clause-stopped
returns-in-Failed-clause-stopped g c = ReadFailed c.args.file refl c.in-Failed.ensures.failed_counted

pub returns-in-NoMemory-clause-stopped : goal.returns-in-NoMemory-clause-stopped
returns-in-NoMemory-clause-stopped g c = OutOfMemory
