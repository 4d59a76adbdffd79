use Rattle.patch_rows.proofs.Cutting.{file_read}
use Rattle.patch_rows.proofs.reading.file_is_read.Goals as goal

pub returns : goal.returns
returns c = file_read
