use Rattle.patch_rows.proofs.Cutting.{tokens_read}
use Rattle.patch_rows.proofs.reading.tokens_are_read.Goals as goal

pub returns : goal.returns
returns c = tokens_read
