use Rattle.slot_codec.proofs.Back as B
use Rattle.slot_codec.proofs.laws.written_is_read.Goals as goal

pub returns : goal.returns
returns c = B.written_is_read
