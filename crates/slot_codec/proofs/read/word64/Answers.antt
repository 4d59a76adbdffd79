-- The bytes that are missing are zeros.
use Rattle.std.proofs.Common.{length, ◌∙◌}
use Rattle.slot_codec.proofs.Bytes as B
use Rattle.slot_codec.proofs.read.word64.Goals as goal

pub returns : goal.returns
returns c = c.from_le_bytes.ensures ∙ B.padded c.args.bytes.now c.copy_from_slice.new.self (length c.args.bytes.now) c.copy_from_slice.ensures.after
