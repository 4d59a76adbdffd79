use Rattle.slot_codec.proofs.Reading.{AreRead}
use Rattle.slot_codec.proofs.read.read_scalars.Given as goal

abbrev pub invariant-loop-i : goal.invariant-loop-i
invariant-loop-i l = AreRead l.shape l.bytes l.i l.into l.rest
