use Rattle.slot_codec.proofs.Writing.{AreWritten}
use Rattle.slot_codec.proofs.write.write_scalars.Given as goal

abbrev pub invariant-loop-i : goal.invariant-loop-i
invariant-loop-i l = AreWritten l.shape l.values l.address l.fn.memory l.i l.at l.memory
