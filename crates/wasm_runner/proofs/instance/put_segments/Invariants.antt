use Rattle.wasm_runner.proofs.Segments.{AreLeft}
use Rattle.wasm_runner.proofs.instance.put_segments.Given as goal

abbrev pub invariant-loop-segment : goal.invariant-loop-segment
invariant-loop-segment l = AreLeft l.segments l.segment-index l.fn.memory l.memory
