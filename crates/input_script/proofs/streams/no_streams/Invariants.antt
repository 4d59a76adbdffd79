use Rattle.std.proofs.Common.{◌≡◌, [], replicate}
use Rattle.input_script.proofs.streams.no_streams.Given as goal

abbrev pub invariant-loop : goal.invariant-loop
invariant-loop l = l.streams ≡ replicate l.counter []
