use Rattle.std.proofs.Common.{◌≡◌, map, take}
use Rattle.latency_fill.specs.Fills.{extra_of}
use Rattle.latency_fill.proofs.extras.extras.Given as goal

abbrev pub invariant-loop-chain : goal.invariant-loop-chain
invariant-loop-chain l = l.extras.items ≡ map (extra_of l.flat l.arrive l.latency) (take l.chain-index l.flat.chains)
