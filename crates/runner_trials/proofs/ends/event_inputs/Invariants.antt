use Rattle.std.proofs.Common.{◌≡◌, ◌+◌, ◌≤◌, drop, min}
use Rattle.wasm_tree.specs.Host.{event_inputs as inputs_of}
use Rattle.runner_trials.proofs.ends.event_inputs.Given as goal

abbrev pub invariant-loop-end : goal.invariant-loop-end
invariant-loop-end l = (min (l.count + inputs_of (drop l.end-index l.ends)) 4294967295 ≡ min (inputs_of l.ends) 4294967295) × (l.count ≤ 4294967295)
