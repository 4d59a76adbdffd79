-- No endpoint is left at the end.
use Rattle.std.proofs.Common.{◌≡◌, [], drop, ap, arith}
use Rattle.std.proofs.lemmas.List.{drop_all}
use Rattle.wasm_tree.specs.Host.{event_inputs as inputs_of}
use Rattle.runner_trials.proofs.ends.event_inputs.Goals as goal

pub returns : goal.returns
returns c =
    let i = c.loop-end-test.false in
    let none : drop c.loop-end.end-index c.args.ends.now ≡ [] = drop_all c.loop-end.end-index c.args.ends.now (omega (arith, i)) in
    let zero = ap (λ v. inputs_of v) none in
    let few = c.loop-end.invariant.1 in
    let all = c.loop-end.invariant.0 in
    omega (arith, zero, few, all)
