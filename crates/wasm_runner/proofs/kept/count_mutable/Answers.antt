-- No global is left at the end.
use Rattle.std.proofs.Common.{◌≡◌, [], drop, length, ap, arith}
use Rattle.std.proofs.lemmas.List.{drop_all}
use Rattle.wasm_runner.specs.Snapshots.{kept_types}
use Rattle.wasm_runner.proofs.kept.count_mutable.Goals as goal

pub returns : goal.returns
returns c =
    let i = c.loop-var-test.false in
    let none : drop c.loop-var.var-index c.args.vars.now ≡ [] = drop_all c.loop-var.var-index c.args.vars.now (omega (arith, i)) in
    let zero = ap (λ v. length (kept_types v)) none in
    let few = c.loop-var.invariant.1 in
    let all = c.loop-var.invariant.0 in
    omega (arith, zero, few, all)
