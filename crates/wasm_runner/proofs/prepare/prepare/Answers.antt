-- Function by function.
use Rattle.std.proofs.Common.{◌<◌, ◌+◌, length, sym, ap, subst, arith, rules}
use Rattle.wasm_runner.proofs.Preparing as P
use Rattle.wasm_runner.proofs.prepare.prepare.Goals as goal

pub offset_bounds-bodies-i : goal.offset_bounds-bodies-i
offset_bounds-bodies-i c =
    let h = P.bodies_there _ _ c.requires.1 in let t = c.loop-i-test.true in
    let a = ap length c.as_slice-types.ensures in let b = ap length c.as_slice-bodies.ensures in
    let w : c.loop-i.i < length c.as_slice-bodies.result.now = omega arith in
    search rules

pub bounds-bodies-i : goal.bounds-bodies-i
bounds-bodies-i c =
    let h = P.bodies_there _ _ c.requires.1 in let t = c.loop-i-test.true in
    let a = ap length c.as_slice-types.ensures in let b = ap length c.as_slice-bodies.ensures in
    omega arith

pub prepare_function-requires-clause-few : goal.prepare_function-requires-clause-few
prepare_function-requires-clause-few c =
    let h = P.bodies_there _ _ c.requires.1 in let t = c.loop-i-test.true in
    let a = ap length c.as_slice-types.ensures in
    P.few_locals _ _ c.requires.1 c.loop-i.i c.index-bodies-i.result (P.body_at _ _ _ _ c.as_slice-bodies.ensures (omega arith) c.index-bodies-i.is)

pub loop-i-preserved : goal.loop-i-preserved
loop-i-preserved c =
    let h = P.bodies_there _ _ c.requires.1 in let t = c.loop-i-test.true in
    let a = ap length c.as_slice-types.ensures in
    subst (λ l. P.AreFirst c.args.loaded.now l (c.loop-i.i + 1)) (sym c.in_ok-push.ensures.items)
    (P.one_more c.args.loaded.now _ c.loop-i.i _ c.index-bodies-i.result _ c.loop-i.invariant
    (P.type_at_place _ _ _ c.as_slice-types.ensures t) (P.body_at _ _ _ _ c.as_slice-bodies.ensures (omega arith) c.index-bodies-i.is) c.in_ok-function.ensures)

pub returns : goal.returns
returns c =
    let t = c.loop-i-test.false in let a = ap length c.as_slice-types.ensures in
    P.all_prepared c.args.loaded.now _ c.loop-i.i (omega arith) c.loop-i.invariant
