use Rattle.std.proofs.Common.{◌≡◌, ℕ, ◌+◌, ◌-◌, length, map, drop, sym, ap, ◌∙◌, subst, arith}
use Rattle.cm_core.specs.Code.{Loop, Times, While, Each, More, expr_of, stmt_of, test_of}
use Rattle.cm_core.specs.Measures.{advances}
use Rattle.cm_core.specs.Views.{stmts_of, stmt_of-Block, stmt_of-If, stmt_of-Loop, stmt_of-Times, stmt_of-While, stmt_of-Each, stmt_of-For, stmt_of-Advance}
use Rattle.advance_lowering.specs.Lowered.{lower_all, IsPart, loop_kind, times_kind, while_kind, each_kind}
use Rattle.advance_lowering.specs.Views.{block_of, open_of, exits_of, exits_in}
use Rattle.advance_lowering.proofs.Emit.{keep_step, advance_step, all_step, block_step, body_step, loop_is, times_is, while_is, each_is, loop_made, for_made, if_made}
use Rattle.advance_lowering.proofs.Stmts.{stmts_dropped}
use Rattle.advance_lowering.proofs.lowering.+lower.Goals as goal

pub lower_all-loop-i-preserved : goal.lower_all-loop-i-preserved
lower_all-loop-i-preserved t c = λ r.
    let l0 = map block_of c.args.blocks.now.items in
    let k : ℕ = c.loop-i.i - 1 in
    let s = stmt_of c.index-all-i.result in
    let back : k + 1 ≡ c.loop-i.i = omega (arith, c.loop-i-test.true) in
    let e = stmts_dropped c.args.all.now k c.index-all-i.result (omega (arith, c.loop-i-test.true, c.loop-i.auto.i)) c.index-all-i.is ∙ ap (λ n. More s (stmts_of (drop n c.args.all.now))) back in
    subst (λ z. IsPart (lower_all z (length l0) (exits_in c.args.exits) (open_of c.args.top) r) l0 (map block_of c.lower_stmt.new.blocks.items) (open_of c.in_ok-made.made)) (sym e)
    (all_step s (stmts_of (drop c.loop-i.i c.args.all.now)) (exits_in c.args.exits) (open_of c.args.top) (open_of c.loop-i.made) (open_of c.in_ok-made.made) r l0 (map block_of c.loop-i.blocks.items) (map block_of c.lower_stmt.new.blocks.items)
    (c.loop-i.invariant r) c.in_ok-made.ensures)

pub lower_all-returns : goal.lower_all-returns
lower_all-returns t c = λ r.
    let z : c.loop-i.i ≡ 0 = omega (arith, c.loop-i-test.false) in
    let l0 = map block_of c.args.blocks.now.items in
    subst (λ n. IsPart (lower_all (stmts_of (drop n c.args.all.now)) (length l0) (exits_in c.args.exits) (open_of c.args.top) r) l0 (map block_of c.loop-i.blocks.items) (open_of c.loop-i.made)) z (c.loop-i.invariant r)

pub lower_body-returns : goal.lower_body-returns
lower_body-returns t c =
    body_step (stmt_of c.args.body.now) (exits_in c.args.exits) (open_of c.args.top) (map block_of c.args.blocks.now.items) _ _ (exits_of c.in_ok-inner.inner) _
    c.in_ok-inner.ensures.numbers c.in_ok-inner.ensures.blocks c.in_ok-body.ensures

pub lower_stmt-returns-in_ok-made-in-Block : goal.lower_stmt-returns-in_ok-made-in-Block
lower_stmt-returns-in_ok-made-in-Block t c = λ r.
    let l0 = map block_of c.args.blocks.now.items in
    block_step (stmt_of c.args.stmt.now) (stmts_of c.in-Block.all) (exits_in c.args.exits) (open_of c.args.top) _ r l0 _ (ap stmt_of c.in-Block.is ∙ stmt_of-Block c.in-Block.all)
    (sym c.has_advance.ensures ∙ c.if-not-has_advance.false)
    (subst (λ z. IsPart (lower_all (stmts_of z) (length l0) (exits_in c.args.exits) (open_of c.args.top) r) l0 (map block_of c.lower_all.new.blocks.items) (open_of c.in_ok-made-in-Block.made)) c.as_slice.ensures (c.in_ok-made-in-Block.ensures r))

pub lower_stmt-returns-in_ok-other-in-If : goal.lower_stmt-returns-in_ok-other-in-If
lower_stmt-returns-in_ok-other-in-If t c = λ r.
    if_made (stmt_of c.args.stmt.now) (stmt_of c.in-If.one) _ (stmt_of c.in-If.other) _ (expr_of c.in-If.test) (exits_in c.args.exits) (open_of c.args.top) _ r (map block_of c.args.blocks.now.items) _ _ _ _ _ _
    (ap stmt_of c.in-If.is ∙ stmt_of-If c.in-If.test c.in-If.one c.in-If.other) (sym c.has_advance.ensures ∙ c.if-not-has_advance.false)
    c.in_ok-join-in-If.ensures.number c.in_ok-join-in-If.ensures.blocks (ap stmt_of c.get.ensures) (c.in_ok-one-in-If.ensures r) (ap stmt_of c.get-in-If.ensures) (c.in_ok-other-in-If.ensures r) c.open_at.ensures

pub lower_stmt-returns-in_ok-rounds-in-Loop : goal.lower_stmt-returns-in_ok-rounds-in-Loop
lower_stmt-returns-in_ok-rounds-in-Loop t c = λ r.
    let s = stmt_of c.in-Loop.body in
    let l0 = map block_of c.args.blocks.now.items in
    let is = ap stmt_of c.in-Loop.is ∙ stmt_of-Loop c.in-Loop.body c.in-Loop.field-1 in
    loop_made loop_kind (stmt_of c.args.stmt.now) (Loop s) s _ (exits_in c.args.exits) (open_of c.args.top) _ r l0 _ _ _ _ is
    (loop_is s (length l0) (exits_in c.args.exits) (open_of c.args.top) r (sym (ap advances is) ∙ sym c.has_advance.ensures ∙ c.if-not-has_advance.false))
    (ap stmt_of c.get-in-Loop.ensures) c.in_ok-rounds-in-Loop.ensures c.end_loop.ensures

pub lower_stmt-returns-in_ok-made-in-Times : goal.lower_stmt-returns-in_ok-made-in-Times
lower_stmt-returns-in_ok-made-in-Times t c = λ r.
    let s = stmt_of c.in-Times.body in
    let x = c.in-Times.variable in
    let e = expr_of c.in-Times.count in
    let l0 = map block_of c.args.blocks.now.items in
    let is = ap stmt_of c.in-Times.is ∙ stmt_of-Times c.in-Times.variable c.in-Times.count c.in-Times.body c.in-Times.field-3 in
    loop_made (times_kind x e) (stmt_of c.args.stmt.now) (Times x e s) s _ (exits_in c.args.exits) (open_of c.args.top) _ r l0 _ _ _ _ is
    (times_is x e s (length l0) (exits_in c.args.exits) (open_of c.args.top) r (sym (ap advances is) ∙ sym c.has_advance.ensures ∙ c.if-not-has_advance.false))
    (ap stmt_of c.get-in-Times.ensures) c.in_ok-rounds-in-Times.ensures c.in_ok-made-in-Times.ensures

pub lower_stmt-returns-in_ok-rounds-in-While : goal.lower_stmt-returns-in_ok-rounds-in-While
lower_stmt-returns-in_ok-rounds-in-While t c = λ r.
    let s = stmt_of c.in-While.body in
    let e = expr_of c.in-While.test in
    let l0 = map block_of c.args.blocks.now.items in
    let is = ap stmt_of c.in-While.is ∙ stmt_of-While c.in-While.test c.in-While.body c.in-While.field-2 in
    loop_made (while_kind e) (stmt_of c.args.stmt.now) (While e s) s _ (exits_in c.args.exits) (open_of c.args.top) _ r l0 _ _ _ _ is
    (while_is e s (length l0) (exits_in c.args.exits) (open_of c.args.top) r (sym (ap advances is) ∙ sym c.has_advance.ensures ∙ c.if-not-has_advance.false))
    (ap stmt_of c.get-in-While.ensures) c.in_ok-rounds-in-While.ensures c.end_while.ensures

pub lower_stmt-returns-in_ok-made-in-Each : goal.lower_stmt-returns-in_ok-made-in-Each
lower_stmt-returns-in_ok-made-in-Each t c = λ r.
    let s = stmt_of c.in-Each.body in
    let x = c.in-Each.variable in
    let l0 = map block_of c.args.blocks.now.items in
    let is = ap stmt_of c.in-Each.is ∙ stmt_of-Each c.in-Each.variable c.in-Each.body c.in-Each.field-2 in
    loop_made (each_kind x) (stmt_of c.args.stmt.now) (Each x s) s _ (exits_in c.args.exits) (open_of c.args.top) _ r l0 _ _ _ _ is
    (each_is x s (length l0) (exits_in c.args.exits) (open_of c.args.top) r (sym (ap advances is) ∙ sym c.has_advance.ensures ∙ c.if-not-has_advance.false))
    (ap stmt_of c.get-in-Each.ensures) c.in_ok-rounds-in-Each.ensures c.in_ok-made-in-Each.ensures

pub lower_stmt-returns-in_ok-made-in-For : goal.lower_stmt-returns-in_ok-made-in-For
lower_stmt-returns-in_ok-made-in-For t c = λ r.
    let l0 = map block_of c.args.blocks.now.items in
    for_made (stmt_of c.args.stmt.now) (stmt_of c.in-For.start) _ (stmt_of c.in-For.step) _ (stmt_of c.in-For.body) _ (test_of c.in-For.test) (exits_in c.args.exits) (open_of c.args.top) _ r l0 _ _ _ _
    (ap stmt_of c.in-For.is ∙ stmt_of-For c.in-For.start c.in-For.test c.in-For.step c.in-For.body c.in-For.field-4) (sym c.has_advance.ensures ∙ c.if-not-has_advance.false)
    (ap stmt_of c.get-in-For.ensures) (ap stmt_of c.get-in-For-2.ensures) (ap stmt_of c.get-in-For-3.ensures) c.in_ok-rounds-in-For.ensures c.in_ok-made-in-For.ensures

pub lower_stmt-returns-in_ok-next-in-Advance : goal.lower_stmt-returns-in_ok-next-in-Advance
lower_stmt-returns-in_ok-next-in-Advance t c = λ r.
    advance_step (stmt_of c.args.stmt.now) (exits_in c.args.exits) (open_of c.args.top) _ r (map block_of c.args.blocks.now.items) _ _ (ap stmt_of c.in-Advance.is ∙ stmt_of-Advance)
    c.in_ok-next-in-Advance.ensures.number c.in_ok-next-in-Advance.ensures.blocks c.open_at-in-Advance.ensures

pub lower_stmt-returns-in_ok-made-in-Return : goal.lower_stmt-returns-in_ok-made-in-Return
lower_stmt-returns-in_ok-made-in-Return t c = λ r.
    keep_step (stmt_of c.args.stmt.now) (exits_in c.args.exits) (open_of c.args.top) _ r (map block_of c.args.blocks.now.items) c.in_ok-made-in-Return.ensures.plain c.in_ok-made-in-Return.ensures.pushed
