use Rattle.std.proofs.Common.{ap, sym, ◌∙◌, ◌++◌, ◌∷◌, [], arith, refl}
use Rattle.cm_tree.specs.declared.stmt.Stmt.{Stmt}
use Rattle.cm_tree.specs.declared.stmt.Stmt.TheVariants as x
use Rattle.cm_meaning.specs.Scopes.{looped, scoped}
use Rattle.cm_meaning.specs.Sites.{site, Advances, Jumps, Writes, expr_sites, optional_sites, type_sites}
use Rattle.cm_meaning.specs.BodySites.{after, simple_sites, stmt_sites, stmts_sites}
use Rattle.cm_meaning.specs.SiteEquations.{stmt_sites-Advance, stmt_sites-Assert, stmt_sites-Block, stmt_sites-Break, stmt_sites-Continue, stmt_sites-Empty, stmt_sites-For, stmt_sites-ForType, stmt_sites-If, stmt_sites-IfElse, stmt_sites-Loop, stmt_sites-Return, stmt_sites-Simple, stmt_sites-While, stmt_sites-Write}
use Rattle.scope_walk.specs.Steps.{after_all}
use Rattle.scope_walk.specs.Bodies.{counted_sites, for_sites}
use Rattle.scope_walk.proofs.StepLemmas.{meet-part, meet-then, no-part}
use Rattle.scope_walk.proofs.ScopeLemmas.{scope-part, loop-part, plain-part, plain-none, local-part, then-part, counted-part, for-part, stmts-start, stmts-next, stmts-all}
use Rattle.scope_walk.proofs.stmts.+stmt.Goals as goal

pub walk_stmts-loop-stmt-init : goal.walk_stmts-loop-stmt-init
walk_stmts-loop-stmt-init t c = stmts-start c.args.all.now c.args.steps.now

pub walk_stmts-loop-stmt-preserved : goal.walk_stmts-loop-stmt-preserved
walk_stmts-loop-stmt-preserved t c = stmts-next c.args.all.now c.loop-stmt.stmt-index c.stmt-item.result c.args.steps.now c.loop-stmt.steps c.walk_stmt.new.steps c.loop-stmt-test.true c.stmt-item.is c.loop-stmt.invariant c.in_ok-walk_stmt.ensures

pub walk_stmts-returns : goal.walk_stmts-returns
walk_stmts-returns t c = stmts-all c.args.all.now c.loop-stmt.stmt-index c.args.steps.now c.loop-stmt.steps (let w = c.loop-stmt-test.false in let e = c.loop-stmt.auto.stmt-index-end in omega arith) c.loop-stmt.invariant

pub walk_arm-returns : goal.walk_arm-returns
walk_arm-returns t c = scope-part c.args.steps.now c.enter.new.self c.walk_stmt.new.steps c.leave.new.self (λ r. stmt_sites r c.args.tree.now) (λ r. after r c.args.tree.now) c.leave.result c.in_ok-enter.ensures c.in_ok-walk_stmt.ensures c.leave.ensures

pub walk_scope-returns : goal.walk_scope-returns
walk_scope-returns t c = scope-part c.args.steps.now c.enter.new.self c.walk_stmts.new.steps c.leave.new.self (λ r. stmts_sites r c.args.all.now) (λ r. after_all r c.args.all.now) c.leave.result c.in_ok-enter.ensures
    c.in_ok-walk_stmts.ensures c.leave.ensures

pub walk_body-returns : goal.walk_body-returns
walk_body-returns t c = loop-part c.args.steps.now c.enter_loop.new.self c.walk_arm.new.steps c.leave_loop.new.self (λ r. stmt_sites (scoped r []) c.args.tree.now) c.leave_loop.result c.in_ok-enter_loop.ensures c.in_ok-walk_arm.ensures c.leave_loop.ensures

pub walk_counted-returns : goal.walk_counted-returns
walk_counted-returns t c = counted-part c.args.steps.now c.enter.new.self c.meet_counter.new.self c.declare.new.self c.walk_body.new.steps c.leave.new.self c.args.word.now c.args.ty.now c.args.tree.now c.leave.result c.in_ok-enter.ensures
    c.in_ok-meet_counter.ensures c.in_ok-declare.ensures c.in_ok-walk_body.ensures c.leave.ensures

pub walk_for-returns : goal.walk_for-returns
walk_for-returns t c = for-part c.args.steps.now c.enter.new.self c.walk_start.new.steps c.walk_optional.new.steps c.walk_next.new.steps c.walk_body.new.steps c.leave.new.self c.args.start.now c.args.test.now c.args.next.now c.args.tree.now c.leave.result
    c.in_ok-enter.ensures c.in_ok-walk_start.ensures c.in_ok-walk_optional.ensures c.in_ok-walk_next.ensures c.in_ok-walk_body.ensures c.leave.ensures

pub walk_stmt-returns-in-Block : goal.walk_stmt-returns-in-Block
walk_stmt-returns-in-Block t c = plain-part c.args.steps.now c.walk_scope.new.steps (λ r. stmts_sites (scoped r []) c.as_slice.result.now) c.args.tree.now (x.Block c.in-Block.field-0 c.in-Block.all) c.walk_scope.result c.in-Block.is (λ r. refl)
    (λ r. stmt_sites-Block r c.in-Block.field-0 c.in-Block.all ∙ ap (stmts_sites (scoped r [])) (sym c.as_slice.ensures))
    c.walk_scope.ensures

pub walk_stmt-returns-in-Empty : goal.walk_stmt-returns-in-Empty
walk_stmt-returns-in-Empty t c = plain-none c.args.steps.now (λ r. []) c.args.tree.now (x.Empty c.in-Empty.field-0) c.in-Empty.is (λ r. refl) (λ r. stmt_sites-Empty r c.in-Empty.field-0) (no-part c.args.steps.now (λ r. []) (λ r. refl))

pub walk_stmt-returns-in-Break : goal.walk_stmt-returns-in-Break
walk_stmt-returns-in-Break t c = plain-part c.args.steps.now c.meet.new.self (λ r. site r (Jumps c.in-Break.place) ∷ []) c.args.tree.now (x.Break c.in-Break.place) c.meet.result c.in-Break.is (λ r. refl) (λ r. stmt_sites-Break r c.in-Break.place)
    (meet-part c.args.steps.now c.meet.new.self (Jumps c.in-Break.place) (λ r. site r (Jumps c.in-Break.place) ∷ []) c.meet.result (λ r. refl) c.meet.ensures)

pub walk_stmt-returns-in-Continue : goal.walk_stmt-returns-in-Continue
walk_stmt-returns-in-Continue t c = plain-part c.args.steps.now c.meet-in-Continue.new.self (λ r. site r (Jumps c.in-Continue.place) ∷ []) c.args.tree.now (x.Continue c.in-Continue.place) c.meet-in-Continue.result c.in-Continue.is (λ r. refl) (λ r. stmt_sites-Continue r c.in-Continue.place)
    (meet-part c.args.steps.now c.meet-in-Continue.new.self (Jumps c.in-Continue.place) (λ r. site r (Jumps c.in-Continue.place) ∷ []) c.meet-in-Continue.result (λ r. refl) c.meet-in-Continue.ensures)

pub walk_stmt-returns-in-Advance : goal.walk_stmt-returns-in-Advance
walk_stmt-returns-in-Advance t c = plain-part c.args.steps.now c.meet-in-Advance.new.self (λ r. site r (Advances c.in-Advance.place) ∷ []) c.args.tree.now (x.Advance c.in-Advance.place) c.meet-in-Advance.result c.in-Advance.is (λ r. refl) (λ r. stmt_sites-Advance r c.in-Advance.place)
    (meet-part c.args.steps.now c.meet-in-Advance.new.self (Advances c.in-Advance.place) (λ r. site r (Advances c.in-Advance.place) ∷ []) c.meet-in-Advance.result (λ r. refl) c.meet-in-Advance.ensures)

pub walk_stmt-returns-in-Local : goal.walk_stmt-returns-in-Local
walk_stmt-returns-in-Local t c = local-part c.args.steps.now c.walk_local.new.steps c.in-Local.local c.args.tree.now c.walk_local.result c.in-Local.is c.walk_local.ensures

pub walk_stmt-returns-in-Simple : goal.walk_stmt-returns-in-Simple
walk_stmt-returns-in-Simple t c = plain-part c.args.steps.now c.walk_simple.new.steps (λ r. simple_sites r c.in-Simple.simple) c.args.tree.now (x.Simple c.in-Simple.simple) c.walk_simple.result c.in-Simple.is (λ r. refl)
    (λ r. stmt_sites-Simple r c.in-Simple.simple)
    c.walk_simple.ensures

pub walk_stmt-returns-in-Assert : goal.walk_stmt-returns-in-Assert
walk_stmt-returns-in-Assert t c = plain-part c.args.steps.now c.walk_expr.new.steps (λ r. expr_sites r c.in-Assert.assert.condition) c.args.tree.now (x.Assert c.in-Assert.assert) c.walk_expr.result c.in-Assert.is (λ r. refl)
    (λ r. stmt_sites-Assert r c.in-Assert.assert)
    c.walk_expr.ensures

pub walk_stmt-returns-in-Return : goal.walk_stmt-returns-in-Return
walk_stmt-returns-in-Return t c = plain-part c.args.steps.now c.walk_optional-in-Return.new.steps (λ r. optional_sites r c.in-Return.value) c.args.tree.now (x.Return c.in-Return.field-0 c.in-Return.value) c.walk_optional-in-Return.result c.in-Return.is (λ r. refl)
    (λ r. stmt_sites-Return r c.in-Return.field-0 c.in-Return.value)
    c.walk_optional-in-Return.ensures

pub walk_stmt-returns-in_ok-walk_expr-in-If : goal.walk_stmt-returns-in_ok-walk_expr-in-If
walk_stmt-returns-in_ok-walk_expr-in-If t c = plain-part c.args.steps.now c.walk_arm.new.steps (λ r. expr_sites r c.in-If.test ++ stmt_sites (scoped r []) c.get.result.now) c.args.tree.now (x.If c.in-If.field-0 c.in-If.test c.in-If.a) c.walk_arm.result c.in-If.is (λ r. refl)
    (λ r. stmt_sites-If r c.in-If.field-0 c.in-If.test c.in-If.a ∙ ap (λ (z : Stmt). expr_sites r c.in-If.test ++ stmt_sites (scoped r []) z) (sym c.get.ensures))
    (then-part c.args.steps.now c.walk_expr-in-If.new.steps c.walk_arm.new.steps (λ r. expr_sites r c.in-If.test) (λ r. stmt_sites (scoped r []) c.get.result.now) c.walk_arm.result c.in_ok-walk_expr-in-If.ensures c.walk_arm.ensures)

pub walk_stmt-returns-in_ok-walk_optional-in-Loop : goal.walk_stmt-returns-in_ok-walk_optional-in-Loop
walk_stmt-returns-in_ok-walk_optional-in-Loop t c = plain-part c.args.steps.now c.walk_body.new.steps (λ r. optional_sites r c.in-Loop.count ++ stmt_sites (scoped (looped r) []) c.get-in-Loop.result.now) c.args.tree.now (x.Loop c.in-Loop.field-0 c.in-Loop.count c.in-Loop.a) c.walk_body.result c.in-Loop.is (λ r. refl)
    (λ r. stmt_sites-Loop r c.in-Loop.field-0 c.in-Loop.count c.in-Loop.a ∙ ap (λ (z : Stmt). optional_sites r c.in-Loop.count ++ stmt_sites (scoped (looped r) []) z) (sym c.get-in-Loop.ensures))
    (then-part c.args.steps.now c.walk_optional.new.steps c.walk_body.new.steps (λ r. optional_sites r c.in-Loop.count) (λ r. stmt_sites (scoped (looped r) []) c.get-in-Loop.result.now) c.walk_body.result c.in_ok-walk_optional-in-Loop.ensures c.walk_body.ensures)

pub walk_stmt-returns-in_ok-walk_expr-in-While : goal.walk_stmt-returns-in_ok-walk_expr-in-While
walk_stmt-returns-in_ok-walk_expr-in-While t c = plain-part c.args.steps.now c.walk_body-in-While.new.steps (λ r. expr_sites r c.in-While.test ++ stmt_sites (scoped (looped r) []) c.get-in-While.result.now) c.args.tree.now (x.While c.in-While.field-0 c.in-While.test c.in-While.a) c.walk_body-in-While.result c.in-While.is (λ r. refl)
    (λ r. stmt_sites-While r c.in-While.field-0 c.in-While.test c.in-While.a ∙ ap (λ (z : Stmt). expr_sites r c.in-While.test ++ stmt_sites (scoped (looped r) []) z) (sym c.get-in-While.ensures))
    (then-part c.args.steps.now c.walk_expr-in-While.new.steps c.walk_body-in-While.new.steps (λ r. expr_sites r c.in-While.test) (λ r. stmt_sites (scoped (looped r) []) c.get-in-While.result.now) c.walk_body-in-While.result c.in_ok-walk_expr-in-While.ensures c.walk_body-in-While.ensures)

pub walk_stmt-returns-in_ok-walk_arm-in-IfElse : goal.walk_stmt-returns-in_ok-walk_arm-in-IfElse
walk_stmt-returns-in_ok-walk_arm-in-IfElse t c = plain-part c.args.steps.now c.walk_arm-in-IfElse-2.new.steps (λ r. expr_sites r c.in-IfElse.test ++ (stmt_sites (scoped r []) c.get-in-IfElse.result.now ++ stmt_sites (scoped r []) c.get-in-IfElse-2.result.now)) c.args.tree.now (x.IfElse c.in-IfElse.field-0 c.in-IfElse.test c.in-IfElse.a c.in-IfElse.b) c.walk_arm-in-IfElse-2.result c.in-IfElse.is (λ r. refl)
    (λ r. stmt_sites-IfElse r c.in-IfElse.field-0 c.in-IfElse.test c.in-IfElse.a c.in-IfElse.b ∙ ap (λ (z : Stmt). expr_sites r c.in-IfElse.test ++ (stmt_sites (scoped r []) z ++ stmt_sites (scoped r []) c.in-IfElse.b)) (sym c.get-in-IfElse.ensures)
    ∙ ap (λ (z : Stmt). expr_sites r c.in-IfElse.test ++ (stmt_sites (scoped r []) c.get-in-IfElse.result.now ++ stmt_sites (scoped r []) z)) (sym c.get-in-IfElse-2.ensures))
    (then-part c.args.steps.now c.walk_expr-in-IfElse.new.steps c.walk_arm-in-IfElse-2.new.steps (λ r. expr_sites r c.in-IfElse.test) (λ r. stmt_sites (scoped r []) c.get-in-IfElse.result.now ++ stmt_sites (scoped r []) c.get-in-IfElse-2.result.now) c.walk_arm-in-IfElse-2.result c.in_ok-walk_expr-in-IfElse.ensures
    (then-part c.walk_expr-in-IfElse.new.steps c.walk_arm-in-IfElse.new.steps c.walk_arm-in-IfElse-2.new.steps (λ r. stmt_sites (scoped r []) c.get-in-IfElse.result.now) (λ r. stmt_sites (scoped r []) c.get-in-IfElse-2.result.now) c.walk_arm-in-IfElse-2.result c.in_ok-walk_arm-in-IfElse.ensures c.walk_arm-in-IfElse-2.ensures))

pub walk_stmt-returns-in_ok-walk_type-in-ForType : goal.walk_stmt-returns-in_ok-walk_type-in-ForType
walk_stmt-returns-in_ok-walk_type-in-ForType t c = plain-part c.args.steps.now c.walk_counted.new.steps (λ r. type_sites r c.in-ForType.ty ++ counted_sites r c.in-ForType.ty c.in-ForType.word c.get-in-ForType.result.now) c.args.tree.now (x.ForType c.in-ForType.field-0 c.in-ForType.ty c.in-ForType.word c.in-ForType.a) c.walk_counted.result c.in-ForType.is (λ r. refl)
    (λ r. stmt_sites-ForType r c.in-ForType.field-0 c.in-ForType.ty c.in-ForType.word c.in-ForType.a ∙ ap (λ (z : Stmt). type_sites r c.in-ForType.ty ++ counted_sites r c.in-ForType.ty c.in-ForType.word z) (sym c.get-in-ForType.ensures))
    (then-part c.args.steps.now c.walk_type.new.steps c.walk_counted.new.steps (λ r. type_sites r c.in-ForType.ty) (λ r. counted_sites r c.in-ForType.ty c.in-ForType.word c.get-in-ForType.result.now) c.walk_counted.result c.in_ok-walk_type-in-ForType.ensures c.walk_counted.ensures)

pub walk_stmt-returns-in-For : goal.walk_stmt-returns-in-For
walk_stmt-returns-in-For t c = plain-part c.args.steps.now c.walk_for.new.steps (λ r. for_sites (scoped r []) c.in-For.start c.in-For.test c.in-For.next c.get-in-For.result.now) c.args.tree.now (x.For c.in-For.field-0 c.in-For.start c.in-For.test c.in-For.next c.in-For.a) c.walk_for.result c.in-For.is (λ r. refl)
    (λ r. stmt_sites-For r c.in-For.field-0 c.in-For.start c.in-For.test c.in-For.next c.in-For.a ∙ ap (λ (z : Stmt). for_sites (scoped r []) c.in-For.start c.in-For.test c.in-For.next z) (sym c.get-in-For.ensures))
    c.walk_for.ensures

pub walk_stmt-returns-in_ok-meet-in-Write : goal.walk_stmt-returns-in_ok-meet-in-Write
walk_stmt-returns-in_ok-meet-in-Write t c = plain-part c.args.steps.now c.walk_expr-in-Write.new.steps (λ r. site r (Writes c.in-Write.word) ∷ expr_sites r c.in-Write.value) c.args.tree.now (x.Write c.in-Write.word c.in-Write.value) c.walk_expr-in-Write.result c.in-Write.is (λ r. refl)
    (λ r. stmt_sites-Write r c.in-Write.word c.in-Write.value)
    (meet-then c.args.steps.now c.meet-in-Write.new.self c.walk_expr-in-Write.new.steps (Writes c.in-Write.word) (λ r. expr_sites r c.in-Write.value) (λ r. site r (Writes c.in-Write.word) ∷ expr_sites r c.in-Write.value) c.walk_expr-in-Write.result
    (λ r. refl) c.in_ok-meet-in-Write.ensures c.walk_expr-in-Write.ensures)
