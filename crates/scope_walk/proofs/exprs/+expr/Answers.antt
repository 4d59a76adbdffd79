use Rattle.std.proofs.Common.{ap, sym, ◌∙◌, ◌++◌, ◌∷◌, [], arith, flat_map, refl}
use Rattle.cm_tree.specs.declared.expr.Expr.{Expr}
use Rattle.cm_meaning.specs.Sites.{Calls, Reads, TakesArgument, arguments_sites, base_sites, expr_sites, site}
use Rattle.cm_meaning.specs.SiteEquations.{expr_sites-Number, expr_sites-Truth, expr_sites-Name, expr_sites-Call, expr_sites-Construct, expr_sites-Paren, expr_sites-Field, expr_sites-Index, expr_sites-Unary, expr_sites-Binary, expr_sites-Choice, base_sites-Bool, base_sites-Int, base_sites-Int32, base_sites-Int64, base_sites-Wrap, base_sites-Clamp}
use Rattle.scope_walk.specs.Bodies.{argument_sites}
use Rattle.scope_walk.proofs.StepLemmas.{no-part, meet-part, meet-then, one-part, two-parts, three-parts, parts-start, parts-next, parts-all}
use Rattle.scope_walk.proofs.exprs.+expr.Goals as goal

pub walk_base-returns-in-Bool : goal.walk_base-returns-in-Bool
walk_base-returns-in-Bool t c = no-part c.args.steps.now (λ r. base_sites r c.args.base.now) (λ r. ap (base_sites r) c.in-Bool.is ∙ base_sites-Bool r c.in-Bool.field-0)

pub walk_base-returns-in-Int : goal.walk_base-returns-in-Int
walk_base-returns-in-Int t c = no-part c.args.steps.now (λ r. base_sites r c.args.base.now) (λ r. ap (base_sites r) c.in-Int.is ∙ base_sites-Int r c.in-Int.field-0)

pub walk_base-returns-in-Int32 : goal.walk_base-returns-in-Int32
walk_base-returns-in-Int32 t c = no-part c.args.steps.now (λ r. base_sites r c.args.base.now) (λ r. ap (base_sites r) c.in-Int32.is ∙ base_sites-Int32 r c.in-Int32.field-0)

pub walk_base-returns-in-Int64 : goal.walk_base-returns-in-Int64
walk_base-returns-in-Int64 t c = no-part c.args.steps.now (λ r. base_sites r c.args.base.now) (λ r. ap (base_sites r) c.in-Int64.is ∙ base_sites-Int64 r c.in-Int64.field-0)

pub walk_base-returns-in-Wrap : goal.walk_base-returns-in-Wrap
walk_base-returns-in-Wrap t c = one-part c.args.steps.now c.walk_expr.new.steps (λ r. expr_sites r c.get.result.now) (λ r. base_sites r c.args.base.now) c.walk_expr.result
    (λ r. ap (base_sites r) c.in-Wrap.is ∙ base_sites-Wrap r c.in-Wrap.field-0 c.in-Wrap.count ∙ ap (expr_sites r) (sym c.get.ensures)) c.walk_expr.ensures

pub walk_base-returns-in-Clamp : goal.walk_base-returns-in-Clamp
walk_base-returns-in-Clamp t c = one-part c.args.steps.now c.walk_expr-in-Clamp.new.steps (λ r. expr_sites r c.get-in-Clamp.result.now) (λ r. base_sites r c.args.base.now) c.walk_expr-in-Clamp.result
    (λ r. ap (base_sites r) c.in-Clamp.is ∙ base_sites-Clamp r c.in-Clamp.field-0 c.in-Clamp.count ∙ ap (expr_sites r) (sym c.get-in-Clamp.ensures)) c.walk_expr-in-Clamp.ensures

pub walk_expr-returns-in-Number : goal.walk_expr-returns-in-Number
walk_expr-returns-in-Number t c = no-part c.args.steps.now (λ r. expr_sites r c.args.tree.now) (λ r. ap (expr_sites r) c.in-Number.is ∙ expr_sites-Number r c.in-Number.field-0 c.in-Number.field-1 c.in-Number.field-2)

pub walk_expr-returns-in-Truth : goal.walk_expr-returns-in-Truth
walk_expr-returns-in-Truth t c = no-part c.args.steps.now (λ r. expr_sites r c.args.tree.now) (λ r. ap (expr_sites r) c.in-Truth.is ∙ expr_sites-Truth r c.in-Truth.field-0 c.in-Truth.field-1)

pub walk_expr-returns-in-Name : goal.walk_expr-returns-in-Name
walk_expr-returns-in-Name t c = meet-part c.args.steps.now c.meet.new.self (Reads c.in-Name.path) (λ r. expr_sites r c.args.tree.now) c.meet.result (λ r. ap (expr_sites r) c.in-Name.is ∙ expr_sites-Name r c.in-Name.path) c.meet.ensures

pub walk_expr-returns-in-Call : goal.walk_expr-returns-in-Call
walk_expr-returns-in-Call t c = one-part c.args.steps.now c.walk_call.new.steps (λ r. site r (Calls c.in-Call.path c.as_slice.result.now) ∷ arguments_sites r c.as_slice.result.now) (λ r. expr_sites r c.args.tree.now) c.walk_call.result
    (λ r. ap (expr_sites r) c.in-Call.is ∙ expr_sites-Call r c.in-Call.path c.in-Call.args ∙ ap (λ z. site r (Calls c.in-Call.path z) ∷ arguments_sites r z) (sym c.as_slice.ensures)) c.walk_call.ensures

pub walk_call-returns : goal.walk_call-returns
walk_call-returns t c = meet-then c.args.steps.now c.meet.new.self c.walk_arguments.new.steps (Calls c.args.path.now c.args.args.now) (λ r. arguments_sites r c.args.args.now) (λ r. site r (Calls c.args.path.now c.args.args.now) ∷ arguments_sites r c.args.args.now) c.walk_arguments.result
    (λ r. refl) c.in_ok-meet.ensures c.walk_arguments.ensures

pub walk_argument-returns : goal.walk_argument-returns
walk_argument-returns t c = meet-then c.args.steps.now c.meet.new.self c.walk_expr.new.steps (TakesArgument c.args.tree.now) (λ r. expr_sites r c.args.tree.now) (λ r. argument_sites r c.args.tree.now) c.walk_expr.result
    (λ r. refl) c.in_ok-meet.ensures c.walk_expr.ensures

pub walk_arguments-loop-tree-init : goal.walk_arguments-loop-tree-init
walk_arguments-loop-tree-init t c = parts-start argument_sites c.args.trees.now c.args.steps.now

pub walk_arguments-loop-tree-preserved : goal.walk_arguments-loop-tree-preserved
walk_arguments-loop-tree-preserved t c = parts-next argument_sites c.args.trees.now c.loop-tree.tree-index c.tree-item.result c.args.steps.now c.loop-tree.steps c.walk_argument.new.steps c.loop-tree-test.true c.tree-item.is c.loop-tree.invariant c.in_ok-walk_argument.ensures

pub walk_arguments-returns : goal.walk_arguments-returns
walk_arguments-returns t c = parts-all argument_sites c.args.trees.now c.loop-tree.tree-index c.args.steps.now c.loop-tree.steps (let w = c.loop-tree-test.false in let e = c.loop-tree.auto.tree-index-end in omega arith) c.loop-tree.invariant

pub walk_expr-returns-in_ok-walk_exprs-in-Construct : goal.walk_expr-returns-in_ok-walk_exprs-in-Construct
walk_expr-returns-in_ok-walk_exprs-in-Construct t c = three-parts c.args.steps.now c.walk_base.new.steps c.walk_exprs.new.steps c.walk_arguments.new.steps
    (λ r. base_sites r c.in-Construct.base) (λ r. flat_map (expr_sites r) c.as_slice-in-Construct.result.now) (λ r. arguments_sites r c.as_slice-in-Construct-2.result.now) (λ r. expr_sites r c.args.tree.now) c.walk_arguments.result
    (λ r. ap (expr_sites r) c.in-Construct.is ∙ expr_sites-Construct r c.in-Construct.base c.in-Construct.sizes c.in-Construct.args
    ∙ ap (λ z. base_sites r c.in-Construct.base ++ (flat_map (expr_sites r) z ++ arguments_sites r c.in-Construct.args)) (sym c.as_slice-in-Construct.ensures)
    ∙ ap (λ z. base_sites r c.in-Construct.base ++ (flat_map (expr_sites r) c.as_slice-in-Construct.result.now ++ arguments_sites r z)) (sym c.as_slice-in-Construct-2.ensures))
    c.in_ok-walk_base-in-Construct.ensures c.in_ok-walk_exprs-in-Construct.ensures c.walk_arguments.ensures

pub walk_expr-returns-in-Paren : goal.walk_expr-returns-in-Paren
walk_expr-returns-in-Paren t c = one-part c.args.steps.now c.walk_expr.new.steps (λ r. expr_sites r c.get.result.now) (λ r. expr_sites r c.args.tree.now) c.walk_expr.result
    (λ r. ap (expr_sites r) c.in-Paren.is ∙ expr_sites-Paren r c.in-Paren.field-0 c.in-Paren.a ∙ ap (expr_sites r) (sym c.get.ensures)) c.walk_expr.ensures

pub walk_expr-returns-in-Field : goal.walk_expr-returns-in-Field
walk_expr-returns-in-Field t c = one-part c.args.steps.now c.walk_expr-in-Field.new.steps (λ r. expr_sites r c.get-in-Field.result.now) (λ r. expr_sites r c.args.tree.now) c.walk_expr-in-Field.result
    (λ r. ap (expr_sites r) c.in-Field.is ∙ expr_sites-Field r c.in-Field.field-0 c.in-Field.a c.in-Field.field-2 ∙ ap (expr_sites r) (sym c.get-in-Field.ensures)) c.walk_expr-in-Field.ensures

pub walk_expr-returns-in-Unary : goal.walk_expr-returns-in-Unary
walk_expr-returns-in-Unary t c = one-part c.args.steps.now c.walk_expr-in-Unary.new.steps (λ r. expr_sites r c.get-in-Unary.result.now) (λ r. expr_sites r c.args.tree.now) c.walk_expr-in-Unary.result
    (λ r. ap (expr_sites r) c.in-Unary.is ∙ expr_sites-Unary r c.in-Unary.field-0 c.in-Unary.field-1 c.in-Unary.a ∙ ap (expr_sites r) (sym c.get-in-Unary.ensures)) c.walk_expr-in-Unary.ensures

pub walk_expr-returns-in_ok-walk_expr-in-Index : goal.walk_expr-returns-in_ok-walk_expr-in-Index
walk_expr-returns-in_ok-walk_expr-in-Index t c = two-parts c.args.steps.now c.walk_expr-in-Index.new.steps c.walk_expr-in-Index-2.new.steps (λ r. expr_sites r c.get-in-Index.result.now) (λ r. expr_sites r c.get-in-Index-2.result.now) (λ r. expr_sites r c.args.tree.now) c.walk_expr-in-Index-2.result
    (λ r. ap (expr_sites r) c.in-Index.is ∙ expr_sites-Index r c.in-Index.field-0 c.in-Index.a c.in-Index.b ∙ ap (λ (z : Expr). expr_sites r z ++ expr_sites r c.in-Index.b) (sym c.get-in-Index.ensures) ∙ ap (λ (z : Expr). expr_sites r c.get-in-Index.result.now ++ expr_sites r z) (sym c.get-in-Index-2.ensures))
    c.in_ok-walk_expr-in-Index.ensures c.walk_expr-in-Index-2.ensures

pub walk_expr-returns-in_ok-walk_expr-in-Binary : goal.walk_expr-returns-in_ok-walk_expr-in-Binary
walk_expr-returns-in_ok-walk_expr-in-Binary t c = two-parts c.args.steps.now c.walk_expr-in-Binary.new.steps c.walk_expr-in-Binary-2.new.steps (λ r. expr_sites r c.get-in-Binary.result.now) (λ r. expr_sites r c.get-in-Binary-2.result.now) (λ r. expr_sites r c.args.tree.now) c.walk_expr-in-Binary-2.result
    (λ r. ap (expr_sites r) c.in-Binary.is ∙ expr_sites-Binary r c.in-Binary.field-0 c.in-Binary.field-1 c.in-Binary.a c.in-Binary.b ∙ ap (λ (z : Expr). expr_sites r z ++ expr_sites r c.in-Binary.b) (sym c.get-in-Binary.ensures) ∙ ap (λ (z : Expr). expr_sites r c.get-in-Binary.result.now ++ expr_sites r z) (sym c.get-in-Binary-2.ensures))
    c.in_ok-walk_expr-in-Binary.ensures c.walk_expr-in-Binary-2.ensures

pub walk_expr-returns-in_ok-walk_expr-in-Choice-2 : goal.walk_expr-returns-in_ok-walk_expr-in-Choice-2
walk_expr-returns-in_ok-walk_expr-in-Choice-2 t c = three-parts c.args.steps.now c.walk_expr-in-Choice.new.steps c.walk_expr-in-Choice-2.new.steps c.walk_expr-in-Choice-3.new.steps (λ r. expr_sites r c.get-in-Choice.result.now) (λ r. expr_sites r c.get-in-Choice-2.result.now) (λ r. expr_sites r c.get-in-Choice-3.result.now) (λ r. expr_sites r c.args.tree.now) c.walk_expr-in-Choice-3.result
    (λ r. ap (expr_sites r) c.in-Choice.is ∙ expr_sites-Choice r c.in-Choice.field-0 c.in-Choice.test c.in-Choice.a c.in-Choice.b
    ∙ ap (λ (z : Expr). expr_sites r z ++ (expr_sites r c.in-Choice.a ++ expr_sites r c.in-Choice.b)) (sym c.get-in-Choice.ensures)
    ∙ ap (λ (z : Expr). expr_sites r c.get-in-Choice.result.now ++ (expr_sites r z ++ expr_sites r c.in-Choice.b)) (sym c.get-in-Choice-2.ensures)
    ∙ ap (λ (z : Expr). expr_sites r c.get-in-Choice.result.now ++ (expr_sites r c.get-in-Choice-2.result.now ++ expr_sites r z)) (sym c.get-in-Choice-3.ensures))
    c.in_ok-walk_expr-in-Choice.ensures c.in_ok-walk_expr-in-Choice-2.ensures c.walk_expr-in-Choice-3.ensures

pub walk_exprs-loop-tree-init : goal.walk_exprs-loop-tree-init
walk_exprs-loop-tree-init t c = parts-start expr_sites c.args.trees.now c.args.steps.now

pub walk_exprs-loop-tree-preserved : goal.walk_exprs-loop-tree-preserved
walk_exprs-loop-tree-preserved t c = parts-next expr_sites c.args.trees.now c.loop-tree.tree-index c.tree-item.result c.args.steps.now c.loop-tree.steps c.walk_expr.new.steps c.loop-tree-test.true c.tree-item.is c.loop-tree.invariant c.in_ok-walk_expr.ensures

pub walk_exprs-returns : goal.walk_exprs-returns
walk_exprs-returns t c = parts-all expr_sites c.args.trees.now c.loop-tree.tree-index c.args.steps.now c.loop-tree.steps (let w = c.loop-tree-test.false in let e = c.loop-tree.auto.tree-index-end in omega arith) c.loop-tree.invariant
