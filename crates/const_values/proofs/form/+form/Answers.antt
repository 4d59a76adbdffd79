use Rattle.std.specs.Prelude.{true, false, refl, List, Option, is_some}
use Rattle.std.proofs.Common.{Bor, arith, ap, sym, ◌∙◌, subst}
use Rattle.cm_tree.specs.declared.expr.Expr.{Expr}
use Rattle.cm_tree.specs.declared.expr.Expr.TheVariants as e
use Rattle.cm_types.specs.declared.cm_type.CmType.{CmType as CodeType}
use Rattle.cm_types.specs.declared.valued.Valued.{Valued as CodeValued}
use Rattle.cm_types.specs.Meant.{meant_type, meant_valued}
use Rattle.cm_meaning.specs.Constants.{type_in}
use Rattle.cm_meaning.specs.Conversions.{Valued}
use Rattle.const_values.specs.Arguments.{JudgesAll}
use Rattle.const_values.specs.Names.{means}
use Rattle.const_values.proofs.Forms.{judged, some_map, none_mapped, some_mapped, judges_number, judges_truth, judges_name, judges_paren, judges_unary, judges_binary, judges_left, judges_test, judges_one, judges_choice, judges_call, judges_no_type, judges_construct, judges_field, judges_array, judges_index}
use Rattle.const_values.proofs.Loops.{take_all, judges_none, judges_next, judges_stop, judges_all}
use Rattle.const_values.proofs.form.+form.Goals as goal

pub is_constant-returns-then-not-is_constant : goal.is_constant-returns-then-not-is_constant
is_constant-returns-then-not-is_constant g t c =
    let f = g.N.ConstNames.finds c.args.names.now in
    let a = c.args.env.now.params in
    let b = c.in-Binary in
    judged f a (e.Binary b.field-0 b.field-1 b.left b.right) c.args.expr.now false false b.is refl
    (judges_left f a b.field-0 b.field-1 b.left b.right c.is_constant-in-Binary.result
    (judged f a c.get-in-Binary.result.now b.left c.is_constant-in-Binary.result c.is_constant-in-Binary.result (sym c.get-in-Binary.ensures) refl c.is_constant-in-Binary.ensures) c.if-not-is_constant.true)

pub is_constant-returns-else-not-is_constant : goal.is_constant-returns-else-not-is_constant
is_constant-returns-else-not-is_constant g t c =
    let f = g.N.ConstNames.finds c.args.names.now in
    let a = c.args.env.now.params in
    let b = c.in-Binary in
    judged f a (e.Binary b.field-0 b.field-1 b.left b.right) c.args.expr.now c.is_constant-in-Binary-2.result c.is_constant-in-Binary-2.result b.is refl
    (judges_binary f a b.field-0 b.field-1 b.left b.right c.is_constant-in-Binary.result c.is_constant-in-Binary-2.result
    (judged f a c.get-in-Binary.result.now b.left c.is_constant-in-Binary.result c.is_constant-in-Binary.result (sym c.get-in-Binary.ensures) refl c.is_constant-in-Binary.ensures) c.if-not-is_constant.false
    (judged f a c.get-in-Binary-2.result.now b.right c.is_constant-in-Binary-2.result c.is_constant-in-Binary-2.result (sym c.get-in-Binary-2.ensures) refl c.is_constant-in-Binary-2.ensures))

pub is_constant-returns-then-not-is_constant-3 : goal.is_constant-returns-then-not-is_constant-3
is_constant-returns-then-not-is_constant-3 g t c =
    let f = g.N.ConstNames.finds c.args.names.now in
    let a = c.args.env.now.params in
    let b = c.in-Choice in
    judged f a (e.Choice b.field-0 b.test b.one b.other) c.args.expr.now false false b.is refl
    (judges_test f a b.field-0 b.test b.one b.other c.is_constant-in-Choice.result
    (judged f a c.get-in-Choice.result.now b.test c.is_constant-in-Choice.result c.is_constant-in-Choice.result (sym c.get-in-Choice.ensures) refl c.is_constant-in-Choice.ensures) c.if-not-is_constant-3.true)

pub is_constant-returns-then-not-is_constant-4 : goal.is_constant-returns-then-not-is_constant-4
is_constant-returns-then-not-is_constant-4 g t c =
    let f = g.N.ConstNames.finds c.args.names.now in
    let a = c.args.env.now.params in
    let b = c.in-Choice in
    judged f a (e.Choice b.field-0 b.test b.one b.other) c.args.expr.now false false b.is refl
    (judges_one f a b.field-0 b.test b.one b.other c.is_constant-in-Choice.result c.is_constant-in-Choice-2.result
    (judged f a c.get-in-Choice.result.now b.test c.is_constant-in-Choice.result c.is_constant-in-Choice.result (sym c.get-in-Choice.ensures) refl c.is_constant-in-Choice.ensures) c.if-not-is_constant-3.false
    (judged f a c.get-in-Choice-2.result.now b.one c.is_constant-in-Choice-2.result c.is_constant-in-Choice-2.result (sym c.get-in-Choice-2.ensures) refl c.is_constant-in-Choice-2.ensures) c.if-not-is_constant-4.true)

pub is_constant-returns-else-not-is_constant-4 : goal.is_constant-returns-else-not-is_constant-4
is_constant-returns-else-not-is_constant-4 g t c =
    let f = g.N.ConstNames.finds c.args.names.now in
    let a = c.args.env.now.params in
    let b = c.in-Choice in
    judged f a (e.Choice b.field-0 b.test b.one b.other) c.args.expr.now c.is_constant-in-Choice-3.result c.is_constant-in-Choice-3.result b.is refl
    (judges_choice f a b.field-0 b.test b.one b.other c.is_constant-in-Choice.result c.is_constant-in-Choice-2.result c.is_constant-in-Choice-3.result
    (judged f a c.get-in-Choice.result.now b.test c.is_constant-in-Choice.result c.is_constant-in-Choice.result (sym c.get-in-Choice.ensures) refl c.is_constant-in-Choice.ensures) c.if-not-is_constant-3.false
    (judged f a c.get-in-Choice-2.result.now b.one c.is_constant-in-Choice-2.result c.is_constant-in-Choice-2.result (sym c.get-in-Choice-2.ensures) refl c.is_constant-in-Choice-2.ensures) c.if-not-is_constant-4.false
    (judged f a c.get-in-Choice-3.result.now b.other c.is_constant-in-Choice-3.result c.is_constant-in-Choice-3.result (sym c.get-in-Choice-3.ensures) refl c.is_constant-in-Choice-3.ensures))

pub is_constant-returns-in-Name : goal.is_constant-returns-in-Name
is_constant-returns-in-Name g t c =
    let f = g.N.ConstNames.finds c.args.names.now in
    let a = c.args.env.now.params in
    judged f a (e.Name c.in-Name.path) c.args.expr.now c.is_some.result c.is_some.result c.in-Name.is refl
    (judges_name f a c.in-Name.path c.is_some.result
    (c.is_some.ensures ∙ some_map (λ (v : Bor CodeValued). meant_valued v.now) c.value_named.result ∙ ap (λ (v : Option Valued). is_some v) c.value_named.ensures.value))

pub is_constant-returns-in-Paren : goal.is_constant-returns-in-Paren
is_constant-returns-in-Paren g t c =
    let f = g.N.ConstNames.finds c.args.names.now in
    let a = c.args.env.now.params in
    judged f a (e.Paren c.in-Paren.field-0 c.in-Paren.inner) c.args.expr.now c.is_constant.result c.is_constant.result c.in-Paren.is refl
    (judges_paren f a c.in-Paren.field-0 c.in-Paren.inner c.is_constant.result
    (judged f a c.get.result.now c.in-Paren.inner c.is_constant.result c.is_constant.result (sym c.get.ensures) refl c.is_constant.ensures))

pub is_constant-returns-in-Unary : goal.is_constant-returns-in-Unary
is_constant-returns-in-Unary g t c =
    let f = g.N.ConstNames.finds c.args.names.now in
    let a = c.args.env.now.params in
    judged f a (e.Unary c.in-Unary.field-0 c.in-Unary.field-1 c.in-Unary.inner) c.args.expr.now c.is_constant-in-Unary.result c.is_constant-in-Unary.result c.in-Unary.is refl
    (judges_unary f a c.in-Unary.field-0 c.in-Unary.field-1 c.in-Unary.inner c.is_constant-in-Unary.result
    (judged f a c.get-in-Unary.result.now c.in-Unary.inner c.is_constant-in-Unary.result c.is_constant-in-Unary.result (sym c.get-in-Unary.ensures) refl c.is_constant-in-Unary.ensures))

pub is_constant-returns-in-Number : goal.is_constant-returns-in-Number
is_constant-returns-in-Number g t c =
    let f = g.N.ConstNames.finds c.args.names.now in
    let a = c.args.env.now.params in
    let b = c.in-Number in
    judged f a (e.Number b._at b._number b._wide) c.args.expr.now true true b.is refl (judges_number f a b._at b._number b._wide)

pub is_constant-returns-in-Truth : goal.is_constant-returns-in-Truth
is_constant-returns-in-Truth g t c =
    let f = g.N.ConstNames.finds c.args.names.now in
    let a = c.args.env.now.params in
    let b = c.in-Truth in
    judged f a (e.Truth b._at b._is) c.args.expr.now true true b.is refl (judges_truth f a b._at b._is)

pub is_constant-returns-in-Field : goal.is_constant-returns-in-Field
is_constant-returns-in-Field g t c =
    let f = g.N.ConstNames.finds c.args.names.now in
    let a = c.args.env.now.params in
    judged f a (e.Field c.in-Field.field-0 c.in-Field.inner c.in-Field.field-2) c.args.expr.now c.is_constant-in-Field.result c.is_constant-in-Field.result c.in-Field.is refl
    (judges_field f a c.in-Field.field-0 c.in-Field.inner c.in-Field.field-2 c.is_constant-in-Field.result
    (judged f a c.get-in-Field.result.now c.in-Field.inner c.is_constant-in-Field.result c.is_constant-in-Field.result (sym c.get-in-Field.ensures) refl c.is_constant-in-Field.ensures))

pub is_constant-returns-then-not-is_constant-2 : goal.is_constant-returns-then-not-is_constant-2
is_constant-returns-then-not-is_constant-2 g t c =
    let f = g.N.ConstNames.finds c.args.names.now in
    let a = c.args.env.now.params in
    let b = c.in-Index in
    judged f a (e.Index b.field-0 b.inner b.index) c.args.expr.now false false b.is refl
    (judges_array f a b.field-0 b.inner b.index c.is_constant-in-Index.result
    (judged f a c.get-in-Index.result.now b.inner c.is_constant-in-Index.result c.is_constant-in-Index.result (sym c.get-in-Index.ensures) refl c.is_constant-in-Index.ensures) c.if-not-is_constant-2.true)

pub is_constant-returns-else-not-is_constant-2 : goal.is_constant-returns-else-not-is_constant-2
is_constant-returns-else-not-is_constant-2 g t c =
    let f = g.N.ConstNames.finds c.args.names.now in
    let a = c.args.env.now.params in
    let b = c.in-Index in
    judged f a (e.Index b.field-0 b.inner b.index) c.args.expr.now c.is_constant-in-Index-2.result c.is_constant-in-Index-2.result b.is refl
    (judges_index f a b.field-0 b.inner b.index c.is_constant-in-Index.result c.is_constant-in-Index-2.result
    (judged f a c.get-in-Index.result.now b.inner c.is_constant-in-Index.result c.is_constant-in-Index.result (sym c.get-in-Index.ensures) refl c.is_constant-in-Index.ensures) c.if-not-is_constant-2.false
    (judged f a c.get-in-Index-2.result.now b.index c.is_constant-in-Index-2.result c.is_constant-in-Index-2.result (sym c.get-in-Index-2.ensures) refl c.is_constant-in-Index-2.ensures))

pub are_constant-loop-expr-init : goal.are_constant-loop-expr-init
are_constant-loop-expr-init g t c = judges_none (g.N.ConstNames.finds c.args.names.now) c.args.env.now.params c.args.all.now

pub are_constant-loop-expr-preserved : goal.are_constant-loop-expr-preserved
are_constant-loop-expr-preserved g t c =
    judges_next (g.N.ConstNames.finds c.args.names.now) c.args.env.now.params c.args.all.now c.loop-expr.expr-index c.expr-item.result c.is_constant.result
    c.loop-expr-test.true c.expr-item.is c.loop-expr.invariant c.is_constant.ensures c.if-not-is_constant.false

pub are_constant-returns-then-not-is_constant : goal.are_constant-returns-then-not-is_constant
are_constant-returns-then-not-is_constant g t c =
    judges_stop (g.N.ConstNames.finds c.args.names.now) c.args.env.now.params c.args.all.now c.loop-expr.expr-index c.expr-item.result c.is_constant.result
    c.loop-expr-test.true c.expr-item.is c.is_constant.ensures c.if-not-is_constant.true

pub are_constant-returns : goal.are_constant-returns
are_constant-returns g t c =
    let end = c.loop-expr.auto.expr-index-end in
    let past = c.loop-expr-test.false in
    judges_all (g.N.ConstNames.finds c.args.names.now) c.args.env.now.params c.args.all.now c.loop-expr.expr-index (take_all c.args.all.now c.loop-expr.expr-index (omega arith)) c.loop-expr.invariant

pub is_constant-returns-then-is_none : goal.is_constant-returns-then-is_none
is_constant-returns-then-is_none g t c =
    let f = g.N.ConstNames.finds c.args.names.now in
    let a = c.args.env.now.params in
    judged f a (e.Call c.in-Call.path c.in-Call.args) c.args.expr.now false false c.in-Call.is refl
    (judges_no_type f a c.in-Call.path c.in-Call.args
    (none_mapped (λ (t : Bor CodeType). meant_type t.now) c.type_named.result (type_in (means a (f c.in-Call.path))) c.is_none.result c.type_named.ensures.ty c.is_none.ensures c.if-is_none.true))

pub is_constant-returns-else-is_none : goal.is_constant-returns-else-is_none
is_constant-returns-else-is_none g t c =
    let f = g.N.ConstNames.finds c.args.names.now in
    let a = c.args.env.now.params in
    judged f a (e.Call c.in-Call.path c.in-Call.args) c.args.expr.now c.are_constant.result c.are_constant.result c.in-Call.is refl
    (judges_call f a c.in-Call.path c.in-Call.args c.are_constant.result
    (some_mapped (λ (t : Bor CodeType). meant_type t.now) c.type_named.result (type_in (means a (f c.in-Call.path))) c.is_none.result c.type_named.ensures.ty c.is_none.ensures c.if-is_none.false)
    (subst (λ (l : List Expr). JudgesAll f a l c.are_constant.result) c.as_slice.ensures c.are_constant.ensures))

pub is_constant-returns-in-Construct : goal.is_constant-returns-in-Construct
is_constant-returns-in-Construct g t c =
    let f = g.N.ConstNames.finds c.args.names.now in
    let a = c.args.env.now.params in
    let b = c.in-Construct in
    judged f a (e.Construct b._base b._sizes b.args) c.args.expr.now c.are_constant-in-Construct.result c.are_constant-in-Construct.result b.is refl
    (judges_construct f a b._base b._sizes b.args c.are_constant-in-Construct.result
    (subst (λ (l : List Expr). JudgesAll f a l c.are_constant-in-Construct.result) c.as_slice-in-Construct.ensures c.are_constant-in-Construct.ensures))
