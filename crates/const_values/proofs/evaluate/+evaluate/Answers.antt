use Rattle.std.specs.Prelude.{Bool, ℕ, List, refl, Result, Ok, Err, if◌then◌else◌, FitsSigned}
use Rattle.std.specs.Int.{w64}
use Rattle.std.proofs.Common.{rules, arith, ◌≡◌, ap, sym, ◌∙◌, subst, to_z, of_z}
use Rattle.std.proofs.lemmas.Int.{ints}
use Rattle.cm_base.specs.declared.failure.Fail.{Fail}
use Rattle.cm_base.specs.declared.host.Scalar.TheVariants as kind
use Rattle.cm_base.specs.declared.cause.Cause.TheVariants as cause
use Rattle.cm_tree.specs.declared.expr.Expr.{Expr}
use Rattle.cm_tree.specs.declared.expr.Expr.TheVariants as e
use Rattle.cm_tree.specs.declared.expr.Base.TheVariants as b
use Rattle.cm_tree.specs.Levels.{place}
use Rattle.cm_types.specs.declared.cm_type.CmType.TheVariants as types
use Rattle.cm_types.specs.Meant.{meant_type}
use Rattle.cm_meaning.specs.Types.{scalar_value}
use Rattle.cm_meaning.specs.Constants.{type_in}
use Rattle.const_values.specs.declared.construct.Given.{Given}
use Rattle.const_values.specs.Answers.{Judges}
use Rattle.const_values.specs.Arguments.{TellsAll, GivesCall, GivesComposed}
use Rattle.const_values.specs.Construct.{meant_givens, AreSound}
use Rattle.const_values.specs.Names.{means}
use Rattle.const_values.specs.Sizes.{TellsCounts, AreLawfulCounts}
use Rattle.const_values.proofs.Constructs.{told_as, told_number, told_truth, told_paren, unary_refused, told_unary, left_refused, right_refused, told_binary, test_refused, no_condition, one_refused, other_refused, told_choice, struct_refused, told_field, array_refused, index_refused, told_index, told_not_constant, told_constant, refused_at, passed_error}
use Rattle.const_values.proofs.Fits.{passed_failure}
use Rattle.const_values.proofs.Loops.{take_all, given_none, given_next, given_stop, given_all, counts_none, counts_next, counts_stop, counts_all, none_sound, sound_more, none_lawful, lawful_more}
use Rattle.const_values.proofs.MadeOf.{call_refused, told_call, base_refused, sizes_refused, values_refused, unmade, told_construct}
use Rattle.const_values.proofs.Numbers.{count_as, count_refused, told_count, base_as, told_bool, told_int, told_int32, told_int64, told_wrap, told_clamp, wrap_refused, clamp_refused, single_lawful}
use Rattle.const_values.proofs.evaluate.+evaluate.Goals as goal

pub evaluate-returns-in_err-one-in-Unary-clause-told : goal.evaluate-returns-in_err-one-in-Unary-clause-told
evaluate-returns-in_err-one-in-Unary-clause-told g t c =
    let f = g.N.ConstNames.finds c.args.names.now in
    let a = c.args.env.now.params in
    let b = c.in-Unary in
    told_as f a (e.Unary b.at b.op b.inner) c.args.expr.now (Err c.in_err-one-in-Unary.field-0.0) c.from_residual.result b.is (passed_error c.from_residual.result c.in_err-one-in-Unary.field-0.0 c.from_residual.ensures)
    (unary_refused f a b.at b.op b.inner c.in_err-one-in-Unary.field-0.0
    (told_as f a c.get-in-Unary.result.now b.inner (Err c.in_err-one-in-Unary.field-0.0) (Err c.in_err-one-in-Unary.field-0.0) (sym c.get-in-Unary.ensures) refl c.in_err-one-in-Unary.ensures.told))

pub evaluate-returns-in_err-one-in-Binary-clause-told : goal.evaluate-returns-in_err-one-in-Binary-clause-told
evaluate-returns-in_err-one-in-Binary-clause-told g t c =
    let f = g.N.ConstNames.finds c.args.names.now in
    let a = c.args.env.now.params in
    let b = c.in-Binary in
    told_as f a (e.Binary b.at b.op b.left b.right) c.args.expr.now (Err c.in_err-one-in-Binary.field-0.0) c.from_residual-in_err-one-in-Binary.result b.is (passed_error c.from_residual-in_err-one-in-Binary.result c.in_err-one-in-Binary.field-0.0 c.from_residual-in_err-one-in-Binary.ensures)
    (left_refused f a b.at b.op b.left b.right c.in_err-one-in-Binary.field-0.0
    (told_as f a c.get-in-Binary.result.now b.left (Err c.in_err-one-in-Binary.field-0.0) (Err c.in_err-one-in-Binary.field-0.0) (sym c.get-in-Binary.ensures) refl c.in_err-one-in-Binary.ensures.told))

pub evaluate-returns-in_err-other-in-Binary-clause-told : goal.evaluate-returns-in_err-other-in-Binary-clause-told
evaluate-returns-in_err-other-in-Binary-clause-told g t c =
    let f = g.N.ConstNames.finds c.args.names.now in
    let a = c.args.env.now.params in
    let b = c.in-Binary in
    told_as f a (e.Binary b.at b.op b.left b.right) c.args.expr.now (Err c.in_err-other-in-Binary.field-0.0) c.from_residual-in_err-other-in-Binary.result b.is (passed_error c.from_residual-in_err-other-in-Binary.result c.in_err-other-in-Binary.field-0.0 c.from_residual-in_err-other-in-Binary.ensures)
    (right_refused f a b.at b.op b.left b.right c.in_err-other-in-Binary.field-0.0
    (told_as f a c.get-in-Binary-2.result.now b.right (Err c.in_err-other-in-Binary.field-0.0) (Err c.in_err-other-in-Binary.field-0.0) (sym c.get-in-Binary-2.ensures) refl c.in_err-other-in-Binary.ensures.told))

pub evaluate-returns-in_err-tested-in-Choice-clause-told : goal.evaluate-returns-in_err-tested-in-Choice-clause-told
evaluate-returns-in_err-tested-in-Choice-clause-told g t c =
    let f = g.N.ConstNames.finds c.args.names.now in
    let a = c.args.env.now.params in
    let b = c.in-Choice in
    told_as f a (e.Choice b.at b.test b.left b.right) c.args.expr.now (Err c.in_err-tested-in-Choice.field-0.0) c.from_residual-in_err-tested-in-Choice.result b.is (passed_error c.from_residual-in_err-tested-in-Choice.result c.in_err-tested-in-Choice.field-0.0 c.from_residual-in_err-tested-in-Choice.ensures)
    (test_refused f a b.at b.test b.left b.right c.in_err-tested-in-Choice.field-0.0
    (told_as f a c.get-in-Choice.result.now b.test (Err c.in_err-tested-in-Choice.field-0.0) (Err c.in_err-tested-in-Choice.field-0.0) (sym c.get-in-Choice.ensures) refl c.in_err-tested-in-Choice.ensures.told))

pub evaluate-returns-in_err-one-in-Choice-clause-told : goal.evaluate-returns-in_err-one-in-Choice-clause-told
evaluate-returns-in_err-one-in-Choice-clause-told g t c =
    let f = g.N.ConstNames.finds c.args.names.now in
    let a = c.args.env.now.params in
    let b = c.in-Choice in
    told_as f a (e.Choice b.at b.test b.left b.right) c.args.expr.now (Err c.in_err-one-in-Choice.field-0.0) c.from_residual-in_err-one-in-Choice.result b.is (passed_error c.from_residual-in_err-one-in-Choice.result c.in_err-one-in-Choice.field-0.0 c.from_residual-in_err-one-in-Choice.ensures)
    (one_refused f a b.at b.test b.left b.right c.in_err-one-in-Choice.field-0.0
    (told_as f a c.get-in-Choice-2.result.now b.left (Err c.in_err-one-in-Choice.field-0.0) (Err c.in_err-one-in-Choice.field-0.0) (sym c.get-in-Choice-2.ensures) refl c.in_err-one-in-Choice.ensures.told))

pub evaluate-returns-in_err-other-in-Choice-clause-told : goal.evaluate-returns-in_err-other-in-Choice-clause-told
evaluate-returns-in_err-other-in-Choice-clause-told g t c =
    let f = g.N.ConstNames.finds c.args.names.now in
    let a = c.args.env.now.params in
    let b = c.in-Choice in
    told_as f a (e.Choice b.at b.test b.left b.right) c.args.expr.now (Err c.in_err-other-in-Choice.field-0.0) c.from_residual-in_err-other-in-Choice.result b.is (passed_error c.from_residual-in_err-other-in-Choice.result c.in_err-other-in-Choice.field-0.0 c.from_residual-in_err-other-in-Choice.ensures)
    (other_refused f a b.at b.test b.left b.right c.in_err-other-in-Choice.field-0.0
    (told_as f a c.get-in-Choice-3.result.now b.right (Err c.in_err-other-in-Choice.field-0.0) (Err c.in_err-other-in-Choice.field-0.0) (sym c.get-in-Choice-3.ensures) refl c.in_err-other-in-Choice.ensures.told))

pub evaluate-returns-then-not-is_condition-clause-told : goal.evaluate-returns-then-not-is_condition-clause-told
evaluate-returns-then-not-is_condition-clause-told g t c =
    let f = g.N.ConstNames.finds c.args.names.now in
    let a = c.args.env.now.params in
    let b = c.in-Choice in
    let tested = c.in_ok-tested-in-Choice.tested in
    told_as f a (e.Choice b.at b.test b.left b.right) c.args.expr.now (Err c.refused.result) (Err c.refused.result) b.is refl
    (no_condition f a b.at b.test b.left b.right tested c.refused.result
    (told_as f a c.get-in-Choice.result.now b.test (Ok tested) (Ok tested) (sym c.get-in-Choice.ensures) refl c.in_ok-tested-in-Choice.ensures.told)
    (sym c.is_condition.ensures ∙ c.if-not-is_condition.true)
    (refused_at c.refused.result cause.TypeMismatch c.place-then-not-is_condition.result (place b.test) (c.place-then-not-is_condition.ensures ∙ ap place c.get-then-not-is_condition.ensures) c.refused.ensures))

pub evaluate-returns-in-Number-clause-told : goal.evaluate-returns-in-Number-clause-told
evaluate-returns-in-Number-clause-told g t c =
    let f = g.N.ConstNames.finds c.args.names.now in
    let a = c.args.env.now.params in
    let b = c.in-Number in
    let number : to_z w64 (of_z w64 b.number) ≡ b.number = first_of (search rules, grind (arith, ints), omega (arith, ints)) in
    told_as f a (e.Number b.field-0 b.number b.wide) c.args.expr.now (Ok c.literal.result) (Ok c.literal.result) b.is refl
    (told_number f a b.field-0 b.number b.wide c.literal.result c.literal.ensures.ty (subst (FitsSigned w64) number c.literal.ensures.range)
    (c.literal.ensures.value ∙ ap (scalar_value (if b.wide then kind.Int64 else kind.Int32)) number))

pub evaluate-returns-in-Truth-clause-told : goal.evaluate-returns-in-Truth-clause-told
evaluate-returns-in-Truth-clause-told g t c =
    let f = g.N.ConstNames.finds c.args.names.now in
    let a = c.args.env.now.params in
    let b = c.in-Truth in
    told_as f a (e.Truth b.field-0 b.is_true) c.args.expr.now (Ok c.truth_literal.result) (Ok c.truth_literal.result) b.is refl
    (told_truth f a b.field-0 b.is_true c.truth_literal.result c.truth_literal.ensures.ty c.truth_literal.ensures.value)

pub evaluate-returns-in-Paren-clause-told : goal.evaluate-returns-in-Paren-clause-told
evaluate-returns-in-Paren-clause-told g t c =
    let f = g.N.ConstNames.finds c.args.names.now in
    let a = c.args.env.now.params in
    let b = c.in-Paren in
    told_as f a (e.Paren b.field-0 b.inner) c.args.expr.now c.evaluate.result c.evaluate.result b.is refl
    (told_paren f a b.field-0 b.inner c.evaluate.result (told_as f a c.get.result.now b.inner c.evaluate.result c.evaluate.result (sym c.get.ensures) refl c.evaluate.ensures.told))

pub evaluate-returns-in_ok-one-in-Unary-clause-told : goal.evaluate-returns-in_ok-one-in-Unary-clause-told
evaluate-returns-in_ok-one-in-Unary-clause-told g t c =
    let f = g.N.ConstNames.finds c.args.names.now in
    let a = c.args.env.now.params in
    let b = c.in-Unary in
    let one = c.in_ok-one-in-Unary.one in
    told_as f a (e.Unary b.at b.op b.inner) c.args.expr.now c.operation_alone.result c.operation_alone.result b.is refl
    (told_unary f a b.at b.op b.inner one c.operation_alone.result
    (told_as f a c.get-in-Unary.result.now b.inner (Ok one) (Ok one) (sym c.get-in-Unary.ensures) refl c.in_ok-one-in-Unary.ensures.told)
    c.operation_alone.ensures.told)

pub evaluate-returns-in_ok-other-in-Binary-clause-told : goal.evaluate-returns-in_ok-other-in-Binary-clause-told
evaluate-returns-in_ok-other-in-Binary-clause-told g t c =
    let f = g.N.ConstNames.finds c.args.names.now in
    let a = c.args.env.now.params in
    let b = c.in-Binary in
    let one = c.in_ok-one-in-Binary.one in
    let other = c.in_ok-other-in-Binary.other in
    told_as f a (e.Binary b.at b.op b.left b.right) c.args.expr.now c.operation.result c.operation.result b.is refl
    (told_binary f a b.at c.place.result b.op b.left b.right one other c.operation.result
    (told_as f a c.get-in-Binary.result.now b.left (Ok one) (Ok one) (sym c.get-in-Binary.ensures) refl c.in_ok-one-in-Binary.ensures.told)
    (told_as f a c.get-in-Binary-2.result.now b.right (Ok other) (Ok other) (sym c.get-in-Binary-2.ensures) refl c.in_ok-other-in-Binary.ensures.told)
    (c.place.ensures ∙ ap place c.get-in-Binary-3.ensures) c.operation.ensures.told)

pub evaluate-returns-in_ok-other-in-Choice-clause-told : goal.evaluate-returns-in_ok-other-in-Choice-clause-told
evaluate-returns-in_ok-other-in-Choice-clause-told g t c =
    let f = g.N.ConstNames.finds c.args.names.now in
    let a = c.args.env.now.params in
    let b = c.in-Choice in
    let tested = c.in_ok-tested-in-Choice.tested in
    let one = c.in_ok-one-in-Choice.one in
    let other = c.in_ok-other-in-Choice.other in
    told_as f a (e.Choice b.at b.test b.left b.right) c.args.expr.now c.choice.result c.choice.result b.is refl
    (told_choice f a b.at b.test b.left b.right tested one other c.truth.result c.choice.result
    (told_as f a c.get-in-Choice.result.now b.test (Ok tested) (Ok tested) (sym c.get-in-Choice.ensures) refl c.in_ok-tested-in-Choice.ensures.told)
    (sym c.is_condition.ensures ∙ c.if-not-is_condition.false)
    (told_as f a c.get-in-Choice-2.result.now b.left (Ok one) (Ok one) (sym c.get-in-Choice-2.ensures) refl c.in_ok-one-in-Choice.ensures.told)
    (told_as f a c.get-in-Choice-3.result.now b.right (Ok other) (Ok other) (sym c.get-in-Choice-3.ensures) refl c.in_ok-other-in-Choice.ensures.told)
    c.truth.ensures c.choice.ensures.told)

pub evaluate-returns-in_err-one-in-Field-clause-told : goal.evaluate-returns-in_err-one-in-Field-clause-told
evaluate-returns-in_err-one-in-Field-clause-told g t c =
    let f = g.N.ConstNames.finds c.args.names.now in
    let a = c.args.env.now.params in
    let b = c.in-Field in
    let x = c.in_err-one-in-Field.field-0.0 in
    told_as f a (e.Field b.field-0 b.inner b.word) c.args.expr.now (Err x) c.from_residual-in_err-one-in-Field.result b.is (passed_error c.from_residual-in_err-one-in-Field.result x c.from_residual-in_err-one-in-Field.ensures)
    (struct_refused f a b.field-0 b.inner b.word x (told_as f a c.get-in-Field.result.now b.inner (Err x) (Err x) (sym c.get-in-Field.ensures) refl c.in_err-one-in-Field.ensures.told))

pub evaluate-returns-in_ok-one-in-Field-clause-told : goal.evaluate-returns-in_ok-one-in-Field-clause-told
evaluate-returns-in_ok-one-in-Field-clause-told g t c =
    let f = g.N.ConstNames.finds c.args.names.now in
    let a = c.args.env.now.params in
    let b = c.in-Field in
    let one = c.in_ok-one-in-Field.one in
    told_as f a (e.Field b.field-0 b.inner b.word) c.args.expr.now c.field.result c.field.result b.is refl
    (told_field f a b.field-0 b.inner b.word one c.field.result
    (told_as f a c.get-in-Field.result.now b.inner (Ok one) (Ok one) (sym c.get-in-Field.ensures) refl c.in_ok-one-in-Field.ensures.told) c.field.ensures.told)

pub evaluate-returns-in_err-one-in-Index-clause-told : goal.evaluate-returns-in_err-one-in-Index-clause-told
evaluate-returns-in_err-one-in-Index-clause-told g t c =
    let f = g.N.ConstNames.finds c.args.names.now in
    let a = c.args.env.now.params in
    let b = c.in-Index in
    told_as f a (e.Index b.at b.inner b.index) c.args.expr.now (Err c.in_err-one-in-Index.field-0.0) c.from_residual-in_err-one-in-Index.result b.is (passed_error c.from_residual-in_err-one-in-Index.result c.in_err-one-in-Index.field-0.0 c.from_residual-in_err-one-in-Index.ensures)
    (array_refused f a b.at b.inner b.index c.in_err-one-in-Index.field-0.0 (told_as f a c.get-in-Index.result.now b.inner (Err c.in_err-one-in-Index.field-0.0) (Err c.in_err-one-in-Index.field-0.0) (sym c.get-in-Index.ensures) refl c.in_err-one-in-Index.ensures.told))

pub evaluate-returns-in_err-found-in-Index-clause-told : goal.evaluate-returns-in_err-found-in-Index-clause-told
evaluate-returns-in_err-found-in-Index-clause-told g t c =
    let f = g.N.ConstNames.finds c.args.names.now in
    let a = c.args.env.now.params in
    let b = c.in-Index in
    told_as f a (e.Index b.at b.inner b.index) c.args.expr.now (Err c.in_err-found-in-Index.field-0.0) c.from_residual-in_err-found-in-Index.result b.is (passed_error c.from_residual-in_err-found-in-Index.result c.in_err-found-in-Index.field-0.0 c.from_residual-in_err-found-in-Index.ensures)
    (index_refused f a b.at b.inner b.index c.in_err-found-in-Index.field-0.0 (told_as f a c.get-in-Index-2.result.now b.index (Err c.in_err-found-in-Index.field-0.0) (Err c.in_err-found-in-Index.field-0.0) (sym c.get-in-Index-2.ensures) refl c.in_err-found-in-Index.ensures.told))

pub evaluate-returns-in_ok-found-in-Index-clause-told : goal.evaluate-returns-in_ok-found-in-Index-clause-told
evaluate-returns-in_ok-found-in-Index-clause-told g t c =
    let f = g.N.ConstNames.finds c.args.names.now in
    let a = c.args.env.now.params in
    let b = c.in-Index in
    let one = c.in_ok-one-in-Index.one in
    let found = c.in_ok-found-in-Index.found in
    told_as f a (e.Index b.at b.inner b.index) c.args.expr.now c.element.result c.element.result b.is refl
    (told_index f a b.at c.place-in-Index.result b.inner b.index one found c.element.result
    (told_as f a c.get-in-Index.result.now b.inner (Ok one) (Ok one) (sym c.get-in-Index.ensures) refl c.in_ok-one-in-Index.ensures.told)
    (told_as f a c.get-in-Index-2.result.now b.index (Ok found) (Ok found) (sym c.get-in-Index-2.ensures) refl c.in_ok-found-in-Index.ensures.told)
    (c.place-in-Index.ensures ∙ ap place c.get-in-Index-3.ensures) c.element.ensures.told)

pub constant-returns-then-not-is_constant-clause-told : goal.constant-returns-then-not-is_constant-clause-told
constant-returns-then-not-is_constant-clause-told g t c =
    told_not_constant (g.N.ConstNames.finds c.args.names.now) c.args.env.now.params c.args.expr.now c.refused.result
    (subst (λ (b : Bool). Judges (g.N.ConstNames.finds c.args.names.now) c.args.env.now.params c.args.expr.now b) c.if-not-is_constant.true c.is_constant.ensures)
    (refused_at c.refused.result cause.NotConstant c.place.result (place c.args.expr.now) c.place.ensures c.refused.ensures)

pub constant-returns-clause-told : goal.constant-returns-clause-told
constant-returns-clause-told g t c =
    told_constant (g.N.ConstNames.finds c.args.names.now) c.args.env.now.params c.args.expr.now c.evaluate.result
    (subst (λ (b : Bool). Judges (g.N.ConstNames.finds c.args.names.now) c.args.env.now.params c.args.expr.now b) c.if-not-is_constant.false c.is_constant.ensures)
    c.evaluate.ensures.told

pub given-loop-arg-init : goal.given-loop-arg-init
given-loop-arg-init g t c = record {
  told = given_none (g.N.ConstNames.finds c.args.names.now) c.args.env.now.params c.args.args.now c.in_ok-all.all.items c.in_ok-all.ensures.items;
  sound = none_sound c.in_ok-all.all.items c.in_ok-all.ensures.items;
}

pub given-loop-arg-preserved : goal.given-loop-arg-preserved
given-loop-arg-preserved g t c = record {
  told = given_next (g.N.ConstNames.finds c.args.names.now) c.args.env.now.params c.args.args.now c.loop-arg.arg-index c.loop-arg.all.items c.push.new.self.items c.arg-item.result c.place.result c.in_ok-one.one
      c.loop-arg-test.true c.arg-item.is c.loop-arg.invariant.told c.in_ok-one.ensures.told c.place.ensures c.in_ok-push.ensures.items;
  sound = sound_more c.loop-arg.all.items c.push.new.self.items (record { place = c.place.result; one = c.in_ok-one.one }) c.in_ok-push.ensures.items c.loop-arg.invariant.sound c.in_ok-one.ensures.sound;
}

pub given-returns-in_err-one-clause-told : goal.given-returns-in_err-one-clause-told
given-returns-in_err-one-clause-told g t c =
    let f = g.N.ConstNames.finds c.args.names.now in
    let a = c.args.env.now.params in
    subst (λ (x : Result (List Given) Fail). TellsAll f a c.args.args.now x)
    (sym (passed_failure c.from_residual-in_err-one.result c.in_err-one.field-0.0 c.from_residual-in_err-one.ensures))
    (given_stop f a c.args.args.now c.loop-arg.arg-index c.arg-item.result c.in_err-one.field-0.0 c.loop-arg-test.true c.arg-item.is c.in_err-one.ensures.told)

pub given-returns-clause-told : goal.given-returns-clause-told
given-returns-clause-told g t c =
    let end = c.loop-arg.auto.arg-index-end in
    let past = c.loop-arg-test.false in
    given_all (g.N.ConstNames.finds c.args.names.now) c.args.env.now.params c.args.args.now c.loop-arg.arg-index c.loop-arg.all.items c.from_vec.result (take_all c.args.args.now c.loop-arg.arg-index (omega arith)) c.from_vec.ensures c.loop-arg.invariant.told

pub given-returns-clause-sound : goal.given-returns-clause-sound
given-returns-clause-sound g t c = subst (λ (l : List Given). AreSound (meant_givens l)) (sym c.from_vec.ensures) c.loop-arg.invariant.sound

pub count-returns-in_err-one-clause-told : goal.count-returns-in_err-one-clause-told
count-returns-in_err-one-clause-told g t c =
    let f = g.N.ConstNames.finds c.args.names.now in
    let a = c.args.env.now.params in
    count_as f a c.args.expr.now c.args.expr.now (Err c.in_err-one.field-0.0) c.from_residual.result refl (passed_failure c.from_residual.result c.in_err-one.field-0.0 c.from_residual.ensures)
    (count_refused f a c.args.expr.now c.in_err-one.field-0.0 c.in_err-one.ensures.told)

pub count-returns-clause-told : goal.count-returns-clause-told
count-returns-clause-told g t c =
    told_count (g.N.ConstNames.finds c.args.names.now) c.args.env.now.params c.args.expr.now c.place.result c.in_ok-one.one c.count_of.result c.in_ok-one.ensures.told c.place.ensures c.count_of.ensures.told

pub counts-loop-size-init : goal.counts-loop-size-init
counts-loop-size-init g t c = record {
  told = counts_none (g.N.ConstNames.finds c.args.names.now) c.args.env.now.params c.args.sizes.now c.in_ok-all.all.items c.in_ok-all.ensures.items;
  lawful = none_lawful c.in_ok-all.all.items c.in_ok-all.ensures.items;
}

pub counts-loop-size-preserved : goal.counts-loop-size-preserved
counts-loop-size-preserved g t c = record {
  told = counts_next (g.N.ConstNames.finds c.args.names.now) c.args.env.now.params c.args.sizes.now c.loop-size.size-index c.loop-size.all.items c.push.new.self.items c.size-item.result c.in_ok-count.field-0
      c.loop-size-test.true c.size-item.is c.loop-size.invariant.told c.in_ok-count.ensures.told c.in_ok-push.ensures.items;
  lawful = lawful_more c.loop-size.all.items c.push.new.self.items c.in_ok-count.field-0 c.in_ok-push.ensures.items c.loop-size.invariant.lawful c.in_ok-count.ensures.lawful;
}

pub counts-returns-in_err-count-clause-told : goal.counts-returns-in_err-count-clause-told
counts-returns-in_err-count-clause-told g t c =
    let f = g.N.ConstNames.finds c.args.names.now in
    let a = c.args.env.now.params in
    subst (λ (x : Result (List ℕ) Fail). TellsCounts f a c.args.sizes.now x)
    (sym (passed_failure c.from_residual-in_err-count.result c.in_err-count.field-0.0 c.from_residual-in_err-count.ensures))
    (counts_stop f a c.args.sizes.now c.loop-size.size-index c.size-item.result c.in_err-count.field-0.0 c.loop-size-test.true c.size-item.is c.in_err-count.ensures.told)

pub counts-returns-clause-told : goal.counts-returns-clause-told
counts-returns-clause-told g t c =
    let end = c.loop-size.auto.size-index-end in
    let past = c.loop-size-test.false in
    counts_all (g.N.ConstNames.finds c.args.names.now) c.args.env.now.params c.args.sizes.now c.loop-size.size-index c.loop-size.all.items c.from_vec.result (take_all c.args.sizes.now c.loop-size.size-index (omega arith)) c.from_vec.ensures c.loop-size.invariant.told

pub counts-returns-clause-lawful : goal.counts-returns-clause-lawful
counts-returns-clause-lawful g t c = subst AreLawfulCounts (sym c.from_vec.ensures) c.loop-size.invariant.lawful

pub base_type-returns-in-Bool-clause-told : goal.base_type-returns-in-Bool-clause-told
base_type-returns-in-Bool-clause-told g t c =
    let f = g.N.ConstNames.finds c.args.names.now in
    let a = c.args.env.now.params in
    base_as f a (b.Bool c.in-Bool.field-0) c.args.base.now (Ok (types.Single kind.Bool)) (Ok (types.Single kind.Bool)) c.in-Bool.is refl (told_bool f a c.in-Bool.field-0)

pub base_type-returns-in-Bool-clause-lawful : goal.base_type-returns-in-Bool-clause-lawful
base_type-returns-in-Bool-clause-lawful g t c = single_lawful kind.Bool tt

pub base_type-returns-in-Int-clause-told : goal.base_type-returns-in-Int-clause-told
base_type-returns-in-Int-clause-told g t c =
    let f = g.N.ConstNames.finds c.args.names.now in
    let a = c.args.env.now.params in
    base_as f a (b.Int c.in-Int.field-0) c.args.base.now (Ok (types.Single kind.Int32)) (Ok (types.Single kind.Int32)) c.in-Int.is refl (told_int f a c.in-Int.field-0)

pub base_type-returns-in-Int-clause-lawful : goal.base_type-returns-in-Int-clause-lawful
base_type-returns-in-Int-clause-lawful g t c = single_lawful kind.Int32 tt

pub base_type-returns-in-Int32-clause-told : goal.base_type-returns-in-Int32-clause-told
base_type-returns-in-Int32-clause-told g t c =
    let f = g.N.ConstNames.finds c.args.names.now in
    let a = c.args.env.now.params in
    base_as f a (b.Int32 c.in-Int32.field-0) c.args.base.now (Ok (types.Single kind.Int32)) (Ok (types.Single kind.Int32)) c.in-Int32.is refl (told_int32 f a c.in-Int32.field-0)

pub base_type-returns-in-Int32-clause-lawful : goal.base_type-returns-in-Int32-clause-lawful
base_type-returns-in-Int32-clause-lawful g t c = single_lawful kind.Int32 tt

pub base_type-returns-in-Int64-clause-told : goal.base_type-returns-in-Int64-clause-told
base_type-returns-in-Int64-clause-told g t c =
    let f = g.N.ConstNames.finds c.args.names.now in
    let a = c.args.env.now.params in
    base_as f a (b.Int64 c.in-Int64.field-0) c.args.base.now (Ok (types.Single kind.Int64)) (Ok (types.Single kind.Int64)) c.in-Int64.is refl (told_int64 f a c.in-Int64.field-0)

pub base_type-returns-in-Int64-clause-lawful : goal.base_type-returns-in-Int64-clause-lawful
base_type-returns-in-Int64-clause-lawful g t c = single_lawful kind.Int64 tt

pub base_type-returns-in_err-count-in-Wrap-clause-told : goal.base_type-returns-in_err-count-in-Wrap-clause-told
base_type-returns-in_err-count-in-Wrap-clause-told g t c =
    let f = g.N.ConstNames.finds c.args.names.now in
    let a = c.args.env.now.params in
    let w = c.in-Wrap in
    base_as f a (b.Wrap w.field-0 w.values) c.args.base.now (Err c.in_err-count-in-Wrap.field-0.0) c.from_residual.result w.is (passed_failure c.from_residual.result c.in_err-count-in-Wrap.field-0.0 c.from_residual.ensures)
    (wrap_refused f a w.field-0 w.values c.in_err-count-in-Wrap.field-0.0
    (count_as f a c.get.result.now w.values (Err c.in_err-count-in-Wrap.field-0.0) (Err c.in_err-count-in-Wrap.field-0.0) (sym c.get.ensures) refl c.in_err-count-in-Wrap.ensures.told))

pub base_type-returns-in_ok-count-in-Wrap-clause-told : goal.base_type-returns-in_ok-count-in-Wrap-clause-told
base_type-returns-in_ok-count-in-Wrap-clause-told g t c =
    let f = g.N.ConstNames.finds c.args.names.now in
    let a = c.args.env.now.params in
    let w = c.in-Wrap in
    let n = c.in_ok-count-in-Wrap.count in
    base_as f a (b.Wrap w.field-0 w.values) c.args.base.now (Ok (types.Single (kind.Wrap n))) (Ok (types.Single (kind.Wrap n))) w.is refl
    (told_wrap f a w.field-0 w.values n (count_as f a c.get.result.now w.values (Ok n) (Ok n) (sym c.get.ensures) refl c.in_ok-count-in-Wrap.ensures.told))

pub base_type-returns-in_ok-count-in-Wrap-clause-lawful : goal.base_type-returns-in_ok-count-in-Wrap-clause-lawful
base_type-returns-in_ok-count-in-Wrap-clause-lawful g t c = single_lawful (kind.Wrap c.in_ok-count-in-Wrap.count) c.in_ok-count-in-Wrap.ensures.lawful

pub base_type-returns-in_err-count-in-Clamp-clause-told : goal.base_type-returns-in_err-count-in-Clamp-clause-told
base_type-returns-in_err-count-in-Clamp-clause-told g t c =
    let f = g.N.ConstNames.finds c.args.names.now in
    let a = c.args.env.now.params in
    let w = c.in-Clamp in
    base_as f a (b.Clamp w.field-0 w.values) c.args.base.now (Err c.in_err-count-in-Clamp.field-0.0) c.from_residual-in_err-count-in-Clamp.result w.is (passed_failure c.from_residual-in_err-count-in-Clamp.result c.in_err-count-in-Clamp.field-0.0 c.from_residual-in_err-count-in-Clamp.ensures)
    (clamp_refused f a w.field-0 w.values c.in_err-count-in-Clamp.field-0.0
    (count_as f a c.get-in-Clamp.result.now w.values (Err c.in_err-count-in-Clamp.field-0.0) (Err c.in_err-count-in-Clamp.field-0.0) (sym c.get-in-Clamp.ensures) refl c.in_err-count-in-Clamp.ensures.told))

pub base_type-returns-in_ok-count-in-Clamp-clause-told : goal.base_type-returns-in_ok-count-in-Clamp-clause-told
base_type-returns-in_ok-count-in-Clamp-clause-told g t c =
    let f = g.N.ConstNames.finds c.args.names.now in
    let a = c.args.env.now.params in
    let w = c.in-Clamp in
    let n = c.in_ok-count-in-Clamp.count in
    base_as f a (b.Clamp w.field-0 w.values) c.args.base.now (Ok (types.Single (kind.Clamp n))) (Ok (types.Single (kind.Clamp n))) w.is refl
    (told_clamp f a w.field-0 w.values n (count_as f a c.get-in-Clamp.result.now w.values (Ok n) (Ok n) (sym c.get-in-Clamp.ensures) refl c.in_ok-count-in-Clamp.ensures.told))

pub base_type-returns-in_ok-count-in-Clamp-clause-lawful : goal.base_type-returns-in_ok-count-in-Clamp-clause-lawful
base_type-returns-in_ok-count-in-Clamp-clause-lawful g t c = single_lawful (kind.Clamp c.in_ok-count-in-Clamp.count) c.in_ok-count-in-Clamp.ensures.lawful

pub evaluate-returns-in_err-all-in-Call-clause-told : goal.evaluate-returns-in_err-all-in-Call-clause-told
evaluate-returns-in_err-all-in-Call-clause-told g t c =
    let f = g.N.ConstNames.finds c.args.names.now in
    let a = c.args.env.now.params in
    let w = c.in-Call in
    told_as f a (e.Call w.path w.args) c.args.expr.now (Err c.in_err-all-in-Call.field-0.0) c.from_residual-in_err-all-in-Call.result w.is
    (passed_error c.from_residual-in_err-all-in-Call.result c.in_err-all-in-Call.field-0.0 c.from_residual-in_err-all-in-Call.ensures)
    (call_refused f a w.path w.args c.in_err-all-in-Call.field-0.0 (subst (λ (l : List Expr). TellsAll f a l (Err c.in_err-all-in-Call.field-0.0)) c.as_slice.ensures c.in_err-all-in-Call.ensures.told))

pub evaluate-returns-in_ok-all-in-Call-clause-told : goal.evaluate-returns-in_ok-all-in-Call-clause-told
evaluate-returns-in_ok-all-in-Call-clause-told g t c =
    let f = g.N.ConstNames.finds c.args.names.now in
    let a = c.args.env.now.params in
    let w = c.in-Call in
    let all = c.in_ok-all-in-Call.all in
    told_as f a (e.Call w.path w.args) c.args.expr.now c.called.result c.called.result w.is refl
    (told_call f a w.path w.args all c.called.result (subst (λ (l : List Expr). TellsAll f a l (Ok all)) c.as_slice.ensures c.in_ok-all-in-Call.ensures.told)
    (subst (λ (l : List Given). GivesCall w.path.place (type_in (means a (f w.path))) (meant_givens l) c.called.result) c.as_slice-in-Call.ensures c.called.ensures.told))

pub evaluate-returns-in_err-element-in-Construct-clause-told : goal.evaluate-returns-in_err-element-in-Construct-clause-told
evaluate-returns-in_err-element-in-Construct-clause-told g t c =
    let f = g.N.ConstNames.finds c.args.names.now in
    let a = c.args.env.now.params in
    let w = c.in-Construct in
    told_as f a (e.Construct w.base w.sizes w.args) c.args.expr.now (Err c.in_err-element-in-Construct.field-0.0) c.from_residual-in_err-element-in-Construct.result w.is
    (passed_error c.from_residual-in_err-element-in-Construct.result c.in_err-element-in-Construct.field-0.0 c.from_residual-in_err-element-in-Construct.ensures)
    (base_refused f a w.base w.sizes w.args c.in_err-element-in-Construct.field-0.0 c.in_err-element-in-Construct.ensures.told)

pub evaluate-returns-in_err-counts-in-Construct-clause-told : goal.evaluate-returns-in_err-counts-in-Construct-clause-told
evaluate-returns-in_err-counts-in-Construct-clause-told g t c =
    let f = g.N.ConstNames.finds c.args.names.now in
    let a = c.args.env.now.params in
    let w = c.in-Construct in
    told_as f a (e.Construct w.base w.sizes w.args) c.args.expr.now (Err c.in_err-counts-in-Construct.field-0.0) c.from_residual-in_err-counts-in-Construct.result w.is
    (passed_error c.from_residual-in_err-counts-in-Construct.result c.in_err-counts-in-Construct.field-0.0 c.from_residual-in_err-counts-in-Construct.ensures)
    (sizes_refused f a w.base w.sizes w.args c.in_err-counts-in-Construct.field-0.0
    (subst (λ (l : List Expr). TellsCounts f a l (Err c.in_err-counts-in-Construct.field-0.0)) c.as_slice-in-Construct.ensures c.in_err-counts-in-Construct.ensures.told))

pub evaluate-returns-in_err-all-in-Construct-clause-told : goal.evaluate-returns-in_err-all-in-Construct-clause-told
evaluate-returns-in_err-all-in-Construct-clause-told g t c =
    let f = g.N.ConstNames.finds c.args.names.now in
    let a = c.args.env.now.params in
    let w = c.in-Construct in
    told_as f a (e.Construct w.base w.sizes w.args) c.args.expr.now (Err c.in_err-all-in-Construct.field-0.0) c.from_residual-in_err-all-in-Construct.result w.is
    (passed_error c.from_residual-in_err-all-in-Construct.result c.in_err-all-in-Construct.field-0.0 c.from_residual-in_err-all-in-Construct.ensures)
    (values_refused f a w.base w.sizes w.args c.in_err-all-in-Construct.field-0.0
    (subst (λ (l : List Expr). TellsAll f a l (Err c.in_err-all-in-Construct.field-0.0)) c.as_slice-in-Construct-2.ensures c.in_err-all-in-Construct.ensures.told))

pub evaluate-returns-in_err-ty-in-Construct-clause-told : goal.evaluate-returns-in_err-ty-in-Construct-clause-told
evaluate-returns-in_err-ty-in-Construct-clause-told g t c =
    unmade (g.N.ConstNames.finds c.args.names.now) c.args.env.now.params c.args.expr.now c.from_residual-in_err-ty-in-Construct.result c.from_residual-in_err-ty-in-Construct.ensures

pub evaluate-returns-in_ok-ty-in-Construct-clause-told : goal.evaluate-returns-in_ok-ty-in-Construct-clause-told
evaluate-returns-in_ok-ty-in-Construct-clause-told g t c =
    let f = g.N.ConstNames.finds c.args.names.now in
    let a = c.args.env.now.params in
    let w = c.in-Construct in
    let all = c.in_ok-all-in-Construct.all in
    let counts = c.in_ok-counts-in-Construct.counts in
    told_as f a (e.Construct w.base w.sizes w.args) c.args.expr.now c.composed.result c.composed.result w.is refl
    (told_construct f a w.base w.sizes w.args c.in_ok-element-in-Construct.element c.in_ok-ty-in-Construct.ty counts all c.base_place.result c.composed.result
    c.in_ok-element-in-Construct.ensures.told
    (subst (λ (l : List Expr). TellsCounts f a l (Ok counts)) c.as_slice-in-Construct.ensures c.in_ok-counts-in-Construct.ensures.told)
    (subst (λ (l : List Expr). TellsAll f a l (Ok all)) c.as_slice-in-Construct-2.ensures c.in_ok-all-in-Construct.ensures.told)
    c.in_ok-ty-in-Construct.ensures.ty c.base_place.ensures
    (subst (λ (l : List Given). GivesComposed c.base_place.result (meant_type c.in_ok-ty-in-Construct.ty) (meant_givens l) c.composed.result) c.as_slice-in-Construct-3.ensures c.composed.ensures.told))
