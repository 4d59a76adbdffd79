use Rattle.std.specs.Prelude.{List, Some, Ok, Err, refl}
use Rattle.std.proofs.Common.{ap, ◌∙◌, subst}
use Rattle.cm_tree.specs.declared.expr.Expr.{Expr}
use Rattle.cm_tree.specs.declared.type_expr.TypeExpr.TheVariants as y
use Rattle.cm_types.specs.declared.cm_type.CmType.{CmType}
use Rattle.cm_types.specs.Meant.{meant_type}
use Rattle.const_values.specs.Sizes.{TellsCounts}
use Rattle.const_values.proofs.Fits.{passed_failure}
use Rattle.const_values.proofs.TypesTold.{type_as, type_unmade, base_refused, sizes_refused, told_base, no_type, named_sizes_refused, told_named}
use Rattle.const_values.proofs.written.type_written.Goals as goal

pub returns-in_err-element-in-Base-clause-told : goal.returns-in_err-element-in-Base-clause-told
returns-in_err-element-in-Base-clause-told g c =
    let f = g.N.ConstNames.finds c.args.names.now in
    let a = c.args.env.now.params in
    let w = c.in-Base in
    let x = c.in_err-element-in-Base.field-0.0 in
    type_as f a (y.Base w.base w.sizes) c.args.ty.now (Err x) c.from_residual.result w.is (passed_failure c.from_residual.result x c.from_residual.ensures)
    (base_refused f a w.base w.sizes x c.in_err-element-in-Base.ensures.told)

pub returns-in_err-counts-in-Base-clause-told : goal.returns-in_err-counts-in-Base-clause-told
returns-in_err-counts-in-Base-clause-told g c =
    let f = g.N.ConstNames.finds c.args.names.now in
    let a = c.args.env.now.params in
    let w = c.in-Base in
    let x = c.in_err-counts-in-Base.field-0.0 in
    type_as f a (y.Base w.base w.sizes) c.args.ty.now (Err x) c.from_residual-in_err-counts-in-Base.result w.is
    (passed_failure c.from_residual-in_err-counts-in-Base.result x c.from_residual-in_err-counts-in-Base.ensures)
    (sizes_refused f a w.base w.sizes x (subst (λ (l : List Expr). TellsCounts f a l (Err x)) c.as_slice.ensures c.in_err-counts-in-Base.ensures.told))

pub returns-in_err-whole-in-Base-clause-told : goal.returns-in_err-whole-in-Base-clause-told
returns-in_err-whole-in-Base-clause-told g c =
    type_unmade (g.N.ConstNames.finds c.args.names.now) c.args.env.now.params c.args.ty.now c.from_residual-in_err-whole-in-Base.result c.from_residual-in_err-whole-in-Base.ensures

pub returns-in_ok-whole-in-Base-clause-told : goal.returns-in_ok-whole-in-Base-clause-told
returns-in_ok-whole-in-Base-clause-told g c =
    let f = g.N.ConstNames.finds c.args.names.now in
    let a = c.args.env.now.params in
    let w = c.in-Base in
    let counts = c.in_ok-counts-in-Base.counts in
    type_as f a (y.Base w.base w.sizes) c.args.ty.now c.small.result c.small.result w.is refl
    (told_base f a w.base w.sizes c.in_ok-element-in-Base.element c.in_ok-whole-in-Base.whole counts c.base_place.result c.small.result c.in_ok-element-in-Base.ensures.told
    (subst (λ (l : List Expr). TellsCounts f a l (Ok counts)) c.as_slice.ensures c.in_ok-counts-in-Base.ensures.told)
    c.in_ok-whole-in-Base.ensures.ty c.base_place.ensures c.small.ensures.told)

pub returns-in_default-clause-told : goal.returns-in_default-clause-told
returns-in_default-clause-told g c =
    let f = g.N.ConstNames.finds c.args.names.now in
    let a = c.args.env.now.params in
    let w = c.in-Named in
    type_as f a (y.Named w.path w.sizes) c.args.ty.now (Err c.refused.result) (Err c.refused.result) w.is refl (no_type f a w.path w.sizes (Err c.refused.result) c.in_default.ensures.ty)

pub returns-in_err-counts-in-Named-clause-told : goal.returns-in_err-counts-in-Named-clause-told
returns-in_err-counts-in-Named-clause-told g c =
    let f = g.N.ConstNames.finds c.args.names.now in
    let a = c.args.env.now.params in
    let w = c.in-Named in
    let x = c.in_err-counts-in-Named.field-0.0 in
    type_as f a (y.Named w.path w.sizes) c.args.ty.now (Err x) c.from_residual-in_err-counts-in-Named.result w.is
    (passed_failure c.from_residual-in_err-counts-in-Named.result x c.from_residual-in_err-counts-in-Named.ensures)
    (named_sizes_refused f a w.path w.sizes x (subst (λ (l : List Expr). TellsCounts f a l (Err x)) c.as_slice-in-Named.ensures c.in_err-counts-in-Named.ensures.told))

pub returns-in_err-whole-in-Named-clause-told : goal.returns-in_err-whole-in-Named-clause-told
returns-in_err-whole-in-Named-clause-told g c =
    type_unmade (g.N.ConstNames.finds c.args.names.now) c.args.env.now.params c.args.ty.now c.from_residual-in_err-whole-in-Named.result c.from_residual-in_err-whole-in-Named.ensures

pub returns-in_ok-whole-in-Named-clause-told : goal.returns-in_ok-whole-in-Named-clause-told
returns-in_ok-whole-in-Named-clause-told g c =
    let f = g.N.ConstNames.finds c.args.names.now in
    let a = c.args.env.now.params in
    let w = c.in-Named in
    let counts = c.in_ok-counts-in-Named.counts in
    type_as f a (y.Named w.path w.sizes) c.args.ty.now c.small-in-Named.result c.small-in-Named.result w.is refl
    (told_named f a w.path w.sizes c.in_ok-copy-in-Named.field-0 c.in_ok-whole-in-Named.whole counts c.small-in-Named.result
    (ap (λ (t : CmType). Some (meant_type t)) c.in_ok-copy-in-Named.ensures ∙ c.in-Some.ensures.ty)
    (subst (λ (l : List Expr). TellsCounts f a l (Ok counts)) c.as_slice-in-Named.ensures c.in_ok-counts-in-Named.ensures.told)
    c.in_ok-whole-in-Named.ensures.ty c.small-in-Named.ensures.told)
