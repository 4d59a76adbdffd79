use Rattle.std.specs.Prelude.{Some}
use Rattle.std.proofs.Common.{ap, ◌∙◌}
use Rattle.cm_types.specs.declared.cm_type.CmType.{CmType}
use Rattle.cm_types.specs.declared.value.Value.{Value}
use Rattle.cm_types.specs.Meant.{meant_valued}
use Rattle.const_values.proofs.Constructs.{told_name, told_no_name}
use Rattle.const_values.proofs.evaluate.named.Goals as goal

pub returns-in_ok-copy-in-Some-2-clause-told : goal.returns-in_ok-copy-in-Some-2-clause-told
returns-in_ok-copy-in-Some-2-clause-told g c =
    told_name (g.N.ConstNames.finds c.args.names.now) c.args.env.now.params c.args.path.now (record { ty = c.in_ok-copy-in-Some.field-0; value = c.in_ok-copy-in-Some-2.field-0 })
    (ap (λ (t : CmType). Some (meant_valued (record { ty = t; value = c.in_ok-copy-in-Some-2.field-0 }))) c.in_ok-copy-in-Some.ensures
    ∙ ap (λ (v : Value). Some (meant_valued (record { ty = c.in-Some.found.now.ty; value = v }))) c.in_ok-copy-in-Some-2.ensures ∙ c.in-Some.ensures.value)

pub returns-in-None-clause-told : goal.returns-in-None-clause-told
returns-in-None-clause-told g c = told_no_name (g.N.ConstNames.finds c.args.names.now) c.args.env.now.params c.args.path.now c.refused.result c.in-None.ensures.value
