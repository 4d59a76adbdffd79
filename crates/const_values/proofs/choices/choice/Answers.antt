use Rattle.std.specs.Int.{w64}
use Rattle.std.proofs.Common.{rules, ◌≡◌, ap, sym, ◌∙◌, to_z, of_z}
use Rattle.cm_types.specs.Meant.{meant_valued}
use Rattle.cm_meaning.specs.Types.{scalar_value}
use Rattle.const_values.specs.Operations.{choice_faults}
use Rattle.const_values.proofs.Arms.{told_same, told_joined, told_no_number}
use Rattle.const_values.proofs.choices.choice.Goals as goal

pub returns-then-is_same-clause-told : goal.returns-then-is_same-clause-told
returns-then-is_same-clause-told c = told_same c.args.at c.args.first c.args.one c.args.other c.arm.result (sym c.is_same.ensures ∙ c.if-is_same.true) c.arm.ensures

pub returns-in-Some-number-clause-told : goal.returns-in-Some-number-clause-told
returns-in-Some-number-clause-told c =
    let number : to_z w64 (of_z w64 c.in-Some-number.number) ≡ c.in-Some-number.number = search rules in
    told_joined c.args.at c.args.first c.args.one c.args.other c.arm-2.result c.converted.result c.in-Some.kind c.in-Some-number.number
    (sym c.is_same.ensures ∙ c.if-is_same.false) c.in-Some.ensures.value c.requires.one c.requires.other c.arm-2.ensures c.in-Some-number.ensures c.converted.ensures.ty
    (c.converted.ensures.value ∙ ap (scalar_value c.in-Some.kind) number)

pub returns-clause-told : goal.returns-clause-told
returns-clause-told c =
    told_no_number c.args.at c.args.first c.args.one c.args.other c.arm-2.result c.in-Some.kind (choice_faults c.args.at (meant_valued c.args.one) (meant_valued c.args.other)) c.refused-in-None.result
    c.in-Some.ensures.value c.requires.one c.requires.other c.arm-2.ensures c.in-None.ensures
