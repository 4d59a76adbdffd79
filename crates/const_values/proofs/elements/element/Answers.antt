use Rattle.std.specs.Prelude.{Some}
use Rattle.std.proofs.Common.{ap, sym, ◌∙◌}
use Rattle.cm_types.specs.declared.value.Value.{Value}
use Rattle.cm_types.specs.Meant.{meant_type, meant_value, meant_valued}
use Rattle.const_values.proofs.Indices.{told_out, told_element, sound_element}
use Rattle.const_values.proofs.elements.element.Goals as goal

pub returns-in_default-indexed-clause-told : goal.returns-in_default-indexed-clause-told
returns-in_default-indexed-clause-told c =
    told_out c.args.at c.args.place (meant_valued c.args.one.now) (meant_valued c.args.index.now) (meant_type c.in-Some.ty.now) c.refused-in_default-indexed.result
    c.refused-in_default-indexed.ensures c.in-Some.ensures (sym c.is_number.ensures ∙ c.if-not-is_number.false) c.requires.one c.requires.index c.in_default-indexed.ensures

pub returns-clause-told : goal.returns-clause-told
returns-clause-told c =
    told_element c.args.at c.args.place (meant_valued c.args.one.now) (meant_valued c.args.index.now) (meant_type c.in-Some.ty.now) (record { ty = c.in_ok-copy.field-0; value = c.in_ok-copy-2.field-0 })
    c.in-Some.ensures (sym c.is_number.ensures ∙ c.if-not-is_number.false)
    (ap (λ (v : Value). Some (meant_value v)) c.in_ok-copy-2.ensures ∙ c.in-Some-indexed.ensures) (ap meant_type c.in_ok-copy.ensures)

pub returns-clause-sound : goal.returns-clause-sound
returns-clause-sound c =
    sound_element (meant_valued c.args.one.now) (meant_valued c.args.index.now) (meant_type c.in-Some.ty.now) (record { ty = c.in_ok-copy.field-0; value = c.in_ok-copy-2.field-0 })
    c.requires.one c.in-Some.ensures (ap (λ (v : Value). Some (meant_value v)) c.in_ok-copy-2.ensures ∙ c.in-Some-indexed.ensures) (ap meant_type c.in_ok-copy.ensures)
