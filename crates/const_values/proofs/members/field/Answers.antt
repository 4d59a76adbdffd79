use Rattle.std.specs.Prelude.{ℕ, List, Some}
use Rattle.std.proofs.Common.{ap, ◌∙◌}
use Rattle.cm_types.specs.declared.cm_type.CmType.{CmType}
use Rattle.cm_types.specs.declared.value.Value.{Value}
use Rattle.cm_types.specs.Meant.{meant_valued}
use Rattle.cm_meaning.specs.Constants.{field_of}
use Rattle.const_values.proofs.Selections.{told_member, told_no_member, sound_member}
use Rattle.const_values.proofs.members.field.Goals as goal

pub returns-in_default-clause-told : goal.returns-in_default-clause-told
returns-in_default-clause-told c =
    told_no_member c.args.word.now (meant_valued c.args.one.now) c.refused.result c.refused.ensures c.requires
    (c.in_default.ensures ∙ ap (λ (n : List ℕ). field_of n (meant_valued c.args.one.now)) c.as_bytes.ensures.value)

pub returns-clause-told : goal.returns-clause-told
returns-clause-told c =
    told_member c.args.word.now (meant_valued c.args.one.now) (record { ty = c.in_ok-copy.field-0; value = c.in_ok-copy-2.field-0 })
    (ap (λ (t : CmType). Some (meant_valued (record { ty = t; value = c.in_ok-copy-2.field-0 }))) c.in_ok-copy.ensures
    ∙ ap (λ (v : Value). Some (meant_valued (record { ty = c.in-Some.found.ty.now; value = v }))) c.in_ok-copy-2.ensures ∙ c.in-Some.ensures
    ∙ ap (λ (n : List ℕ). field_of n (meant_valued c.args.one.now)) c.as_bytes.ensures.value)

pub returns-clause-sound : goal.returns-clause-sound
returns-clause-sound c =
    sound_member c.args.word.now (meant_valued c.args.one.now) (record { ty = c.in_ok-copy.field-0; value = c.in_ok-copy-2.field-0 }) c.requires
    (ap (λ (t : CmType). Some (meant_valued (record { ty = t; value = c.in_ok-copy-2.field-0 }))) c.in_ok-copy.ensures
    ∙ ap (λ (v : Value). Some (meant_valued (record { ty = c.in-Some.found.ty.now; value = v }))) c.in_ok-copy-2.ensures ∙ c.in-Some.ensures
    ∙ ap (λ (n : List ℕ). field_of n (meant_valued c.args.one.now)) c.as_bytes.ensures.value)
