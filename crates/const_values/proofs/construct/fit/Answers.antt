use Rattle.std.specs.Prelude.{Option, option_map}
use Rattle.std.proofs.Common.{ap, sym, ◌∙◌}
use Rattle.cm_types.specs.declared.value.Value.{Value}
use Rattle.cm_types.specs.Meant.{meant_type, meant_value}
use Rattle.const_values.specs.Construct.{meant_given}
use Rattle.const_values.proofs.Fits.{told_fit, told_no_fit}
use Rattle.const_values.proofs.construct.fit.Goals as goal

pub returns-in-Some : goal.returns-in-Some
returns-in-Some c =
    told_fit (meant_type c.args.ty.now) (meant_given c.args.given.now) c.in-Some.value (sym (ap (λ (o : Option Value). option_map meant_value o) c.in-Some.is) ∙ c.in_ok-found.ensures)

pub returns-in-None : goal.returns-in-None
returns-in-None c =
    told_no_fit (meant_type c.args.ty.now) (meant_given c.args.given.now) c.refused.result c.refused.ensures c.requires.sound (sym (ap (λ (o : Option Value). option_map meant_value o) c.in-None.is) ∙ c.in_ok-found.ensures)
