use Rattle.std.proofs.Common.{sym, ◌∙◌}
use Rattle.cm_types.specs.Meant.{meant_valued}
use Rattle.const_values.proofs.Numbers.{told_no_count}
use Rattle.const_values.proofs.sizes.count_of.Goals as goal

pub returns-in-None-clause-told : goal.returns-in-None-clause-told
returns-in-None-clause-told c =
    told_no_count c.args.at (meant_valued c.args.one.now) c.refused-in-None.result c.requires (sym c.is_number.ensures ∙ c.if-not-is_number.false) c.in-None.ensures.value c.refused-in-None.ensures
