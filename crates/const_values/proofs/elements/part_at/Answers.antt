use Rattle.std.proofs.Common.{ap, sym, ◌∙◌}
use Rattle.cm_types.specs.Meant.{meant_value, meant-Many}
use Rattle.cm_meaning.specs.Types.{Value}
use Rattle.const_values.specs.Elements.{part_at}
use Rattle.const_values.proofs.Indices.{part_many}
use Rattle.const_values.proofs.elements.part_at.Goals as goal

pub returns-in-Many : goal.returns-in-Many
returns-in-Many c =
    part_many c.in-Many.all c.args.position c.get.result c.get.ensures.value
    ∙ ap (λ (v : Value). part_at v c.args.position) (sym (ap meant_value c.in-Many.is ∙ meant-Many c.in-Many.all))
