use Rattle.std.proofs.Common.{ap, sym, ◌∙◌}
use Rattle.std.specs.Option.{option_copied}
use Rattle.declaration_walk.proofs.PartLemmas.{value-none, value-part}
use Rattle.declaration_walk.proofs.nodes.walk_given_value.Goals as goal

pub returns-in-None : goal.returns-in-None
returns-in-None c = value-part c.args.steps.now c.walk_expr.new.steps c.args.value.now c.walk_expr.result (sym c.in-None.ensures) c.walk_expr.ensures

pub returns-in-Some : goal.returns-in-Some
returns-in-Some c = value-none c.args.steps.now c.args.value.now c.in-Some.field-0.now (sym c.in-Some.ensures)
