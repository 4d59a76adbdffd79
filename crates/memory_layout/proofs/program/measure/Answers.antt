use Rattle.std.proofs.Common.{◌∙◌}
use Rattle.memory_layout.proofs.Sums.{cost_by}
use Rattle.memory_layout.proofs.program.measure.Goals as goal

pub returns-clause-cost : goal.returns-clause-cost
returns-clause-cost c = c.cost.ensures ∙ cost_by _ _ _ _ c.in_ok-size.ensures c.split_points-splits.ensures
