use Rattle.graph_order.proofs.Cycles.{cycle_below}
use Rattle.graph_order.proofs.refusal.refusal.Goals as goal

pub paths-requires : goal.paths-requires
paths-requires c = cycle_below c.args.flat.now c.requires.within c.args.cycle.now c.requires.cycle
