use Rattle.std.proofs.Common.{arith}
use Rattle.std.proofs.lemmas.Grind.{common_steps}
use Rattle.graph_search.proofs.PathBack.{member_in, member_drop}
use Rattle.graph_search.proofs.walking.place_of.Goals as goal

pub loop-place-preserved : goal.loop-place-preserved
loop-place-preserved c = member_drop c.args.node c.loop-place.place c.args.nodes.now c.loop-place.invariant (λ e. grind (arith, common_steps, member_in c.args.node c.loop-place.place c.args.nodes.now c.loop-place.invariant))
