use Rattle.std.proofs.Common.{rules, ◌-◌, ◌<◌, ◌≤◌, length, get_or, arith}
use Rattle.std.proofs.lemmas.Grind.{common_steps}
use Rattle.memory_layout.specs.Graphs.{linked_of}
use Rattle.memory_layout.proofs.InOrder.{sized_step}
use Rattle.memory_layout.proofs.graph.Graph.leaf_sizes.Goals as goal

pub loop-left-preserved : goal.loop-left-preserved
loop-left-preserved c =
    let here : 0 < c.loop-left.left = c.loop-left-test.true in
    let most : c.loop-left.left ≤ length c.args.self.now.order.now = c.loop-left.invariant.1.1.0 in
    let below : c.loop-left.left - 1 < length c.args.self.now.order.now = omega (arith, here, most) in
    let within = c.requires.leaves (c.loop-left.left - 1) (record { 0 = 0 }) below in
    let low : (get_or c.args.self.now.order.now (c.loop-left.left - 1) (record { 0 = 0 })).0 < length c.loop-left.leaves.items = grind (arith, common_steps, within) in
    let under : (get_or c.args.self.now.order.now (c.loop-left.left - 1) (record { 0 = 0 })).0 < length c.loop-left.handlers.items = grind (arith, common_steps, within) in (
      search rules,
      (
        search rules,
        (
          omega (arith, most),
          sized_step (linked_of c.args.self.now) c.loop-left.left c.loop-left.leaves.items c.loop-left.handlers.items c.deref.result.now c.in_ok-found.found.leaf c.in_ok-found.found.handlers
              here most low under c.requires.order (omega (arith, c.requires.count)) c.loop-left.invariant.1.1.1 c.deref.ensures.value c.in_ok-found.ensures.leaf c.in_ok-found.ensures.handlers,
        ),
      ),
    )
