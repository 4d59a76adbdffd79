use Rattle.std.proofs.Common.{◌≡◌, ◌-◌, ◌<◌, ◌≤◌, length, arith}
use Rattle.std.proofs.lemmas.Grind.{common_steps}
use Rattle.graph_search.specs.Orders.{IsOrder}
use Rattle.graph_search.proofs.Forward.{high_more, falls_more, below_more, ranking_of}
use Rattle.graph_search.proofs.ranking.ranks.Goals as goal

pub loop-node-preserved : goal.loop-node-preserved
loop-node-preserved c =
    let es = c.args.edges.now in
    let n = c.args.count in
    let ls = c.as_slice-nodes.result.now in
    let rs = c.loop-node.ranks.items in
    let i = c.loop-node.node-index in
    let left = c.loop-node.left in
    let inv = c.loop-node.invariant in
    let order : IsOrder es n ls = rw c.as_slice-nodes.ensures c.in_ok-found.ensures.found in
    let len : length rs ≡ n = c.loop-node.invariant.len in
    let lt : i < length ls = c.loop-node-test.true in
    let less : left - 1 < left = (let k = order.count in let s = c.loop-node.invariant.left in omega (arith, k, s, lt)) in
    let small : left - 1 ≤ n = (let s = c.loop-node.invariant.left in omega (arith, s)) in
    record {
      len = grind (arith, common_steps);
      left = (let s = c.loop-node.invariant.left in omega (arith, s, less));
      high = high_more es n ls rs i left (left - 1) order len lt less c.loop-node.invariant.high;
      below = λ q. below_more rs _ (left - 1) n q small c.loop-node.invariant.below;
      falls = falls_more es n ls rs i left (left - 1) order len lt less c.loop-node.invariant.high c.loop-node.invariant.falls;
    }

pub returns-clause-found : goal.returns-clause-found
returns-clause-found c =
    let es = c.args.edges.now in
    let n = c.args.count in
    let ls = c.as_slice-nodes.result.now in
    let order : IsOrder es n ls = rw c.as_slice-nodes.ensures c.in_ok-found.ensures.found in
    let end : c.loop-node.node-index ≡ length ls = grind (arith, common_steps) in
    rw c.from_vec.ensures
    (ranking_of es n ls c.loop-node.ranks.items c.loop-node.node-index c.requires order end
    c.loop-node.invariant.len c.loop-node.invariant.falls c.loop-node.invariant.below)
