use Rattle.std.proofs.Common.{arith, get_or}
use Rattle.std.proofs.lemmas.Grind.{common_steps}
use Rattle.graph_search.proofs.Steps.{count_more, count_more_le}
use Rattle.graph_search.proofs.placing.release.Goals as goal
use Rattle.graph_search.proofs.placing.release.Goals.{then-index-eq0+in_ok-insert, else-index-eq0}

pub overflow_sub-index_mut : goal.overflow_sub-index_mut
overflow_sub-index_mut c =
    let xs = c.args.next.now in
    let i = c.loop-node.node-index in
    let x = get_or xs i 0 in
    grind (arith, common_steps, count_more_le x i xs, c.loop-node.invariant.counts x, c.requires.enough x, c.index_mut.ensures.value)

pub loop-node-preserved : goal.loop-node-preserved
loop-node-preserved c =
    let xs = c.args.next.now in
    let i = c.loop-node.node-index in
    let x = get_or xs i 0 in
    record {
      len = grind (arith, common_steps);
      counts = λ q. grind (arith, common_steps, count_more q i xs, count_more_le q i xs, c.loop-node.invariant.counts q, c.requires.enough q, c.index_mut.ensures.value);
      ready = λ q. elim c.if-index-eq0.branch [
        | then-index-eq0+in_ok-insert w ↦ grind (arith, common_steps, count_more q i xs, count_more_le q i xs, c.loop-node.invariant.counts q, c.requires.enough q, c.index_mut.ensures.value, c.loop-node.invariant.ready q)
        | else-index-eq0 w ↦ grind (arith, common_steps, count_more q i xs, count_more_le q i xs, c.loop-node.invariant.counts q, c.requires.enough q, c.index_mut.ensures.value, c.loop-node.invariant.ready q)
      ];
    }
