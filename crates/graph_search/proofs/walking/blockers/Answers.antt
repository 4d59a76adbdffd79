use Rattle.std.proofs.Common.{◌≡◌, ◌<◌, length, arith, get_or, true, false, ◌==◌}
use Rattle.std.proofs.lemmas.Grind.{common_steps}
use Rattle.graph_search.specs.Edges.{member}
use Rattle.graph_search.specs.declared.edges.Edge.{Edge}
use Rattle.graph_search.proofs.Cycles.{blocks_yes, blocks_no, blocks_at}
use Rattle.graph_search.proofs.walking.blockers.Goals as goal
use Rattle.graph_search.proofs.walking.blockers.Goals.{then-counts-edge-ne0, else-counts-edge-ne0}

pub loop-edge-preserved : goal.loop-edge-preserved
loop-edge-preserved c =
    let es = c.args.edges.now in
    let ps = c.args.order.now in
    let n = c.args.count in
    let i = c.loop-edge.edge-index in
    let d : Edge = record { from = 0; to = 0 } in
    let lt : i < length es = c.loop-edge-test.true in
    let from = (get_or es i d).from in
    let all : (get_or c.args.counts.now from 0 == 0) ≡ member from ps = c.requires.all from (c.requires.within i d lt).0 in (
      grind (arith, common_steps),
      λ q pos. elim c.if-counts-edge-ne0.branch [
        | then-counts-edge-ne0 w ↦
            let len : length c.loop-edge.blockers.items ≡ n = grind (arith, common_steps) in
            let out : member from ps ≡ false = grind (arith, common_steps, all) in
            blocks_at es n ps _ q _ (grind (arith, common_steps)) (blocks_yes es n ps i c.loop-edge.blockers.items q d lt c.requires.within len out (c.loop-edge.invariant.1 q) pos)
        | else-counts-edge-ne0 w ↦
            let in' : member from ps ≡ true = grind (arith, common_steps, all) in
            blocks_at es n ps _ q _ (grind (arith, common_steps)) (c.loop-edge.invariant.1 q (blocks_no es ps i q d lt in' pos))
      ],
    )
