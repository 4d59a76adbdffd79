use Rattle.std.proofs.Common.{refl, arith}
use Rattle.cm_core.specs.Expanded.{expanded}
use Rattle.cm_core.specs.GraphFaults.{many_connections}
use Rattle.graph_flat.specs.Sound.{IsSoundLink}
use Rattle.graph_flat.proofs.Loops.{pieces_more, pieces_within, all_step, contains_at}
use Rattle.graph_flat.proofs.expanding.connections.Goals as goal

pub add_link-requires-clause-link : goal.add_link-requires-clause-link
add_link-requires-clause-link c = contains_at c.args.program.now.links c.as_slice-link-items.result.now c.loop-link.link-index _ c.as_slice-link-items.ensures c.loop-link-test.true

pub returns-then-len-clause-refused : goal.returns-then-len-clause-refused
returns-then-len-clause-refused c =
    let w = pieces_within (expanded c.args.program.now) c.args.program.now.links c.as_slice-link-items.result.now c.loop-link.link-index _ c.loop-link.found.items c.add_link.new.found.items c.as_slice-link-items.ensures c.loop-link-test.true c.loop-link.invariant.built c.in_ok-add_link.ensures.found in
    rw c.refused.ensures (many_connections (omega (arith, w)), refl)

pub loop-link-preserved : goal.loop-link-preserved
loop-link-preserved c = record {
  built = pieces_more (expanded c.args.program.now) c.args.program.now.links c.as_slice-link-items.result.now c.loop-link.link-index _ c.loop-link.found.items c.add_link.new.found.items c.as_slice-link-items.ensures c.loop-link-test.true c.loop-link.invariant.built c.in_ok-add_link.ensures.found;
  sound = all_step (IsSoundLink c.args.program.now) c.args.program.now.links c.as_slice-link-items.result.now c.loop-link.link-index _ c.as_slice-link-items.ensures c.loop-link-test.true c.loop-link.invariant.sound c.in_ok-add_link.ensures.sound;
  few = omega arith;
}
