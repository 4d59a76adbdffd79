use Rattle.cm_meaning.specs.PatchSites.{node_sites}
use Rattle.scope_walk.proofs.StepLemmas.{parts-all, parts-next, parts-start}
use Rattle.std.proofs.Common.{arith}
use Rattle.declaration_walk.proofs.nodes.walk_nodes.Goals as goal

pub loop-node-init : goal.loop-node-init
loop-node-init c = parts-start node_sites c.args.nodes.now c.args.steps.now

pub loop-node-preserved : goal.loop-node-preserved
loop-node-preserved c = parts-next node_sites c.args.nodes.now c.loop-node.node-index c.node-item.result c.args.steps.now c.loop-node.steps c.walk_node.new.steps c.loop-node-test.true c.node-item.is c.loop-node.invariant c.in_ok-walk_node.ensures

pub returns : goal.returns
returns c = parts-all node_sites c.args.nodes.now c.loop-node.node-index c.args.steps.now c.loop-node.steps (let w = c.loop-node-test.false in let e = c.loop-node.auto.node-index-end in omega arith) c.loop-node.invariant
