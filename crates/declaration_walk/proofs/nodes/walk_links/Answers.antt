use Rattle.cm_meaning.specs.PatchSites.{link_sites}
use Rattle.scope_walk.proofs.StepLemmas.{parts-all, parts-next, parts-start}
use Rattle.std.proofs.Common.{arith}
use Rattle.declaration_walk.proofs.nodes.walk_links.Goals as goal

pub loop-link-init : goal.loop-link-init
loop-link-init c = parts-start link_sites c.args.links.now c.args.steps.now

pub loop-link-preserved : goal.loop-link-preserved
loop-link-preserved c = parts-next link_sites c.args.links.now c.loop-link.link-index c.link-item.result c.args.steps.now c.loop-link.steps c.walk_link.new.steps c.loop-link-test.true c.link-item.is c.loop-link.invariant c.in_ok-walk_link.ensures

pub returns : goal.returns
returns c = parts-all link_sites c.args.links.now c.loop-link.link-index c.args.steps.now c.loop-link.steps (let w = c.loop-link-test.false in let e = c.loop-link.auto.link-index-end in omega arith) c.loop-link.invariant
