use Rattle.cm_meaning.specs.PatchSites.{end_sites}
use Rattle.scope_walk.proofs.StepLemmas.{parts-all, parts-next, parts-start}
use Rattle.std.proofs.Common.{arith}
use Rattle.declaration_walk.proofs.members.walk_ends.Goals as goal

pub loop-end-init : goal.loop-end-init
loop-end-init c = parts-start end_sites c.args.ends.now c.args.steps.now

pub loop-end-preserved : goal.loop-end-preserved
loop-end-preserved c = parts-next end_sites c.args.ends.now c.loop-end.end-index c.end-item.result c.args.steps.now c.loop-end.steps c.walk_end.new.steps c.loop-end-test.true c.end-item.is c.loop-end.invariant c.in_ok-walk_end.ensures

pub returns : goal.returns
returns c = parts-all end_sites c.args.ends.now c.loop-end.end-index c.args.steps.now c.loop-end.steps (let w = c.loop-end-test.false in let e = c.loop-end.auto.end-index-end in omega arith) c.loop-end.invariant
