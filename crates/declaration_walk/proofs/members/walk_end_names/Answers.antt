use Rattle.declaration_walk.specs.Declares.{end_name_sites}
use Rattle.scope_walk.proofs.StepLemmas.{parts-all, parts-next, parts-start}
use Rattle.std.proofs.Common.{arith}
use Rattle.declaration_walk.proofs.members.walk_end_names.Goals as goal

pub loop-name-init : goal.loop-name-init
loop-name-init c = parts-start end_name_sites c.args.names.now c.args.steps.now

pub loop-name-preserved : goal.loop-name-preserved
loop-name-preserved c = parts-next end_name_sites c.args.names.now c.loop-name.name-index c.name-item.result c.args.steps.now c.loop-name.steps c.walk_end_name.new.steps c.loop-name-test.true c.name-item.is c.loop-name.invariant c.in_ok-walk_end_name.ensures

pub returns : goal.returns
returns c = parts-all end_name_sites c.args.names.now c.loop-name.name-index c.args.steps.now c.loop-name.steps (let w = c.loop-name-test.false in let e = c.loop-name.auto.name-index-end in omega arith) c.loop-name.invariant
