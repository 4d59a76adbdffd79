use Rattle.cm_meaning.specs.PatchSites.{fields_sites}
use Rattle.scope_walk.proofs.StepLemmas.{parts-all, parts-next, parts-start}
use Rattle.std.proofs.Common.{arith}
use Rattle.declaration_walk.proofs.shared.walk_fields.Goals as goal

pub loop-one-init : goal.loop-one-init
loop-one-init c = parts-start fields_sites c.args.fields.now c.args.steps.now

pub loop-one-preserved : goal.loop-one-preserved
loop-one-preserved c = parts-next fields_sites c.args.fields.now c.loop-one.one-index c.one-item.result c.args.steps.now c.loop-one.steps c.walk_type.new.steps c.loop-one-test.true c.one-item.is c.loop-one.invariant c.in_ok-walk_type.ensures

pub returns : goal.returns
returns c = parts-all fields_sites c.args.fields.now c.loop-one.one-index c.args.steps.now c.loop-one.steps (let w = c.loop-one-test.false in let e = c.loop-one.auto.one-index-end in omega arith) c.loop-one.invariant
