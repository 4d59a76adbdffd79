use Rattle.declaration_walk.specs.Declares.{key_sites}
use Rattle.scope_walk.proofs.StepLemmas.{parts-all, parts-next, parts-start}
use Rattle.std.proofs.Common.{arith}
use Rattle.declaration_walk.proofs.members.walk_keys.Goals as goal

pub loop-key-init : goal.loop-key-init
loop-key-init c = parts-start key_sites c.args.keys.now c.args.steps.now

pub loop-key-preserved : goal.loop-key-preserved
loop-key-preserved c = parts-next key_sites c.args.keys.now c.loop-key.key-index c.key-item.result c.args.steps.now c.loop-key.steps c.walk_key_value.new.steps c.loop-key-test.true c.key-item.is c.loop-key.invariant c.in_ok-walk_key_value.ensures

pub returns : goal.returns
returns c = parts-all key_sites c.args.keys.now c.loop-key.key-index c.args.steps.now c.loop-key.steps (let w = c.loop-key-test.false in let e = c.loop-key.auto.key-index-end in omega arith) c.loop-key.invariant
