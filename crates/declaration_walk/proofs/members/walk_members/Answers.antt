use Rattle.cm_meaning.specs.PatchSites.{member_sites}
use Rattle.scope_walk.proofs.StepLemmas.{parts-all, parts-next, parts-start}
use Rattle.std.proofs.Common.{arith}
use Rattle.declaration_walk.proofs.members.walk_members.Goals as goal

pub loop-member-init : goal.loop-member-init
loop-member-init c = parts-start member_sites c.args.members.now c.args.steps.now

pub loop-member-preserved : goal.loop-member-preserved
loop-member-preserved c = parts-next member_sites c.args.members.now c.loop-member.member-index c.member-item.result c.args.steps.now c.loop-member.steps c.walk_member.new.steps c.loop-member-test.true c.member-item.is c.loop-member.invariant c.in_ok-walk_member.ensures

pub returns : goal.returns
returns c = parts-all member_sites c.args.members.now c.loop-member.member-index c.args.steps.now c.loop-member.steps (let w = c.loop-member-test.false in let e = c.loop-member.auto.member-index-end in omega arith) c.loop-member.invariant
