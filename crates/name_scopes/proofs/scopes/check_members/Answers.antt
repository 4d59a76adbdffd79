use Rattle.std.proofs.Common.{arith}
use Rattle.std.proofs.lemmas.Result.{err_from_is_err_and}
use Rattle.name_scopes.proofs.BuildLemmas.{checked-start, checked-next, checked-stop, checked-all}
use Rattle.name_scopes.proofs.scopes.check_members.Goals as goal

pub loop-member-init : goal.loop-member-init
loop-member-init c = checked-start c.args.members.now

pub returns-in_err-check_member : goal.returns-in_err-check_member
returns-in_err-check_member c = λ spaces.
    let p = err_from_is_err_and c.from_residual.result c.from_residual.ensures.1 in
    rw (p.1, p.2) (checked-stop c.args.members.now c.loop-member.member-index c.member-item.result c.in_err-check_member.field-0.0 c.loop-member-test.true c.member-item.is c.in_err-check_member.ensures spaces)

pub loop-member-preserved : goal.loop-member-preserved
loop-member-preserved c = checked-next c.args.members.now c.loop-member.member-index c.member-item.result c.loop-member-test.true c.member-item.is c.loop-member.invariant c.in_ok-check_member.ensures

pub returns : goal.returns
returns c = checked-all c.args.members.now c.loop-member.member-index (let w = c.loop-member-test.false in let e = c.loop-member.auto.member-index-end in omega arith) c.loop-member.invariant
