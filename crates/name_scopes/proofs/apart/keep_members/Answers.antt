use Rattle.std.proofs.Common.{arith}
use Rattle.std.proofs.lemmas.Result.{err_from_is_err_and}
use Rattle.name_scopes.specs.Apart.{member_words}
use Rattle.name_scopes.proofs.ApartLemmas.{keeps-start, keeps-next, keeps-stop, keeps-all}
use Rattle.name_scopes.proofs.apart.keep_members.Goals as goal

pub loop-member-init : goal.loop-member-init
loop-member-init c = keeps-start member_words c.args.members.now c.args.names.now

pub returns-in_err-keep_member : goal.returns-in_err-keep_member
returns-in_err-keep_member c =
    let p = err_from_is_err_and c.from_residual.result c.from_residual.ensures.1 in
    rw (p.1, p.2) (keeps-stop member_words c.args.members.now c.loop-member.member-index c.member-item.result c.args.names.now c.loop-member.names c.keep_member.new.names c.keep_member.new.names
    c.in_err-keep_member.field-0.0 c.loop-member-test.true c.member-item.is c.loop-member.invariant c.in_err-keep_member.ensures)

pub loop-member-preserved : goal.loop-member-preserved
loop-member-preserved c = keeps-next member_words c.args.members.now c.loop-member.member-index c.member-item.result c.args.names.now c.loop-member.names c.keep_member.new.names
    c.loop-member-test.true c.member-item.is c.loop-member.invariant c.in_ok-keep_member.ensures

pub returns : goal.returns
returns c = keeps-all member_words c.args.members.now c.loop-member.member-index c.args.names.now c.loop-member.names
    (let w = c.loop-member-test.false in let e = c.loop-member.auto.member-index-end in omega arith) c.loop-member.invariant
