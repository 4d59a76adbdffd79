use Rattle.std.proofs.Common.{◌∙◌, sym}
use Rattle.name_scopes.proofs.MemberLemmas.{pushed-known, pushed-new, pushed-back, known-back}
use Rattle.name_scopes.proofs.members.Members.push.Goals as goal

pub invariant_of-self-then-contains_key : goal.invariant_of-self-then-contains_key
invariant_of-self-then-contains_key c = pushed-known c.self.inside.spaces c.self.inside.names c.push.new.self c.self.inside.firsts.entries c.args.self.now c.args.member c.self.invariant c.self.view_is
    c.requires.distinct c.requires.below c.requires.free c.in_ok-push.ensures.ok (sym c.contains_key.ensures ∙ c.if-contains_key.true)

pub invariant_of-self-in-Ok : goal.invariant_of-self-in-Ok
invariant_of-self-in-Ok c = pushed-new c.self.inside.spaces c.self.inside.names c.push.new.self c.self.inside.firsts.entries c.insert.new.self.entries c.args.self.now c.args.member c.len-number.result
    c.self.invariant c.self.view_is c.requires.distinct c.requires.below c.requires.free c.in_ok-push.ensures.ok c.len-number.ensures (sym c.contains_key.ensures ∙ c.if-contains_key.false)
    c.in-Ok.ensures.updates.0

pub invariant_of-self-in-Err : goal.invariant_of-self-in-Err
invariant_of-self-in-Err c = pushed-back c.self.inside.spaces c.self.inside.names c.push.new.self c.pop.new.self c.self.inside.firsts.entries c.insert.new.self.entries c.args.member c.pop.result
    c.self.invariant c.in_ok-push.ensures.ok c.pop.ensures c.in-Err.ensures.err

pub returns-in-Err-clause-err : goal.returns-in-Err-clause-err
returns-in-Err-clause-err c = known-back c.self.inside.spaces c.self.inside.names c.push.new.self c.pop.new.self c.args.self.now c.args.member c.pop.result c.self.view_is
    c.in_ok-push.ensures.ok c.pop.ensures
