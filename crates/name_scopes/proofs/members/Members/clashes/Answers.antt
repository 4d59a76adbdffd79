use Rattle.std.proofs.Common.{◌∙◌, sym}
use Rattle.name_scopes.proofs.MemberLemmas.{answers-none, answers-some, clash-past}
use Rattle.name_scopes.proofs.members.Members.clashes.Goals as goal

pub returns-in-None : goal.returns-in-None
returns-in-None c = answers-none c.self.inside.spaces c.self.inside.names c.self.inside.firsts.entries c.args.self.now c.args.member.now c.self.invariant c.self.view_is
    c.requires.distinct c.requires.below c.in-None.ensures.value

pub returns-in-None-get : goal.returns-in-None-get
returns-in-None-get c = absurd (clash-past c.self.inside.spaces c.args.member.now c.in-Some.first.now c.self.inside.names c.self.inside.firsts.entries c.self.invariant
    (sym c.in-Some.ensures.value) (sym c.in-None-get.ensures.value))

pub returns-in-Some-get : goal.returns-in-Some-get
returns-in-Some-get c = c.differ.ensures ∙ answers-some c.self.inside.spaces c.self.inside.names c.self.inside.firsts.entries c.args.self.now c.args.member.now c.in-Some-get.other.now c.in-Some.first.now
    c.self.invariant c.self.view_is c.requires.distinct c.requires.below c.in-Some.ensures.value c.in-Some-get.ensures.value
