use Rattle.name_scopes.proofs.FindLemmas.{space-of}
use Rattle.name_scopes.proofs.members.Members.space_of.Goals as goal

pub returns-in-Some : goal.returns-in-Some
returns-in-Some c =
    let p = space-of c.self.inside.spaces c.self.inside.names c.self.inside.firsts.entries c.args.self.now c.args.number c.in-Some.member.now c.namespace_number.result c.self.invariant c.self.view_is
    c.in-Some.ensures.value c.namespace_number.ensures in
    record { below = p.0; space = p.1 }
