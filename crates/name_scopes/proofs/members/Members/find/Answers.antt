use Rattle.std.proofs.Common.{◌∙◌}
use Rattle.name_scopes.proofs.FindLemmas.{found-in}
use Rattle.name_scopes.proofs.members.Members.find.Goals as goal

pub returns : goal.returns
returns c = found-in c.self.inside.spaces c.self.inside.names c.self.inside.firsts.entries c.args.self.now (c.args.space, c.args.text) c.copied.result c.self.invariant c.self.view_is c.count-count.ensures.distinct c.requires
    (c.copied.ensures ∙ c.get.ensures.value)
