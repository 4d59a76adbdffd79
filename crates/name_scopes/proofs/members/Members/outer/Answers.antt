use Rattle.name_scopes.proofs.FindLemmas.{outer-known}
use Rattle.name_scopes.proofs.members.Members.outer.Goals as goal

pub returns : goal.returns
returns c = outer-known c.self.inside.spaces c.self.inside.names c.args.self.now c.args.space c.outer.result c.self.view_is c.outer.ensures
