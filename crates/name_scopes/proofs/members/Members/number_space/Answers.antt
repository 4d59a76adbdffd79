use Rattle.name_scopes.proofs.OpenLemmas.{numbered-longer, numbered-names}
use Rattle.name_scopes.proofs.members.Members.number_space.Goals as goal

pub returns-clause-names : goal.returns-clause-names
returns-clause-names c = numbered-names c.self.inside.spaces c.open.new.self c.self.inside.names c.self.inside.firsts.entries c.args.self.now c.args.space c.args.text.now c.open.result
    c.self.invariant c.self.view_is c.open.ensures.spaces

pub returns-clause-spaces : goal.returns-clause-spaces
returns-clause-spaces c = numbered-longer c.self.inside.spaces c.open.new.self c.self.inside.names c.args.self.now c.args.space c.args.text.now c.open.result c.self.view_is c.open.ensures.spaces
