use Rattle.std.proofs.Common.{◌∙◌}
use Rattle.name_scopes.proofs.NumberLemmas.{number-is}
use Rattle.name_scopes.proofs.names.Names.find.Goals as goal

pub returns : goal.returns
returns c = c.get_index_of.ensures.index ∙ number-is c.self.inside.texts.keys c.args.self.now c.args.text.now c.self.view_is
