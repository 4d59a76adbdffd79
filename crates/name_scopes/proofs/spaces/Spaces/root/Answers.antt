use Rattle.name_scopes.proofs.SpaceLemmas.{root-first}
use Rattle.name_scopes.proofs.spaces.Spaces.root.Goals as goal

pub returns : goal.returns
returns c = root-first c.self.inside.openings.keys c.args.self.now c.self.invariant c.self.view_is
