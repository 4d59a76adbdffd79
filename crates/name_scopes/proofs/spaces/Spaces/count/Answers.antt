use Rattle.name_scopes.proofs.SpaceLemmas.{spaces-count}
use Rattle.name_scopes.proofs.spaces.Spaces.count.Goals as goal

pub returns : goal.returns
returns c = let p = spaces-count c.self.inside.openings.keys c.args.self.now c.len.result c.self.invariant c.self.view_is c.len.ensures.len in record { count = p.0; distinct = p.1 }
