use Rattle.name_scopes.proofs.SpaceLemmas.{spaces-found}
use Rattle.std.proofs.Common.{Some, None}
use Rattle.name_scopes.proofs.spaces.Spaces.find.Goals as goal

pub returns-in-Some : goal.returns-in-Some
returns-in-Some c = spaces-found c.self.inside.openings.keys c.args.self.now (c.args.space, c.args.name) (Some c.in-Some.place) c.self.invariant c.self.view_is c.requires c.in-Some.ensures.index

pub returns-in-None : goal.returns-in-None
returns-in-None c = spaces-found c.self.inside.openings.keys c.args.self.now (c.args.space, c.args.name) None c.self.invariant c.self.view_is c.requires c.in-None.ensures.index
