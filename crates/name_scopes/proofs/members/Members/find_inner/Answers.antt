use Rattle.std.proofs.Common.{Some, None, ap, sym, subst, option_map}
use Rattle.name_scopes.specs.Members.{IsNumberOf, names_of}
use Rattle.name_scopes.proofs.FindLemmas.{within-is}
use Rattle.name_scopes.proofs.members.Members.find_inner.Goals as goal

pub returns-in-None : goal.returns-in-None
returns-in-None c = ap (option_map Some) (sym (within-is c.args.self.now c.args.number c.args.text.now None c.in-None.ensures.space))

pub returns-in-Some : goal.returns-in-Some
returns-in-Some c = subst (IsNumberOf (names_of c.args.self.now) c.find.result) (sym (within-is c.args.self.now c.args.number c.args.text.now (Some c.in-Some.space) c.in-Some.ensures.space)) c.find.ensures
