use Rattle.std.proofs.Common.{Ok, take, flat_map}
use Rattle.name_scopes.specs.Apart.{KeepsApart, member_words}
use Rattle.name_scopes.proofs.apart.keep_members.Given as goal

abbrev pub invariant-loop-member : goal.invariant-loop-member
invariant-loop-member l = KeepsApart l.fn.names (flat_map member_words (take l.member-index l.members)) (Ok tt) l.names
