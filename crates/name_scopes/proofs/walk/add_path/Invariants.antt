use Rattle.std.proofs.Common.{take, slice_index_or, []}
use Rattle.name_scopes.proofs.OpenLemmas.{IsOpening}
use Rattle.name_scopes.proofs.walk.add_path.Given as goal

abbrev pub invariant-loop-name : goal.invariant-loop-name
invariant-loop-name l = IsOpening l.fn.members (slice_index_or l.fn.members.spaces l.space []) l.path.place (take l.name-index l.name-items) l.members l.inner
