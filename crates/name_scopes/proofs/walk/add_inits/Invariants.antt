use Rattle.std.proofs.Common.{take, flat_map, slice_index_or, []}
use Rattle.name_scopes.specs.Members.{Added, init_names}
use Rattle.name_scopes.proofs.walk.add_inits.Given as goal

abbrev pub invariant-loop-init : goal.invariant-loop-init
invariant-loop-init l = Added l.fn.members (flat_map (init_names (slice_index_or l.fn.members.spaces l.space [])) (take l.init-index l.inits)) l.members
