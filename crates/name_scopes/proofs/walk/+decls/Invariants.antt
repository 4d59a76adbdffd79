use Rattle.std.proofs.Common.{take, flat_map, slice_index_or, []}
use Rattle.cm_meaning.specs.Scopes.{decl_names}
use Rattle.name_scopes.specs.Members.{Added}
use Rattle.name_scopes.proofs.walk.+decls.Given as goal

abbrev pub invariant-add_decls-loop-decl : goal.invariant-add_decls-loop-decl
invariant-add_decls-loop-decl l = Added l.fn.members (flat_map (decl_names (slice_index_or l.fn.members.spaces l.space [])) (take l.decl-index l.decls)) l.members
