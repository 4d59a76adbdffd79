use Rattle.std.proofs.Common.{take, flat_map, slice_index_or, []}
use Rattle.name_scopes.specs.Members.{Added, file_names}
use Rattle.name_scopes.proofs.walk.add_files.Given as goal

abbrev pub invariant-loop-file : goal.invariant-loop-file
invariant-loop-file l = Added l.fn.members (flat_map (file_names (slice_index_or l.fn.members.spaces 0 [])) (take l.file-index l.files)) l.members
