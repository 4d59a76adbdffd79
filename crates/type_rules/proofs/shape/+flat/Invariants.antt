use Rattle.std.proofs.Common.{◌≡◌, ◌++◌, ◌≤◌, length}
use Rattle.cm_meaning.specs.Types as types
use Rattle.cm_types.specs.Lawful.{parts, parts_of}
use Rattle.cm_types.specs.Meant.{meant_type, meant_fields}
use Rattle.type_rules.proofs.shape.+flat.Given as goal

abbrev pub decreases-append_type : goal.decreases-append_type
decreases-append_type l = parts (meant_type l.ty.now)

abbrev pub decreases-append_fields : goal.decreases-append_fields
decreases-append_fields l = parts_of (meant_fields l.all.now)

abbrev pub invariant-append_fields-loop-field : goal.invariant-append_fields-loop-field
invariant-append_fields-loop-field l =
    (l.kinds.items ++ types.flat_of (meant_fields l.fields) ≡ l.initial.kinds.items ++ types.flat_of (meant_fields l.all))
    × (parts_of (meant_fields l.fields) ≤ parts_of (meant_fields l.all))

abbrev pub decreases-append_fields-loop-field : goal.decreases-append_fields-loop-field
decreases-append_fields-loop-field l = length l.fields
