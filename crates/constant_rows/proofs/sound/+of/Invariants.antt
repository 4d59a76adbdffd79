use Rattle.std.proofs.Common.{◌≡◌, ◌≤◌, ◌+◌, ◌*◌, length}
use Rattle.cm_meaning.specs.Types as types
use Rattle.cm_types.specs.Lawful.{AreLawfulTypes, parts, parts_of}
use Rattle.cm_types.specs.Meant.{meant_type, meant_fields, meant_values}
use Rattle.constant_rows.proofs.sound.+of.Given as goal

abbrev pub decreases-is_of : goal.decreases-is_of
decreases-is_of l = 2 * parts (meant_type l.ty.now)

abbrev pub decreases-are_elements : goal.decreases-are_elements
decreases-are_elements l = 2 * parts (meant_type l.ty.now) + 1

abbrev pub decreases-are_fields : goal.decreases-are_fields
decreases-are_fields l = 2 * parts_of (meant_fields l.fields.now) + 1

abbrev pub invariant-are_elements-loop-value : goal.invariant-are_elements-loop-value
invariant-are_elements-loop-value l = types.are_elements l.left (meant_type l.ty) (meant_values l.values) ≡ types.are_elements l.count (meant_type l.ty) (meant_values l.all)

abbrev pub decreases-are_elements-loop-value : goal.decreases-are_elements-loop-value
decreases-are_elements-loop-value l = length l.values

abbrev pub invariant-are_fields-loop-field : goal.invariant-are_fields-loop-field
invariant-are_fields-loop-field l =
    (types.are_fields (meant_fields l.types) (meant_values l.values) ≡ types.are_fields (meant_fields l.fields) (meant_values l.all))
    × ((parts_of (meant_fields l.types) ≤ parts_of (meant_fields l.fields)) × AreLawfulTypes (meant_fields l.types))

abbrev pub decreases-are_fields-loop-field : goal.decreases-are_fields-loop-field
decreases-are_fields-loop-field l = length l.types
