use Rattle.std.proofs.Common.{◌≡◌, ◌≤◌, length}
use Rattle.cm_meaning.specs.Types as types
use Rattle.cm_types.specs.Lawful.{AreLawfulTypes, parts, parts_of}
use Rattle.cm_types.specs.Meant.{meant_type, meant_fields, onto}
use Rattle.type_rules.proofs.values.+zero.Given as goal

abbrev pub decreases-zero : goal.decreases-zero
decreases-zero l = parts (meant_type l.ty.now)

abbrev pub decreases-zeros_of : goal.decreases-zeros_of
decreases-zeros_of l = parts_of (meant_fields l.all.now)

abbrev pub invariant-zeros_of-loop-field : goal.invariant-zeros_of-loop-field
invariant-zeros_of-loop-field l =
    (onto l.values.items (types.zeros_of (meant_fields l.fields)) ≡ types.zeros_of (meant_fields l.all))
    × ((parts_of (meant_fields l.fields) ≤ parts_of (meant_fields l.all)) × AreLawfulTypes (meant_fields l.fields))

abbrev pub decreases-zeros_of-loop-field : goal.decreases-zeros_of-loop-field
decreases-zeros_of-loop-field l = length l.fields
