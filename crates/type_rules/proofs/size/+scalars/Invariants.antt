use Rattle.std.proofs.Common.{◌≡◌, ◌+◌, ◌-◌, ◌^◌, ◌≤◌, min, length}
use Rattle.cm_meaning.specs.Types as types
use Rattle.cm_types.specs.Lawful.{parts, parts_of}
use Rattle.cm_types.specs.Meant.{meant_type, meant_fields}
use Rattle.type_rules.proofs.size.+scalars.Given as goal

abbrev pub decreases-scalars : goal.decreases-scalars
decreases-scalars l = parts (meant_type l.ty.now)

abbrev pub decreases-scalars_of : goal.decreases-scalars_of
decreases-scalars_of l = parts_of (meant_fields l.all.now)

abbrev pub invariant-scalars_of-loop-field : goal.invariant-scalars_of-loop-field
invariant-scalars_of-loop-field l =
    (min (l.count + types.scalars_of (meant_fields l.fields)) (2 ^ 64 - 1) ≡ min (types.scalars_of (meant_fields l.all)) (2 ^ 64 - 1))
    × ((l.count ≤ 2 ^ 64 - 1) × (parts_of (meant_fields l.fields) ≤ parts_of (meant_fields l.all)))

abbrev pub decreases-scalars_of-loop-field : goal.decreases-scalars_of-loop-field
decreases-scalars_of-loop-field l = length l.fields
