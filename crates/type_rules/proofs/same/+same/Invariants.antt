use Rattle.std.proofs.Common.{◌≡◌, ◌≤◌, length}
use Rattle.cm_meaning.specs.Types as types
use Rattle.cm_types.specs.Lawful.{parts, parts_of}
use Rattle.cm_types.specs.Meant.{meant_type, meant_fields}
use Rattle.type_rules.proofs.same.+same.Given as goal

abbrev pub decreases-is_same : goal.decreases-is_same
decreases-is_same l = parts (meant_type l.one.now)

abbrev pub decreases-are_same : goal.decreases-are_same
decreases-are_same l = parts_of (meant_fields l.one.now)

abbrev pub invariant-are_same-loop-field : goal.invariant-are_same-loop-field
invariant-are_same-loop-field l =
    (types.are_same (meant_fields l.fields) (meant_fields l.others) ≡ types.are_same (meant_fields l.one) (meant_fields l.other))
    × (parts_of (meant_fields l.fields) ≤ parts_of (meant_fields l.one))

abbrev pub decreases-are_same-loop-field : goal.decreases-are_same-loop-field
decreases-are_same-loop-field l = length l.fields
