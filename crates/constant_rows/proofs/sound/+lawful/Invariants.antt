use Rattle.std.proofs.Common.{◌≡◌, ◌≤◌, length}
use Rattle.cm_types.specs.Lawful.{parts, parts_of}
use Rattle.cm_types.specs.Meant.{meant_type, meant_fields}
use Rattle.constant_rows.specs.Lawful as lawful
use Rattle.constant_rows.proofs.sound.+lawful.Given as goal

abbrev pub decreases-all_lawful : goal.decreases-all_lawful
decreases-all_lawful l = parts (meant_type l.ty.now)

abbrev pub decreases-are_lawful : goal.decreases-are_lawful
decreases-are_lawful l = parts_of (meant_fields l.all.now)

abbrev pub invariant-are_lawful-loop-field : goal.invariant-are_lawful-loop-field
invariant-are_lawful-loop-field l =
    (lawful.are_lawful (meant_fields l.fields) ≡ lawful.are_lawful (meant_fields l.all))
    × (parts_of (meant_fields l.fields) ≤ parts_of (meant_fields l.all))

abbrev pub decreases-are_lawful-loop-field : goal.decreases-are_lawful-loop-field
decreases-are_lawful-loop-field l = length l.fields
