use Rattle.std.proofs.Common.{◌≡◌, length}
use Rattle.cm_meaning.specs.Constants as constants
use Rattle.cm_types.specs.Meant.{meant_fields, meant_values}
use Rattle.const_values.proofs.members.field_in.Given as goal

abbrev pub invariant-loop-field : goal.invariant-loop-field
invariant-loop-field l = constants.field_in l.name (meant_fields l.fields) (meant_values l.values) ≡ constants.field_in l.name (meant_fields l.all) (meant_values l.given)

abbrev pub decreases-loop-field : goal.decreases-loop-field
decreases-loop-field l = length l.fields
