use Rattle.std.proofs.Common.{◌≡◌, length}
use Rattle.cm_meaning.specs.Constants as constants
use Rattle.cm_types.specs.Lawful.{AreLawfulTypes}
use Rattle.cm_types.specs.Meant.{meant_fields}
use Rattle.const_values.specs.Construct.{meant_givens, values_of, AreSound, field_faults}
use Rattle.const_values.proofs.Fits.{Gathered}
use Rattle.const_values.proofs.construct.structure.Given as goal

abbrev pub invariant-loop-one : goal.invariant-loop-one
invariant-loop-one l = record {
  gathered : Gathered (field_faults (meant_fields l.fields) (meant_givens l.given)) (constants.field_values (meant_fields l.fields) (values_of (meant_givens l.given)))
      (field_faults (meant_fields l.types) (meant_givens l.left)) (constants.field_values (meant_fields l.types) (values_of (meant_givens l.left))) l.all.items;
  sound : AreSound (meant_givens l.left);
  lawful : AreLawfulTypes (meant_fields l.types);
  count : length l.left ≡ length l.types;
}

abbrev pub decreases-loop-one : goal.decreases-loop-one
decreases-loop-one l = length l.left
