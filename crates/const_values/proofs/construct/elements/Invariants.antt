use Rattle.std.proofs.Common.{length}
use Rattle.cm_meaning.specs.Constants as constants
use Rattle.cm_types.specs.Meant.{meant_type}
use Rattle.const_values.specs.Construct.{meant_givens, values_of, AreSound, element_faults}
use Rattle.const_values.proofs.Fits.{Gathered}
use Rattle.const_values.proofs.construct.elements.Given as goal

abbrev pub invariant-loop-one : goal.invariant-loop-one
invariant-loop-one l = record {
  gathered : Gathered (element_faults (meant_type l.ty) (meant_givens l.given)) (constants.elements (meant_type l.ty) (values_of (meant_givens l.given)))
      (element_faults (meant_type l.ty) (meant_givens l.left)) (constants.elements (meant_type l.ty) (values_of (meant_givens l.left))) l.all.items;
  sound : AreSound (meant_givens l.left);
}

abbrev pub decreases-loop-one : goal.decreases-loop-one
decreases-loop-one l = length l.left
