use Rattle.std.proofs.Common.{◌≡◌, length}
use Rattle.cm_types.specs.Lawful.{IsLawfulType}
use Rattle.cm_types.specs.Meant.{meant_type}
use Rattle.const_values.specs.Sizes.{AreLawfulCounts, array_of}
use Rattle.const_values.proofs.sizes.arrays.Given as goal

abbrev pub invariant-loop-count : goal.invariant-loop-count
invariant-loop-count l = record {
  made : array_of (meant_type l.ty) l.left ≡ array_of (meant_type l.fn.element) l.fn.counts;
  lawful : IsLawfulType (meant_type l.ty);
  counts : AreLawfulCounts l.left;
}

abbrev pub decreases-loop-count : goal.decreases-loop-count
decreases-loop-count l = length l.left
