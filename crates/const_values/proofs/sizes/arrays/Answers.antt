use Rattle.cm_types.specs.Meant.{meant_type}
use Rattle.const_values.specs.Sizes.{array_of}
use Rattle.const_values.proofs.Numbers.{arrays_next, lawful_next, counts_next}
use Rattle.const_values.proofs.sizes.arrays.Goals as goal

pub loop-count-preserved : goal.loop-count-preserved
loop-count-preserved c = record {
  made = arrays_next c.loop-count.ty c.in_ok-new.field-0 c.loop-count.left c.pop.new.self c.in-Some.count (array_of (meant_type c.args.element) c.args.counts) c.in_ok-new.ensures c.in-Some.ensures
      c.loop-count.invariant.made;
  lawful = lawful_next c.loop-count.ty c.in_ok-new.field-0 c.loop-count.left c.pop.new.self c.in-Some.count c.in_ok-new.ensures c.in-Some.ensures c.loop-count.invariant.lawful c.loop-count.invariant.counts;
  counts = counts_next c.loop-count.left c.pop.new.self c.in-Some.count c.in-Some.ensures c.loop-count.invariant.counts;
}
