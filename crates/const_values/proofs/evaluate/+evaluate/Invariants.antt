use Rattle.std.proofs.Common.{take, Ok}
use Rattle.const_values.specs.Arguments.{TellsAll}
use Rattle.const_values.specs.Construct.{meant_givens, AreSound}
use Rattle.const_values.specs.Sizes.{TellsCounts, AreLawfulCounts}
use Rattle.const_values.proofs.evaluate.+evaluate.Given as goal

abbrev pub invariant-given-loop-arg : goal.invariant-given-loop-arg
invariant-given-loop-arg g l = record {
  told : TellsAll (g.N.ConstNames.finds l.names) l.env.params (take l.arg-index l.args) (Ok l.all.items);
  sound : AreSound (meant_givens l.all.items);
}

abbrev pub invariant-counts-loop-size : goal.invariant-counts-loop-size
invariant-counts-loop-size g l = record {
  told : TellsCounts (g.N.ConstNames.finds l.names) l.env.params (take l.size-index l.sizes) (Ok l.all.items);
  lawful : AreLawfulCounts l.all.items;
}
