use Rattle.std.proofs.Common.{◌≡◌, ◌++◌, drop}
use Rattle.saved_state.specs.Finals.{kept_in}
use Rattle.saved_state.proofs.finals.kept.Given as goal

abbrev pub invariant-loop-index : goal.invariant-loop-index
invariant-loop-index l = l.values ++ kept_in (drop l.index l.host) (drop l.index l.now) ≡ kept_in l.host l.now
