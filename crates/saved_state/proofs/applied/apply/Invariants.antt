use Rattle.std.proofs.Common.{◌≡◌, ◌++◌, drop}
use Rattle.saved_state.specs.Applied.{values_of}
use Rattle.saved_state.proofs.applied.apply.Given as goal

abbrev pub invariant-loop-end : goal.invariant-loop-end
invariant-loop-end l = l.values ++ values_of (drop l.end-index l.end-items) l.saved ≡ values_of l.end-items l.saved
