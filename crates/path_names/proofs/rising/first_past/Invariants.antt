use Rattle.std.proofs.Common.{◌≡◌, ◌<◌, ◌≤◌, ◌-◌, length, false, true, Some, slice_get}
use Rattle.path_names.specs.declared.id.Use.{Use}
use Rattle.path_names.specs.Rising.{comes_before}
use Rattle.path_names.proofs.rising.first_past.Given as goal

abbrev pub invariant-loop-low : goal.invariant-loop-low
invariant-loop-low l = record {
  within : l.high ≤ length l.uses;
  rising : l.low ≤ l.high;
  before : (u : Use) → 0 < l.low → slice_get l.uses (l.low - 1) ≡ Some u → comes_before l.place u.place ≡ false;
  behind : (u : Use) → slice_get l.uses l.high ≡ Some u → comes_before l.place u.place ≡ true;
}

abbrev pub decreases-loop-low : goal.decreases-loop-low
decreases-loop-low l = l.high - l.low
