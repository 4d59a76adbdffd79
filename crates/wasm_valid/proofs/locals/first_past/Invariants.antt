use Rattle.std.proofs.Common.{◌<◌, ◌≤◌, ◌-◌, length, get_or}
use Rattle.wasm_valid.proofs.locals.first_past.Given as goal

abbrev pub invariant-loop-low : goal.invariant-loop-low
invariant-loop-low l = record {
  within : l.high ≤ length l.ends;
  rising : l.low ≤ l.high;
  before : 0 < l.low → get_or l.ends (l.low - 1) 0 ≤ l.number;
  behind : l.high < length l.ends → l.number < get_or l.ends l.high 0;
}

abbrev pub decreases-loop-low : goal.decreases-loop-low
decreases-loop-low l = l.high - l.low
