use Rattle.std.proofs.Common.{◌≡◌, ℕ, ◌-◌, ◌<◌, ◌≤◌, length, take, get_or, false}
use Rattle.std.specs.Prelude.{min}
use Rattle.graph_search.specs.Edges.{member}
use Rattle.graph_search.specs.Paths.{path_count}
use Rattle.graph_search.proofs.counting.path_counts.Given as goal

abbrev pub invariant-loop-step : goal.invariant-loop-step
invariant-loop-step l = record {
  len : length l.counts.items ≡ l.count;
  each : (q d : ℕ) → q < l.count → member q (take (l.count - l.step) l.nodes) ≡ false → l.step ≤ d → get_or l.counts.items q 0 ≡ min (path_count l.edges l.ends d q) l.limit;
}
