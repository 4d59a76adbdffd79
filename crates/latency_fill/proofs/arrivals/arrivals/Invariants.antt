use Rattle.std.proofs.Common.{◌≡◌, ℕ, ◌*◌, ◌≤◌, vec_len, length, take, get_or}
use Rattle.graph_order.specs.Before.{numbers}
use Rattle.latency_fill.proofs.Passes.{HaveArrivals}
use Rattle.latency_fill.proofs.arrivals.arrivals.Given as goal

abbrev pub invariant-loop-leaf : goal.invariant-loop-leaf
invariant-loop-leaf l = record {
  len : vec_len l.arrive ≡ length l.flat.leaves;
  low : (p : ℕ) → get_or l.arrive.items p 0 ≤ l.leaf-index * 65536;
  arrived : HaveArrivals l.flat (take l.leaf-index (numbers l.order)) l.arrive.items;
}
