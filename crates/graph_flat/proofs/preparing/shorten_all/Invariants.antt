use Rattle.std.proofs.Common.{◌≡◌, length}
use Rattle.graph_flat.specs.Wires.{IsReady, IsSame}
use Rattle.graph_flat.proofs.preparing.shorten_all.Given as goal

abbrev pub invariant-loop-step : goal.invariant-loop-step
invariant-loop-step l = record {
  count : l.count ≡ length l.order;
  ready : IsReady (length l.initial.wires.rows.items) l.wires;
  same : IsSame l.initial.wires l.wires;
}
