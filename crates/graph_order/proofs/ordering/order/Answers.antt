use Rattle.std.proofs.Common.{◌≡◌, length, ◌∙◌}
use Rattle.std.specs.List.{filter_map}
use Rattle.graph_search.specs.Edges.{AreWithin}
use Rattle.graph_search.specs.Orders.{IsOrder as IsEdgeOrder, IsAcyclic as IsEdgeAcyclic, IsCycle as IsEdgeCycle}
use Rattle.graph_order.specs.Before.{numbers}
use Rattle.graph_order.specs.Edges.{edge_of}
use Rattle.graph_order.proofs.Between.{edges_within}
use Rattle.graph_order.proofs.Placing.{order_from_edges}
use Rattle.graph_order.proofs.Cycles.{cycle_from_edges, acyclic_from_edges}
use Rattle.graph_order.proofs.ordering.order.Goals as goal

pub order-requires : goal.order-requires
order-requires c =
    let w : AreWithin (length c.args.flat.now.leaves) (filter_map edge_of c.args.flat.now.chains) = edges_within c.args.flat.now c.requires.within in
    rw (c.deref.ensures.value, c.in_ok-edges.ensures, c.len.ensures) w

pub returns-in-Ok-clause-found : goal.returns-in-Ok-clause-found
returns-in-Ok-clause-found c =
    let o : IsEdgeOrder (filter_map edge_of c.args.flat.now.chains) (length c.args.flat.now.leaves) c.in-Ok.found =
    rw (← c.in_ok-edges.ensures, ← c.deref.ensures.value, ← c.len.ensures) c.in-Ok.ensures.found in
    let e : numbers c.in_ok-leaf_ids-in-Ok.field-0 ≡ c.in-Ok.found = c.in_ok-leaf_ids-in-Ok.ensures ∙ c.as_slice.ensures in
    rw e (order_from_edges c.args.flat.now c.in-Ok.found o)

pub returns-in-Ok-clause-acyclic : goal.returns-in-Ok-clause-acyclic
returns-in-Ok-clause-acyclic c =
    let a : IsEdgeAcyclic (filter_map edge_of c.args.flat.now.chains) =
    rw (← c.in_ok-edges.ensures, ← c.deref.ensures.value) c.in-Ok.ensures.acyclic in
    acyclic_from_edges c.args.flat.now a

pub refusal-requires-clause-cycle : goal.refusal-requires-clause-cycle
refusal-requires-clause-cycle c =
    let h : IsEdgeCycle (filter_map edge_of c.args.flat.now.chains) c.in-Err-Cycle.cycle =
    rw (← c.in_ok-edges.ensures, ← c.deref.ensures.value) (rw c.in-Err-Cycle.field-0-is at c.in-Err-Cycle.ensures.cycle) in
    rw c.as_slice-in-Err-Cycle.ensures (cycle_from_edges c.args.flat.now c.in-Err-Cycle.cycle h)
