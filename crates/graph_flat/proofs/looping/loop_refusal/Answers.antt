use Rattle.std.proofs.Common.{List, map, sym, refl, subst}
use Rattle.cm_core.specs.declared.link.Connection.{Connection}
use Rattle.cm_core.specs.GraphFaults.{IsWireLoop, wire_loop as wire_loop_fault}
use Rattle.graph_search.specs.Orders.{IsCycle, IsFault}
use Rattle.graph_flat.specs.Edges.{edge_of}
use Rattle.graph_flat.proofs.WireLoops.{wire_loop}
use Rattle.graph_flat.proofs.looping.loop_refusal.Goals as goal

pub returns-in-Cycle : goal.returns-in-Cycle
returns-in-Cycle c =
    let cs = c.args.connections.now in
    let ends = c.as_slice-ends.result.now in
    let place = c.place_between-place.result in
    let h : IsCycle (map edge_of cs) c.in-Cycle.cycle = subst (IsFault (map edge_of cs)) c.in-Cycle.is c.requires.fault in
    let h' : IsCycle (map edge_of cs) ends = subst (IsCycle (map edge_of cs)) (sym c.as_slice-ends.ensures) h in
    let loop : IsWireLoop cs place = wire_loop cs ends place h' c.cycle_leads_back.ensures c.place_between-place.ensures in
    rw c.refused.ensures (wire_loop_fault place (subst (λ (ds : List Connection). IsWireLoop ds place) c.requires.connections loop), refl)
