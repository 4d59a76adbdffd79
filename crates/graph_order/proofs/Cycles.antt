-- Cycles of edges are cycles of leaves.
use Rattle.std.proofs.Common.{◌≡◌, ℕ, ◌+◌, ◌-◌, ◌<◌, ◌≤◌, List, length, get_or, arith, subst, ⊎_elim, All}
use Rattle.std.specs.List.{filter_map}
use Rattle.std.proofs.lemmas.Bool.{cases_lt}
use Rattle.std.proofs.lemmas.List.Elements.{All-from_get_or}
use Rattle.cm_core.specs.declared.flat.Flat.{Flat}
use Rattle.graph_search.specs.Orders.{IsCycle as IsEdgeCycle, IsAcyclic as IsEdgeAcyclic}
use Rattle.cm_core.specs.Flats.{NamesLeaves}
use Rattle.graph_order.specs.Cycle.{IsCycle, IsAcyclic}
use Rattle.graph_order.specs.Edges.{edge_of}
use Rattle.graph_order.proofs.Between.{before_from_edge, edge_from_before, before_below}

pub cycle_from_edges : (flat : Flat) (cs : List ℕ) → IsEdgeCycle (filter_map edge_of flat.chains) cs → IsCycle flat cs
cycle_from_edges flat cs h = record {
  some = h.some;
  distinct = h.distinct;
  steps = λ i lt. before_from_edge flat _ _ (h.steps i lt);
  closes = before_from_edge flat _ _ h.closes;
}

edges_from_cycle : (flat : Flat) (cs : List ℕ) → IsCycle flat cs → IsEdgeCycle (filter_map edge_of flat.chains) cs
edges_from_cycle flat cs h = record {
  some = h.some;
  distinct = h.distinct;
  steps = λ i lt. edge_from_before flat _ _ (h.steps i lt);
  closes = edge_from_before flat _ _ h.closes;
}

pub acyclic_from_edges : (flat : Flat) → IsEdgeAcyclic (filter_map edge_of flat.chains) → IsAcyclic flat
acyclic_from_edges flat h cs c = h cs (edges_from_cycle flat cs c)

in_cycle : (flat : Flat) → NamesLeaves flat → (cs : List ℕ) → IsCycle flat cs → (i : ℕ) → i < length cs → get_or cs i 0 < length flat.leaves
in_cycle flat h cs c i lt = ⊎_elim
    (λ (less : i + 1 < length cs). before_below flat h _ _ (c.steps i less))
    (λ (last : length cs ≤ i + 1).
    let e : length cs - 1 ≡ i = omega arith in
    subst (λ (k : ℕ). get_or cs k 0 < length flat.leaves) e (before_below flat h _ _ c.closes))
    (cases_lt (i + 1) (length cs))

-- the leaves of a cycle are leaves of the graph
pub cycle_below : (flat : Flat) → NamesLeaves flat → (cs : List ℕ) → IsCycle flat cs → All (λ leaf. leaf < length flat.leaves) cs
cycle_below flat h cs c = All-from_get_or (λ leaf. leaf < length flat.leaves) cs 0 (in_cycle flat h cs c)
