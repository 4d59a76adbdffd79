-- The edges of a graph's undelayed chains say which leaf is before which.
use Rattle.std.proofs.Common.{◌≡◌, ℕ, ◌<◌, Bool, true, false, List, [], ◌∷◌, Option, Some, None, length, refl, ap, ◌∙◌, sym, arith, All}
use Rattle.std.specs.Prelude.{◌==◌, ◌&&◌, ◌||◌}
use Rattle.std.specs.List.{list_any, filter_map, cons_option}
use Rattle.std.proofs.lemmas.List.Elements.{All-nil, All-cons, All-head, All-tail}
use Rattle.std.proofs.lemmas.Grind.{common_steps}
use Rattle.cm_base.specs.declared.place.LeafId.{LeafId}
use Rattle.cm_core.specs.declared.flat.Flat.{Flat}
use Rattle.cm_core.specs.declared.flat.Chain.{Chain}
use Rattle.graph_search.specs.Edges.{AreWithin, IsBefore as IsEdge}
use Rattle.graph_search.specs.declared.edges.Edge.{Edge}
use Rattle.cm_core.specs.Flats.{IsLeafBelow, NamesLeaves}
use Rattle.graph_order.specs.Before.{is_of, leads, IsBefore}
use Rattle.graph_order.specs.Edges.{edge_between, edge_of}

abbrev pub joins : ℕ → ℕ → Edge → Bool
joins p q e = (e.from == p) && (e.to == q)

joins_by : (undelayed : Bool) (from to : Option LeafId) (p q : ℕ) (es : List Edge) (rest : Bool) → list_any (joins p q) es ≡ rest
    → list_any (joins p q) (cons_option (edge_between undelayed from to) es) ≡ ((undelayed && (is_of p from && is_of q to)) || rest)
joins_by true (Some a) (Some b) p q es rest h = ap (λ (r : Bool). ((a.0 == p) && (b.0 == q)) || r) h
joins_by true (Some a) None p q es rest h = grind (arith, common_steps, h)
joins_by true None (Some b) p q es rest h = h
joins_by true None None p q es rest h = h
joins_by false from to p q es rest h = h

joined : (chains : List Chain) (p q : ℕ) → list_any (joins p q) (filter_map edge_of chains) ≡ list_any (leads p q) chains
joined [] p q = refl
joined (chain ∷ chains) p q = joins_by (chain.delay == 0) chain.from.leaf chain.to.leaf p q (filter_map edge_of chains) _ (joined chains p q)

pub before_from_edge : (flat : Flat) (p q : ℕ) → IsEdge (filter_map edge_of flat.chains) p q → IsBefore flat p q
before_from_edge flat p q h = sym (joined flat.chains p q) ∙ h

pub edge_from_before : (flat : Flat) (p q : ℕ) → IsBefore flat p q → IsEdge (filter_map edge_of flat.chains) p q
edge_from_before flat p q h = joined flat.chains p q ∙ h

within_by : (undelayed : Bool) (from to : Option LeafId) (n : ℕ) (es : List Edge) → IsLeafBelow n from → IsLeafBelow n to → AreWithin n es
    → AreWithin n (cons_option (edge_between undelayed from to) es)
within_by true (Some a) (Some b) n es f t h = All-cons (λ (e : Edge). (e.from < n) × (e.to < n)) (record { from = a.0; to = b.0 }) es (f, t) h
within_by true (Some a) None n es f t h = h
within_by true None (Some b) n es f t h = h
within_by true None None n es f t h = h
within_by false from to n es f t h = h

abbrev pub Named : ℕ → Chain → Type 0
Named n chain = IsLeafBelow n chain.from.leaf × IsLeafBelow n chain.to.leaf

within : (n : ℕ) (chains : List Chain) → All (Named n) chains → AreWithin n (filter_map edge_of chains)
within n [] h = All-nil (λ (e : Edge). (e.from < n) × (e.to < n))
within n (chain ∷ chains) h =
    let here = All-head (Named n) chain chains h in
    within_by (chain.delay == 0) chain.from.leaf chain.to.leaf n (filter_map edge_of chains) here.0 here.1 (within n chains (All-tail (Named n) chain chains h))

-- the edges are between leaves of the graph
pub edges_within : (flat : Flat) → NamesLeaves flat → AreWithin (length flat.leaves) (filter_map edge_of flat.chains)
edges_within flat h = within (length flat.leaves) flat.chains h

below_by : (undelayed : Bool) (from to : Option LeafId) (n p q : ℕ) (rest : Bool) → IsLeafBelow n from → ((rest ≡ true) → p < n)
    → ((undelayed && (is_of p from && is_of q to)) || rest) ≡ true → p < n
below_by true (Some a) to n p q rest f later h = grind (arith, common_steps, f, later, h)
below_by true None to n p q rest f later h = later h
below_by false from to n p q rest f later h = later h

below : (n : ℕ) (chains : List Chain) → All (Named n) chains → (p q : ℕ) → list_any (leads p q) chains ≡ true → p < n
below n [] h p q b = cc
below n (chain ∷ chains) h p q b =
    let here = All-head (Named n) chain chains h in
    below_by (chain.delay == 0) chain.from.leaf chain.to.leaf n p q _ here.0 (below n chains (All-tail (Named n) chain chains h) p q) b

-- a leaf that is before another is one of the graph
pub before_below : (flat : Flat) → NamesLeaves flat → (p q : ℕ) → IsBefore flat p q → p < length flat.leaves
before_below flat h p q b = below (length flat.leaves) flat.chains h p q b
