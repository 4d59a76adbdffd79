-- The order over edges is the order of the leaves.
use Rattle.std.proofs.Common.{◌≡◌, ℕ, ◌+◌, ◌<◌, true, false, not, List, [], ◌∷◌, length, get_or, take, ◌∙◌, sym, arith, ⊎_elim, subst, cond}
use Rattle.std.specs.Prelude.{◌==◌, ◌&&◌}
use Rattle.std.specs.List.{filter_map}
use Rattle.std.proofs.lemmas.List.Sums.{sum_by-cons}
use Rattle.std.proofs.lemmas.Bool.{cases_eq, cases_Bool}
use Rattle.std.proofs.lemmas.Grind.{common_steps}
use Rattle.cm_core.specs.declared.flat.Flat.{Flat}
use Rattle.graph_search.specs.Edges.{member, IsBefore as IsEdge}
use Rattle.graph_search.specs.Orders.{unmet_of, IsOrder as IsEdgeOrder}
use Rattle.graph_search.specs.declared.edges.Edge.{Edge}
use Rattle.graph_order.specs.Order.{IsOrderOf}
use Rattle.graph_order.specs.Edges.{edge_of}
use Rattle.graph_order.proofs.Between.{before_from_edge, edge_from_before}

met_by : (e : Edge) (es : List Edge) (ps : List ℕ) (p q : ℕ) → cond ((e.to == q) && not (member e.from ps)) 1 0 + unmet_of es ps q ≡ 0 → IsEdge (e ∷ es) p q
    → (unmet_of es ps q ≡ 0 → IsEdge es p q → member p ps ≡ true) → member p ps ≡ true
met_by e es ps p q z b ih = ⊎_elim
    (λ (h : e.from ≡ p).
    ⊎_elim (λ (k : e.to ≡ q). subst (λ (x : ℕ). member x ps ≡ true) h (grind (arith, common_steps)))
    (λ (k : e.to ≡ q → ⊥). ih (omega arith) (grind (arith, common_steps)))
    (cases_eq e.to q))
    (λ (h : e.from ≡ p → ⊥). ih (omega arith) (grind (arith, common_steps)))
    (cases_eq e.from p)

-- where no edge leads to a node from one that isn't placed, all its predecessors are
met : (es : List Edge) (ps : List ℕ) (p q : ℕ) → unmet_of es ps q ≡ 0 → IsEdge es p q → member p ps ≡ true
met [] ps p q z b = cc
met (e ∷ es) ps p q z b =
    let s : unmet_of (e ∷ es) ps q ≡ cond ((e.to == q) && not (member e.from ps)) 1 0 + unmet_of es ps q = sum_by-cons _ e es in
    met_by e es ps p q (sym s ∙ z) b (met es ps p q)

abbrev WaitsFor : List Edge → List ℕ → ℕ → Type 0
WaitsFor es ps q = (p : ℕ) × IsEdge es p q × (member p ps ≡ false)

edge_here : (e : Edge) (es : List Edge) (q : ℕ) → (e.to == q) ≡ true → IsEdge (e ∷ es) e.from q
edge_here e es q t = grind (arith, common_steps)

edge_later : (e : Edge) (es : List Edge) (p q : ℕ) → IsEdge es p q → IsEdge (e ∷ es) p q
edge_later e es p q h = grind (arith, common_steps)

waits_by : (e : Edge) (es : List Edge) (ps : List ℕ) (q : ℕ) → 0 < cond ((e.to == q) && not (member e.from ps)) 1 0 + unmet_of es ps q
    → (0 < unmet_of es ps q → WaitsFor es ps q) → WaitsFor (e ∷ es) ps q
waits_by e es ps q h ih = ⊎_elim
    (λ (t : ((e.to == q) && not (member e.from ps)) ≡ true). (e.from, edge_here e es q (grind (arith, common_steps)), grind (arith, common_steps)))
    (λ (f : ((e.to == q) && not (member e.from ps)) ≡ false).
    let w = ih (grind (arith, common_steps)) in (w.0, edge_later e es w.0 q w.1, w.2))
    (cases_Bool ((e.to == q) && not (member e.from ps)))

-- where such an edge leads to a node, a predecessor isn't placed
waits : (es : List Edge) (ps : List ℕ) (q : ℕ) → 0 < unmet_of es ps q → WaitsFor es ps q
waits [] ps q h = absurd (omega (arith, h))
waits (e ∷ es) ps q h =
    let s : unmet_of (e ∷ es) ps q ≡ cond ((e.to == q) && not (member e.from ps)) 1 0 + unmet_of es ps q = sum_by-cons _ e es in
    waits_by e es ps q (subst (λ (x : ℕ). 0 < x) s h) (waits es ps q)

pub order_from_edges : (flat : Flat) (ls : List ℕ) → IsEdgeOrder (filter_map edge_of flat.chains) (length flat.leaves) ls → IsOrderOf flat ls
order_from_edges flat ls o = record {
  next = λ i lt. let h = o.placed i lt in record {
    leaf = h.within;
    unplaced = h.unplaced;
    ready = λ p b. met (filter_map edge_of flat.chains) (take i ls) p (get_or ls i 0) h.ready (edge_from_before flat p (get_or ls i 0) b);
    first = λ k less u.
        let w = waits (filter_map edge_of flat.chains) (take i ls) k (h.least k less u) in
        (w.0, before_from_edge flat w.0 k w.1, w.2);
  };
  all = o.all;
  count = o.count;
}
