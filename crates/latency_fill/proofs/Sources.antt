-- The edges of timed chains say what feeds what.
use Rattle.std.proofs.Common.{◌≡◌, ℕ, ◌+◌, ◌<◌, Bool, true, false, List, [], ◌∷◌, ◌++◌, Option, Some, None, length, get_or, take, cond, refl, ◌∙◌, sym, arith, All}
use Rattle.std.specs.Prelude.{◌==◌, ◌&&◌, ◌||◌, if◌then◌else◌}
use Rattle.std.specs.List.{list_any, filter_map, cons_option}
use Rattle.std.proofs.lemmas.List.Elements.{All-nil, All-cons, All-head, All-tail, filter_map-append}
use Rattle.std.proofs.lemmas.Grind.{common_steps}
use Rattle.cm_base.specs.Parts.{is_stream}
use Rattle.cm_base.specs.declared.place.LeafId.{LeafId}
use Rattle.cm_core.specs.declared.flat.Flat.{Flat}
use Rattle.cm_core.specs.declared.flat.Chain.{Chain}
use Rattle.graph_search.specs.Edges.{AreWithin, member}
use Rattle.graph_search.specs.declared.edges.Edge.{Edge}
use Rattle.cm_core.specs.Flats.{IsLeafBelow, NamesLeaves}
use Rattle.graph_order.specs.Before.{IsBefore, is_of, leads}
use Rattle.latency_fill.specs.Walks.{is_timed, leaf_of, same_leaf, feeds, Feeds}
use Rattle.latency_fill.specs.Edges.{edge_between, timed_edge, sources, source_between, host_source}

-- one more edge of the sources
pub sources_more : (es : List Edge) (i q : ℕ) (d : Edge) → i < length es → sources (take (i + 1) es) q ≡ sources (take i es) q ++ cond ((get_or es i d).to == q) ((get_or es i d).from ∷ []) []
sources_more es i q d h = grind (arith, common_steps, filter_map-append)

source_by : (f : Bool) (x p : ℕ) (c : Bool) (ts : List ℕ) → member p ts ≡ c → member p (cons_option (if f then Some x else None) ts) ≡ (((x == p) && f) || c)
source_by true x p c ts e = grind (arith, common_steps)
source_by false x p c ts e = grind (arith, common_steps)

fed_by : (timed : Bool) (from to : Option LeafId) (p q : ℕ) (es : List Edge) (rest : Bool) → member p (sources es q) ≡ rest
    → member p (sources (cons_option (edge_between timed from to) es) q) ≡ ((timed && (same_leaf (leaf_of from) (Some p) && same_leaf (leaf_of to) (Some q))) || rest)
fed_by true (Some a) (Some b) p q es rest h = source_by (b.0 == q) a.0 p rest (sources es q) h
fed_by true (Some a) None p q es rest h = grind (arith, common_steps, h)
fed_by true None (Some b) p q es rest h = h
fed_by true None None p q es rest h = h
fed_by false from to p q es rest h = h

fed : (chains : List Chain) (p q : ℕ) → member p (sources (filter_map timed_edge chains) q) ≡ list_any (feeds p (Some q)) chains
fed [] p q = refl
fed (chain ∷ chains) p q = fed_by (is_timed chain) chain.from.leaf chain.to.leaf p q (filter_map timed_edge chains) _ (fed chains p q)

-- the sources of a leaf are the leaves that feed it
pub feeds_from_source : (flat : Flat) (p q : ℕ) → member p (sources (filter_map timed_edge flat.chains) q) ≡ true → Feeds flat p (Some q)
feeds_from_source flat p q h = sym (fed flat.chains p q) ∙ h

pub source_from_feeds : (flat : Flat) (p q : ℕ) → Feeds flat p (Some q) → member p (sources (filter_map timed_edge flat.chains) q) ≡ true
source_from_feeds flat p q h = fed flat.chains p q ∙ h

within_by : (timed : Bool) (from to : Option LeafId) (n : ℕ) (es : List Edge) → IsLeafBelow n from → IsLeafBelow n to → AreWithin n es
    → AreWithin n (cons_option (edge_between timed from to) es)
within_by true (Some a) (Some b) n es f t h = All-cons (λ (e : Edge). (e.from < n) × (e.to < n)) (record { from = a.0; to = b.0 }) es (f, t) h
within_by true (Some a) None n es f t h = h
within_by true None (Some b) n es f t h = h
within_by true None None n es f t h = h
within_by false from to n es f t h = h

abbrev Named : ℕ → Chain → Type 0
Named n chain = IsLeafBelow n chain.from.leaf × IsLeafBelow n chain.to.leaf

within : (n : ℕ) (chains : List Chain) → All (Named n) chains → AreWithin n (filter_map timed_edge chains)
within n [] h = All-nil (λ (e : Edge). (e.from < n) × (e.to < n))
within n (chain ∷ chains) h =
    let here = All-head (Named n) chain chains h in
    within_by (is_timed chain) chain.from.leaf chain.to.leaf n (filter_map timed_edge chains) here.0 here.1 (within n chains (All-tail (Named n) chain chains h))

pub edges_within : (flat : Flat) → NamesLeaves flat → AreWithin (length flat.leaves) (filter_map timed_edge flat.chains)
edges_within flat h = within (length flat.leaves) flat.chains h

leads_by : (stream undelayed : Bool) (from to : Option LeafId) (p q : ℕ)
    → ((stream && undelayed) && (same_leaf (leaf_of from) (Some p) && same_leaf (leaf_of to) (Some q))) ≡ true → (undelayed && (is_of p from && is_of q to)) ≡ true
leads_by true u (Some a) (Some b) p q h = h
leads_by true u (Some a) None p q h = h
leads_by true u None (Some b) p q h = h
leads_by true u None None p q h = h
leads_by false u from to p q h = cc

any_by : (f g : Bool) (rest other : Bool) → (f ≡ true → g ≡ true) → (rest ≡ true → other ≡ true) → (f || rest) ≡ true → (g || other) ≡ true
any_by true g rest other h k e = grind (arith, h)
any_by false g rest other h k e = grind (arith, k)

before : (chains : List Chain) (p q : ℕ) → list_any (feeds p (Some q)) chains ≡ true → list_any (leads p q) chains ≡ true
before [] p q h = h
before (chain ∷ chains) p q h =
    any_by (feeds p (Some q) chain) (leads p q chain) (list_any (feeds p (Some q)) chains) (list_any (leads p q) chains)
    (leads_by (is_stream chain.kind) (chain.delay == 0) chain.from.leaf chain.to.leaf p q) (before chains p q) h

-- what feeds a leaf is before it
pub before_from_feeds : (flat : Flat) (p q : ℕ) → Feeds flat p (Some q) → IsBefore flat p q
before_from_feeds flat p q h = before flat.chains p q h

sources_within_by : (f : Bool) (x n m : ℕ) (ts : List ℕ) → (x < n) × (x < m) → All (λ q. (q < n) × (q < m)) ts → All (λ q. (q < n) × (q < m)) (cons_option (if f then Some x else None) ts)
sources_within_by true x n m ts h k = All-cons (λ q. (q < n) × (q < m)) x ts h k
sources_within_by false x n m ts h k = k

-- the sources are below the count, by whatever name it goes
pub sources_within : (es : List Edge) (n a b q : ℕ) → n ≡ a → n ≡ b → AreWithin n es → All (λ p. (p < a) × (p < b)) (sources es q)
sources_within [] n a b q x y h = All-nil (λ q. (q < a) × (q < b))
sources_within (e ∷ es) n a b q x y h =
    let f : e.from < n = (All-head (λ (e : Edge). (e.from < n) × (e.to < n)) e es h).0 in
    sources_within_by (e.to == q) e.from a b (sources es q) (omega (arith, f, x), omega (arith, f, y)) (sources_within es n a b q x y (All-tail (λ (e : Edge). (e.from < n) × (e.to < n)) e es h))

host_by : (timed : Bool) (from to : Option LeafId) (p : ℕ) (ts : List ℕ) (rest : Bool) → member p ts ≡ rest
    → member p (cons_option (source_between timed from to) ts) ≡ ((timed && (same_leaf (leaf_of from) (Some p) && same_leaf (leaf_of to) None)) || rest)
host_by true (Some a) (Some b) p ts rest h = grind (arith, common_steps, h)
host_by true (Some a) None p ts rest h = grind (arith, common_steps, h)
host_by true None (Some b) p ts rest h = h
host_by true None None p ts rest h = h
host_by false from to p ts rest h = h

host_fed : (chains : List Chain) (p : ℕ) → member p (filter_map host_source chains) ≡ list_any (feeds p None) chains
host_fed [] p = refl
host_fed (chain ∷ chains) p = host_by (is_timed chain) chain.from.leaf chain.to.leaf p (filter_map host_source chains) _ (host_fed chains p)

-- the sources of the host are the leaves that feed it
pub feeds_host : (flat : Flat) (p : ℕ) → member p (filter_map host_source flat.chains) ≡ true → Feeds flat p None
feeds_host flat p h = sym (host_fed flat.chains p) ∙ h

pub host_source_from_feeds : (flat : Flat) (p : ℕ) → Feeds flat p None → member p (filter_map host_source flat.chains) ≡ true
host_source_from_feeds flat p h = host_fed flat.chains p ∙ h

host_within_by : (timed : Bool) (from to : Option LeafId) (n a b : ℕ) (ts : List ℕ) → n ≡ a → n ≡ b → IsLeafBelow n from → All (λ p. (p < a) × (p < b)) ts
    → All (λ p. (p < a) × (p < b)) (cons_option (source_between timed from to) ts)
host_within_by true (Some f) (Some t) n a b ts x y l h = h
host_within_by true (Some f) None n a b ts x y l h = All-cons (λ p. (p < a) × (p < b)) f.0 ts (omega (arith, x, l), omega (arith, y, l)) h
host_within_by true None (Some t) n a b ts x y l h = h
host_within_by true None None n a b ts x y l h = h
host_within_by false from to n a b ts x y l h = h

host_within : (n a b : ℕ) (chains : List Chain) → n ≡ a → n ≡ b → All (Named n) chains → All (λ p. (p < a) × (p < b)) (filter_map host_source chains)
host_within n a b [] x y h = All-nil (λ p. (p < a) × (p < b))
host_within n a b (chain ∷ chains) x y h =
    let here = All-head (Named n) chain chains h in
    host_within_by (is_timed chain) chain.from.leaf chain.to.leaf n a b (filter_map host_source chains) x y here.0 (host_within n a b chains x y (All-tail (Named n) chain chains h))

pub host_sources_within : (flat : Flat) (a b : ℕ) → length flat.leaves ≡ a → length flat.leaves ≡ b → NamesLeaves flat
    → All (λ p. (p < a) × (p < b)) (filter_map host_source flat.chains)
host_sources_within flat a b x y h = host_within (length flat.leaves) a b flat.chains x y h

feeds_below_by : (timed : Bool) (from : Option LeafId) (tail : Bool) (n p : ℕ) (rest : Bool) → IsLeafBelow n from → (rest ≡ true → p < n)
    → ((timed && (same_leaf (leaf_of from) (Some p) && tail)) || rest) ≡ true → p < n
feeds_below_by true (Some a) tail n p rest f later h = grind (arith, common_steps, f, later, h)
feeds_below_by true None tail n p rest f later h = later h
feeds_below_by false from tail n p rest f later h = later h

feeder_below : (n : ℕ) (chains : List Chain) → All (Named n) chains → (p : ℕ) (to : Option ℕ) → list_any (feeds p to) chains ≡ true → p < n
feeder_below n [] h p to b = cc
feeder_below n (chain ∷ chains) h p to b =
    let here = All-head (Named n) chain chains h in
    feeds_below_by (is_timed chain) chain.from.leaf (same_leaf (leaf_of chain.to.leaf) to) n p _ here.0 (feeder_below n chains (All-tail (Named n) chain chains h) p to) b

-- what feeds a leaf or the host is a leaf of the graph
pub feeds_below : (flat : Flat) → NamesLeaves flat → (p : ℕ) (to : Option ℕ) → Feeds flat p to → p < length flat.leaves
feeds_below flat h p to b = feeder_below (length flat.leaves) flat.chains h p to b
