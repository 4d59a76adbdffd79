-- One leaf after the other takes its arrival, in the order of leaves.
use Rattle.std.proofs.Common.{◌≡◌, ◌⊎◌, inl, inr, ℕ, ◌+◌, ◌*◌, ◌<◌, ◌≤◌, true, List, [], ◌∷◌, Some, None, length, get_or, set, take, map, ◌∙◌, sym, arith, nat_eq, ⊎_elim, subst, All}
use Rattle.std.specs.Prelude.{◌==◌, ◌||◌}
use Rattle.std.specs.List.{filter_map}
use Rattle.std.proofs.lemmas.List.Folds.{list_any_more}
use Rattle.std.proofs.lemmas.List.Elements.{All-get_or, All-map}
use Rattle.std.proofs.lemmas.Bool.{cases_eq, cases_lt}
use Rattle.std.proofs.lemmas.Grind.{common_steps}
use Rattle.std.proofs.Math.Seq.{take-length}
use Rattle.cm_base.specs.declared.place.LeafId.{LeafId}
use Rattle.cm_core.specs.declared.flat.Flat.{Flat}
use Rattle.cm_core.specs.declared.flat.Leaf.{Leaf}
use Rattle.graph_search.specs.Edges.{member}
use Rattle.cm_core.specs.Flats.{IsSmall, NamesLeaves}
use Rattle.graph_order.specs.Before.{numbers}
use Rattle.graph_order.specs.Order.{IsOrder, IsOrderOf}
use Rattle.latency_fill.specs.Walks.{latency_in, latency_of, Feeds, IsArrival}
use Rattle.latency_fill.specs.Edges.{timed_edge, sources, host_source}
use Rattle.latency_fill.proofs.Sources.{feeds_from_source, source_from_feeds, before_from_feeds, feeds_host, host_source_from_feeds, feeds_below}
use Rattle.latency_fill.proofs.Summing.{arrival_is}

-- the leaves that are placed have their arrivals
abbrev pub HaveArrivals : Flat → List ℕ → List ℕ → Type 0
HaveArrivals flat placed arrive = (q : ℕ) → member q placed ≡ true → IsArrival flat (Some q) (get_or arrive q 0)

abbrev pub sources_to : Flat → ℕ → List ℕ
sources_to flat q = sources (filter_map timed_edge flat.chains) q

-- what `latest` says of the leaves that feed q
abbrev pub IsLatest : Flat → List ℕ → List ℕ → ℕ → Type 0
IsLatest flat before arrive m = (m ≡ 0) ⊎ ((p : ℕ) × (member p before ≡ true) × (get_or arrive p 0 + latency_of flat p ≡ m))

by_feeds : (flat : Flat) (arrive : List ℕ) (q m : ℕ) → IsLatest flat (sources_to flat q) arrive m
    → (m ≡ 0) ⊎ ((p : ℕ) × (Feeds flat p (Some q)) × (get_or arrive p 0 + latency_of flat p ≡ m))
by_feeds flat arrive q m (inl z) = inl z
by_feeds flat arrive q m (inr t) = inr (t.0, feeds_from_source flat t.0 q t.1, t.2)

-- one more leaf
pub arrivals_more : (flat : Flat) (order arrive : List ℕ) (j m : ℕ) → IsOrderOf flat order → j < length order → get_or order j 0 < length arrive
    → HaveArrivals flat (take j order) arrive
    → ((p : ℕ) → member p (sources_to flat (get_or order j 0)) ≡ true → get_or arrive p 0 + latency_of flat p ≤ m)
    → IsLatest flat (sources_to flat (get_or order j 0)) arrive m
    → HaveArrivals flat (take (j + 1) order) (set arrive (get_or order j 0) m)
arrivals_more flat order arrive j m o lt within done up at q h = ⊎_elim
    (λ (e : get_or order j 0 ≡ q).
    let x = get_or order j 0 in
    let g : get_or (set arrive x m) q 0 ≡ m = grind (arith, common_steps) in
    let here : IsArrival flat (Some x) m =
    arrival_is flat (λ p. get_or arrive p 0) (Some x) m
    (λ p f. done p ((o.next j lt).ready p (before_from_feeds flat p x f)))
    (λ p f. up p (source_from_feeds flat p x f))
    (by_feeds flat arrive x m at) in
    rw g (subst (λ (y : ℕ). IsArrival flat (Some y) m) e here))
    (λ (ne : get_or order j 0 ≡ q → ⊥).
    let g : get_or (set arrive (get_or order j 0) m) q 0 ≡ get_or arrive q 0 = grind (arith, common_steps) in
    let more : member q (take (j + 1) order) ≡ (member q (take j order) || (q == get_or order j 0)) = list_any_more (nat_eq q) order j 0 lt in
    rw g (done q (grind (arith, common_steps, more))))
    (cases_eq (get_or order j 0) q)

latency_by : (leaves : List Leaf) (p : ℕ) → All (λ (l : Leaf). l.latency ≤ 65536) leaves → latency_in leaves p ≤ 65536
latency_by [] p h = omega arith
latency_by (l ∷ ls) p h = ⊎_elim
    (λ (lt : p < length (map (λ (l : Leaf). l.latency) (l ∷ ls))).
    All-get_or (λ (x : ℕ). x ≤ 65536) (map (λ (l : Leaf). l.latency) (l ∷ ls)) p 0 lt (All-map (λ (x : ℕ). x ≤ 65536) (λ (l : Leaf). l.latency) (l ∷ ls) h))
    (λ (ge : length (map (λ (l : Leaf). l.latency) (l ∷ ls)) ≤ p).
    let z : get_or (map (λ (l : Leaf). l.latency) (l ∷ ls)) p 0 ≡ 0 = grind (arith, common_steps) in omega (arith, z))
    (cases_lt p (length (map (λ (l : Leaf). l.latency) (l ∷ ls))))

pub latency_low : (flat : Flat) → IsSmall flat → (p : ℕ) → latency_of flat p ≤ 65536
latency_low flat h p = latency_by flat.leaves p h.1

latest_low : (flat : Flat) (before arrive : List ℕ) (j m : ℕ) → IsSmall flat → ((p : ℕ) → get_or arrive p 0 ≤ j * 65536) → IsLatest flat before arrive m → m ≤ (j + 1) * 65536
latest_low flat before arrive j m s h (inl z) = omega (arith, z)
latest_low flat before arrive j m s h (inr t) =
    let x : get_or arrive t.0 0 ≤ j * 65536 = h t.0 in
    let y : latency_of flat t.0 ≤ 65536 = latency_low flat s t.0 in
    let z : get_or arrive t.0 0 + latency_of flat t.0 ≡ m = t.2 in
    omega (arith, x, y, z)

-- arrivals grow by at most the greatest latency for each leaf
pub low_more : (flat : Flat) (before arrive : List ℕ) (q j m : ℕ) → IsSmall flat → ((p : ℕ) → get_or arrive p 0 ≤ j * 65536) → IsLatest flat before arrive m
    → (p : ℕ) → get_or (set arrive q m) p 0 ≤ (j + 1) * 65536
low_more flat before arrive q j m s h at p =
    let b = latest_low flat before arrive j m s h at in
    let o = h p in
    grind (arith, common_steps, b, o)

-- the number of the leaf at a place of the order
pub number_at : (ids : List LeafId) (i : ℕ) (d : LeafId) → i < length ids → get_or (numbers ids) i 0 ≡ (get_or ids i d).0
number_at ids i d lt = grind (arith, common_steps)

-- the leaf at a place of the order is one of the graph
pub placed_below : (flat : Flat) (order : List LeafId) (i : ℕ) (d : LeafId) → IsOrder flat order → i < length order → (get_or order i d).0 < length flat.leaves
placed_below flat order i d o lt =
    let n : length (numbers order) ≡ length order = grind (arith, common_steps) in
    let lt' : i < length (numbers order) = omega (arith, n, lt) in
    let h : get_or (numbers order) i 0 < length flat.leaves = (o.next i lt').leaf in
    subst (λ (x : ℕ). x < length flat.leaves) (number_at order i d lt) h

pub order_length : (flat : Flat) (order : List LeafId) → IsOrder flat order → length order ≡ length flat.leaves
order_length flat order o = let n : length (numbers order) ≡ length order = grind (arith, common_steps) in sym n ∙ o.count

-- after the whole order each leaf has its arrival
pub arrivals_all : (flat : Flat) (order : List LeafId) (arrive : List ℕ) (j : ℕ) → IsOrder flat order → j ≡ length order
    → HaveArrivals flat (take j (numbers order)) arrive → (q : ℕ) → q < length flat.leaves → IsArrival flat (Some q) (get_or arrive q 0)
arrivals_all flat order arrive j o e h q lt =
    let n : length (numbers order) ≡ length order = grind (arith, common_steps) in
    let k : j ≡ length (numbers order) = e ∙ sym n in
    let t : take j (numbers order) ≡ numbers order = rw k (take-length (numbers order)) in
    h q (rw t (o.all q lt))

-- one more leaf of the order, by its place
pub arrivals_step : (flat : Flat) (order : List LeafId) (arrive : List ℕ) (j m : ℕ) (d : LeafId) → IsOrder flat order → j < length order
    → (get_or order j d).0 < length arrive → HaveArrivals flat (take j (numbers order)) arrive
    → ((p : ℕ) → member p (sources_to flat (get_or order j d).0) ≡ true → get_or arrive p 0 + latency_of flat p ≤ m)
    → IsLatest flat (sources_to flat (get_or order j d).0) arrive m
    → HaveArrivals flat (take (j + 1) (numbers order)) (set arrive (get_or order j d).0 m)
arrivals_step flat order arrive j m d o lt within done up at =
    let n : length (numbers order) ≡ length order = grind (arith, common_steps) in
    let lt' : j < length (numbers order) = omega (arith, n, lt) in
    let P : ℕ → Type 0 = λ x. x < length arrive → ((p : ℕ) → member p (sources_to flat x) ≡ true → get_or arrive p 0 + latency_of flat p ≤ m)
    → IsLatest flat (sources_to flat x) arrive m → HaveArrivals flat (take (j + 1) (numbers order)) (set arrive x m) in
    subst P (number_at order j d lt) (λ w u t. arrivals_more flat (numbers order) arrive j m o lt' w done u t) within up at

by_host_feeds : (flat : Flat) (arrive : List ℕ) (m : ℕ) → IsLatest flat (filter_map host_source flat.chains) arrive m
    → (m ≡ 0) ⊎ ((p : ℕ) × (Feeds flat p None) × (get_or arrive p 0 + latency_of flat p ≡ m))
by_host_feeds flat arrive m (inl z) = inl z
by_host_feeds flat arrive m (inr t) = inr (t.0, feeds_host flat t.0 t.1, t.2)

-- the latest of what leads to the host is the latency of the patch
pub host_arrival_is : (flat : Flat) (arrive : List ℕ) (m : ℕ) → NamesLeaves flat → ((q : ℕ) → q < length flat.leaves → IsArrival flat (Some q) (get_or arrive q 0))
    → ((p : ℕ) → member p (filter_map host_source flat.chains) ≡ true → get_or arrive p 0 + latency_of flat p ≤ m)
    → IsLatest flat (filter_map host_source flat.chains) arrive m → IsArrival flat None m
host_arrival_is flat arrive m n h up at =
    arrival_is flat (λ p. get_or arrive p 0) None m
    (λ p f. h p (feeds_below flat n p None f))
    (λ p f. up p (host_source_from_feeds flat p f))
    (by_host_feeds flat arrive m at)
