-- What follows for extra delays from arrivals by walks.
use Rattle.std.proofs.Common.{◌≡◌, ℕ, ◌+◌, ◌-◌, ◌<◌, ◌≤◌, Bool, true, false, List, [], ◌∷◌, Option, Some, None, length, get_or, refl, ap, ◌∙◌, arith, ⊎_elim, All, zero, suc}
use Rattle.std.specs.Prelude.{◌&&◌, if◌then◌else◌, sum_by}
use Rattle.std.specs.List.{list_any}
use Rattle.std.proofs.lemmas.List.{get_or-map}
use Rattle.std.proofs.lemmas.List.Folds.{list_any_at}
use Rattle.std.proofs.lemmas.Bool.{cases_Bool, cases_lt}
use Rattle.std.proofs.lemmas.Grind.{common_steps}
use Rattle.cm_base.specs.declared.place.LeafId.{LeafId}
use Rattle.cm_core.specs.declared.flat.Flat.{Flat}
use Rattle.cm_core.specs.declared.flat.Chain.{Chain}
use Rattle.cm_core.specs.declared.filled.Filled.{Filled}
use Rattle.cm_core.specs.Flats.{IsLeafBelow, NamesLeaves}
use Rattle.latency_fill.specs.Walks.{is_timed, leaf_of, same_leaf, feeds, Feeds, latency_of, IsSumOfWalk, IsArrival}
use Rattle.latency_fill.specs.Fills.{arrival_at, departure_at, arrives, departs, extra_of, IsFill, Fits, OthersHaveNone, IsAttained, IsLeast}
use Rattle.latency_fill.proofs.Summing.{arrival_fits, walk_below}

abbrev pub HasArrivals : Flat → List ℕ → Type 0
HasArrivals flat arrive = (leaf : ℕ) → leaf < length flat.leaves → IsArrival flat (Some leaf) (get_or arrive leaf 0)

feeds_itself : (timed : Bool) (from : LeafId) (to : Option LeafId) → timed ≡ true
    → (timed && (same_leaf (Some from.0) (Some from.0) && same_leaf (leaf_of to) (leaf_of to))) ≡ true
feeds_itself timed from None t = grind (arith, common_steps)
feeds_itself timed from (Some to) t = grind (arith, common_steps)

leaves_before : (flat : Flat) (arrive : List ℕ) (latency : ℕ) → HasArrivals flat arrive → IsArrival flat None latency
    → (from to : Option LeafId) → IsLeafBelow (length flat.leaves) from → IsLeafBelow (length flat.leaves) to
    → ((p : LeafId) → from ≡ Some p → Feeds flat p.0 (leaf_of to))
    → departure_at flat arrive (leaf_of from) ≤ arrival_at arrive latency (leaf_of to)
leaves_before flat arrive latency h out None to a b f = omega arith
leaves_before flat arrive latency h out (Some p) None a b f = arrival_fits flat p.0 None (get_or arrive p.0 0) latency (f p refl) (h p.0 a) out
leaves_before flat arrive latency h out (Some p) (Some q) a b f = arrival_fits flat p.0 (Some q.0) (get_or arrive p.0 0) (get_or arrive q.0 0) (f p refl) (h p.0 a) (h q.0 b)

feeds_at : (flat : Flat) (i : ℕ) (d : Chain) → i < length flat.chains → is_timed (get_or flat.chains i d) ≡ true
    → (p : LeafId) → (get_or flat.chains i d).from.leaf ≡ Some p → Feeds flat p.0 (leaf_of (get_or flat.chains i d).to.leaf)
feeds_at flat i d lt t p e =
    let chain = get_or flat.chains i d in
    let here : feeds p.0 (leaf_of chain.to.leaf) chain ≡ true = rw e (feeds_itself (is_timed chain) p chain.to.leaf t) in
    list_any_at (feeds p.0 (leaf_of chain.to.leaf)) flat.chains i d lt here

-- along a timed chain nothing leaves after it arrives
pub none_late : (flat : Flat) (arrive : List ℕ) (latency : ℕ) → NamesLeaves flat → HasArrivals flat arrive → IsArrival flat None latency
    → All (λ chain. is_timed chain ≡ true → departs flat arrive chain ≤ arrives arrive latency chain) flat.chains
none_late flat arrive latency n h out i d lt t =
    let within = n i d lt in
    leaves_before flat arrive latency h out (get_or flat.chains i d).from.leaf (get_or flat.chains i d).to.leaf within.0 within.1 (feeds_at flat i d lt t)

extra_timed : (timed : Bool) (x : ℕ) → timed ≡ true → (if timed then x else 0) ≡ x
extra_timed true x t = refl
extra_timed false x t = cc

-- arrivals and extra delays sum along each timed chain
pub sums : (flat : Flat) (filled : Filled) → NamesLeaves flat → IsFill flat filled → Fits flat filled
sums flat filled n f i d lt t =
    let chain = get_or flat.chains i d in
    let at : get_or filled.extra i 0 ≡ extra_of flat filled.arrive filled.latency chain =
    ap (λ (xs : List ℕ). get_or xs i 0) f.extra ∙ get_or-map (extra_of flat filled.arrive filled.latency) flat.chains i d 0 lt in
    let is : extra_of flat filled.arrive filled.latency chain ≡ arrives filled.arrive filled.latency chain - departs flat filled.arrive chain =
    extra_timed (is_timed chain) _ t in
    let le : departs flat filled.arrive chain ≤ arrives filled.arrive filled.latency chain =
    none_late flat filled.arrive filled.latency n f.arrivals f.latency i d lt t in
    omega (arith, at, is, le)

extra_other : (timed : Bool) (x : ℕ) → timed ≡ false → (if timed then x else 0) ≡ 0
extra_other true x t = cc
extra_other false x t = refl

-- other chains have no extra delay
pub others : (flat : Flat) (filled : Filled) → IsFill flat filled → OthersHaveNone flat filled
others flat filled f i d lt t =
    let chain = get_or flat.chains i d in
    ap (λ (xs : List ℕ). get_or xs i 0) f.extra ∙ get_or-map (extra_of flat filled.arrive filled.latency) flat.chains i d 0 lt ∙ extra_other (is_timed chain) _ t

-- each positive arrival is the sum along a walk
pub attained : (flat : Flat) (filled : Filled) → IsFill flat filled → IsAttained flat filled
attained flat filled f None pos = f.latency.attained
attained flat filled f (Some leaf) pos = ⊎_elim
    (λ (lt : leaf < length flat.leaves). (f.arrivals leaf lt).attained)
    (λ (ge : length flat.leaves ≤ leaf).
    let n : length filled.arrive ≡ length flat.leaves = f.count in
    let z : get_or filled.arrive leaf 0 ≡ 0 = grind (arith, common_steps) in
    absurd (omega (arith, z, pos)))
    (cases_lt leaf (length flat.leaves))

same : (x y : Option ℕ) → same_leaf x y ≡ true → x ≡ y
same None None e = refl
same None (Some b) e = cc
same (Some a) None e = cc
same (Some a) (Some b) e = let n : a ≡ b = grind (arith, common_steps) in ap (λ (k : ℕ). Some k) n

feeds_parts : (timed a b : Bool) → (timed && (a && b)) ≡ true → (timed ≡ true) × (a ≡ true) × (b ≡ true)
feeds_parts true true true e = (refl, refl, refl)
feeds_parts true true false e = cc
feeds_parts true false b e = cc
feeds_parts false a b e = cc

-- a chain of the list that passes the test, and its place
abbrev Found : (Chain → Bool) → List Chain → Type 0
Found f chains = (chain : Chain) × (i : ℕ) × (i < length chains) × ((d : Chain) → get_or chains i d ≡ chain) × (f chain ≡ true)

found : (f : Chain → Bool) (chains : List Chain) → list_any f chains ≡ true → Found f chains
found f [] h = cc
found f (c ∷ cs) h = ⊎_elim
    (λ (t : f c ≡ true). (c, zero, omega arith, λ d. refl, t))
    (λ (e : f c ≡ false).
    let ih : Found f cs = found f cs (grind (arith, common_steps)) in
    let lt : ih.1 < length cs = ih.2 in
    (ih.0, suc ih.1, omega (arith, lt), ih.3, ih.4))
    (cases_Bool (f c))

-- what fits grows by the latency of a leaf along each chain that it feeds
grows : (flat : Flat) (other : Filled) → Fits flat other → (p : ℕ) (to : Option ℕ) → Feeds flat p to
    → arrival_at other.arrive other.latency (Some p) + latency_of flat p ≤ arrival_at other.arrive other.latency to
grows flat other fits p to h =
    let w : Found (feeds p to) flat.chains = found (feeds p to) flat.chains h in
    let chain = w.0 in
    let is : get_or flat.chains w.1 chain ≡ chain = w.3 chain in
    let parts = feeds_parts (is_timed chain) (same_leaf (leaf_of chain.from.leaf) (Some p)) (same_leaf (leaf_of chain.to.leaf) to) w.4 in
    let from : leaf_of chain.from.leaf ≡ Some p = same (leaf_of chain.from.leaf) (Some p) parts.1 in
    let into : leaf_of chain.to.leaf ≡ to = same (leaf_of chain.to.leaf) to parts.2 in
    let timed : is_timed (get_or flat.chains w.1 chain) ≡ true = rw is parts.0 in
    let sum : departs flat other.arrive chain + get_or other.extra w.1 0 ≡ arrives other.arrive other.latency chain = rw is at (fits w.1 chain w.2 timed) in
    let leaves : departs flat other.arrive chain ≡ get_or other.arrive p 0 + latency_of flat p = ap (departure_at flat other.arrive) from in
    let comes : arrives other.arrive other.latency chain ≡ arrival_at other.arrive other.latency to = ap (arrival_at other.arrive other.latency) into in
    omega (arith, sum, leaves, comes)

below : (flat : Flat) (other : Filled) → Fits flat other → (to : Option ℕ) (x : ℕ) → IsArrival flat to x → x ≤ arrival_at other.arrive other.latency to
below flat other fits to x a =
    let w : IsSumOfWalk flat to x = a.attained in
    let e : sum_by (latency_of flat) w.0 ≡ x = w.2 in
    let l : sum_by (latency_of flat) w.0 ≤ arrival_at other.arrive other.latency to =
    walk_below flat (arrival_at other.arrive other.latency) (grows flat other fits) w.0 to w.1 in
    omega (arith, e, l)

-- arrivals that fit are nowhere smaller
pub least : (flat : Flat) (filled : Filled) → IsFill flat filled → IsLeast flat filled
least flat filled f other fits None = below flat other fits None filled.latency f.latency
least flat filled f other fits (Some leaf) = ⊎_elim
    (λ (lt : leaf < length flat.leaves). below flat other fits (Some leaf) (get_or filled.arrive leaf 0) (f.arrivals leaf lt))
    (λ (ge : length flat.leaves ≤ leaf).
    let n : length filled.arrive ≡ length flat.leaves = f.count in
    let z : get_or filled.arrive leaf 0 ≡ 0 = grind (arith, common_steps) in
    omega (arith, z))
    (cases_lt leaf (length flat.leaves))
