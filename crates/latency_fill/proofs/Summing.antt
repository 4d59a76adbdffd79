-- Arrivals from the arrivals of what feeds a leaf or the host.
use Rattle.std.proofs.Common.{◌≡◌, ◌⊎◌, inl, inr, ℕ, ◌+◌, ◌≤◌, List, [], ◌∷◌, Option, Some, sym, arith}
use Rattle.std.specs.Prelude.{sum_by}
use Rattle.std.proofs.lemmas.List.Sums.{sum_by-cons}
use Rattle.cm_core.specs.declared.flat.Flat.{Flat}
use Rattle.latency_fill.specs.Walks.{latency_of, Feeds, EndsBefore, IsSumOfWalk, IsArrival}

greatest : (flat : Flat) (a : ℕ → ℕ) (to : Option ℕ) (m : ℕ) → ((p : ℕ) → Feeds flat p to → IsArrival flat (Some p) (a p))
    → ((p : ℕ) → Feeds flat p to → a p + latency_of flat p ≤ m) → (walk : List ℕ) → EndsBefore flat walk to → sum_by (latency_of flat) walk ≤ m
greatest flat a to m h up [] w = omega arith
greatest flat a to m h up (p ∷ ps) w =
    let s : sum_by (latency_of flat) (p ∷ ps) ≡ latency_of flat p + sum_by (latency_of flat) ps = sum_by-cons (latency_of flat) p ps in
    let below : sum_by (latency_of flat) ps ≤ a p = (h p w.0).greatest ps w.1 in
    let one : a p + latency_of flat p ≤ m = up p w.0 in
    omega (arith, s, below, one)

attained : (flat : Flat) (a : ℕ → ℕ) (to : Option ℕ) (m : ℕ) → ((p : ℕ) → Feeds flat p to → IsArrival flat (Some p) (a p))
    → (m ≡ 0) ⊎ ((p : ℕ) × (Feeds flat p to) × (a p + latency_of flat p ≡ m)) → IsSumOfWalk flat to m
attained flat a to m h (inl z) = ([], tt, sym z)
attained flat a to m h (inr t) =
    let w : IsSumOfWalk flat (Some t.0) (a t.0) = (h t.0 t.1).attained in
    let s : sum_by (latency_of flat) (t.0 ∷ w.0) ≡ latency_of flat t.0 + sum_by (latency_of flat) w.0 = sum_by-cons (latency_of flat) t.0 w.0 in
    let e : sum_by (latency_of flat) w.0 ≡ a t.0 = w.2 in
    let f : a t.0 + latency_of flat t.0 ≡ m = t.2 in
    (t.0 ∷ w.0, (t.1, w.1), omega (arith, s, e, f))

-- the greatest of what leaves the leaves that feed it is the arrival
pub arrival_is : (flat : Flat) (a : ℕ → ℕ) (to : Option ℕ) (m : ℕ) → ((p : ℕ) → Feeds flat p to → IsArrival flat (Some p) (a p))
    → ((p : ℕ) → Feeds flat p to → a p + latency_of flat p ≤ m)
    → (m ≡ 0) ⊎ ((p : ℕ) × (Feeds flat p to) × (a p + latency_of flat p ≡ m)) → IsArrival flat to m
arrival_is flat a to m h up at = record { attained = attained flat a to m h at; greatest = greatest flat a to m h up }

-- an arrival is no less than what leaves a leaf that feeds it
pub arrival_fits : (flat : Flat) (p : ℕ) (to : Option ℕ) (x y : ℕ) → Feeds flat p to → IsArrival flat (Some p) x → IsArrival flat to y → x + latency_of flat p ≤ y
arrival_fits flat p to x y b hp hq =
    let w : IsSumOfWalk flat (Some p) x = hp.attained in
    let s : sum_by (latency_of flat) (p ∷ w.0) ≡ latency_of flat p + sum_by (latency_of flat) w.0 = sum_by-cons (latency_of flat) p w.0 in
    let e : sum_by (latency_of flat) w.0 ≡ x = w.2 in
    let l : sum_by (latency_of flat) (p ∷ w.0) ≤ y = hq.greatest (p ∷ w.0) (b, w.1) in
    omega (arith, s, e, l)

-- where a bound grows by the latency along each timed chain, no walk sums to more
pub walk_below : (flat : Flat) (b : Option ℕ → ℕ) → ((p : ℕ) (to : Option ℕ) → Feeds flat p to → b (Some p) + latency_of flat p ≤ b to)
    → (walk : List ℕ) (to : Option ℕ) → EndsBefore flat walk to → sum_by (latency_of flat) walk ≤ b to
walk_below flat b h [] to w = omega arith
walk_below flat b h (p ∷ ps) to w =
    let s : sum_by (latency_of flat) (p ∷ ps) ≡ latency_of flat p + sum_by (latency_of flat) ps = sum_by-cons (latency_of flat) p ps in
    let ih : sum_by (latency_of flat) ps ≤ b (Some p) = walk_below flat b h ps (Some p) w.1 in
    let one : b (Some p) + latency_of flat p ≤ b to = h p to w.0 in
    omega (arith, s, ih, one)
