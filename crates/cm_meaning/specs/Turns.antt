-- The order in which leaves take their turns, and the delays that make latencies equal: docs/LANGUAGE.md, "Graphs".
use Rattle.std.specs.Prelude.{ℕ, zero, suc, ◌+◌, ◌-◌, ◌==◌, ◌&&◌, ◌||◌, not, max, Bool, true, false, if◌then◌else◌, List, [], ◌∷◌, ◌++◌, Option, Some, None}
use Rattle.std.specs.List.{list_any, list_all}
use Rattle.cm_base.specs.Parts.{is_stream}
use Rattle.cm_meaning.specs.Chains.{Chain}

-- ---- order

-- whether a point is one of this leaf, and not of another or of the host
abbrev pub is_of : ℕ → Option ℕ → Bool
is_of q None = false
is_of q (Some p) = p == q

abbrev pub is_placed : List ℕ → ℕ → Bool
is_placed placed q = list_any (λ (p : ℕ). p == q) placed

-- from the host, or from a leaf that is placed
abbrev pub is_from : List ℕ → Option ℕ → Bool
is_from placed None = true
is_from placed (Some p) = is_placed placed p

-- a leaf is before another where an undelayed chain of any kind leads from it to that one; here all such leaves are placed
abbrev pub is_ready : List Chain → List ℕ → ℕ → Bool
is_ready chains placed q = list_all (λ (c : Chain). not ((c.delay == 0) && is_of q c.to.leaf) || is_from placed c.from.leaf) chains

-- the first leaf that isn't placed and whose predecessors are all placed
abbrev pub next_leaf : List Chain → List ℕ → List ℕ → Option ℕ
next_leaf chains placed [] = None
next_leaf chains placed (q ∷ leaves) = if not (is_placed placed q) && is_ready chains placed q then Some q else next_leaf chains placed leaves

abbrev pub with_next : List ℕ → Option ℕ → (List ℕ → List ℕ) → List ℕ
with_next placed None go = placed
with_next placed (Some q) go = go (placed ++ q ∷ [])

-- that leaf is placed, as often as this
abbrev pub placed_on : ℕ → List Chain → List ℕ → List ℕ → List ℕ
placed_on zero chains leaves placed = placed
placed_on (suc count) chains leaves placed = with_next placed (next_leaf chains placed leaves) (placed_on count chains leaves)

abbrev pub numbers : ℕ → ℕ → List ℕ
numbers n zero = []
numbers n (suc count) = n ∷ numbers (suc n) count

abbrev pub order_of : List Chain → ℕ → List ℕ
order_of chains count = placed_on count chains (numbers 0 count) []

-- ---- latency

-- latencies are made equal along undelayed chains of streams
abbrev pub is_timed : Chain → Bool
is_timed c = is_stream c.kind && (c.delay == 0)

abbrev pub same_leaf : Option ℕ → Option ℕ → Bool
same_leaf None None = true
same_leaf (Some p) (Some q) = p == q
same_leaf _ _ = false

-- when a stream leaves a leaf; it leaves the host at 0
abbrev pub departure : (ℕ → ℕ) → (Option ℕ → ℕ) → Option ℕ → ℕ
departure latency arrival None = 0
departure latency arrival (Some p) = latency p + arrival (Some p)

abbrev pub greatest : (Chain → Bool) → (Chain → ℕ) → List Chain → ℕ
greatest takes number [] = 0
greatest takes number (c ∷ chains) = if takes c then max (number c) (greatest takes number chains) else greatest takes number chains

-- when a stream arrives at a leaf, or at the outputs of the host: the greatest sum of latencies over walks along such chains
-- that end before it and have at most so many leaves
abbrev pub arrival : ℕ → (ℕ → ℕ) → List Chain → Option ℕ → ℕ
arrival zero latency chains to = 0
arrival (suc most) latency chains to =
    greatest (λ (c : Chain). is_timed c && same_leaf c.to.leaf to) (λ (c : Chain). departure latency (arrival most latency chains) c.from.leaf) chains

-- what is left along a chain between the two
abbrev pub extra_of : ℕ → (ℕ → ℕ) → List Chain → Chain → ℕ
extra_of count latency chains c =
    if is_timed c
    then arrival count latency chains c.to.leaf - departure latency (arrival count latency chains) c.from.leaf
    else 0
