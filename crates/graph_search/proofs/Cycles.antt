use Rattle.std.proofs.Common.{◌≡◌, ℕ, ◌+◌, ◌<◌, ◌-◌, true, false, cond, not, List, length, get_or, take, refl, arith, nat_eq, ⊎_elim, set}
use Rattle.std.specs.Prelude.{◌==◌, ◌&&◌}
use Rattle.std.specs.List.{IsDistinct}
use Rattle.std.proofs.lemmas.List.Sums.{sum_by_more}
use Rattle.std.proofs.lemmas.List.Folds.{list_any_at}
use Rattle.std.proofs.lemmas.Bool.{cases_eq}
use Rattle.std.proofs.lemmas.Grind.{common_steps}
use Rattle.graph_search.specs.Orders.{unmet_of, IsCycle}
use Rattle.graph_search.specs.Edges.{AreWithin, member, IsBefore}
use Rattle.graph_search.specs.Counts.{Blocks}
use Rattle.graph_search.specs.declared.edges.Edge.{Edge}

-- one more edge of the counts
pub unmet_next : (es : List Edge) (ps : List ℕ) (i q : ℕ) (d : Edge) → i < length es → unmet_of (take (i + 1) es) ps q ≡ unmet_of (take i es) ps q + cond (((get_or es i d).to == q) && not (member (get_or es i d).from ps)) 1 0
unmet_next es ps i q d h = sum_by_more _ es i d h

both_equal : (a b p q : ℕ) → a ≡ p → b ≡ q → ((a == p) && (b == q)) ≡ true
both_equal a b p q e f = grind (arith)

-- the edge at i leads from its one end to the other
pub edge_at : (es : List Edge) (i p q : ℕ) (d : Edge) → i < length es → (get_or es i d).from ≡ p → (get_or es i d).to ≡ q → IsBefore es p q
edge_at es i p q d h e f = list_any_at (λ (x : Edge). (x.from == p) && (x.to == q)) es i d h (both_equal _ _ p q e f)

pub blocks_at : (es : List Edge) (n : ℕ) (ps : List ℕ) (p q p' : ℕ) → p' ≡ p → Blocks es n ps p q → Blocks es n ps p' q
blocks_at es n ps p q p' e h = rw e h

-- an edge from an unplaced node gives a blocker
pub blocks_yes : (es : List Edge) (n : ℕ) (ps : List ℕ) (i : ℕ) (bs : List ℕ) (q : ℕ) (d : Edge) → i < length es → AreWithin n es → length bs ≡ n
    → member (get_or es i d).from ps ≡ false → (0 < unmet_of (take i es) ps q → Blocks es n ps (get_or bs q 0) q)
    → 0 < unmet_of (take (i + 1) es) ps q → Blocks es n ps (get_or (set bs (get_or es i d).to (get_or es i d).from) q 0) q
blocks_yes es n ps i bs q d lt w len out h pos = ⊎_elim
    (λ (e : (get_or es i d).to ≡ q).
    let to_lt : (get_or es i d).to < n = (w i d lt).1 in
    let f : get_or (set bs (get_or es i d).to (get_or es i d).from) q 0 ≡ (get_or es i d).from = grind (arith, common_steps) in
    blocks_at es n ps (get_or es i d).from q _ f ((w i d lt).0, out, edge_at es i _ q d lt refl e))
    (λ (ne : (get_or es i d).to ≡ q → ⊥).
    let f : get_or (set bs (get_or es i d).to (get_or es i d).from) q 0 ≡ get_or bs q 0 = grind (arith, common_steps) in
    let p : 0 < unmet_of (take i es) ps q = grind (arith, common_steps, unmet_next es ps i q d lt) in
    blocks_at es n ps (get_or bs q 0) q _ f (h p))
    (cases_eq (get_or es i d).to q)

-- an edge from a placed node needs none
pub blocks_no : (es : List Edge) (ps : List ℕ) (i : ℕ) (q : ℕ) (d : Edge) → i < length es → member (get_or es i d).from ps ≡ true → 0 < unmet_of (take (i + 1) es) ps q → 0 < unmet_of (take i es) ps q
blocks_no es ps i q d lt in' pos = grind (arith, common_steps, unmet_next es ps i q d lt)

-- from an unplaced node the walk goes to an unplaced node
pub stays : (es : List Edge) (n : ℕ) (ps us bs : List ℕ) → ((q : ℕ) → get_or us q 0 ≡ unmet_of es ps q) → ((q : ℕ) → q < n → (get_or us q 0 == 0) ≡ member q ps)
    → ((q : ℕ) → 0 < unmet_of es ps q → Blocks es n ps (get_or bs q 0) q) → (q : ℕ) → 0 < get_or us q 0 → (get_or bs q 0 < n) × (0 < get_or us (get_or bs q 0) 0)
stays es n ps us bs counts all blocks q pos =
    let b = blocks q (rw (← counts q) pos) in
    let a = all (get_or bs q 0) b.0 in
    let out : member (get_or bs q 0) ps ≡ false = b.1 in
    (b.0, grind (arith, common_steps, a, out))

is_before : (es : List Edge) (p p' q : ℕ) → p ≡ p' → IsBefore es p q → IsBefore es p' q
is_before es p p' q e h = rw (← e) h

-- a closed walk back along blockers is a cycle
pub cycle_is : (es : List Edge) (n : ℕ) (ps us bs cs : List ℕ) → ((q : ℕ) → get_or us q 0 ≡ unmet_of es ps q)
    → ((q : ℕ) → 0 < unmet_of es ps q → Blocks es n ps (get_or bs q 0) q)
    → (0 < length cs) × IsDistinct nat_eq cs
    → ((i : ℕ) → i < length cs → 0 < get_or us (get_or cs i 0) 0)
    → ((i : ℕ) → i + 1 < length cs → get_or bs (get_or cs (i + 1) 0) 0 ≡ get_or cs i 0)
    → get_or bs (get_or cs 0 0) 0 ≡ get_or cs (length cs - 1) 0
    → IsCycle es cs
cycle_is es n ps us bs cs counts blocks d blocked steps closes = record {
  some = d.0;
  distinct = d.1;
  steps = λ i lt. is_before es _ _ _ (steps i lt) (blocks (get_or cs (i + 1) 0) (rw (← counts (get_or cs (i + 1) 0)) (blocked (i + 1) lt))).2;
  closes = is_before es _ _ _ closes (blocks (get_or cs 0 0) (rw (← counts (get_or cs 0 0)) (blocked 0 d.0))).2;
}
