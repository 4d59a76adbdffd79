-- The leaves of the chains are leaves of the program, and these are few and of small latencies.
use Rattle.std.proofs.Common.{◌≡◌, ℕ, ◌<◌, ◌≤◌, Bool, true, false, cond, List, [], ◌∷◌, length, refl, ap, sym, arith, All, zero, suc, subst, Option, Some, None, ltb}
use Rattle.std.specs.Prelude.{map, option_map, unwrap_or, position, slice_get, if◌then◌else◌}
use Rattle.std.specs.List.{position_or_len}
use Rattle.std.proofs.lemmas.List.{length-map}
use Rattle.std.proofs.lemmas.List.Elements.{All-map}
use Rattle.std.proofs.lemmas.Bool.{ltb-true}
use Rattle.cm_base.specs.declared.place.EndId.{EndId}
use Rattle.cm_base.specs.declared.place.NodeId.{NodeId}
use Rattle.cm_core.specs.declared.program.Body.{Body}
use Rattle.cm_core.specs.declared.program.Body.TheVariants as body
use Rattle.cm_core.specs.declared.program.Program.{Program}
use Rattle.cm_core.specs.declared.unit.Unit.{Unit as TheUnit}
use Rattle.cm_core.specs.declared.flat.Chain.{Chain}
use Rattle.cm_core.specs.declared.flat.Leaf.{Leaf}
use Rattle.cm_core.specs.Consistent.{IsConsistent}
use Rattle.cm_core.specs.Flats.{IsLeafBelow, NamesLeaves, IsSmall}
use Rattle.cm_core.specs.Tree.{node_at, leaf_nodes, leaf_of, unit_of, starts}
use Rattle.cm_core.specs.Routes.{routes, chain_of, direct, chains_by, chains, flat_of, host_point, only_leaf}
use Rattle.graph_flat.specs.Ends.{leaf_id}
use Rattle.graph_flat.proofs.Below.{unrolled_leaf}

below_by : (k n : ℕ) (b : Bool) → ltb k n ≡ b → IsLeafBelow n (option_map leaf_id (cond b (Some k) None))
below_by k n true e = ltb-true k n e
below_by k n false e = tt

below_position : (p : NodeId → Bool) (xs : List NodeId) → IsLeafBelow (length xs) (option_map leaf_id (position p xs))
below_position p xs = below_by (position_or_len p xs) (length xs) (ltb (position_or_len p xs) (length xs)) refl

abbrev BothBelow : ℕ → Chain → Type 0
BothBelow n chain = IsLeafBelow n chain.from.leaf × IsLeafBelow n chain.to.leaf

direct_below : (n : ℕ) (b : Bool) (e : EndId) → 0 < n → IsLeafBelow n (if b then host_point e else only_leaf e).leaf × IsLeafBelow n (if b then only_leaf e else host_point e).leaf
direct_below n true e pos = (tt, pos)
direct_below n false e pos = (pos, tt)

names_by : (p : Program) → IsConsistent p → (b : Body) → (node_at p p.main).body ≡ b → All (BothBelow (length (leaf_nodes p))) (chains_by p b)
names_by p c (body.Leaf u) e =
    let one : length (leaf_nodes p) ≡ 1 = ap length (unrolled_leaf p c.tree p.main u e) in
    All-map (BothBelow (length (leaf_nodes p))) (direct p) (starts p) (λ k d lt. direct_below (length (leaf_nodes p)) _ _ (omega (arith, one)))
names_by p c (body.Graph ns) e =
    All-map (BothBelow (length (leaf_nodes p))) (chain_of p) (routes p) (λ k d lt. (below_position _ (leaf_nodes p), below_position _ (leaf_nodes p)))

pub names_leaves : (p : Program) → IsConsistent p → NamesLeaves (flat_of p)
names_leaves p c =
    let few : length (map (leaf_of p) (leaf_nodes p)) ≡ length (leaf_nodes p) = length-map (leaf_nodes p) (leaf_of p) in
    subst (λ (n : ℕ). All (BothBelow n) (chains p)) (sym few) (names_by p c (node_at p p.main).body refl)

latency_by : (o : Option TheUnit) → ((u : TheUnit) → o ≡ Some u → u.latency ≤ 65536) → unwrap_or (option_map (λ (u : TheUnit). u.latency) o) 0 ≤ 65536
latency_by None h = omega arith
latency_by (Some u) h = h u refl

all_got : {X : Type 0} (P : X → Type 0) (xs : List X) (i : ℕ) (x : X) → All P xs → slice_get xs i ≡ Some x → P x
all_got P [] i x h e = absurd (let f : None ≡ Some x = e in cc)
all_got P (y ∷ xs) zero x h e = let f : Some y ≡ Some x = e in let g : y ≡ x = cc in subst P g (h 0 y (omega arith))
all_got P (y ∷ xs) (suc i) x h e = all_got P xs i x (λ k d lt. h (suc k) d (omega (arith, lt))) e

pub is_small : (p : Program) → IsConsistent p → length (leaf_nodes p) ≤ 4096 → IsSmall (flat_of p)
is_small p c few = (
  (let l : length (map (leaf_of p) (leaf_nodes p)) ≡ length (leaf_nodes p) = length-map (leaf_nodes p) (leaf_of p) in omega (arith, l, few)),
  All-map (λ (leaf : Leaf). leaf.latency ≤ 65536) (leaf_of p) (leaf_nodes p)
      (λ k d lt. latency_by (slice_get p.units (unit_of (node_at p _).body)) (λ u e. all_got (λ (u : TheUnit). u.latency ≤ 65536) p.units _ u c.latencies e)),
)

pub names_at : (p : Program) → IsConsistent p → (leaves : List Leaf) (cs : List Chain) → leaves ≡ map (leaf_of p) (leaf_nodes p) → cs ≡ chains p → All (BothBelow (length leaves)) cs
names_at p c leaves cs a b = subst (λ (ls : List Leaf). All (BothBelow (length ls)) cs) (sym a) (subst (All (BothBelow (length (map (leaf_of p) (leaf_nodes p))))) (sym b) (names_leaves p c))

pub small_at : (p : Program) → IsConsistent p → (leaves : List Leaf) → leaves ≡ map (leaf_of p) (leaf_nodes p) → length (leaf_nodes p) ≤ 4096 → (length leaves ≤ 4096) × All (λ (leaf : Leaf). leaf.latency ≤ 65536) leaves
small_at p c leaves a few = subst (λ (ls : List Leaf). (length ls ≤ 4096) × All (λ (leaf : Leaf). leaf.latency ≤ 65536) ls) (sym a) (is_small p c few)
