-- Endpoints and instances that are there.
use Rattle.std.proofs.Common.{ℕ, ◌<◌, ◌≤◌, Bool, true, false, List, [], ◌∷◌, length, arith, zero, suc, All, get_or, Option, Some, None, ℤ, pos, negsuc}
use Rattle.std.specs.Prelude.{map, unwrap_or, option_map, slice_get, ◌&&◌, if◌then◌else◌}
use Rattle.std.specs.List.{flat_map, zip}
use Rattle.std.proofs.lemmas.List.Elements.{All-append, All-cons, All-map, All-filter}
use Rattle.cm_base.specs.declared.place.NodeId.{NodeId}
use Rattle.cm_base.specs.declared.place.EndId.{EndId}
use Rattle.cm_core.specs.declared.program.Body.{Body}
use Rattle.cm_core.specs.declared.program.Body.TheVariants as body
use Rattle.cm_core.specs.declared.program.Program.{Program}
use Rattle.cm_core.specs.declared.link.Group.{Group}
use Rattle.cm_core.specs.declared.link.Side.{Side}
use Rattle.cm_core.specs.declared.link.Link.{Link}
use Rattle.cm_core.specs.Tree.{no_node, node_at, leaves_of, leaves_below, leaf_nodes, inputs, outputs, starts, targets}
use Rattle.cm_core.specs.Expanded.{no_group, group_at, picked, is_spread, end_id, ends_of, delay_of, pairs, connection_of, expanded, connections}
use Rattle.cm_core.specs.Consistent.{IsConsistent, IsNode, IsGroup, IsSide, IsLink, HasBody}
use Rattle.cm_core.specs.GraphFaults.{IsDelay}
use Rattle.graph_flat.specs.Paths.{IsBelow}
use Rattle.graph_flat.specs.Sound.{IsSoundLink}
use Rattle.std.proofs.lemmas.Int.{ints}
use Rattle.graph_flat.proofs.SoundLinks.{sound_delay}

none_of : {X : Type 0} (P : X → Type 0) → All P []
none_of P k d lt = absurd (omega (arith, lt))

pub head_of : {X : Type 0} (P : X → Type 0) (x : X) (xs : List X) → All P (x ∷ xs) → P x
head_of P x xs h = h zero x (omega arith)

pub tail_of : {X : Type 0} (P : X → Type 0) (x : X) (xs : List X) → All P (x ∷ xs) → All P xs
tail_of P x xs h k d lt = h (suc k) d (omega (arith, lt))

pub all_pieces : {X A : Type 0} (P : X → Type 0) (Q : A → Type 0) (f : X → List A) (xs : List X) → ((x : X) → P x → All Q (f x)) → All P xs → All Q (flat_map f xs)
all_pieces P Q f [] h all = none_of Q
all_pieces P Q f (x ∷ xs) h all = All-append Q (f x) (flat_map f xs) (h x (head_of P x xs all)) (all_pieces P Q f xs h (tail_of P x xs all))

leaves_inside : (p : Program) (below : NodeId → List NodeId) (ends : List EndId) (n : NodeId) (b : Body) → n.0 < length p.nodes → HasBody p ends b
    → ((m : NodeId) → m.0 < length p.nodes → All (λ (m : NodeId). m.0 < length p.nodes) (below m)) → All (λ (m : NodeId). m.0 < length p.nodes) (leaves_of below n b)
leaves_inside p below ends n (body.Leaf u) lt has h = All-cons (λ (m : NodeId). m.0 < length p.nodes) n [] lt (none_of (λ (m : NodeId). m.0 < length p.nodes))
leaves_inside p below ends n (body.Graph ns) lt has h = all_pieces (λ (m : NodeId). m.0 < length p.nodes) (λ (m : NodeId). m.0 < length p.nodes) below ns h has

below_inside : (p : Program) → IsConsistent p → (d : ℕ) (n : NodeId) → n.0 < length p.nodes → All (λ (m : NodeId). m.0 < length p.nodes) (leaves_below p d n)
below_inside p c zero n lt = none_of (λ (m : NodeId). m.0 < length p.nodes)
below_inside p c (suc d) n lt =
    let h : IsNode p (node_at p n) = c.nodes n.0 no_node lt in
    leaves_inside p (leaves_below p d) (node_at p n).ends n (node_at p n).body lt h.inside (λ m lt'. below_inside p c d m lt')

-- the leaves are there
pub leaves_there : (p : Program) → IsConsistent p → All (λ (m : NodeId). m.0 < length p.nodes) (leaf_nodes p)
leaves_there p c = below_inside p c (length p.nodes) p.main c.main

pub ends_there : (p : Program) → IsConsistent p → (n : NodeId) → n.0 < length p.nodes → All (λ (e : EndId). e.0 < length p.ends) (node_at p n).ends
ends_there p c n lt = let h : IsNode p (node_at p n) = c.nodes n.0 no_node lt in h.ends

pub starts_there : (p : Program) → IsConsistent p → All (λ (e : EndId). e.0 < length p.ends) (starts p)
starts_there p c = All-append (λ (e : EndId). e.0 < length p.ends) (inputs p p.main) (flat_map (outputs p) (leaf_nodes p))
    (All-filter _ (λ (e : EndId). e.0 < length p.ends) (node_at p p.main).ends (ends_there p c p.main c.main))
    (all_pieces (λ (m : NodeId). m.0 < length p.nodes) (λ (e : EndId). e.0 < length p.ends) (outputs p) (leaf_nodes p)
    (λ n lt. All-filter _ (λ (e : EndId). e.0 < length p.ends) (node_at p n).ends (ends_there p c n lt)) (leaves_there p c))

pub targets_there : (p : Program) → IsConsistent p → All (λ (e : EndId). e.0 < length p.ends) (targets p)
targets_there p c = All-append (λ (e : EndId). e.0 < length p.ends) (outputs p p.main) (flat_map (inputs p) (leaf_nodes p))
    (All-filter _ (λ (e : EndId). e.0 < length p.ends) (node_at p p.main).ends (ends_there p c p.main c.main))
    (all_pieces (λ (m : NodeId). m.0 < length p.nodes) (λ (e : EndId). e.0 < length p.ends) (inputs p) (leaf_nodes p)
    (λ n lt. All-filter _ (λ (e : EndId). e.0 < length p.ends) (node_at p n).ends (ends_there p c n lt)) (leaves_there p c))

all_zipped : {X : Type 0} (Q : X → Type 0) (R : X × X → Type 0) → ((x y : X) → Q x → Q y → R (x, y)) → (xs ys : List X) → All Q xs → All Q ys → All R (zip xs ys)
all_zipped Q R h [] ys a b = none_of R
all_zipped Q R h (x ∷ xs) [] a b = none_of R
all_zipped Q R h (x ∷ xs) (y ∷ ys) a b = All-cons R (x, y) (zip xs ys) (h x y (head_of Q x xs a) (head_of Q y ys b)) (all_zipped Q R h xs ys (tail_of Q x xs a) (tail_of Q y ys b))

all_pairs : (Q : EndId → Type 0) (R : EndId × EndId → Type 0) → ((x y : EndId) → Q x → Q y → R (x, y)) → (b : Bool) (xs ys : List EndId) → All Q xs → All Q ys → All R (pairs b xs ys)
all_pairs Q R h true xs ys a b = all_zipped Q R h xs ys a b
all_pairs Q R h false xs ys a b = all_pieces Q R (λ x. map (λ y. (x, y)) ys) xs (λ x q. All-map R (λ (y : EndId). (x, y)) ys (λ k d lt. h x _ q (b k d lt))) a

got : (P : NodeId → Type 0) (ns : List NodeId) (i : ℕ) → All P ns → All P (unwrap_or (option_map (λ (n : NodeId). n ∷ []) (slice_get ns i)) [])
got P [] i h = none_of P
got P (n ∷ ns) zero h = All-cons P n [] (head_of P n ns h) (none_of P)
got P (n ∷ ns) (suc i) h = got P ns i (tail_of P n ns h)

by_array : (P : NodeId → Type 0) (b : Bool) (ns : List NodeId) (i : ℕ) → All P ns → All P (unwrap_or (option_map (λ (n : NodeId). n ∷ []) (if b then slice_get ns i else None)) [])
by_array P true ns i h = got P ns i h
by_array P false ns i h = none_of P

picked_inside : (P : NodeId → Type 0) (g : Group) (i : Option ℤ) → All P g.nodes → All P (unwrap_or (picked g i) [])
picked_inside P g None h = h
picked_inside P g (Some (negsuc i)) h = none_of P
picked_inside P g (Some (pos i)) h = by_array P g.array g.nodes i h

-- what holds of each end of the instances of a group holds of the ends of a point
side_there : (p : Program) → IsConsistent p → (s : Side) → IsSide p s → All (λ (e : EndId). e.0 < length p.ends) (ends_of p s)
side_there p c s h =
    let g : IsGroup p (group_at p s) = c.groups s.group no_group h.group in
    let each : All (λ (n : NodeId). (end_id p s.end n).0 < length p.ends) (group_at p s).nodes =
    λ k d lt. ends_there p c (get_or (group_at p s).nodes k d) (g.within k d lt) s.end (record { 0 = 0 }) (h.end k d lt) in
    All-map (λ (e : EndId). e.0 < length p.ends) (end_id p s.end) (unwrap_or (picked (group_at p s) s.index) [])
    (picked_inside (λ (n : NodeId). (end_id p s.end n).0 < length p.ends) (group_at p s) s.index each)

low_delay : (d : Option ℤ) → IsDelay d → delay_of d ≤ 1048576
low_delay None h = omega arith
low_delay (Some (pos n)) h = let u = h.1 in omega (arith, ints, u)
low_delay (Some (negsuc n)) h = omega arith

expanded_there : (p : Program) → IsConsistent p → (l : Link) → IsLink p l → IsSoundLink p l → All (IsBelow (length p.ends)) (expanded p l)
expanded_there p c l h s = All-map (IsBelow (length p.ends)) (connection_of l) (pairs (is_spread p l.from && is_spread p l.to) (ends_of p l.from) (ends_of p l.to))
    (all_pairs (λ (e : EndId). e.0 < length p.ends) (λ (ends : EndId × EndId). IsBelow (length p.ends) (connection_of l ends))
    (λ x y a b. record { from = a; to = b; delay = low_delay l.delay (sound_delay p l s) })
    (is_spread p l.from && is_spread p l.to) (ends_of p l.from) (ends_of p l.to) (side_there p c l.from h.from) (side_there p c l.to h.to))

-- the connections are there
pub connections_there : (p : Program) → IsConsistent p → All (IsSoundLink p) p.links → All (IsBelow (length p.ends)) (connections p)
connections_there p c s = all_pieces (λ (l : Link). IsLink p l × IsSoundLink p l) (IsBelow (length p.ends)) (expanded p) p.links
    (λ l h. expanded_there p c l h.0 h.1) (λ k d lt. (c.links k d lt, s k d lt))
