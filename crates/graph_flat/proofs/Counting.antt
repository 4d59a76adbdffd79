-- Counts of paths over the edges of connections, and the routes that they count.
use Rattle.std.proofs.Common.{◌≡◌, ℕ, ◌+◌, ◌<◌, Bool, true, false, cond, List, [], ◌∷◌, length, refl, ap, ◌∙◌, sym, arith, All, zero, suc, subst}
use Rattle.std.specs.Prelude.{◌==◌, map, sum_by, Contains, min, slice_index, slice_index_or, if◌then◌else◌, Some, None}
use Rattle.std.specs.List.{cons_option}
use Rattle.std.proofs.lemmas.List.{length-map}
use Rattle.std.proofs.lemmas.List.Concat.{length-flat_map}
use Rattle.std.proofs.lemmas.List.Sums.{sum_by-cons}
use Rattle.std.proofs.lemmas.Grind.{common_steps}
use Rattle.cm_base.specs.declared.place.EndId.{EndId}
use Rattle.cm_core.specs.declared.link.Connection.{Connection}
use Rattle.cm_core.specs.Tree.{is_among}
use Rattle.cm_core.specs.Routes.{Route, with_first, leaving, routes_by, routes_from}
use Rattle.graph_search.specs.Edges.{IsBefore}
use Rattle.graph_search.specs.Orders.{IsRanking}
use Rattle.graph_search.specs.Counts.{targets}
use Rattle.graph_search.specs.Paths.{counted, path_count, ArePathCounts}
use Rattle.graph_flat.specs.Paths.{Falls}
use Rattle.graph_flat.specs.Edges.{edge_of}
use Rattle.graph_flat.proofs.Stack.{sum_agree}

target_by : (b : Bool) (t : ℕ) (xs : List Connection) (c : Connection) (ts : List ℕ) → c.to.0 ≡ t → ts ≡ map (λ (c : Connection). c.to.0) xs → cons_option (if b then Some t else None) ts ≡ map (λ (c : Connection). c.to.0) (cond b (c ∷ xs) xs)
target_by true t xs c ts e h = ap (λ (k : ℕ). k ∷ ts) (sym e) ∙ ap (λ (ks : List ℕ). c.to.0 ∷ ks) h
target_by false t xs c ts e h = h

-- the targets of the edges are where the connections that leave an endpoint lead
targets_are : (cs : List Connection) (e : EndId) → targets (map edge_of cs) e.0 ≡ map (λ (c : Connection). c.to.0) (leaving cs e)
targets_are [] e = refl
targets_are (c ∷ cs) e = target_by (c.from.0 == e.0) c.to.0 (leaving cs e) c (targets (map edge_of cs) e.0) refl (targets_are cs e)

pub sum_mapped : {X Y : Type 0} (f : Y → ℕ) (g : X → Y) (xs : List X) → sum_by f (map g xs) ≡ sum_by (λ x. f (g x)) xs
sum_mapped f g [] = refl
sum_mapped f g (x ∷ xs) = sum_by-cons f (g x) (map g xs) ∙ ap (λ (k : ℕ). f (g x) + k) (sum_mapped f g xs) ∙ sym (sum_by-cons (λ x. f (g x)) x xs)

length_by : (b : Bool) (c : Connection) (rs : List Route) → counted b (length rs) ≡ length (routes_by b c rs)
length_by true c rs = refl
length_by false c rs = sym (length-map rs (with_first c))

-- a count of paths is that of routes, or 1 at a target
counts_are : (cs : List Connection) (goals : List EndId) (marks : List Bool) → ((e : EndId) → slice_index_or marks e.0 false ≡ is_among e goals) → (d : ℕ) (e : EndId)
    → path_count (map edge_of cs) marks d e.0 ≡ counted (is_among e goals) (length (routes_from cs goals d e))
counts_are cs goals marks h zero e = ap (λ (b : Bool). counted b 0) (h e)
counts_are cs goals marks h (suc d) e =
    ap (λ (b : Bool). counted b (sum_by (path_count (map edge_of cs) marks d) (targets (map edge_of cs) e.0))) (h e)
    ∙ ap (counted (is_among e goals)) (ap (sum_by (path_count (map edge_of cs) marks d)) (targets_are cs e)
    ∙ sum_mapped (path_count (map edge_of cs) marks d) (λ (c : Connection). c.to.0) (leaving cs e)
    ∙ sum_agree (λ (c : Connection). path_count (map edge_of cs) marks d c.to.0) (λ (c : Connection). length (routes_by (is_among c.to goals) c (routes_from cs goals d c.to))) (leaving cs e)
    (λ c m. counts_are cs goals marks h d c.to ∙ length_by (is_among c.to goals) c (routes_from cs goals d c.to))
    ∙ sym (length-flat_map (λ (c : Connection). routes_by (is_among c.to goals) c (routes_from cs goals d c.to)) (leaving cs e)))

nothing : (b : Bool) (rs : List Route) → counted b (length rs) ≡ 0 → (b ≡ false) × (rs ≡ [])
nothing true rs h = absurd (omega (arith, h))
nothing false [] h = (refl, refl)
nothing false (r ∷ rs) h = absurd (omega (arith, h))

pub contains_all : {X : Type 0} (P : X → Type 0) (xs : List X) (x : X) → All P xs → Contains xs x → P x
contains_all P xs x h (k, lt, e) = subst P e (h k x lt)

-- held at 1 or more, a count of 0 tells that there is no route
pub dead_told : (cs : List Connection) (goals : List EndId) (marks : List Bool) (n limit : ℕ) (counts : List ℕ) → ((e : EndId) → slice_index_or marks e.0 false ≡ is_among e goals) → 0 < limit
    → ArePathCounts (map edge_of cs) marks n limit counts → (e : EndId) → e.0 < n → slice_index counts e.0 ≡ 0 → (is_among e goals ≡ false) × (routes_from cs goals n e ≡ [])
dead_told cs goals marks n limit counts h pos is e lt z =
    let each : slice_index counts e.0 ≡ min (path_count (map edge_of cs) marks n e.0) limit = is.each e.0 n lt (omega arith) in
    let none : path_count (map edge_of cs) marks n e.0 ≡ 0 = omega (arith, each, z, pos) in
    nothing (is_among e goals) (routes_from cs goals n e) (sym (counts_are cs goals marks h n e) ∙ none)

-- a count of routes by a connection
pub count_by_connection : (cs : List Connection) (goals : List EndId) (marks : List Bool) (n limit : ℕ) (counts : List ℕ) → ((e : EndId) → slice_index_or marks e.0 false ≡ is_among e goals)
    → ArePathCounts (map edge_of cs) marks n limit counts → (c : Connection) → c.to.0 < n → slice_index counts c.to.0 ≡ min (length (routes_by (is_among c.to goals) c (routes_from cs goals n c.to))) limit
count_by_connection cs goals marks n limit counts h is c lt =
    let each : slice_index counts c.to.0 ≡ min (path_count (map edge_of cs) marks n c.to.0) limit = is.each c.to.0 n lt (omega arith) in
    each ∙ ap (λ (k : ℕ). min k limit) (counts_are cs goals marks h n c.to ∙ length_by (is_among c.to goals) c (routes_from cs goals n c.to))

-- a connection is an edge
pub edge_before : (cs : List Connection) (c : Connection) → Contains cs c → IsBefore (map edge_of cs) c.from.0 c.to.0
edge_before [] c (k, lt, e) = absurd (omega (arith, lt))
edge_before (x ∷ cs) c (zero, lt, e) = let f : x ≡ c = e in subst (λ (y : Connection). IsBefore (map edge_of (x ∷ cs)) y.from.0 y.to.0) f (grind (arith, common_steps))
edge_before (x ∷ cs) c (suc k, lt, e) = let m : IsBefore (map edge_of cs) c.from.0 c.to.0 = edge_before cs c (k, (omega (arith, lt)), e) in grind (arith, common_steps, m)

-- a ranking of the edges falls along each connection
pub ranks_fall : (cs : List Connection) (n : ℕ) (ranks : List ℕ) → IsRanking (map edge_of cs) n ranks → Falls cs n (slice_index ranks)
ranks_fall cs n ranks h = record { falls = λ c m. h.falls c.from.0 c.to.0 (edge_before cs c m); low = h.below }
