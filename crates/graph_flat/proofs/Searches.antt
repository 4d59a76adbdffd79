-- Steps of a search for routes, and of counting them.
use Rattle.std.proofs.Common.{◌≡◌, ℕ, ◌+◌, ◌<◌, ◌≤◌, Bool, true, false, cond, List, [], ◌∷◌, ◌++◌, length, length-append, get_or, take, reverse, refl, ap, ◌∙◌, sym, arith, All, suc, subst, Option, append-nil}
use Rattle.std.specs.Prelude.{map, filter, sum_by, min, slice_index}
use Rattle.std.specs.List.{flat_map}
use Rattle.std.proofs.lemmas.List.{take_more, map-append}
use Rattle.std.proofs.lemmas.List.Concat.{flat_map-append, length-flat_map}
use Rattle.std.proofs.lemmas.List.Sums.{sum_by-cons, sum_by-append}
use Rattle.std.proofs.lemmas.List.Elements.{All-append}
use Rattle.std.proofs.lemmas.Bool.{ltb-false}
use Rattle.cm_base.specs.declared.place.EndId.{EndId}
use Rattle.cm_core.specs.declared.link.Connection.{Connection}
use Rattle.cm_core.specs.Tree.{is_among}
use Rattle.cm_core.specs.Routes.{Route, leaving, routes_by, routes_from}
use Rattle.graph_flat.specs.declared.paths.Path.{Path}
use Rattle.graph_flat.specs.declared.wires.Wires.{Wires}
use Rattle.graph_flat.specs.Paths.{leap, next_path, path_of, paths_on, steps_from, IsLow, is_live}
use Rattle.graph_flat.specs.Wires.{IsReady}
use Rattle.graph_flat.proofs.Counting.{sum_mapped, count_by_connection}
use Rattle.graph_flat.proofs.Routing.{stable, replaced}
use Rattle.graph_flat.proofs.Leaps.{begins_far, goes_far, steps_far, low_begins, low_goes, below_leaving}

-- one more start
pub begin_more : (n : ℕ) (w : Wires) (r : IsReady n w) (starts : List EndId) (i : ℕ) (old new : List Path) (row : List Connection) (jumps : List (Option Path)) → i < length starts
    → flat_map (paths_on w.connections.items w.targets.items n) old ≡ map path_of (flat_map (routes_from w.connections.items w.targets.items n) (take i starts))
    → new ≡ old ++ map (leap jumps) row → jumps ≡ w.jumps.items → row ≡ filter (is_live w.counts) (leaving w.connections.items (get_or starts i (record { 0 = 0 })))
    → flat_map (paths_on w.connections.items w.targets.items n) new ≡ map path_of (flat_map (routes_from w.connections.items w.targets.items n) (take (i + 1) starts))
begin_more n w r starts i old new row jumps lt h f j is =
    let on : Path → List Path = paths_on w.connections.items w.targets.items n in
    let from : EndId → List Route = routes_from w.connections.items w.targets.items n in
    let e : EndId = get_or starts i (record { 0 = 0 }) in
    let f' : new ≡ old ++ map (leap w.jumps.items) row = f ∙ ap (λ (js : List (Option Path)). old ++ map (leap js) row) j in
    let b : map path_of (from e) ≡ flat_map on (map (leap w.jumps.items) row) = begins_far n w r e row is in
    let t : flat_map from (take (i + 1) starts) ≡ flat_map from (take i starts) ++ from e =
    ap (flat_map from) (take_more starts i (record { 0 = 0 }) lt) ∙ flat_map-append from (take i starts) (e ∷ []) ∙ ap (λ (rs : List Route). flat_map from (take i starts) ++ rs) (append-nil (from e)) in
    ap (flat_map on) f' ∙ flat_map-append on old (map (leap w.jumps.items) row)
    ∙ ap (λ (xs : List Path). xs ++ flat_map on (map (leap w.jumps.items) row)) h
    ∙ ap (λ (xs : List Path). map path_of (flat_map from (take i starts)) ++ xs) (sym b)
    ∙ sym (map-append path_of (flat_map from (take i starts)) (from e)) ∙ ap (map path_of) (sym t)

pub low_more : (n : ℕ) (w : Wires) (r : IsReady n w) (e : EndId) (old new : List Path) (row : List Connection) (jumps : List (Option Path)) → All (IsLow n r.rank) old
    → new ≡ old ++ map (leap jumps) row → jumps ≡ w.jumps.items → row ≡ filter (is_live w.counts) (leaving w.connections.items e) → All (IsLow n r.rank) new
low_more n w r e old new row jumps h f j is =
    let f' : new ≡ old ++ map (leap w.jumps.items) row = f ∙ ap (λ (js : List (Option Path)). old ++ map (leap js) row) j in
    subst (All (IsLow n r.rank)) (sym f') (All-append (IsLow n r.rank) old (map (leap w.jumps.items) row) h (low_begins n w r e row is))

-- a path is replaced by what goes on from it
pub go_on : (n : ℕ) (w : Wires) (r : IsReady n w) (found all stack rest new : List Path) (x : Path) (row : List Connection) (jumps : List (Option Path)) → is_among x.to w.targets.items ≡ false
    → flat_map (paths_on w.connections.items w.targets.items n) stack ++ reverse found ≡ all → stack ≡ rest ++ x ∷ []
    → new ≡ rest ++ map (next_path jumps x) row → jumps ≡ w.jumps.items → row ≡ filter (is_live w.counts) (leaving w.connections.items x.to)
    → flat_map (paths_on w.connections.items w.targets.items n) new ++ reverse found ≡ all
go_on n w r found all stack rest new x row jumps t h e f j is =
    let f' : new ≡ rest ++ map (next_path w.jumps.items x) row = f ∙ ap (λ (js : List (Option Path)). rest ++ map (next_path js x) row) j in
    replaced (paths_on w.connections.items w.targets.items n) found all stack rest new (map (next_path w.jumps.items x) row) x h e f' (sym (goes_far n w r x row t is))

pub low_on : (n : ℕ) (w : Wires) (r : IsReady n w) (rest new : List Path) (x : Path) (row : List Connection) (jumps : List (Option Path)) → All (IsLow n r.rank) rest → IsLow n r.rank x
    → new ≡ rest ++ map (next_path jumps x) row → jumps ≡ w.jumps.items → row ≡ filter (is_live w.counts) (leaving w.connections.items x.to) → All (IsLow n r.rank) new
low_on n w r rest new x row jumps h low f j is =
    let f' : new ≡ rest ++ map (next_path w.jumps.items x) row = f ∙ ap (λ (js : List (Option Path)). rest ++ map (next_path js x) row) j in
    subst (All (IsLow n r.rank)) (sym f') (All-append (IsLow n r.rank) rest (map (next_path w.jumps.items x) row) h (low_goes n w r x row low is))

pub fewer_on : (n : ℕ) (w : Wires) (r : IsReady n w) (stack rest new : List Path) (x : Path) (row : List Connection) (jumps : List (Option Path)) → is_among x.to w.targets.items ≡ false
    → stack ≡ rest ++ x ∷ [] → new ≡ rest ++ map (next_path jumps x) row → jumps ≡ w.jumps.items → row ≡ filter (is_live w.counts) (leaving w.connections.items x.to)
    → sum_by (λ (x : Path). steps_from w.connections.items w.targets.items n x.to) new < sum_by (λ (x : Path). steps_from w.connections.items w.targets.items n x.to) stack
fewer_on n w r stack rest new x row jumps t e f j is =
    let f' : new ≡ rest ++ map (next_path w.jumps.items x) row = f ∙ ap (λ (js : List (Option Path)). rest ++ map (next_path js x) row) j in
    let left : Path → ℕ = λ (x : Path). steps_from w.connections.items w.targets.items n x.to in
    let a : sum_by left new ≡ sum_by left rest + sum_by left (map (next_path w.jumps.items x) row) = ap (sum_by left) f' ∙ sum_by-append left rest (map (next_path w.jumps.items x) row) in
    let b : sum_by left (map (next_path w.jumps.items x) row) ≡ sum_by (λ (c : Connection). steps_from w.connections.items w.targets.items n (leap w.jumps.items c).to) row = sum_mapped left (next_path w.jumps.items x) row in
    let s = steps_far n w r x.to row t is in
    let d : sum_by left stack ≡ sum_by left rest + sum_by left (x ∷ []) = ap (sum_by left) e ∙ sum_by-append left rest (x ∷ []) in
    let o : sum_by left (x ∷ []) ≡ left x + sum_by left [] = sum_by-cons left x [] in
    omega (arith, a, b, s, d, o)

one_held : {X : Type 0} (f g : X → ℕ) (m : ℕ) (b : Bool) (x : X) (xs ys : List X) → f x ≡ min (g x) m → (b ≡ false → f x ≡ 0) → min (sum_by f xs) m ≡ min (sum_by g ys) m → 0 < m
    → min (sum_by f (cond b (x ∷ xs) xs)) m ≡ min (sum_by g (x ∷ ys)) m
one_held f g m true x xs ys h z r pos = let a = sum_by-cons f x xs in let b = sum_by-cons g x ys in omega (arith, a, b, h, r)
one_held f g m false x xs ys h z r pos = let a = z refl in let b = sum_by-cons g x ys in omega (arith, a, b, h, r, pos)

held_sums : {X : Type 0} (f g : X → ℕ) (m : ℕ) (p : X → Bool) (xs : List X) → All (λ (x : X). (f x ≡ min (g x) m) × (p x ≡ false → f x ≡ 0)) xs → 0 < m → min (sum_by f (filter p xs)) m ≡ min (sum_by g xs) m
held_sums f g m p [] h pos = refl
held_sums f g m p (x ∷ xs) h pos =
    let here = h 0 x (omega arith) in
    one_held f g m (p x) x (filter p xs) xs here.0 here.1 (held_sums f g m p xs (λ k d lt. h (suc k) d (omega (arith, lt))) pos) pos

-- the counts of a row are that of the routes from its endpoint
pub row_count : (n : ℕ) (w : Wires) (r : IsReady n w) (e : EndId) (row : List Connection) → row ≡ filter (is_live w.counts) (leaving w.connections.items e)
    → min (sum_by (λ (c : Connection). slice_index w.counts c.to.0) row) 65537 ≡ min (length (routes_from w.connections.items w.targets.items n e)) 65537
row_count n w r e row is =
    let cs = w.connections.items in
    let goals = w.targets.items in
    let f : Connection → ℕ = λ (c : Connection). slice_index w.counts c.to.0 in
    let by : Connection → List Route = λ (c : Connection). routes_by (is_among c.to goals) c (routes_from cs goals n c.to) in
    let g : Connection → ℕ = λ (c : Connection). length (by c) in
    let held = held_sums f g 65537 (is_live w.counts) (leaving cs e)
    (λ k d lt. let b = below_leaving n w r e k d lt in (
      count_by_connection cs goals w.is_target.items n 65537 w.counts r.marks r.counts (get_or (leaving cs e) k d) b.to,
      λ dead. let z : f (get_or (leaving cs e) k d) ≤ 0 = ltb-false 0 (f (get_or (leaving cs e) k d)) dead in omega (arith, z),
    )) (omega arith) in
    let all : length (routes_from cs goals n e) ≡ sum_by g (leaving cs e) = ap length (sym (stable cs goals n r.rank r.falls n e (r.falls.low e.0))) ∙ length-flat_map by (leaving cs e) in
    ap (λ (xs : List Connection). min (sum_by f xs) 65537) is ∙ held ∙ ap (λ (k : ℕ). min k 65537) (sym all)

pub count_more : (f : EndId → List Route) (starts : List EndId) (i old more new : ℕ) → i < length starts → old ≡ min (length (flat_map f (take i starts))) 65537
    → more ≡ min (length (f (get_or starts i (record { 0 = 0 })))) 65537 → new ≡ min (old + more) 65537 → new ≡ min (length (flat_map f (take (i + 1) starts))) 65537
count_more f starts i old more new lt a b d =
    let e : EndId = get_or starts i (record { 0 = 0 }) in
    let t : flat_map f (take (i + 1) starts) ≡ flat_map f (take i starts) ++ f e =
    ap (flat_map f) (take_more starts i (record { 0 = 0 }) lt) ∙ flat_map-append f (take i starts) (e ∷ []) ∙ ap (λ (rs : List Route). flat_map f (take i starts) ++ rs) (append-nil (f e)) in
    let l : length (flat_map f (take (i + 1) starts)) ≡ length (flat_map f (take i starts)) + length (f e) = ap length t ∙ length-append (flat_map f (take i starts)) (f e) in
    omega (arith, l, a, b, d)
