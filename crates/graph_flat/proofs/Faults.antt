-- Faults of chains, and that there are none.
use Rattle.std.proofs.Common.{◌≡◌, ℕ, ◌<◌, ◌≤◌, Bool, true, false, List, [], ◌∷◌, length, refl, ap, ◌∙◌, sym, arith, All, zero, suc, subst, Some, None, ⊎_elim}
use Rattle.std.specs.Prelude.{◌==◌, ◌&&◌, ◌≢◌, map, slice_get, Contains}
use Rattle.std.specs.List.{flat_map}
use Rattle.std.proofs.lemmas.List.{length-map}
use Rattle.std.proofs.lemmas.List.Elements.{All-map, All-cons, All-filter}
use Rattle.std.proofs.lemmas.Bool.{eqb-true, cases_lt}
use Rattle.std.proofs.lemmas.Grind.{common_steps}
use Rattle.cm_base.specs.declared.host.Kind.{Kind}
use Rattle.cm_base.specs.declared.host.Kind.TheVariants.{Stream, Value, Event}
use Rattle.cm_base.specs.declared.place.EndId.{EndId}
use Rattle.cm_base.specs.declared.place.Place.{Place}
use Rattle.cm_core.specs.declared.program.Body.{Body}
use Rattle.cm_core.specs.declared.program.Body.TheVariants as body
use Rattle.cm_core.specs.declared.program.Program.{Program}
use Rattle.cm_core.specs.declared.link.Connection.{Connection}
use Rattle.cm_core.specs.Consistent.{IsConsistent, is_graph}
use Rattle.cm_core.specs.Expanded.{connections, expanded}
use Rattle.cm_core.specs.Tree.{node_at, end_at, is_among, starts, targets}
use Rattle.cm_core.specs.Routes.{Route, last_of, with_first, leaving, routes_by, routes_from, routes, chain_of, direct, chains_by, chains}
use Rattle.cm_core.specs.GraphFaults.{IsValueSources}
use Rattle.graph_flat.specs.declared.paths.Path.{Path}
use Rattle.graph_flat.specs.declared.wires.Wires.{Wires}
use Rattle.graph_flat.specs.Paths.{path_of, IsBelow}
use Rattle.graph_flat.specs.Shared.{is_value, takes, AreApart, AreShared}
use Rattle.graph_flat.specs.Chains.{HasSoundChains, HasSoundRoutes}
use Rattle.graph_flat.proofs.Every.{all_pieces}

pub routes_are : (p : Program) (w : Wires) (es : List EndId) → w.connections.items ≡ connections p → w.targets.items ≡ targets p → length w.rows.items ≡ length p.ends → es ≡ starts p
    → flat_map (routes_from w.connections.items w.targets.items (length w.rows.items)) es ≡ routes p
routes_are p w es a b d e =
    ap (λ (cs : List Connection). flat_map (routes_from cs w.targets.items (length w.rows.items)) es) a
    ∙ ap (λ (goals : List EndId). flat_map (routes_from (connections p) goals (length w.rows.items)) es) b
    ∙ ap (λ (n : ℕ). flat_map (routes_from (connections p) (targets p) n) es) d
    ∙ ap (flat_map (routes_from (connections p) (targets p) (length p.ends))) e

graph_chains : (p : Program) (b : Body) → is_graph b ≡ true → chains_by p b ≡ map (chain_of p) (routes p)
graph_chains p (body.Leaf u) h = absurd (let f : false ≡ true = h in cc)
graph_chains p (body.Graph ns) h = refl

pub chains_routed : (p : Program) → is_graph (node_at p p.main).body ≡ true → chains p ≡ map (chain_of p) (routes p)
chains_routed p h = graph_chains p (node_at p p.main).body h

leaf_chains : (p : Program) (b : Body) → is_graph b ≡ false → chains_by p b ≡ map (direct p) (starts p)
leaf_chains p (body.Leaf u) h = refl
leaf_chains p (body.Graph ns) h = absurd (let f : true ≡ false = h in cc)

pub chains_direct : (p : Program) → is_graph (node_at p p.main).body ≡ false → chains p ≡ map (direct p) (starts p)
chains_direct p h = leaf_chains p (node_at p p.main).body h

pub many_routed : (p : Program) → is_graph (node_at p p.main).body ≡ true → 65536 < length (routes p) → 65536 < length (chains p)
many_routed p h lt = let l = ap length (chains_routed p h) ∙ length-map (routes p) (chain_of p) in omega (arith, l, lt)

pub many_direct : (p : Program) → is_graph (node_at p p.main).body ≡ false → 65536 < length (starts p) → 65536 < length (chains p)
many_direct p h lt = let l = ap length (chains_direct p h) ∙ length-map (starts p) (direct p) in omega (arith, l, lt)

-- both ends of a route are there
abbrev IsRouteBelow : ℕ → Route → Type 0
IsRouteBelow n r = (r.first.from.0 < n) × ((last_of r).to.0 < n)

below_by : (n : ℕ) (b : Bool) (c : Connection) (rs : List Route) → IsBelow n c → All (IsRouteBelow n) rs → All (IsRouteBelow n) (routes_by b c rs)
below_by n true c rs h all = All-cons (IsRouteBelow n) (record { first = c; others = [] }) [] (h.from, h.to) (λ k d lt. absurd (omega (arith, lt)))
below_by n false c rs h all = All-map (IsRouteBelow n) (with_first c) rs (λ k d lt. (h.from, (all k d lt).1))

routes_below : (n : ℕ) (cs : List Connection) (goals : List EndId) → All (IsBelow n) cs → (d : ℕ) (e : EndId) → All (IsRouteBelow n) (routes_from cs goals d e)
routes_below n cs goals h zero e = λ k d lt. absurd (omega (arith, lt))
routes_below n cs goals h (suc d) e = all_pieces (IsBelow n) (IsRouteBelow n) (λ (c : Connection). routes_by (is_among c.to goals) c (routes_from cs goals d c.to)) (leaving cs e)
    (λ c b. below_by n (is_among c.to goals) c (routes_from cs goals d c.to) b (routes_below n cs goals h d c.to))
    (All-filter (λ (c : Connection). c.from.0 == e.0) (IsBelow n) cs h)

pub paths_below : (p : Program) → All (IsBelow (length p.ends)) (connections p) → All (λ (x : Path). (x.from.0 < length p.ends) × (x.to.0 < length p.ends)) (map path_of (routes p))
paths_below p h = All-map (λ (x : Path). (x.from.0 < length p.ends) × (x.to.0 < length p.ends)) path_of (routes p)
    (all_pieces (λ (e : EndId). Unit {0}) (IsRouteBelow (length p.ends)) (routes_from (connections p) (targets p) (length p.ends)) (starts p)
    (λ e u. routes_below (length p.ends) (connections p) (targets p) h (length p.ends) e) (λ k d lt. tt))

record Mapped (rs : List Route) (k : ℕ) (x : Path) : Type 0 where
  route : Route
  at : slice_get rs k ≡ Some route
  is : path_of route ≡ x

mapped : (rs : List Route) (k : ℕ) (x : Path) → slice_get (map path_of rs) k ≡ Some x → Mapped rs k x
mapped [] k x h = absurd (let f : None ≡ Some x = h in cc)
mapped (r ∷ rs) zero x h = record { route = r; at = refl; is = (let f : Some (path_of r) ≡ Some x = h in cc) }
mapped (r ∷ rs) (suc k) x h = let m = mapped rs k x h in record { route = m.route; at = m.at; is = m.is }

got_mapped : (rs : List Route) (k : ℕ) (r : Route) → slice_get rs k ≡ Some r → slice_get (map path_of rs) k ≡ Some (path_of r)
got_mapped [] k r h = absurd (let f : None ≡ Some r = h in cc)
got_mapped (q ∷ rs) zero r h = let f : Some q ≡ Some r = h in let e : q ≡ r = cc in ap (λ (t : Route). Some (path_of t)) e
got_mapped (q ∷ rs) (suc k) r h = got_mapped rs k r h

value_is : (k : Kind) → is_value k ≡ true → k ≡ Value
value_is Stream h = absurd (let f : false ≡ true = h in cc)
value_is Value h = refl
value_is Event h = absurd (let f : false ≡ true = h in cc)

is_value_at : (k : Kind) → k ≡ Value → is_value k ≡ true
is_value_at k h = ap is_value h

both : (a b : Bool) → (a && b) ≡ true → (a ≡ true) × (b ≡ true)
both true true h = (refl, refl)
both true false h = cc
both false b h = cc

-- two paths that end at one endpoint for values are a fault
pub shared_fault : (p : Program) (xs : List Path) (place : Place) → xs ≡ map path_of (routes p) → AreShared p xs place → IsValueSources p place
shared_fault p xs place e s =
    let a : Mapped (routes p) s.one s.path = mapped (routes p) s.one s.path (ap (λ (ys : List Path). slice_get ys s.one) (sym e) ∙ s.path_is) in
    let b : Mapped (routes p) s.other s.rival = mapped (routes p) s.other s.rival (ap (λ (ys : List Path). slice_get ys s.other) (sym e) ∙ s.rival_is) in
    let t = both (s.rival.to.0 == s.path.to.0) (is_value (end_at p s.rival.to).kind) s.same in
    let q : s.rival.to ≡ s.path.to = ap (λ (k : ℕ). let i : EndId = record { 0 = k } in i) (eqb-true s.rival.to.0 s.path.to.0 t.0) in
    record {
      one = s.other;
      other = s.one;
      apart = λ same. let lt = s.order in omega (arith, same, lt);
      route = b.route;
      rival = a.route;
      route_is = b.at;
      rival_is = a.at;
      same = ap (λ (x : Path). x.to) b.is ∙ q ∙ sym (ap (λ (x : Path). x.to) a.is);
      carries = ap (λ (x : Path). (end_at p x.to).kind) b.is ∙ value_is (end_at p s.rival.to).kind t.1;
      at = ap (λ (x : Path). x.last) b.is ∙ s.at;
    }

takes_same : (p : Program) (x y : Path) → y.to ≡ x.to → (end_at p x.to).kind ≡ Value → takes p x.to.0 y ≡ false → ⊥
takes_same p x y e v h =
    let t : takes p x.to.0 y ≡ true = subst (λ (i : EndId). ((i.0 == x.to.0) && is_value (end_at p i).kind) ≡ true) (sym e) (let k = is_value_at (end_at p x.to).kind v in grind (arith, common_steps, k)) in
    cc

apart_cases : (i j : ℕ) → i ≢ j → (i < j → ⊥) → (j < i → ⊥) → ⊥
apart_cases i j ne a b = ⊎_elim (λ (lt : i < j). a lt) (λ (le : j ≤ i). b (omega (arith, le, ne))) (cases_lt i j)

-- and where no two do, there is none
pub not_shared : (p : Program) (xs : List Path) → xs ≡ map path_of (routes p) → AreApart p xs → (place : Place) → ¬ IsValueSources p place
not_shared p xs e h place v =
    let a : slice_get xs v.one ≡ Some (path_of v.route) = ap (λ (ys : List Path). slice_get ys v.one) e ∙ got_mapped (routes p) v.one v.route v.route_is in
    let b : slice_get xs v.other ≡ Some (path_of v.rival) = ap (λ (ys : List Path). slice_get ys v.other) e ∙ got_mapped (routes p) v.other v.rival v.rival_is in
    let k : (end_at p (last_of v.rival).to).kind ≡ Value = sym (ap (λ (i : EndId). (end_at p i).kind) v.same) ∙ v.carries in
    apart_cases v.one v.other v.apart
    (λ lt. takes_same p (path_of v.route) (path_of v.rival) (sym v.same) v.carries (h v.one v.other (path_of v.route) (path_of v.rival) lt a b))
    (λ lt. takes_same p (path_of v.rival) (path_of v.route) v.same k (h v.other v.one (path_of v.rival) (path_of v.route) lt b a))

no_routes : (goals : List EndId) (d : ℕ) (e : EndId) → routes_from [] goals d e ≡ []
no_routes goals zero e = refl
no_routes goals (suc d) e = refl

none_from : (f : EndId → List Route) (es : List EndId) → ((e : EndId) → f e ≡ []) → flat_map f es ≡ []
none_from f [] h = refl
none_from f (e ∷ es) h = let a = h e in let b = none_from f es h in rw (a, b) refl

-- a processor alone has no connections, and so no routes
pub sound_alone : (p : Program) → IsConsistent p → is_graph (node_at p p.main).body ≡ false → length (starts p) ≤ 65536 → HasSoundChains p
sound_alone p c h few =
    let none : connections p ≡ [] = ap (flat_map (expanded p)) (c.alone h) in
    let no : routes p ≡ [] = ap (λ (cs : List Connection). flat_map (routes_from cs (targets p) (length p.ends)) (starts p)) none ∙ none_from (routes_from [] (targets p) (length p.ends)) (starts p) (no_routes (targets p) (length p.ends)) in
    record {
      loops = λ place l.
          let m : Contains [] l.first = subst (λ (cs : List Connection). Contains cs l.first) none (l.known l.first (0, omega arith, refl)) in
          (let lt = m.1 in omega (arith, lt));
      values = λ place v. let g : slice_get [] v.one ≡ Some v.route = subst (λ (rs : List Route). slice_get rs v.one ≡ Some v.route) no v.route_is in (let f : None ≡ Some v.route = g in cc);
      few = (let l = ap length (chains_direct p h) ∙ length-map (starts p) (direct p) in omega (arith, l, few));
    }

pub sound_routed : (p : Program) → is_graph (node_at p p.main).body ≡ true → HasSoundRoutes p → HasSoundChains p
sound_routed p h s = record {
  loops = s.loops;
  values = s.values;
  few = (let l = ap length (chains_routed p h) ∙ length-map (routes p) (chain_of p) in let f = s.few in omega (arith, l, f));
}
