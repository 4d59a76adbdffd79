use Rattle.std.specs.Global.{Global}
use Rattle.std.proofs.Common.{◌≡◌, Vec, ◌<◌, List, All, length, sym, ap, ◌∙◌, subst, arith, refl}
use Rattle.std.specs.Prelude.{map, Option, MatchOption}
use Rattle.cm_base.specs.declared.place.Place.{Place}
use Rattle.graph_flat.specs.Shared.{AreApart, AreShared}
use Rattle.cm_base.specs.declared.place.EndId.{EndId}
use Rattle.cm_core.specs.declared.link.Connection.{Connection}
use Rattle.cm_core.specs.Expanded.{connections}
use Rattle.cm_core.specs.Tree.{targets}
use Rattle.cm_core.specs.Routes.{routes}
use Rattle.cm_core.specs.GraphFaults.{IsWireLoop, value_sources, many_chains}
use Rattle.graph_flat.specs.declared.paths.Path.{Path}
use Rattle.graph_flat.specs.Paths.{path_of, IsBelow}
use Rattle.graph_flat.proofs.Every.{connections_there}
use Rattle.graph_flat.proofs.Faults.{routes_are, many_routed, shared_fault, not_shared, paths_below}
use Rattle.graph_flat.proofs.WireLoops.{no_wire_loop}
use Rattle.graph_flat.proofs.finding.route_paths.Goals as goal

pub prepare-requires-clause-within : goal.prepare-requires-clause-within
prepare-requires-clause-within c = let p = c.args.program.now in subst (All (IsBelow (length p.ends))) (sym c.requires.connections) (connections_there p c.requires.program c.requires.sound)

pub route_count-requires-clause-within : goal.route_count-requires-clause-within
route_count-requires-clause-within c =
    let n = sym c.in_ok-wires.ensures.ready.rows.0 in
    λ k d lt. let e = c.deref.ensures.value in
    let w : All (λ (e : EndId). e.0 < length c.in_ok-wires.wires.rows.items) c.deref.result.now = rw (e, ← n) c.in_ok-starts.ensures.within in w k d lt

pub returns-then-route_count-clause-refused : goal.returns-then-route_count-clause-refused
returns-then-route_count-clause-refused c =
    let p = c.args.program.now in
    let w = c.in_ok-wires.wires in
    let conn : w.connections.items ≡ connections p = ap (λ (v : Vec Connection Global). v.items) c.in_ok-wires.ensures.connections ∙ c.requires.connections in
    let goals : w.targets.items ≡ targets p = ap (λ (v : Vec EndId Global). v.items) c.in_ok-wires.ensures.targets ∙ c.in_ok-targets.ensures.targets in
    let all = routes_are p w c.deref.result.now conn goals c.in_ok-wires.ensures.ready.rows.0 (c.deref.ensures.value ∙ c.in_ok-starts.ensures.starts) in
    let many : 65536 < length (routes p) = (let l = ap length all in let k = c.route_count.ensures in let t = c.if-route_count.true in omega (arith, l, k, t)) in
    rw c.refused.ensures (many_chains (many_routed p c.requires.graph many), refl)

pub search-requires-clause-within : goal.search-requires-clause-within
search-requires-clause-within c =
    let n = sym c.in_ok-wires.ensures.ready.rows.0 in
    λ k d lt. let e = c.deref-2.ensures.value in
    let w : All (λ (e : EndId). e.0 < length c.in_ok-wires.wires.rows.items) c.deref-2.result.now = rw (e, ← n) c.in_ok-starts.ensures.within in w k d lt

pub shared_value-requires : goal.shared_value-requires
shared_value-requires c =
    let p = c.args.program.now in
    let w = c.in_ok-wires.wires in
    let conn : w.connections.items ≡ connections p = ap (λ (v : Vec Connection Global). v.items) c.in_ok-wires.ensures.connections ∙ c.requires.connections in
    let goals : w.targets.items ≡ targets p = ap (λ (v : Vec EndId Global). v.items) c.in_ok-wires.ensures.targets ∙ c.in_ok-targets.ensures.targets in
    let found : c.in_ok-paths.paths.items ≡ map path_of (routes p) = c.in_ok-paths.ensures ∙ ap (map path_of) (routes_are p w c.deref-2.result.now conn goals c.in_ok-wires.ensures.ready.rows.0 (c.deref-2.ensures.value ∙ c.in_ok-starts.ensures.starts)) in
    let below = paths_below p (connections_there p c.requires.program c.requires.sound) in
    let all : All (λ (x : Path). (x.from.0 < length p.ends) × (x.to.0 < length p.ends)) c.deref-3.result.now = subst (All (λ (x : Path). (x.from.0 < length p.ends) × (x.to.0 < length p.ends))) (sym (c.deref-3.ensures.value ∙ found)) below in
    λ k d lt. (all k d lt).1

pub returns-in-Some-clause-refused : goal.returns-in-Some-clause-refused
returns-in-Some-clause-refused c =
    let p = c.args.program.now in
    let w = c.in_ok-wires.wires in
    let conn : w.connections.items ≡ connections p = ap (λ (v : Vec Connection Global). v.items) c.in_ok-wires.ensures.connections ∙ c.requires.connections in
    let goals : w.targets.items ≡ targets p = ap (λ (v : Vec EndId Global). v.items) c.in_ok-wires.ensures.targets ∙ c.in_ok-targets.ensures.targets in
    let found : c.in_ok-paths.paths.items ≡ map path_of (routes p) = c.in_ok-paths.ensures ∙ ap (map path_of) (routes_are p w c.deref-2.result.now conn goals c.in_ok-wires.ensures.ready.rows.0 (c.deref-2.ensures.value ∙ c.in_ok-starts.ensures.starts)) in
    rw c.refused-in-Some.ensures (value_sources c.in-Some.place (shared_fault p c.deref-3.result.now c.in-Some.place (c.deref-3.ensures.value ∙ found) (subst (λ (o : Option Place). MatchOption o (AreApart p c.deref-3.result.now) (AreShared p c.deref-3.result.now)) c.in-Some.is c.in_ok-shared.ensures)), refl)

pub returns-clause-found : goal.returns-clause-found
returns-clause-found c =
    let p = c.args.program.now in
    let w = c.in_ok-wires.wires in
    let conn : w.connections.items ≡ connections p = ap (λ (v : Vec Connection Global). v.items) c.in_ok-wires.ensures.connections ∙ c.requires.connections in
    let goals : w.targets.items ≡ targets p = ap (λ (v : Vec EndId Global). v.items) c.in_ok-wires.ensures.targets ∙ c.in_ok-targets.ensures.targets in
    let found : c.in_ok-paths.paths.items ≡ map path_of (routes p) = c.in_ok-paths.ensures ∙ ap (map path_of) (routes_are p w c.deref-2.result.now conn goals c.in_ok-wires.ensures.ready.rows.0 (c.deref-2.ensures.value ∙ c.in_ok-starts.ensures.starts)) in
    found

pub returns-clause-within : goal.returns-clause-within
returns-clause-within c =
    let p = c.args.program.now in
    let w = c.in_ok-wires.wires in
    let conn : w.connections.items ≡ connections p = ap (λ (v : Vec Connection Global). v.items) c.in_ok-wires.ensures.connections ∙ c.requires.connections in
    let goals : w.targets.items ≡ targets p = ap (λ (v : Vec EndId Global). v.items) c.in_ok-wires.ensures.targets ∙ c.in_ok-targets.ensures.targets in
    let found : c.in_ok-paths.paths.items ≡ map path_of (routes p) = c.in_ok-paths.ensures ∙ ap (map path_of) (routes_are p w c.deref-2.result.now conn goals c.in_ok-wires.ensures.ready.rows.0 (c.deref-2.ensures.value ∙ c.in_ok-starts.ensures.starts)) in
    subst (All (λ (x : Path). (x.from.0 < length p.ends) × (x.to.0 < length p.ends))) (sym found) (paths_below p (connections_there p c.requires.program c.requires.sound))

pub returns-clause-sound : goal.returns-clause-sound
returns-clause-sound c =
    let p = c.args.program.now in
    let w = c.in_ok-wires.wires in
    let conn : w.connections.items ≡ connections p = ap (λ (v : Vec Connection Global). v.items) c.in_ok-wires.ensures.connections ∙ c.requires.connections in
    let goals : w.targets.items ≡ targets p = ap (λ (v : Vec EndId Global). v.items) c.in_ok-wires.ensures.targets ∙ c.in_ok-targets.ensures.targets in
    let found : c.in_ok-paths.paths.items ≡ map path_of (routes p) = c.in_ok-paths.ensures ∙ ap (map path_of) (routes_are p w c.deref-2.result.now conn goals c.in_ok-wires.ensures.ready.rows.0 (c.deref-2.ensures.value ∙ c.in_ok-starts.ensures.starts)) in
    let all = routes_are p w c.deref.result.now conn goals c.in_ok-wires.ensures.ready.rows.0 (c.deref.ensures.value ∙ c.in_ok-starts.ensures.starts) in
    let r = c.in_ok-wires.ensures.ready in
    record {
      loops = λ place l. no_wire_loop w.connections.items _ r.rank r.falls place (subst (λ (cs : List Connection). IsWireLoop cs place) (sym conn) l);
      values = not_shared p c.deref-3.result.now (c.deref-3.ensures.value ∙ found) (subst (λ (o : Option Place). MatchOption o (AreApart p c.deref-3.result.now) (AreShared p c.deref-3.result.now)) c.in-None.is c.in_ok-shared.ensures);
      few = (let l = ap length all in let k = c.route_count.ensures in let t = c.if-route_count.false in omega (arith, l, k, t));
    }
