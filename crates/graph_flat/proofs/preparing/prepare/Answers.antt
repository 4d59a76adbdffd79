use Rattle.std.proofs.Common.{◌≡◌, ℕ, Bool, false, All, get_or, List, sym, ap, ◌∙◌, arith, subst, length, map}
use Rattle.cm_core.specs.declared.link.Connection.{Connection}
use Rattle.graph_search.specs.Edges.{AreWithin}
use Rattle.graph_search.specs.Paths.{ArePathCounts}
use Rattle.graph_flat.specs.declared.wires.Wires.{Wires}
use Rattle.cm_base.specs.declared.place.EndId.{EndId}
use Rattle.cm_core.specs.Tree.{is_among}
use Rattle.std.proofs.lemmas.Grind.{common_steps}
use Rattle.graph_flat.specs.Edges.{edge_of}
use Rattle.graph_flat.specs.Paths.{IsBelow}
use Rattle.graph_flat.specs.Wires.{AreRows, IsReady}
use Rattle.graph_flat.proofs.Ready.{edges_within, made_ready}
use Rattle.graph_flat.proofs.preparing.prepare.Goals as goal

pub survey_of-requires-clause-within : goal.survey_of-requires-clause-within
survey_of-requires-clause-within c =
    let es : c.deref-3.result.now ≡ map edge_of c.args.connections.items = c.deref-3.ensures.value ∙ c.in_ok-edges.ensures ∙ ap (map edge_of) c.deref.ensures.value in
    subst (λ (n : ℕ). AreWithin n c.deref-3.result.now) (sym c.len-count.ensures) (edges_within _ c.args.connections.items c.deref-3.result.now es c.requires.within)

pub shorten_all-requires-clause-ready : goal.shorten_all-requires-clause-ready
shorten_all-requires-clause-ready c =
    let es : c.deref-3.result.now ≡ map edge_of c.args.connections.items = c.deref-3.ensures.value ∙ c.in_ok-edges.ensures ∙ ap (map edge_of) c.deref.ensures.value in
    let w : Wires = record { connections = c.args.connections; targets = c.args.targets; is_target = c.in_ok-is_target.is_target; counts = c.in-Ok.found.counts; rows = c.in_ok-rows.rows; jumps = c.in_ok-jumps.jumps } in
    let n = c.len-count.result in
    let counted : ArePathCounts c.deref-3.result.now w.is_target.items n 65537 w.counts =
    subst (λ (marks : List Bool). ArePathCounts c.deref-3.result.now marks n 65537 w.counts) c.deref-4.ensures.value c.in-Ok.ensures.counts in
    let count : length w.counts ≡ n = counted.count in
    let rows : AreRows w.connections.items w.counts (length w.counts) w.rows =
    subst (λ (cs : List Connection). AreRows cs w.counts (length w.counts) w.rows) c.deref-5.ensures.value
    (subst (λ (counts : List ℕ). AreRows c.deref-5.result.now counts (length counts) w.rows) c.as_slice.ensures c.in_ok-rows.ensures) in
    let rows' : AreRows w.connections.items w.counts n w.rows = subst (λ (k : ℕ). AreRows w.connections.items w.counts k w.rows) count rows in
    let within : All (IsBelow n) w.connections.items = subst (λ (k : ℕ). All (IsBelow k) w.connections.items) (sym c.len-count.ensures) c.requires.within in
    let marks : (e : EndId) → get_or w.is_target.items e.0 false ≡ is_among e w.targets.items = λ e. c.in_ok-is_target.ensures.marked e ∙ ap (is_among e) c.deref-2.ensures.value in
    let marks_len : length w.is_target.items ≡ n = (let l = c.in_ok-is_target.ensures.len in omega (arith, l)) in
    let jumps_len : length w.jumps.items ≡ n = (let l = c.in_ok-jumps.ensures.len in omega (arith, l)) in
    let ready : IsReady n w = made_ready n w c.deref-3.result.now c.in-Ok.ensures.ranked.0 es c.in-Ok.ensures.ranked.1 within marks_len marks counted rows' jumps_len (λ k. grind (arith, common_steps)) in
    subst (λ (k : ℕ). IsReady k w) (sym rows'.0) ready
