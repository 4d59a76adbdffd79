use Rattle.std.proofs.Common.{◌≡◌, ℕ, List, ◌<◌, length, get_or, refl, ap, ◌∙◌, arith}
use Rattle.std.specs.Prelude.{filter, min, sum_by}
use Rattle.cm_base.specs.declared.place.EndId.{EndId}
use Rattle.cm_core.specs.declared.link.Connection.{Connection}
use Rattle.cm_core.specs.Routes.{leaving, routes_from}
use Rattle.graph_flat.specs.Paths.{is_live}
use Rattle.graph_flat.proofs.Leaps.{row_is, row_within}
use Rattle.graph_flat.proofs.Searches.{row_count, count_more}
use Rattle.graph_flat.proofs.searching.route_count.Goals as goal

pub count_row-more-requires : goal.count_row-more-requires
count_row-more-requires c =
    let w = c.args.wires.now in
    let start : EndId = get_or c.args.starts.now c.loop-start.start-index (record { 0 = 0 }) in
    let lt : start.0 < length w.rows.items = c.requires.within c.loop-start.start-index (record { 0 = 0 }) c.loop-start-test.true in
    let row : c.deref.result.now ≡ filter (is_live w.counts) (leaving w.connections.items start) = c.deref.ensures.value ∙ row_is _ w c.requires.ready start.0 c.index.result.now lt c.index.ensures in
    record { within = λ k d l. let a = row_within _ w c.requires.ready start c.deref.result.now row k d l in let n = ap length c.as_slice.ensures in let m = c.requires.ready.counts.count in omega (arith, a, n, m) }

pub loop-start-preserved : goal.loop-start-preserved
loop-start-preserved c =
    let w = c.args.wires.now in
    let n = length w.rows.items in
    let start : EndId = get_or c.args.starts.now c.loop-start.start-index (record { 0 = 0 }) in
    let lt : start.0 < n = c.requires.within c.loop-start.start-index (record { 0 = 0 }) c.loop-start-test.true in
    let row : c.deref.result.now ≡ filter (is_live w.counts) (leaving w.connections.items start) = c.deref.ensures.value ∙ row_is n w c.requires.ready start.0 c.index.result.now lt c.index.ensures in
    let sum : List ℕ → ℕ = λ (counts : List ℕ). min (sum_by (λ (c : Connection). get_or counts c.to.0 0) c.deref.result.now) 65537 in
    let more : c.count_row-more.result ≡ min (length (routes_from w.connections.items w.targets.items n start)) 65537 =
    c.count_row-more.ensures ∙ ap sum c.as_slice.ensures ∙ row_count n w c.requires.ready start c.deref.result.now row in
    (refl, count_more (routes_from w.connections.items w.targets.items n) c.args.starts.now c.loop-start.start-index c.loop-start.total c.count_row-more.result c.min-total.result c.loop-start-test.true c.loop-start.invariant.1 more c.min-total.ensures)
