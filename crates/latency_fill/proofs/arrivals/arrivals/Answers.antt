use Rattle.std.proofs.Common.{◌≡◌, ℕ, ◌+◌, ◌<◌, ◌≤◌, length, get_or, true, arith, ◌∙◌, ap, All, Vec}
use Rattle.std.specs.Global.{Global}
use Rattle.std.specs.List.{filter_map}
use Rattle.std.proofs.lemmas.Grind.{common_steps}
use Rattle.graph_search.specs.Edges.{member}
use Rattle.latency_fill.specs.Walks.{latency_of}
use Rattle.latency_fill.specs.Edges.{timed_edge}
use Rattle.latency_fill.proofs.Sources.{edges_within, sources_within}
use Rattle.latency_fill.proofs.Passes.{sources_to, IsLatest, placed_below, low_more, arrivals_step, arrivals_all}
use Rattle.latency_fill.proofs.arrivals.arrivals.Goals as goal

pub latest-requires-clause-within : goal.latest-requires-clause-within
latest-requires-clause-within c =
    let flat = c.args.flat.now in
    let x = (get_or c.args.order.now c.loop-leaf.leaf-index (record { 0 = 0 })).0 in
    let lt : x < length flat.leaves = placed_below flat c.args.order.now c.loop-leaf.leaf-index (record { 0 = 0 }) c.requires.order c.loop-leaf-test.true in
    let e : c.deref.result.now ≡ sources_to flat x = c.deref.ensures.value ∙ ap (λ (v : Vec ℕ Global). v.items) c.index-before-at.is ∙ c.requires.before x _ lt in
    let n1 : length flat.leaves ≡ length c.deref-in-loop-leaf.result.now = grind (arith, common_steps) in
    let n2 : length flat.leaves ≡ length c.as_slice-leaves.result.now = grind (arith, common_steps) in
    let w : All (λ p. (p < length c.deref-in-loop-leaf.result.now) × (p < length c.as_slice-leaves.result.now)) c.deref.result.now =
    rw e (sources_within (filter_map timed_edge flat.chains) (length flat.leaves) _ _ x n1 n2 (edges_within flat c.requires.within)) in
    w

pub index_mut-requires : goal.index_mut-requires
index_mut-requires c =
    let lt = placed_below c.args.flat.now c.args.order.now c.loop-leaf.leaf-index (record { 0 = 0 }) c.requires.order c.loop-leaf-test.true in
    rw c.loop-leaf.invariant.len lt

pub loop-leaf-preserved : goal.loop-leaf-preserved
loop-leaf-preserved c =
    let flat = c.args.flat.now in
    let order = c.args.order.now in
    let j = c.loop-leaf.leaf-index in
    let x = (get_or order j (record { 0 = 0 })).0 in
    let lt : x < length flat.leaves = placed_below flat order j (record { 0 = 0 }) c.requires.order c.loop-leaf-test.true in
    let e : c.deref.result.now ≡ sources_to flat x = c.deref.ensures.value ∙ ap (λ (v : Vec ℕ Global). v.items) c.index-before-at.is ∙ c.requires.before x _ lt in
    let arrive = c.loop-leaf.arrive.items in
    let m = c.latest.result in
    let long : x < length arrive = grind (arith, common_steps, lt) in
    let up : (p : ℕ) → member p (sources_to flat x) ≡ true → get_or arrive p 0 + latency_of flat p ≤ m =
    rw (← e, ← c.deref-in-loop-leaf.ensures.value, ← c.as_slice-leaves.ensures) c.latest.ensures.upper in
    let at : IsLatest flat (sources_to flat x) arrive m =
    rw (← e, ← c.deref-in-loop-leaf.ensures.value, ← c.as_slice-leaves.ensures) c.latest.ensures.attained in
    record {
      len = grind (arith, common_steps);
      low = low_more flat (sources_to flat x) arrive x j m c.requires.small c.loop-leaf.invariant.low at;
      arrived = arrivals_step flat order arrive j m (record { 0 = 0 }) c.requires.order c.loop-leaf-test.true long c.loop-leaf.invariant.arrived up at;
    }

pub returns-clause-arrivals : goal.returns-clause-arrivals
returns-clause-arrivals c =
    let end : c.loop-leaf.leaf-index ≡ length c.args.order.now = omega arith in
    arrivals_all c.args.flat.now c.args.order.now c.loop-leaf.arrive.items c.loop-leaf.leaf-index c.requires.order end c.loop-leaf.invariant.arrived
