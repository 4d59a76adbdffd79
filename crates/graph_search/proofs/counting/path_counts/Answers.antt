use Rattle.std.proofs.Common.{◌≡◌, ℕ, ◌+◌, ◌-◌, ◌<◌, ◌≤◌, All, Vec, length, get_or, false, take, ap, sym, subst, ◌∙◌, arith}
use Rattle.std.specs.Prelude.{min, sum_by}
use Rattle.std.specs.Global.{Global}
use Rattle.std.proofs.lemmas.Grind.{common_steps}
use Rattle.graph_search.specs.Edges.{member}
use Rattle.graph_search.specs.Orders.{IsOrder}
use Rattle.graph_search.specs.Counts.{targets}
use Rattle.graph_search.specs.Paths.{counted, path_count}
use Rattle.graph_search.proofs.Placement.{targets_within}
use Rattle.graph_search.proofs.PathCounts.{counts_more}
use Rattle.graph_search.proofs.counting.path_counts.Goals as goal

pub node_count-requires : goal.node_count-requires
node_count-requires c =
    let es = c.args.edges.now in
    let n = c.args.count in
    let ls = c.as_slice-nodes.result.now in
    let k = c.args.count - 1 - c.loop-step.step in
    let order : IsOrder es n ls = rw c.as_slice-nodes.ensures c.in_ok-found.ensures.found in
    let step : c.loop-step.step < n = c.loop-step-test.true in
    let lt : k < length ls = (let m = order.count in omega (arith, m, step)) in
    let next = order.placed k lt in
    let e : c.deref.result.now ≡ targets es (get_or ls k 0) = c.deref.ensures.value ∙ ap (λ (v : Vec ℕ Global). v.items) c.index.ensures ∙ c.in_ok-next.ensures.1 (get_or ls k 0) _ next.within in
    let w : All (λ q. q < n) c.deref.result.now = rw e (targets_within es n (get_or ls k 0) c.requires.within) in
    rw (c.deref-in-loop-step.ensures.value, c.loop-step.invariant.len) w

pub loop-step-preserved : goal.loop-step-preserved
loop-step-preserved c =
    let es = c.args.edges.now in
    let ends = c.args.ends.now in
    let n = c.args.count in
    let l = c.args.limit in
    let ls = c.as_slice-nodes.result.now in
    let cs = c.loop-step.counts.items in
    let s = c.loop-step.step in
    let k = c.args.count - 1 - c.loop-step.step in
    let v = c.node_count.result in
    let order : IsOrder es n ls = rw c.as_slice-nodes.ensures c.in_ok-found.ensures.found in
    let step : c.loop-step.step < n = c.loop-step-test.true in
    let lt : k < length ls = (let m = order.count in omega (arith, m, step)) in
    let next = order.placed k lt in
    let e : c.deref.result.now ≡ targets es (get_or ls k 0) = c.deref.ensures.value ∙ ap (λ (v : Vec ℕ Global). v.items) c.index.ensures ∙ c.in_ok-next.ensures.1 (get_or ls k 0) _ next.within in
    let before : n - s ≡ k + 1 = omega (arith, step) in
    let after : n - (s + 1) ≡ k = omega (arith, step) in
    let is : v ≡ min (counted (get_or ends (get_or ls k 0) false) (sum_by (λ (q : ℕ). get_or cs q 0) (targets es (get_or ls k 0)))) l =
    rw (← e, ← c.deref-in-loop-step.ensures.value) c.node_count.ensures in
    let old : (q d : ℕ) → q < n → member q (take (k + 1) ls) ≡ false → s ≤ d → get_or cs q 0 ≡ min (path_count es ends d q) l =
    λ q d a b le. c.loop-step.invariant.each q d a (subst (λ (j : ℕ). member q (take j ls) ≡ false) (sym before) b) le in
    record {
      len = grind (arith, common_steps);
      each = λ q d a b le.
          counts_more es ends n ls cs l k s v c.requires.within order c.loop-step.invariant.len lt old is q d a
          (subst (λ (j : ℕ). member q (take j ls) ≡ false) after b) le;
    }
