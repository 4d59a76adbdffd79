use Rattle.std.proofs.Common.{rules, ◌≡◌, ℕ, ◌<◌, [], ◌∷◌, ◌++◌, arith, ap, ◌∙◌, All, Vec}
use Rattle.std.specs.Global.{Global}
use Rattle.std.specs.BTreeSet.{contains}
use Rattle.std.specs.Ordering.{nat_cmp}
use Rattle.std.proofs.lemmas.Grind.{common_steps}
use Rattle.graph_search.specs.Counts.{targets, count_of}
use Rattle.graph_search.proofs.Placement.{unmet_push, placed_push, targets_within, next_from, least_is, distinct_push, below_push, length_placed, smaller, left_over, distinct_none, ready_push, met_push, length_below}
use Rattle.graph_search.proofs.placing.place.Goals as goal

pub loop-node-init : goal.loop-node-init
loop-node-init c = record {
  len = search rules;
  counts = λ q. grind (arith, common_steps, c.in_ok-unmet.ensures.1 q);
  ready = λ q. grind (arith, common_steps, c.in_ok-unmet.ensures.1 q, c.in_ok-ready.ensures q);
  placed = λ i lt. grind (arith, common_steps);
  met = λ q h. grind (arith, common_steps);
  distinct = rw c.new-order.ensures.items distinct_none;
  below = λ q h. grind (arith, common_steps);
}

pub release-requires-clause-within : goal.release-requires-clause-within
release-requires-clause-within c =
    let es = c.args.edges.now in
    let n = c.args.count in
    let p = c.in-Some.node in
    let next = next_from es n c.loop-node.order.items p (contains nat_cmp c.loop-node.ready) c.loop-node.invariant.ready c.in-Some.ensures.member (λ q h. least_is p q (c.in-Some.ensures.least q h)) in
    let e : c.deref-in-Some.result.now ≡ targets es p = c.deref-in-Some.ensures.value ∙ ap (λ (v : Vec ℕ Global). v.items) c.index.ensures ∙ c.in_ok-next.ensures.1 p _ next.within in
    let w : All (λ q. q < n) c.deref-in-Some.result.now = rw e (targets_within es n p c.requires) in
    rw c.loop-node.invariant.len w

pub release-requires-clause-enough : goal.release-requires-clause-enough
release-requires-clause-enough c = λ q.
    let es = c.args.edges.now in
    let n = c.args.count in
    let p = c.in-Some.node in
    let ls = c.loop-node.order.items in
    let next = next_from es n ls p (contains nat_cmp c.loop-node.ready) c.loop-node.invariant.ready c.in-Some.ensures.member (λ q h. least_is p q (c.in-Some.ensures.least q h)) in
    let e : c.deref-in-Some.result.now ≡ targets es p = c.deref-in-Some.ensures.value ∙ ap (λ (v : Vec ℕ Global). v.items) c.index.ensures ∙ c.in_ok-next.ensures.1 p _ next.within in
    let lost = unmet_push es ls p q next.unplaced in
    rw (e, c.loop-node.invariant.counts q) (omega (arith, lost))

pub loop-node-smaller : goal.loop-node-smaller
loop-node-smaller c =
    let es = c.args.edges.now in
    let n = c.args.count in
    let p = c.in-Some.node in
    let ls = c.loop-node.order.items in
    let next = next_from es n ls p (contains nat_cmp c.loop-node.ready) c.loop-node.invariant.ready c.in-Some.ensures.member (λ q h. least_is p q (c.in-Some.ensures.least q h)) in
    let short = length_placed ls n p c.loop-node.invariant.distinct c.loop-node.invariant.below next.within next.unplaced in
    smaller n ls p c.push.new.self.items c.in_ok-push.ensures.items short

pub loop-node-preserved : goal.loop-node-preserved
loop-node-preserved c =
    let es = c.args.edges.now in
    let n = c.args.count in
    let p = c.in-Some.node in
    let ls = c.loop-node.order.items in
    let inv = c.loop-node.invariant in
    let next = next_from es n ls p (contains nat_cmp c.loop-node.ready) c.loop-node.invariant.ready c.in-Some.ensures.member (λ q h. least_is p q (c.in-Some.ensures.least q h)) in
    let e : c.deref-in-Some.result.now ≡ targets es p = c.deref-in-Some.ensures.value ∙ ap (λ (v : Vec ℕ Global). v.items) c.index.ensures ∙ c.in_ok-next.ensures.1 p _ next.within in
    let items : c.push.new.self.items ≡ ls ++ p ∷ [] = c.in_ok-push.ensures.items in
    let counts = λ (q : ℕ). left_over es ls c.push.new.self.items p q _ _ _ items (c.loop-node.invariant.counts q) (ap (count_of q) e) (c.in_ok-release.ensures.counts q) next.unplaced in
    record {
      len = c.in_ok-release.ensures.len ∙ c.loop-node.invariant.len;
      counts = counts;
      ready = λ q. ready_push es n ls c.push.new.self.items p q _ _ _ _ _ c.requires items next (counts q) (c.in_ok-release.ensures.counts q ∙ c.loop-node.invariant.counts q) (c.loop-node.invariant.met q) (c.loop-node.invariant.ready q) (c.in-Some.ensures.updates.0 q) (c.in_ok-release.ensures.ready q);
      placed = rw items (placed_push es n ls p c.loop-node.invariant.placed next);
      met = λ q h. met_push es n ls c.push.new.self.items p q items next (c.loop-node.invariant.met q) h;
      distinct = rw items (distinct_push ls p c.loop-node.invariant.distinct next.unplaced);
      below = λ q h. below_push ls n p q c.loop-node.invariant.below next.within (rw items at h);
    }

pub returns-clause-few : goal.returns-clause-few
returns-clause-few c = length_below c.loop-node.order.items c.args.count c.loop-node.invariant.distinct c.loop-node.invariant.below
