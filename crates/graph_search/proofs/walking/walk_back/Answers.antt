use Rattle.std.proofs.Common.{◌≡◌, ◌<◌, length, [], ◌∷◌, ◌++◌, arith, get_or, drop, reverse, sym, ap, ◌∙◌, false}
use Rattle.std.proofs.lemmas.Grind.{common_steps}
use Rattle.graph_search.specs.Edges.{member}
use Rattle.graph_search.proofs.Placement.{distinct_none, distinct_push, below_push, length_placed, smaller}
use Rattle.graph_search.proofs.PathBack.{distinct_back, steps_back, closes_back, back_length, blocked_back, steps_more, last_more, blocked_more, seen_more, sliced}
use Rattle.graph_search.proofs.walking.walk_back.Goals as goal

pub loop-seen-init : goal.loop-seen-init
loop-seen-init c = record {
  len = grind (arith, common_steps);
  at = c.requires.start;
  seen = λ q. grind (arith, common_steps);
  distinct = rw c.new-path.ensures.items distinct_none;
  below = λ q h. grind (arith, common_steps);
  blocked = λ i lt. grind (arith, common_steps);
  steps = λ i lt. grind (arith, common_steps);
  last = λ lt. grind (arith, common_steps);
}

pub loop-seen-smaller : goal.loop-seen-smaller
loop-seen-smaller c =
    let inv = c.loop-seen.invariant in
    let out : member c.loop-seen.at c.loop-seen.path.items ≡ false = sym (c.loop-seen.invariant.seen c.loop-seen.at) ∙ grind (arith, common_steps) in
    let short = length_placed c.loop-seen.path.items (length c.args.before.now) c.loop-seen.at c.loop-seen.invariant.distinct c.loop-seen.invariant.below c.loop-seen.invariant.at.0 out in
    let s = smaller (length c.args.before.now) c.loop-seen.path.items c.loop-seen.at c.push.new.self.items c.in_ok-push.ensures.items short in
    grind (arith, common_steps, s)

pub loop-seen-preserved : goal.loop-seen-preserved
loop-seen-preserved c =
    let path = c.loop-seen.path.items in
    let at = c.loop-seen.at in
    let ps = c.push.new.self.items in
    let e : ps ≡ path ++ at ∷ [] = c.in_ok-push.ensures.items in
    let out : member at path ≡ false = sym (c.loop-seen.invariant.seen at) ∙ grind (arith, common_steps) in
    record {
      len = grind (arith, common_steps);
      at = c.requires.stays at c.loop-seen.invariant.at.1;
      seen = λ q. seen_more c.loop-seen.seen.items path ps at q e (grind (arith, common_steps)) (c.loop-seen.invariant.seen q);
      distinct = rw e (distinct_push path at c.loop-seen.invariant.distinct out);
      below = λ q h. below_push path (length c.args.before.now) at q c.loop-seen.invariant.below c.loop-seen.invariant.at.0 (rw e at h);
      blocked = blocked_more c.args.unmet.now path ps at e c.loop-seen.invariant.blocked c.loop-seen.invariant.at.1;
      steps = steps_more c.args.before.now path ps at e c.loop-seen.invariant.steps c.loop-seen.invariant.last;
      last = λ lt. last_more c.args.before.now path ps at e;
    }

pub returns-clause-distinct : goal.returns-clause-distinct
returns-clause-distinct c =
    let path = c.loop-seen.path.items in
    let first = c.place_of-first.result in
    let xs = c.reverse.new.self.items in
    let e : xs ≡ reverse (drop first path) = c.reverse.ensures.items ∙ ap reverse c.in_ok-cycle.ensures.items ∙ ap reverse (sliced _ path first c.deref-2.ensures.value) in
    let n = back_length xs path first e in
    let lt : first < length path = rw (← c.deref.ensures.value) c.place_of-first.ensures.within in
    (omega (arith, n, lt), distinct_back xs path first e c.loop-seen.invariant.distinct)

pub returns-clause-blocked : goal.returns-clause-blocked
returns-clause-blocked c =
    let path = c.loop-seen.path.items in
    let first = c.place_of-first.result in
    let xs = c.reverse.new.self.items in
    let e : xs ≡ reverse (drop first path) = c.reverse.ensures.items ∙ ap reverse c.in_ok-cycle.ensures.items ∙ ap reverse (sliced _ path first c.deref-2.ensures.value) in
    λ i lt. blocked_back c.args.unmet.now xs path first i e c.loop-seen.invariant.blocked lt

pub returns-clause-steps : goal.returns-clause-steps
returns-clause-steps c =
    let path = c.loop-seen.path.items in
    let first = c.place_of-first.result in
    let xs = c.reverse.new.self.items in
    let e : xs ≡ reverse (drop first path) = c.reverse.ensures.items ∙ ap reverse c.in_ok-cycle.ensures.items ∙ ap reverse (sliced _ path first c.deref-2.ensures.value) in
    let in' : first < length path = rw (← c.deref.ensures.value) c.place_of-first.ensures.within in
    λ i lt. steps_back c.args.before.now xs path first i e in' c.loop-seen.invariant.steps lt

pub returns-clause-closes : goal.returns-clause-closes
returns-clause-closes c =
    let path = c.loop-seen.path.items in
    let first = c.place_of-first.result in
    let xs = c.reverse.new.self.items in
    let at = c.loop-seen.at in
    let e : xs ≡ reverse (drop first path) = c.reverse.ensures.items ∙ ap reverse c.in_ok-cycle.ensures.items ∙ ap reverse (sliced _ path first c.deref-2.ensures.value) in
    let in' : first < length path = rw (← c.deref.ensures.value) c.place_of-first.ensures.within in
    let is : get_or path first 0 ≡ at = rw (← c.deref.ensures.value) c.place_of-first.ensures.found in
    closes_back c.args.before.now xs path first at e in' is (c.loop-seen.invariant.last (omega (arith, in')))
