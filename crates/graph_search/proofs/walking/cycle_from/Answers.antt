use Rattle.std.proofs.Common.{◌≡◌, ℕ, ◌+◌, ◌-◌, ◌<◌, length, get_or, ◌∙◌}
use Rattle.graph_search.specs.Orders.{unmet_of}
use Rattle.graph_search.specs.Counts.{Blocks}
use Rattle.graph_search.proofs.Cycles.{stays, cycle_is}
use Rattle.graph_search.proofs.walking.cycle_from.Goals as goal

pub walk_back-requires-clause-stays : goal.walk_back-requires-clause-stays
walk_back-requires-clause-stays c =
    let es = c.args.edges.now in
    let n = c.args.count in
    let ps = c.args.placed.now.order.items in
    let us = c.args.placed.now.unmet.items in
    let bs = c.in_ok-before.before.items in
    let blocks : (q : ℕ) → 0 < unmet_of es ps q → Blocks es n ps (get_or bs q 0) q = rw (← c.deref.ensures.value) c.in_ok-before.ensures.blocks in
    let len : length c.deref-3.result.now ≡ n = c.deref-3.ensures.len ∙ c.in_ok-before.ensures.len in
    let h : (q : ℕ) → 0 < get_or us q 0 → (get_or bs q 0 < n) × (0 < get_or us (get_or bs q 0) 0) = stays es n ps us bs c.requires.counts.1 c.requires.all blocks in
    rw (len, c.deref-4.ensures.value, c.deref-3.ensures.value) h

pub returns : goal.returns
returns c =
    let es = c.args.edges.now in
    let n = c.args.count in
    let ps = c.args.placed.now.order.items in
    let us = c.args.placed.now.unmet.items in
    let bs = c.in_ok-before.before.items in
    let cs = c.in_ok-cycle.cycle.items in
    let blocks : (q : ℕ) → 0 < unmet_of es ps q → Blocks es n ps (get_or bs q 0) q = rw (← c.deref.ensures.value) c.in_ok-before.ensures.blocks in
    let blocked : (i : ℕ) → i < length cs → 0 < get_or us (get_or cs i 0) 0 = rw (← c.deref-4.ensures.value) c.in_ok-cycle.ensures.blocked in
    let steps : (i : ℕ) → i + 1 < length cs → get_or bs (get_or cs (i + 1) 0) 0 ≡ get_or cs i 0 = rw (← c.deref-3.ensures.value) c.in_ok-cycle.ensures.steps in
    let closes : get_or bs (get_or cs 0 0) 0 ≡ get_or cs (length cs - 1) 0 = rw (← c.deref-3.ensures.value) c.in_ok-cycle.ensures.closes in
    cycle_is es n ps us bs cs c.requires.counts.1 blocks c.in_ok-cycle.ensures.distinct blocked steps closes
