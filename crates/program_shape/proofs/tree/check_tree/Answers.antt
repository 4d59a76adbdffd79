use Rattle.program_shape.proofs.tree.check_tree.Goals as goal
use Rattle.std.proofs.Common.{refl, ◌≡◌, ◌<◌, ℕ, length, All, arith, subst, nat_eq}
use Rattle.std.specs.List.{IsDistinct}
use Rattle.std.proofs.lemmas.Grind.{common_steps}
use Rattle.graph_search.specs.Orders.{IsRanking}
use Rattle.program_shape.proofs.Trees.{tree_of}

pub returns-then-are_below-clause-tree : goal.returns-then-are_below-clause-tree
returns-then-are_below-clause-tree c =
    let p = c.args.program.now in
    let es = c.args.edges.now in
    let heights = c.in_ok-heights.heights in
    let targets = c.in_ok-targets.targets.items in
    let ranks : IsRanking es (length p.nodes) heights = subst (λ (n : ℕ). IsRanking es n heights) c.len-count.ensures c.in_ok-heights.ensures.found in
    let below : All (λ (q : ℕ). q < length p.nodes) heights = subst (λ (n : ℕ). All (λ (q : ℕ). q < n) heights) c.len-count.ensures (subst (All (λ (q : ℕ). q < c.len-count.result)) c.as_slice.ensures (c.if-are_below.ensures refl)) in
    let long : length targets ≡ length p.nodes = grind (arith, common_steps) in
    let once : IsDistinct nat_eq targets = subst (IsDistinct nat_eq) c.deref.ensures.value (c.in_ok-once.ensures c.if-once.true) in
    tree_of p es heights targets c.requires.main c.requires.to c.requires.leads ranks below c.in_ok-targets.ensures long once
