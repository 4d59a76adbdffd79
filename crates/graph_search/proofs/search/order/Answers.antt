use Rattle.std.proofs.Common.{◌≡◌, ℕ, ◌<◌, true, arith}
use Rattle.std.proofs.lemmas.Grind.{common_steps}
use Rattle.graph_search.specs.Edges.{member}
use Rattle.graph_search.proofs.Placement.{order_of}
use Rattle.graph_search.proofs.NoCycle.{no_cycle}
use Rattle.graph_search.proofs.search.order.Goals as goal

pub returns-clause-found : goal.returns-clause-found
returns-clause-found c =
    let all : (q : ℕ) → q < c.args.count → member q c.in_ok-placed.placed.order.items ≡ true =
    λ q lt. c.loop-node.invariant q (grind (arith, common_steps)) in
    rw c.from_vec-2.ensures
    (order_of c.args.edges.now c.args.count c.in_ok-placed.placed.order.items
    c.in_ok-placed.ensures.placed c.in_ok-placed.ensures.few all)

pub returns-clause-acyclic : goal.returns-clause-acyclic
returns-clause-acyclic c =
    let all : (q : ℕ) → q < c.args.count → member q c.in_ok-placed.placed.order.items ≡ true =
    λ q lt. c.loop-node.invariant q (grind (arith, common_steps)) in
    no_cycle c.args.edges.now c.args.count c.in_ok-placed.placed.order.items c.requires
    (order_of c.args.edges.now c.args.count c.in_ok-placed.placed.order.items
    c.in_ok-placed.ensures.placed c.in_ok-placed.ensures.few all)
