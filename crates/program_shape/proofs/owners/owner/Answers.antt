use Rattle.program_shape.proofs.owners.owner.Goals as goal
use Rattle.std.proofs.Common.{refl, ◌≡◌, ◌<◌, length, arith, true, sym, subst, List}
use Rattle.std.proofs.lemmas.Grind.{common_steps}
use Rattle.cm_base.specs.declared.place.NodeId.{NodeId}
use Rattle.cm_core.specs.Tree.{node_at}
use Rattle.cm_core.specs.Consistent.{is_graph}
use Rattle.program_shape.specs.Shape.{AreIn}
use Rattle.program_shape.proofs.Owned.{owner_declared}

pub returns-then-are_in : goal.returns-then-are_in
returns-then-are_in c =
    let p = c.args.program.now in
    let graph = c.in_ok-graph.graph in
    let lt : graph < length p.nodes = grind (arith, common_steps) in
    let is : is_graph (node_at p (record { 0 = graph })).body ≡ true = sym c.if-is_graph.ensures in
    let ins : AreIn c.args.parents.now graph c.args.group.now.nodes = subst (λ (ns : List NodeId). AreIn c.args.parents.now graph ns) c.as_slice-nodes.ensures (c.if-are_in.ensures refl) in
    owner_declared p c.args.group.now c.args.parents.now graph c.requires.parents c.requires.group c.if-group.false lt is ins
