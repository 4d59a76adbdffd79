use Rattle.std.proofs.Common.{[], ◌∷◌, length-append, ◌≡◌, ◌<◌, length, ap, sym, ◌∙◌, arith, refl}
use Rattle.std.specs.Prelude.{Some}
use Rattle.cm_base.specs.declared.place.NodeId.{NodeId}
use Rattle.cm_core.specs.declared.program.Body.TheVariants as body
use Rattle.cm_core.specs.declared.program.Node.{Node}
use Rattle.cm_core.specs.Tree.{leaf_nodes, leaves_below, node_at}
use Rattle.cm_core.specs.GraphFaults.{many_leaves}
use Rattle.graph_flat.specs.Steps.{steps_below}
use Rattle.graph_flat.proofs.Stack.{popped_more, popped_end, popped_length, fewer, all_more}
use Rattle.graph_flat.proofs.Below.{unrolled_leaf, unrolled_graph, steps_graph, inside}
use Rattle.std.proofs.lemmas.List.Elements.{All-pop}
use Rattle.graph_flat.proofs.leaves.leaf_nodes.Goals as goal

pub returns-then-len-clause-refused : goal.returns-then-len-clause-refused
returns-then-len-clause-refused c =
    let p = c.args.program.now in
    let id = c.in-Some.id in
    let leaf : (node_at p id).body ≡ body.Leaf c.in-Leaf.field-0 = ap (λ (n : Node). n.body) (sym c.node.ensures) ∙ c.in-Leaf.is in
    let g = unrolled_leaf p c.requires.tree id c.in-Leaf.field-0 leaf in
    let more : length c.loop-id.found.items < length (leaf_nodes p) =
    popped_length (leaves_below p (length p.nodes)) c.loop-id.found.items (leaf_nodes p) c.loop-id.stack.items c.pop.new.self.items id id c.loop-id.invariant.all c.in-Some.ensures.items g in
    rw c.refused.ensures (many_leaves (omega (arith, more)), refl)

pub loop-id-preserved-in-Continue-branch-2 : goal.loop-id-preserved-in-Continue-branch-2
loop-id-preserved-in-Continue-branch-2 c =
    let p = c.args.program.now in
    let id = c.in-Some.id in
    let leaf : (node_at p id).body ≡ body.Leaf c.in-Leaf.field-0 = ap (λ (n : Node). n.body) (sym c.node.ensures) ∙ c.in-Leaf.is in
    let g = unrolled_leaf p c.requires.tree id c.in-Leaf.field-0 leaf in
    let all = All-pop (λ (n : NodeId). n.0 < length p.nodes) c.loop-id.stack.items c.pop.new.self.items (Some id) c.in-Some.ensures.items c.loop-id.invariant.within in
    record {
      within = all.0;
      all = popped_end (leaves_below p (length p.nodes)) c.loop-id.found.items c.push-in-Leaf.new.self.items (leaf_nodes p) c.loop-id.stack.items c.pop.new.self.items id id c.loop-id.invariant.all c.in-Some.ensures.items c.in_ok-push-in-Leaf.ensures.items g;
      few = (let n = ap length c.in_ok-push-in-Leaf.ensures.items ∙ length-append c.loop-id.found.items (id ∷ []) in omega (arith, n));
    }

pub loop-id-smaller : goal.loop-id-smaller
loop-id-smaller c =
    let p = c.args.program.now in
    let id = c.in-Some.id in
    let ns = c.as_slice.result.now in
    let graph : (node_at p id).body ≡ body.Graph ns = ap (λ (n : Node). n.body) (sym c.node.ensures) ∙ c.in-Graph.is ∙ ap body.Graph (sym c.as_slice.ensures) in
    fewer (steps_below p (length p.nodes)) c.loop-id.stack.items c.pop.new.self.items c.push_reversed.new.stack.items ns id c.in-Some.ensures.items c.in_ok-push_reversed-in-Graph.ensures (steps_graph p c.requires.tree id ns graph)

pub loop-id-preserved : goal.loop-id-preserved
loop-id-preserved c =
    let p = c.args.program.now in
    let id = c.in-Some.id in
    let ns = c.as_slice.result.now in
    let graph : (node_at p id).body ≡ body.Graph ns = ap (λ (n : Node). n.body) (sym c.node.ensures) ∙ c.in-Graph.is ∙ ap body.Graph (sym c.as_slice.ensures) in
    let all = All-pop (λ (n : NodeId). n.0 < length p.nodes) c.loop-id.stack.items c.pop.new.self.items (Some id) c.in-Some.ensures.items c.loop-id.invariant.within in
    record {
      within = all_more (λ (n : NodeId). n.0 < length p.nodes) c.pop.new.self.items c.push_reversed.new.stack.items ns c.in_ok-push_reversed-in-Graph.ensures all.0 (inside p c.requires id ns all.1 graph);
      all = popped_more (leaves_below p (length p.nodes)) c.loop-id.found.items (leaf_nodes p) c.loop-id.stack.items c.pop.new.self.items c.push_reversed.new.stack.items ns id c.loop-id.invariant.all c.in-Some.ensures.items c.in_ok-push_reversed-in-Graph.ensures (unrolled_graph p c.requires.tree id ns graph);
      few = c.loop-id.invariant.few;
    }
