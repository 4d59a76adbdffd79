use Rattle.program_shape.proofs.tree.edges.Goals as goal
use Rattle.std.proofs.Common.{◌≡◌, ◌<◌, List, length, get_or, ap, ◌∙◌, subst}
use Rattle.std.proofs.lemmas.List.{get_or_default}
use Rattle.cm_core.specs.declared.program.Node.{Node}
use Rattle.cm_core.specs.Tree.{no_node, children}
use Rattle.program_shape.proofs.Trees.{to_more, leads_more}

pub loop-at-preserved : goal.loop-at-preserved
loop-at-preserved c =
    let p = c.args.program.now in
    let i = c.loop-at.at in
    let d = c.index-nodes-at.result in
    let lt : i < length p.nodes = subst (λ (ns : List Node). i < length ns) c.as_slice-nodes.ensures c.loop-at-test.true in
    let ns : c.children.result.now ≡ children (get_or p.nodes i d).body = c.children.ensures ∙ ap (λ (ns : List Node). children (get_or ns i d).body) c.as_slice-nodes.ensures in
    record {
      to = to_more p.nodes i c.loop-at.edges.items c.push_edges.new.edges.items c.children.result.now d lt ns c.in_ok-push_edges.ensures c.loop-at.invariant.to;
      leads = leads_more p i c.loop-at.edges.items c.push_edges.new.edges.items c.children.result.now (ns ∙ ap (λ (n : Node). children n.body) (get_or_default p.nodes i d no_node lt)) c.in_ok-push_edges.ensures c.loop-at.invariant.leads;
    }
