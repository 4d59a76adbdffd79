use Rattle.std.proofs.Common.{◌≡◌, false, ap, sym, ◌∙◌}
use Rattle.cm_core.specs.declared.program.Node.{Node}
use Rattle.cm_core.specs.Consistent.{is_graph}
use Rattle.cm_core.specs.Tree.{node_at}
use Rattle.graph_flat.proofs.Faults.{sound_alone}
use Rattle.graph_flat.proofs.flattening.chains.Goals as goal

pub returns-in_ok-found-in-Leaf-clause-sound : goal.returns-in_ok-found-in-Leaf-clause-sound
returns-in_ok-found-in-Leaf-clause-sound c =
    let p = c.args.program.now in
    let leaf : is_graph (node_at p p.main).body ≡ false = ap (λ (n : Node). is_graph n.body) (sym c.node.ensures) ∙ ap is_graph c.in-Leaf.is in
    sound_alone p c.requires.program leaf c.in_ok-found-in-Leaf.ensures.few
