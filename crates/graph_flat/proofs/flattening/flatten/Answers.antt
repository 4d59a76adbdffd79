use Rattle.std.proofs.Common.{map, ap, ◌≡◌, ◌<◌, All, length, sym, ◌∙◌, subst}
use Rattle.cm_base.specs.declared.place.NodeId.{NodeId}
use Rattle.graph_flat.proofs.Every.{leaves_there}
use Rattle.graph_flat.proofs.Small.{names_at, small_at}
use Rattle.graph_flat.proofs.Sounds.{all_sound}
use Rattle.cm_core.specs.Tree.{leaf_nodes, leaf_of}
use Rattle.graph_flat.proofs.flattening.flatten.Goals as goal

pub leaves_of-requires : goal.leaves_of-requires
leaves_of-requires c =
    let p = c.args.program.now in
    subst (All (λ (n : NodeId). n.0 < length p.nodes)) (sym (c.deref-2.ensures.value ∙ c.in_ok-nodes.ensures.found)) (leaves_there p c.requires)

pub returns-clause-sound : goal.returns-clause-sound
returns-clause-sound c = λ cause place f. all_sound c.args.program.now c.in_ok-connections.ensures.sound c.in_ok-nodes.ensures.few c.in_ok-connections.ensures.few c.in_ok-chains.ensures.sound cause place f

pub returns-clause-leaves : goal.returns-clause-leaves
returns-clause-leaves c =
    let p = c.args.program.now in
    let leaves : c.from_vec.result ≡ map (leaf_of p) (leaf_nodes p) = c.from_vec.ensures ∙ c.in_ok-leaves.ensures ∙ ap (map (leaf_of p)) (c.deref-2.ensures.value ∙ c.in_ok-nodes.ensures.found) in
    names_at p c.requires c.from_vec.result c.from_vec-2.result leaves (c.from_vec-2.ensures ∙ c.in_ok-chains.ensures.found)

pub returns-clause-small : goal.returns-clause-small
returns-clause-small c =
    let p = c.args.program.now in
    let leaves : c.from_vec.result ≡ map (leaf_of p) (leaf_nodes p) = c.from_vec.ensures ∙ c.in_ok-leaves.ensures ∙ ap (map (leaf_of p)) (c.deref-2.ensures.value ∙ c.in_ok-nodes.ensures.found) in
    small_at p c.requires c.from_vec.result leaves c.in_ok-nodes.ensures.few
