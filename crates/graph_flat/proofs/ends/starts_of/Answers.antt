use Rattle.std.proofs.Common.{◌≡◌, ◌<◌, ◌++◌, List, All, length, sym, ap, ◌∙◌, subst}
use Rattle.std.specs.List.{flat_map}
use Rattle.cm_base.specs.declared.place.EndId.{EndId}
use Rattle.cm_base.specs.declared.place.NodeId.{NodeId}
use Rattle.cm_core.specs.Tree.{inputs, outputs, starts}
use Rattle.graph_flat.proofs.Every.{leaves_there, starts_there}
use Rattle.graph_flat.proofs.ends.starts_of.Goals as goal

pub ends_with-requires-clause-leaves : goal.ends_with-requires-clause-leaves
ends_with-requires-clause-leaves c = subst (All (λ (n : NodeId). n.0 < length c.args.program.now.nodes)) (sym c.requires.leaves) (leaves_there c.args.program.now c.requires.program)

pub returns-clause-starts : goal.returns-clause-starts
returns-clause-starts c = let p = c.args.program.now in c.in_ok-found.ensures ∙ ap (λ (ns : List NodeId). inputs p p.main ++ flat_map (outputs p) ns) c.requires.leaves

pub returns-clause-within : goal.returns-clause-within
returns-clause-within c =
    let p = c.args.program.now in
    let is : c.in_ok-found.found.items ≡ starts p = c.in_ok-found.ensures ∙ ap (λ (ns : List NodeId). inputs p p.main ++ flat_map (outputs p) ns) c.requires.leaves in
    subst (All (λ (e : EndId). e.0 < length p.ends)) (sym is) (starts_there p c.requires.program)
