use Rattle.std.proofs.Common.{◌≡◌, ℕ, ◌<◌, ◌∙◌, ap, sym, List, length, get_or, All, arith, subst, take, None}
use Rattle.std.specs.Prelude.{option_map, position}
use Rattle.std.proofs.lemmas.List.{take_all}
use Rattle.cm_base.specs.declared.place.NodeId.{NodeId}
use Rattle.cm_base.specs.declared.place.EndId.{EndId}
use Rattle.cm_core.specs.declared.program.Node.{Node}
use Rattle.cm_core.specs.declared.program.Program.{Program}
use Rattle.cm_core.specs.Consistent.{IsConsistent}
use Rattle.cm_core.specs.Tree.{is_among, node_at, leaf_nodes}
use Rattle.graph_flat.specs.Ends.{first_owner, leaf_id}
use Rattle.graph_flat.proofs.Every.{leaves_there, ends_there}
use Rattle.graph_flat.proofs.Owners.{owner_more}
use Rattle.graph_flat.proofs.ends.owners.Goals as goal

leaf_there : (p : Program) (c : IsConsistent p) (leaves : List NodeId) (i : ℕ) → leaves ≡ leaf_nodes p → i < length leaves → (get_or leaves i (record { 0 = 0 })).0 < length p.nodes
leaf_there p c leaves i e lt =
    let P : List NodeId → Type 0 = λ ns. All (λ (m : NodeId). m.0 < length p.nodes) ns in
    (subst P (sym e) (leaves_there p c)) i (record { 0 = 0 }) lt

pub node-requires : goal.node-requires
node-requires c = leaf_there c.args.program.now c.requires.program c.args.leaves.now c.loop-at.at c.requires.leaves c.loop-at-test.true

pub own-requires : goal.own-requires
own-requires c =
    let p = c.args.program.now in
    let id : NodeId = get_or c.args.leaves.now c.loop-at.at (record { 0 = 0 }) in
    let there = ends_there p c.requires.program id (leaf_there p c.requires.program c.args.leaves.now c.loop-at.at c.requires.leaves c.loop-at-test.true) in
    rw (c.as_slice-ends.ensures, c.node.ensures, c.loop-at.invariant.len) there

pub loop-at-preserved : goal.loop-at-preserved
loop-at-preserved c =
    let p = c.args.program.now in
    let id : NodeId = get_or c.args.leaves.now c.loop-at.at (record { 0 = 0 }) in
    let ends : c.as_slice-ends.result.now ≡ (node_at p id).ends = c.as_slice-ends.ensures ∙ ap (λ (n : Node). n.ends) c.node.ensures in
    record {
      len = c.own.ensures.len ∙ c.loop-at.invariant.len;
      owners = λ e. owner_more (λ (n : NodeId). is_among e (node_at p n).ends) c.args.leaves.now c.loop-at.at (record { 0 = 0 }) (get_or c.loop-at.owners.items e.0 None) (get_or c.own.new.owners.items e.0 None)
          c.loop-at-test.true (c.loop-at.invariant.owners e)
          (c.own.ensures.owned e ∙ ap (λ (es : List EndId). first_owner (get_or c.loop-at.owners.items e.0 None) (is_among e es) (leaf_id c.loop-at.at)) ends);
    }

pub returns-clause-owners : goal.returns-clause-owners
returns-clause-owners c = λ e.
    let p = c.args.program.now in
    let t : take c.loop-at.at c.args.leaves.now ≡ leaf_nodes p = take_all c.loop-at.at c.args.leaves.now (let f = c.loop-at-test.false in omega (arith, f)) ∙ c.requires.leaves in
    c.loop-at.invariant.owners e ∙ ap (λ (ns : List NodeId). option_map leaf_id (position (λ (n : NodeId). is_among e (node_at p n).ends) ns)) t
