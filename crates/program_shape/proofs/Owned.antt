-- Groups whose instances are all in one graph.
use Rattle.std.proofs.Common.{◌≡◌, ℕ, ◌<◌, Bool, true, false, not, List, [], ◌∷◌, length, get_or, refl, ap, ◌∙◌, sym, arith, zero, suc}
use Rattle.std.specs.Prelude.{◌&&◌, ◌==◌, Option}
use Rattle.std.specs.List.{list_all}
use Rattle.cm_base.specs.declared.place.NodeId.{NodeId}
use Rattle.cm_core.specs.declared.program.Program.{Program}
use Rattle.cm_core.specs.declared.link.Group.{Group}
use Rattle.cm_core.specs.Tree.{node_at, children}
use Rattle.cm_core.specs.Consistent.{IsGroup, is_in, is_graph}
use Rattle.program_shape.specs.Shape.{IsOwner, HasParents, AreIn, is_parent}

-- where a test gives one answer at each, it gives that at all
same_all : (q : NodeId → Bool) (b : Bool) (n : NodeId) (ns : List NodeId) → q n ≡ b → ((i : ℕ) (d : NodeId) → i < length ns → q (get_or ns i d) ≡ b) → list_all q (n ∷ ns) ≡ b
same_all q true n [] e h = rw e refl
same_all q false n [] e h = rw e refl
same_all q false n (m ∷ ns) e h = rw e refl
same_all q true n (m ∷ ns) e h = rw e (same_all q true m ns (h zero m (omega arith)) (λ i d lt. h (suc i) d (omega (arith, lt))))

at_all : (q : NodeId → Bool) (b : Bool) (ns : List NodeId) → 0 < length ns → ((i : ℕ) (d : NodeId) → i < length ns → q (get_or ns i d) ≡ b) → list_all q ns ≡ b
at_all q b [] some h = absurd (omega (arith, some))
at_all q b (n ∷ ns) some h = same_all q b n ns (h zero n (omega arith)) (λ i d lt. h (suc i) d (omega (arith, lt)))

pub owner_declared : (p : Program) (g : Group) (parents : List (Option ℕ)) (graph : ℕ) → HasParents p parents → IsGroup p g → g.own ≡ false → graph < length p.nodes
    → is_graph (node_at p (record { 0 = graph })).body ≡ true → AreIn parents graph g.nodes → IsOwner p g (record { 0 = graph })
owner_declared p g parents graph hp hg own lt is ins = record {
  there = lt;
  graph = is;
  own = λ k. rw own refl;
  declared = λ k.
      let each : (i : ℕ) (d : NodeId) → i < length g.nodes → is_in (children (node_at p k).body) (get_or g.nodes i d) ≡ (graph == k.0) =
      λ i d le. sym (hp.each k (get_or g.nodes i d)) ∙ ap (λ (o : Option ℕ). is_parent o k.0) (ins i d le) in
      ap (λ (b : Bool). not g.own && b) (at_all (is_in (children (node_at p k).body)) (graph == k.0) g.nodes hg.some each);
}
