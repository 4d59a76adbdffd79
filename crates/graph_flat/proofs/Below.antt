-- The leaves below an instance are those below its own instances.
use Rattle.std.proofs.Common.{◌≡◌, ℕ, ◌+◌, ◌<◌, List, [], ◌∷◌, length, refl, ap, ◌∙◌, sym, arith, zero, suc, All, subst}
use Rattle.std.specs.Prelude.{sum_by, Contains}
use Rattle.std.specs.List.{flat_map}
use Rattle.cm_base.specs.declared.place.NodeId.{NodeId}
use Rattle.cm_core.specs.declared.program.Body.{Body}
use Rattle.cm_core.specs.declared.program.Body.TheVariants as body
use Rattle.cm_core.specs.declared.program.Program.{Program}
use Rattle.cm_core.specs.Tree.{no_node, node_at, children, leaves_of, leaves_below}
use Rattle.cm_core.specs.Consistent.{IsConsistent, IsTree, IsNode, HasBody}
use Rattle.graph_flat.specs.Steps.{steps_of, steps_below}
use Rattle.graph_flat.proofs.Stack.{flat_map_agree, sum_agree}

leaves_agree : (f g : NodeId → List NodeId) (n : NodeId) (b : Body) → ((m : NodeId) → Contains (children b) m → f m ≡ g m) → leaves_of f n b ≡ leaves_of g n b
leaves_agree f g n (body.Leaf u) h = refl
leaves_agree f g n (body.Graph ns) h = flat_map_agree f g ns h

steps_agree : (f g : NodeId → ℕ) (b : Body) → ((m : NodeId) → Contains (children b) m → f m ≡ g m) → steps_of f b ≡ steps_of g b
steps_agree f g (body.Leaf u) h = refl
steps_agree f g (body.Graph ns) h = ap (λ (k : ℕ). k + 1) (sum_agree f g ns h)

stable : (p : Program) (t : IsTree p) (d : ℕ) (n : NodeId) → t.height n.0 < d → leaves_below p (suc d) n ≡ leaves_below p d n
stable p t zero n lt = absurd (omega (arith, lt))
stable p t (suc d) n lt = leaves_agree (leaves_below p (suc d)) (leaves_below p d) n (node_at p n).body
    (λ m c. stable p t d m (let f = t.falls n m c in omega (arith, f, lt)))

steady : (p : Program) (t : IsTree p) (d : ℕ) (n : NodeId) → t.height n.0 < d → steps_below p (suc d) n ≡ steps_below p d n
steady p t zero n lt = absurd (omega (arith, lt))
steady p t (suc d) n lt = steps_agree (steps_below p (suc d)) (steps_below p d) (node_at p n).body
    (λ m c. steady p t d m (let f = t.falls n m c in omega (arith, f, lt)))

pub unrolled : (p : Program) → IsTree p → (n : NodeId) → leaves_below p (length p.nodes) n ≡ leaves_of (leaves_below p (length p.nodes)) n (node_at p n).body
unrolled p t n = sym (stable p t (length p.nodes) n (t.low n.0))

pub steps_unrolled : (p : Program) → IsTree p → (n : NodeId) → steps_below p (length p.nodes) n ≡ steps_of (steps_below p (length p.nodes)) (node_at p n).body
steps_unrolled p t n = sym (steady p t (length p.nodes) n (t.low n.0))

-- at a graph, and at a leaf
pub unrolled_graph : (p : Program) → IsTree p → (n : NodeId) (ns : List NodeId) → (node_at p n).body ≡ body.Graph ns → leaves_below p (length p.nodes) n ≡ flat_map (leaves_below p (length p.nodes)) ns
unrolled_graph p t n ns e = unrolled p t n ∙ ap (leaves_of (leaves_below p (length p.nodes)) n) e

pub unrolled_leaf : (p : Program) → IsTree p → (n : NodeId) (u : ℕ) → (node_at p n).body ≡ body.Leaf u → leaves_below p (length p.nodes) n ≡ n ∷ []
unrolled_leaf p t n u e = unrolled p t n ∙ ap (leaves_of (leaves_below p (length p.nodes)) n) e

pub steps_graph : (p : Program) → IsTree p → (n : NodeId) (ns : List NodeId) → (node_at p n).body ≡ body.Graph ns → steps_below p (length p.nodes) n ≡ sum_by (steps_below p (length p.nodes)) ns + 1
steps_graph p t n ns e = steps_unrolled p t n ∙ ap (steps_of (steps_below p (length p.nodes))) e

pub steps_leaf : (p : Program) → IsTree p → (n : NodeId) (u : ℕ) → (node_at p n).body ≡ body.Leaf u → 0 < steps_below p (length p.nodes) n
steps_leaf p t n u e = let s : steps_below p (length p.nodes) n ≡ 1 = steps_unrolled p t n ∙ ap (steps_of (steps_below p (length p.nodes))) e in omega (arith, s)

body_within : (p : Program) (ends : _) (b : Body) → HasBody p ends b → All (λ (m : NodeId). m.0 < length p.nodes) (children b)
body_within p ends (body.Leaf u) h = λ k d lt. absurd (omega (arith, lt))
body_within p ends (body.Graph ns) h = h

-- the instances of a graph are there
pub inside : (p : Program) → IsConsistent p → (n : NodeId) (ns : List NodeId) → n.0 < length p.nodes → (node_at p n).body ≡ body.Graph ns → All (λ (m : NodeId). m.0 < length p.nodes) ns
inside p c n ns lt e =
    let h : IsNode p (node_at p n) = c.nodes n.0 no_node lt in
    let P : Body → Type 0 = λ b. All (λ (m : NodeId). m.0 < length p.nodes) (children b) in
    subst P e (body_within p (node_at p n).ends (node_at p n).body h.inside)
