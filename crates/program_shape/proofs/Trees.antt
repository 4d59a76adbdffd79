-- Edges from graphs to their instances, and when they make a tree.
use Rattle.std.proofs.Common.{◌≡◌, ℕ, ◌+◌, ◌<◌, Bool, true, false, List, [], ◌∷◌, ◌++◌, length, get_or, take, refl, ap, ◌∙◌, sym, arith, nat_eq, nat_lt, map, subst, All, zero, suc, ⊎_elim, slice_set, get_or-set_same}
use Rattle.std.specs.Prelude.{◌==◌, ◌&&◌, ◌||◌, Option, Some, None}
use Rattle.std.specs.List.{IsDistinct, flat_map}
use Rattle.std.proofs.lemmas.Bool.{cases_eq}
use Rattle.std.proofs.lemmas.List.{take_more, map-append, length-map}
use Rattle.std.proofs.lemmas.List.Folds.{list_any_more, list_any-append}
use Rattle.std.proofs.lemmas.List.Elements.{All-from_recursion}
use Rattle.std.proofs.lemmas.Map.Keys.{IsDistinct-head, IsDistinct-tail}
use Rattle.std.proofs.lemmas.Grind.{common_steps, flat_map-append}
use Rattle.graph_search.specs.Orders.{IsRanking}
use Rattle.graph_search.specs.declared.edges.Edge.{Edge}
use Rattle.cm_base.specs.declared.place.NodeId.{NodeId}
use Rattle.cm_core.specs.declared.program.Node.{Node}
use Rattle.cm_core.specs.declared.program.Program.{Program}
use Rattle.cm_core.specs.Tree.{node_at, children}
use Rattle.cm_core.specs.Consistent.{IsTree, is_in}
use Rattle.program_shape.specs.Shape.{edge_to, leads, children_of_all, AreEdges, AreParents, HasParents, is_parent}

and_true : (a : Bool) → (a && true) ≡ a
and_true true = refl
and_true false = refl

or_false : (a b : Bool) → (a || (b && false)) ≡ a
or_false true b = refl
or_false false true = refl
or_false false false = refl

both : (a b c : Bool) → ((a && b) || (a && c)) ≡ (a && (b || c))
both true b c = refl
both false b c = refl

-- the edges from a graph to these nodes lead to them alone
pub leads_to : (f p q : ℕ) (ns : List NodeId) → leads (map (edge_to f) ns) p q ≡ ((f == p) && is_in ns (record { 0 = q }))
leads_to f p q [] = grind (arith, common_steps)
leads_to f p q (n ∷ ns) = ap (λ (b : Bool). ((f == p) && (n.0 == q)) || b) (leads_to f p q ns) ∙ both (f == p) (n.0 == q) (is_in ns (record { 0 = q }))

one_more : (i n : ℕ) (a b : Bool) → (n ≡ i → a ≡ b) → ((nat_lt n i && a) || ((i == n) && b)) ≡ (nat_lt n (i + 1) && a)
one_more i n a b h = grind (arith, common_steps)

pub leads_more : (p : Program) (i : ℕ) (old new : List Edge) (ns : List NodeId) → ns ≡ children (node_at p (record { 0 = i })).body → new ≡ old ++ map (edge_to i) ns
    → ((n m : NodeId) → leads old n.0 m.0 ≡ (nat_lt n.0 i && is_in (children (node_at p n).body) m)) → (n m : NodeId) → leads new n.0 m.0 ≡ (nat_lt n.0 (i + 1) && is_in (children (node_at p n).body) m)
leads_more p i old new ns e is h n m =
    ap (λ (es : List Edge). leads es n.0 m.0) is
    ∙ list_any-append (λ (e : Edge). (e.from == n.0) && (e.to == m.0)) old (map (edge_to i) ns)
    ∙ ap (λ (b : Bool). b || leads (map (edge_to i) ns) n.0 m.0) (h n m)
    ∙ ap (λ (b : Bool). (nat_lt n.0 i && is_in (children (node_at p n).body) m) || b) (leads_to i n.0 m.0 ns)
    ∙ one_more i n.0 (is_in (children (node_at p n).body) m) (is_in ns m) (λ same. ap (λ (k : ℕ). is_in (children (node_at p (record { 0 = k })).body) m) same ∙ ap (λ (xs : List NodeId). is_in xs m) (sym e))

targets_of : (f : ℕ) (ns : List NodeId) → map (λ (e : Edge). e.to) (map (edge_to f) ns) ≡ map (λ (n : NodeId). n.0) ns
targets_of f [] = refl
targets_of f (n ∷ ns) = ap (λ (xs : List ℕ). n.0 ∷ xs) (targets_of f ns)

single : {X A : Type 0} (f : X → List A) (x : X) → flat_map f (x ∷ []) ≡ f x
single f x = grind (arith, common_steps)

pub to_more : (nodes : List Node) (i : ℕ) (old new : List Edge) (ns : List NodeId) (d : Node) → i < length nodes → ns ≡ children (get_or nodes i d).body → new ≡ old ++ map (edge_to i) ns
    → map (λ (e : Edge). e.to) old ≡ map (λ (n : NodeId). n.0) (children_of_all (take i nodes)) → map (λ (e : Edge). e.to) new ≡ map (λ (n : NodeId). n.0) (children_of_all (take (i + 1) nodes))
to_more nodes i old new ns d lt e is h =
    let t : children_of_all (take (i + 1) nodes) ≡ children_of_all (take i nodes) ++ ns =
    ap children_of_all (take_more nodes i d lt) ∙ flat_map-append (λ (n : Node). children n.body) (take i nodes) (get_or nodes i d ∷ []) ∙ ap (λ (ys : List NodeId). children_of_all (take i nodes) ++ ys) (single (λ (n : Node). children n.body) (get_or nodes i d) ∙ sym e) in
    ap (map (λ (e : Edge). e.to)) is ∙ map-append (λ (e : Edge). e.to) old (map (edge_to i) ns)
    ∙ ap (λ (ys : List ℕ). ys ++ map (λ (e : Edge). e.to) (map (edge_to i) ns)) h ∙ ap (λ (ys : List ℕ). map (λ (n : NodeId). n.0) (children_of_all (take i nodes)) ++ ys) (targets_of i ns)
    ∙ sym (map-append (λ (n : NodeId). n.0) (children_of_all (take i nodes)) ns) ∙ ap (map (λ (n : NodeId). n.0)) (sym t)

at_map : (es : List Edge) (i : ℕ) (d : Edge) (P : ℕ → Type 0) → All P (map (λ (e : Edge). e.to) es) → i < length es → P (get_or es i d).to
at_map [] i d P h lt = absurd (omega (arith, lt))
at_map (e ∷ es) zero d P h lt = h zero e.to (omega arith)
at_map (e ∷ es) (suc i) d P h lt = at_map es i d P (λ k y le. h (suc k) y (omega (arith, le))) (omega (arith, lt))

-- no earlier edge leads where one leads
pub no_earlier : (es : List Edge) (i : ℕ) (d : Edge) (p : ℕ) → IsDistinct nat_eq (map (λ (e : Edge). e.to) es) → i < length es → leads (take i es) p (get_or es i d).to ≡ false
no_earlier [] i d p h lt = absurd (omega (arith, lt))
no_earlier (e ∷ es) zero d p h lt = refl
no_earlier (e ∷ es) (suc i) d p h lt =
    let lt' : i < length es = omega (arith, lt) in
    let rest : leads (take i es) p (get_or es i d).to ≡ false = no_earlier es i d p (IsDistinct-tail nat_eq e.to (map (λ (e : Edge). e.to) es) h) lt' in
    let all = All-from_recursion (λ (y : ℕ). nat_eq e.to y ≡ false) (map (λ (e : Edge). e.to) es) (IsDistinct-head nat_eq e.to (map (λ (e : Edge). e.to) es) h) in
    let here : nat_eq e.to (get_or es i d).to ≡ false = at_map es i d (λ y. nat_eq e.to y ≡ false) all lt' in
    grind (arith, common_steps, rest, here)

pub parent_step : (es : List Edge) (i : ℕ) (d : Edge) (old : List (Option ℕ)) (p q : ℕ) → IsDistinct nat_eq (map (λ (e : Edge). e.to) es) → i < length es → (get_or es i d).to < length old
    → is_parent (get_or old q None) p ≡ leads (take i es) p q → is_parent (get_or (slice_set old (get_or es i d).to (Some (get_or es i d).from)) q None) p ≡ leads (take (i + 1) es) p q
parent_step es i d old p q once lt within h =
    let e = get_or es i d in
    let more : leads (take (i + 1) es) p q ≡ (leads (take i es) p q || ((e.from == p) && (e.to == q))) = list_any_more (λ (e : Edge). (e.from == p) && (e.to == q)) es i d lt in
    let none : leads (take i es) p e.to ≡ false = no_earlier es i d p once lt in
    ⊎_elim
    (λ (same : e.to ≡ q).
    let none' : leads (take i es) p q ≡ false = subst (λ (k : ℕ). leads (take i es) p k ≡ false) same none in
    let at : get_or (slice_set old e.to (Some e.from)) q None ≡ Some e.from = subst (λ (k : ℕ). get_or (slice_set old e.to (Some e.from)) k None ≡ Some e.from) same (get_or-set_same old e.to (Some e.from) None within) in
    let self : (e.to == q) ≡ true = grind (arith, common_steps) in
    ap (λ (o : Option ℕ). is_parent o p) at ∙ sym (more ∙ ap (λ (b : Bool). b || ((e.from == p) && (e.to == q))) none' ∙ ap (λ (b : Bool). (e.from == p) && b) self ∙ and_true (e.from == p)))
    (λ (ne : e.to ≡ q → ⊥).
    let at : get_or (slice_set old e.to (Some e.from)) q None ≡ get_or old q None = grind (arith, common_steps) in
    let other : (e.to == q) ≡ false = grind (arith, common_steps) in
    ap (λ (o : Option ℕ). is_parent o p) at ∙ h ∙ sym (more ∙ ap (λ (b : Bool). leads (take i es) p q || ((e.from == p) && b)) other ∙ or_false (leads (take i es) p q) (e.from == p)))
    (cases_eq e.to q)

contains_in : (n : NodeId) (ns : List NodeId) (i : ℕ) → i < length ns → get_or ns i n ≡ n → is_in ns n ≡ true
contains_in n [] i lt e = absurd (omega (arith, lt))
contains_in n (m ∷ ns) zero lt e = let f : m.0 ≡ n.0 = ap (λ (k : NodeId). k.0) e in grind (arith, common_steps, f)
contains_in n (m ∷ ns) (suc i) lt e = let r = contains_in n ns i (omega (arith, lt)) e in grind (arith, common_steps, r)

low_at : (heights : List ℕ) (n i : ℕ) → 0 < n → All (λ (q : ℕ). q < n) heights → get_or heights i 0 < n
low_at [] n i some h = some
low_at (x ∷ xs) n zero some h = h zero x (omega arith)
low_at (x ∷ xs) n (suc i) some h = low_at xs n i some (λ k y le. h (suc k) y (omega (arith, le)))

pub tree_of : (p : Program) (es : List Edge) (heights targets : List ℕ) → p.main.0 < length p.nodes → map (λ (e : Edge). e.to) es ≡ map (λ (n : NodeId). n.0) (children_of_all p.nodes) → AreEdges p es
    → IsRanking es (length p.nodes) heights → All (λ (q : ℕ). q < length p.nodes) heights → targets ≡ p.main.0 ∷ map (λ (e : Edge). e.to) es → length targets ≡ length p.nodes → IsDistinct nat_eq targets → IsTree p
tree_of p es heights targets main to edges ranks below is all once =
    let same : targets ≡ p.main.0 ∷ map (λ (n : NodeId). n.0) (children_of_all p.nodes) = is ∙ ap (λ (ys : List ℕ). p.main.0 ∷ ys) to in
    record {
      height = λ n. get_or heights n 0;
      falls = λ n m h. ranks.falls n.0 m.0 (edges n m ∙ contains_in m (children (node_at p n).body) h.0 h.1 h.2);
      low = λ n. low_at heights (length p.nodes) n (omega (arith, main)) below;
      once = subst (IsDistinct nat_eq) same once;
      all = (let e = ap length same in let m = length-map (children_of_all p.nodes) (λ (n : NodeId). n.0) in omega (arith, e, m, all));
    }

pub has_parents : (p : Program) (es : List Edge) (parents : List (Option ℕ)) → AreEdges p es → AreParents es parents → length parents ≡ length p.nodes → HasParents p parents
has_parents p es parents edges h len = record { count = len; each = λ n m. h n.0 m.0 ∙ edges n m }

pub once_of : (p : Program) (es fs : List Edge) → map (λ (e : Edge). e.to) es ≡ map (λ (n : NodeId). n.0) (children_of_all p.nodes) → fs ≡ es → IsTree p → IsDistinct nat_eq (map (λ (e : Edge). e.to) fs)
once_of p es fs to is tree =
    rw is (subst (IsDistinct nat_eq) (sym to) (IsDistinct-tail nat_eq p.main.0 (map (λ (n : NodeId). n.0) (children_of_all p.nodes)) tree.once))
