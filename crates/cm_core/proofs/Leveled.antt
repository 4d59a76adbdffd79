-- In a lawful program whose events lead forward, a handler and all functions of each leaf are depth enough.
use Rattle.std.proofs.Common.{inl, inr, ◌≡◌, ℕ, zero, suc, ◌+◌, ◌-◌, ◌<◌, ◌≤◌, List, [], ◌∷◌, length, Bool, true, false, if◌then◌else◌, refl, sym, ap, subst, arith, Option, Some, None}
use Rattle.std.specs.Prelude.{◌==◌, ◌||◌, ◌⊎◌, All, get_or, nat_lt, nat_eq, slice_get, slice_index_or, is_some, unwrap_or}
use Rattle.std.specs.List.{IsDistinct}
use Rattle.std.proofs.lemmas.Option.{slice_get_cases}
use Rattle.cm_base.specs.Parts.{Task}
use Rattle.cm_base.specs.Players.{stops}
use Rattle.std.proofs.lemmas.Bool.{eqb-true, ltb-true, ltb-false, false≢true}
use Rattle.cm_base.specs.declared.host.Kind.{Kind}
use Rattle.cm_base.specs.declared.host.Kind.TheVariants as kinds
use Rattle.cm_base.specs.declared.place.LeafId.{LeafId}
use Rattle.cm_base.specs.declared.place.EndId.{EndId}
use Rattle.cm_core.specs.declared.core_type.StructType.{StructType}
use Rattle.cm_core.specs.declared.stmt.CoreStmt.{CoreStmt}
use Rattle.cm_core.specs.declared.flat.Chain.{Chain}
use Rattle.cm_core.specs.declared.flat.Leaf.{Leaf}
use Rattle.cm_core.specs.declared.flat.Point.{Point}
use Rattle.cm_core.specs.declared.unit.Unit.{Unit as CoreUnit}
use Rattle.cm_core.specs.declared.unit.Handler.{Handler}
use Rattle.cm_core.specs.declared.unit.Home.{Home}
use Rattle.cm_core.specs.declared.unit.Home.TheVariants as home
use Rattle.cm_core.specs.Code.{Stmt, stmt_of, body_of}
use Rattle.cm_core.specs.Bodies.{IsStmt}
use Rattle.cm_core.specs.Linked.{Linked, no_unit, unit_at, unit_numbered, leaf_point, host_point, end_of}
use Rattle.cm_core.specs.Calls.{Numbered, handler_among, bodies_of, depth_of}
use Rattle.cm_core.specs.Lawful.{standing, IsHandler, IsBody, IsUnit, IsLawful}
use Rattle.cm_core.specs.Levels.{Levels, Lower, Reaches, WritesBy, Writes, Under, IsLeveled}
use Rattle.cm_core.specs.Forward.{has_leaf, comes_before, GoesOn, ComesIn, EndIn, IsForward, behind, functions_of, levels_of}
use Rattle.cm_core.specs.CoreRun.{core_player, first_world}
use Rattle.cm_core.proofs.Typed.{typed_uses}
use Rattle.cm_core.proofs.Deep.{stops_deep}

-- ---- numbers of bodies behind a leaf

within_case : (l : Linked) (x : LeafId) (xs : List LeafId) (j : ℕ) (b : Bool) → (x.0 == j) ≡ b → (b || has_leaf xs j) ≡ true →
    (has_leaf xs j ≡ true → behind l xs j + functions_of l j < bodies_of l xs) →
    (if b then bodies_of l xs else behind l xs j) + functions_of l j < suc (functions_of l x.0) + bodies_of l xs
within_case l x xs j true at h ih =
    let e : x.0 ≡ j = eqb-true x.0 j at in
    let here : bodies_of l xs + functions_of l x.0 < suc (functions_of l x.0) + bodies_of l xs = omega arith in
    subst (λ q. bodies_of l xs + functions_of l q < suc (functions_of l x.0) + bodies_of l xs) e here
within_case l x xs j false at h ih = let low : behind l xs j + functions_of l j < bodies_of l xs = ih h in omega arith

within : (l : Linked) (order : List LeafId) (j : ℕ) → has_leaf order j ≡ true → behind l order j + functions_of l j < bodies_of l order
within l [] j h = absurd (false≢true h)
within l (x ∷ xs) j h = within_case l x xs j (x.0 == j) refl h (within l xs j)

later_case : (l : Linked) (xs : List LeafId) (i j : ℕ) (a b : Bool) → (if a then false else (if b then has_leaf xs j else comes_before xs i j)) ≡ true →
    (comes_before xs i j ≡ true → behind l xs j + functions_of l j < behind l xs i) →
    (if a then bodies_of l xs else behind l xs j) + functions_of l j < (if b then bodies_of l xs else behind l xs i)
later_case l xs i j true b h ih = absurd (false≢true h)
later_case l xs i j false true h ih = within l xs j h
later_case l xs i j false false h ih = ih h

later : (l : Linked) (order : List LeafId) (i j : ℕ) → comes_before order i j ≡ true → behind l order j + functions_of l j < behind l order i
later l [] i j h = absurd (false≢true h)
later l (x ∷ xs) i j h = later_case l xs i j (x.0 == j) (x.0 == i) h (later l xs i j)

-- ---- events

goes_lower : (l : Linked) (level i : ℕ) → behind l l.order i ≤ level → (leaf : Option LeafId) (end : EndId) → GoesOn l.order i leaf → Lower l (levels_of l) level leaf end
goes_lower l level i le None end g = tt
goes_lower l level i le (Some leaf) end g = let low : behind l l.order leaf.0 + functions_of l leaf.0 < behind l l.order i = later l l.order i leaf.0 g in omega arith

leads_lower : (l : Linked) (level i : ℕ) → behind l l.order i ≤ level → (from : Point) (chains : List Chain) → EndIn (GoesOn l.order i) from chains → Reaches l (levels_of l) level from chains
leads_lower l level i le from [] g = tt
leads_lower l level i le from (chain ∷ chains) g = (λ same. goes_lower l level i le chain.to.leaf chain.to.end (g.0 same), leads_lower l level i le from chains g.1)

writes_lower : (l : Linked) (level i : ℕ) → behind l l.order i ≤ level → (from : Point) (kind : Kind) → (kind ≡ kinds.Event → EndIn (GoesOn l.order i) from l.flat.chains) →
    WritesBy l (levels_of l) level kind from
writes_lower l level i le from kinds.Stream g = tt
writes_lower l level i le from kinds.Value g = tt
writes_lower l level i le from kinds.Event g = leads_lower l level i le from l.flat.chains (g refl)

writes_all : (l : Linked) → IsForward l → (level i : ℕ) → behind l l.order i ≤ level → (e : ℕ) → Writes l (levels_of l) level i e
writes_all l f level i le e = writes_lower l level i le (leaf_point l i e) (end_of (unit_at l i) e).kind (f.events i e)

sent_lower : (l : Linked) (leaf : Option LeafId) (end : EndId) → ComesIn l.order leaf → Lower l (levels_of l) (depth_of l) leaf end
sent_lower l None end g = tt
sent_lower l (Some leaf) end g = within l l.order leaf.0 g

sends_lower : (l : Linked) (from : Point) (chains : List Chain) → EndIn (ComesIn l.order) from chains → Reaches l (levels_of l) (depth_of l) from chains
sends_lower l from [] g = tt
sends_lower l from (chain ∷ chains) g = (λ same. sent_lower l chain.to.leaf chain.to.end (g.0 same), sends_lower l from chains g.1)

-- ---- calls

allowed : (from count f : ℕ) (b : Bool) → nat_lt f from ≡ b → (if b then false else nat_lt f count) ≡ true → (from ≤ f) × (f < count)
allowed from count f true at h = absurd (false≢true h)
allowed from count f false at h = (ltb-false f from at, ltb-true f count h)

-- typed code of a leaf is under a level that is above what it may call
under : (l : Linked) → IsForward l → (structs : List StructType) (body : Home) (from : ℕ) (result : _) (i level : ℕ) → behind l l.order i ≤ level →
    ((f : ℕ) → from ≤ f → f < functions_of l i → behind l l.order i + (functions_of l i - suc f) < level) → (s : Stmt) → IsStmt (standing structs (unit_at l i) body from result) s →
    Under l (levels_of l) level i s
under l f structs body from result i level le below s t =
    typed_uses (λ g. (levels_of l).function i g < level) (Writes l (levels_of l) level i) (writes_all l f level i le) (standing structs (unit_at l i) body from result)
    (λ g ok. let a : (from ≤ g) × (g < functions_of l i) = allowed from (functions_of l i) g (nat_lt g from) refl ok in below g a.0 a.1) s t

-- ---- the unit of a leaf

none_twice : IsDistinct nat_eq []
unfolding IsDistinct
none_twice = tt

empty_unit : (structs : List StructType) → IsUnit structs no_unit
empty_unit structs =
    record {
      ends = λ k d le. absurd (omega arith);
      state = λ k d le. absurd (omega arith);
      locals = λ k d le. absurd (omega arith);
      order = tt;
      constants = λ k d le. absurd (omega arith);
      functions = λ f function at. absurd (false≢true (ap is_some at));
      handlers = λ k handler at. absurd (false≢true (ap is_some at));
      once = none_twice;
      init = record { whole = refl; typed = tt; shallow = omega arith };
      silent = record { reached = λ f. false; first = tt; further = λ f function at r. absurd (false≢true (ap is_some at)) };
      main = record { whole = refl; typed = tt; shallow = omega arith };
      latency = omega arith;
      factor_least = omega arith;
      factor_most = omega arith;
    }

-- ---- handlers

found_case : (P : ℕ → Handler → Type 0) (k : ℕ) (h : Handler) (rest : Option Numbered) (found : Numbered) → P k h → (rest ≡ Some found → P found.0 found.1) → (b : Bool) →
    (if b then Some (k, h) else rest) ≡ Some found → P found.0 found.1
found_case P k h rest found here ih true is = let same : (k, h) ≡ found = ap (λ o. unwrap_or o (k, h)) is in subst (λ (q : Numbered). P q.0 q.1) same here
found_case P k h rest found here ih false is = ih is

-- what holds of each handler by its number holds of one that is found
found_by : (P : ℕ → Handler → Type 0) (e k : ℕ) (handlers : List Handler) (found : Numbered) → ((n : ℕ) (h : Handler) → slice_get handlers n ≡ Some h → P (k + n) h) →
    handler_among e k handlers ≡ Some found → P found.0 found.1
found_by P e k [] found all at = absurd (false≢true (ap is_some at))
found_by P e k (h ∷ hs) found all at =
    let first : k + 0 ≡ k = omega arith in
    let tail : (n : ℕ) (g : Handler) → slice_get hs n ≡ Some g → P (k + 1 + n) g =
    λ n g is. (let s : k + suc n ≡ k + 1 + n = omega arith in subst (λ q. P q g) s (all (suc n) g is)) in
    found_case P k h (handler_among e (k + 1) hs) found (subst (λ q. P q h) first (all 0 h refl)) (found_by P e (k + 1) hs found tail) (h.end == e) at

-- ---- units

at_or : {A : Type 0} (P : A → Type 0) (xs : List A) (n : ℕ) (d : A) → All P xs → P d → P (slice_index_or xs n d)
at_or P [] n d each base = base
at_or P (x ∷ xs) zero d each base = each 0 d (omega arith)
at_or P (x ∷ xs) (suc n) d each base = at_or P xs n d (λ k e le. each (suc k) e (omega arith)) base

unit_lawful : (l : Linked) → IsLawful l.program → (leaf : Option Leaf) → IsUnit l.program.structs (unit_numbered l leaf)
unit_lawful l law None = empty_unit l.program.structs
unit_lawful l law (Some leaf) = at_or (IsUnit l.program.structs) l.program.units leaf.unit no_unit law.units (empty_unit l.program.structs)

-- ---- the whole

-- code of a leaf that may call all functions is under the depth, where the leaf is one of the order
top_under : (l : Linked) → IsForward l → (structs : List StructType) (body : Home) (i : ℕ) → has_leaf l.order i ≡ true → (s : Stmt) → IsBody (standing structs (unit_at l i) body 0 None) s →
    Under l (levels_of l) (depth_of l) i s
top_under l f structs body i has s b =
    let low : behind l l.order i + functions_of l i < depth_of l = within l l.order i has in
    under l f structs body 0 None i (depth_of l) (omega arith) (λ g a k. omega arith) s b.typed

-- a leaf that isn't there has no code
leaf_case : (l : Linked) (levels : Levels) (top i : ℕ) (code : CoreUnit → Option CoreStmt) → code no_unit ≡ None → (i < length l.flat.leaves → Under l levels top i (body_of (code (unit_at l i)))) →
    Under l levels top i (body_of (code (unit_at l i)))
leaf_case l levels top i code none there = by_cases (slice_get_cases l.flat.leaves i).1
  where
    by_cases : ((x : Leaf) × (i < length l.flat.leaves) × (slice_get l.flat.leaves i ≡ Some x) × (get_or l.flat.leaves i x ≡ x)) ⊎ ((length l.flat.leaves ≤ i) × (slice_get l.flat.leaves i ≡ None)) → Under l levels top i (body_of (code (unit_at l i)))
    by_cases (inl h) = there h.1
    by_cases (inr h) = subst (λ leaf. Under l levels top i (body_of (code (unit_numbered l leaf)))) (sym h.1) (subst (λ c. Under l levels top i (body_of c)) (sym none) tt)

-- the levels of a lawful program whose events lead forward, with a handler and all functions of each leaf as the top
pub leveled : (l : Linked) → IsLawful l.program → IsForward l → IsLeveled l (levels_of l) (depth_of l)
leveled l law f =
    record {
      ends =
          record {
            functions = λ i g code at.
                (let u : IsUnit l.program.structs (unit_at l i) = unit_lawful l law (slice_get l.flat.leaves i) in
                under l f l.program.structs (home.Function g) (suc g) code.result i (behind l l.order i + (functions_of l i - suc g)) (omega arith) (λ h a k. omega arith)
                (stmt_of code.body) (u.functions g code at).body.typed);
            handlers = λ j e found at.
                (let u : IsUnit l.program.structs (unit_at l j) = unit_lawful l law (slice_get l.flat.leaves j) in
                under l f l.program.structs (home.Handler found.0) 0 None j (behind l l.order j + functions_of l j) (omega arith) (λ h a k. omega arith) (stmt_of found.1.body)
                (found_by (λ k h. IsHandler l.program.structs (unit_at l j) k h) e 0 (unit_at l j).handlers found (λ n h is. from_zero l j n h (u.handlers n h is)) at).body.typed);
          };
      inits = λ i.
          leaf_case l (levels_of l) (depth_of l) i (λ u. u.init) refl
          (λ there. top_under l f l.program.structs home.Init i (f.leaves i there) (body_of (unit_at l i).init) (unit_lawful l law (slice_get l.flat.leaves i)).init);
      mains = λ i.
          leaf_case l (levels_of l) (depth_of l) i (λ u. u.main) refl
          (λ there. top_under l f l.program.structs home.Main i (f.leaves i there) (body_of (unit_at l i).main) (unit_lawful l law (slice_get l.flat.leaves i)).main);
      sends = λ k. sends_lower l (host_point l k) l.flat.chains (f.sends k);
    }
  where
    from_zero : (l : Linked) (j n : ℕ) (h : Handler) → IsHandler l.program.structs (unit_at l j) n h → IsHandler l.program.structs (unit_at l j) (0 + n) h
    from_zero l j n h is = let e : n ≡ 0 + n = omega arith in subst (λ q. IsHandler l.program.structs (unit_at l j) q h) e is

-- so a run of such a program is what it is at each greater depth
pub run_deep : (l : Linked) → IsLawful l.program → IsForward l → (n : ℕ) (tasks : List Task) (more : ℕ) →
    stops (core_player l (depth_of l)) n tasks (first_world l) ≡ stops (core_player l (depth_of l + more)) n tasks (first_world l)
run_deep l law f n tasks more = stops_deep l (levels_of l) (depth_of l) (leveled l law f) n tasks more
