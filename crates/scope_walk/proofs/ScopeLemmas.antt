-- The steps of parts in scopes of their own, in loops and in texts of declarations.
use Rattle.std.specs.Prelude.{◌≡◌, refl, ℕ, suc, ◌+◌, ◌<◌, List, [], ◌∷◌, ◌++◌, length, map, take, Option, Some, None, Result, Ok, Err, OnOk}
use Rattle.std.proofs.Common.{ap, sym, ◌∙◌, subst, arith, get_or}
use Rattle.std.proofs.Math.Seq.{take-length}
use Rattle.std.proofs.lemmas.List.{append-nil, append_assoc}
use Rattle.cm_tree.specs.declared.path.Word.{Word}
use Rattle.cm_tree.specs.declared.expr.Expr.{Expr}
use Rattle.cm_tree.specs.declared.type_expr.TypeExpr.{TypeExpr}
use Rattle.cm_tree.specs.declared.simple.Var.{Var}
use Rattle.cm_tree.specs.declared.simple.Local.{Local}
use Rattle.cm_tree.specs.declared.simple.Local.TheVariants as l
use Rattle.cm_tree.specs.declared.simple.Simple.{Simple}
use Rattle.cm_tree.specs.declared.stmt.Start.{Start}
use Rattle.cm_tree.specs.declared.stmt.Start.TheVariants as st
use Rattle.cm_tree.specs.declared.stmt.Stmt.{Stmt}
use Rattle.cm_tree.specs.declared.stmt.Stmt.TheVariants as x
use Rattle.cm_meaning.specs.Declared.{Counter, Named, Declared}
use Rattle.cm_meaning.specs.Scopes.{Around, declare, declare_all, declared, inside_of, looped, scoped, typed_local}
use Rattle.cm_meaning.specs.Sites.{Site, site, Declares, expr_sites, optional_sites, type_sites}
use Rattle.cm_meaning.specs.SiteEquations.{stmt_sites-Local}
use Rattle.cm_meaning.specs.BodySites.{after, after_local, after_start, counter, local_sites, next_sites, simple_sites, start_sites, stmt_sites, stmts_sites, var_sites}
use Rattle.scope_walk.specs.Steps.{Step, Stand, Enters, Leaves, Introduces, EntersLoop, LeavesLoop, EntersText, LeavesText, MeetsCounter, entered, step_after, after_steps, sites_by, after_all, unscoped, Walks, Reads}
use Rattle.scope_walk.specs.Bodies.{counted_sites, for_sites}
use Rattle.scope_walk.proofs.StepLemmas.{after-append, sites-append, ok-map, reads-at, reads-in, reads-step, reads-then, reads-walks, walks-at, walks-then, take-more}
use Rattle.scope_walk.proofs.LocalLemmas.{walks-declare}

-- ---- a scope

pub in-scope : (a b c d : List Step) (s : Around → List Site) (g : Around → Around) → b ≡ a ++ Enters ∷ [] → Walks b c s g → d ≡ c ++ Leaves ∷ [] → Reads a d (λ r. s (scoped r []))
unfolding sites_by after_steps
in-scope a b c d s g enters h leaves = record {
  more = Enters ∷ (h.more ++ Leaves ∷ []);
  grown = leaves ∙ ap (λ z. z ++ Leaves ∷ []) (h.grown ∙ ap (λ z. z ++ h.more) enters) ∙ ap (λ z. z ++ Leaves ∷ []) (append_assoc a (Enters ∷ []) h.more) ∙ append_assoc a (Enters ∷ h.more) (Leaves ∷ []);
  comes = λ q. sites-append (entered q []) h.more (Leaves ∷ []) ∙ append-nil (sites_by (entered q []) h.more) ∙ h.comes q [];
  stays = λ q. after-append (entered q []) h.more (Leaves ∷ []) ∙ ap (λ z. step_after z Leaves) (h.stays q []);
}

pub scope-part : {E : Type 0} (a b c d : List Step) (s : Around → List Site) (g : Around → Around) (o : Result (Unit {0}) E) → b ≡ a ++ Enters ∷ [] → Walks b c s g → OnOk o (d ≡ c ++ Leaves ∷ [])
    → OnOk o (Reads a d (λ r. s (scoped r [])))
scope-part a b c d s g o enters h leaves = ok-map o (d ≡ c ++ Leaves ∷ []) (Reads a d (λ r. s (scoped r []))) (in-scope a b c d s g enters h) leaves

-- ---- a loop, and the text of a declaration

pub loop-part : {E : Type 0} (a b c d : List Step) (s : Around → List Site) (o : Result (Unit {0}) E) → b ≡ a ++ EntersLoop ∷ [] → Reads b c s → OnOk o (d ≡ c ++ LeavesLoop ∷ []) → OnOk o (Reads a d (λ r. s (looped r)))
loop-part a b c d s o enters h leaves = ok-map o (d ≡ c ++ LeavesLoop ∷ []) (Reads a d (λ r. s (looped r)))
    (reads-in a b c d EntersLoop LeavesLoop looped s (λ q. refl) (λ q. refl) (λ q. refl) (λ q. refl) enters h) leaves

pub text-part : {E : Type 0} (a b c d : List Step) (w : Word) (n : Named) (s : Around → List Site) (o : Result (Unit {0}) E) → b ≡ a ++ EntersText w n ∷ [] → Reads b c s → OnOk o (d ≡ c ++ LeavesText ∷ [])
    → OnOk o (Reads a d (λ r. s (inside_of r (declared r.home w n))))
text-part a b c d w n s o enters h leaves = ok-map o (d ≡ c ++ LeavesText ∷ []) (Reads a d (λ r. s (inside_of r (declared r.home w n))))
    (reads-in a b c d (EntersText w n) LeavesText (λ r. inside_of r (declared r.home w n)) s (λ q. refl) (λ q. refl) (λ q. refl) (λ q. refl) enters h) leaves

-- ---- locals with a type

-- a part, and then one that declares names
read-then : (a b c : List Step) (s t : Around → List Site) (g : Around → Around) → Reads a b s → Walks b c t g → Walks a c (λ r. s r ++ t r) g
read-then a b c s t g h k = walks-then a b c s t (λ r. r) g (reads-walks a b s h) k

pub in-typed : {E : Type 0} (a b c : List Step) (ty : TypeExpr) (vars row : List Var) (local : Local) (o : Result (Unit {0}) E) → local ≡ l.Typed ty vars → row ≡ vars → Reads a b (λ r. type_sites r ty)
    → OnOk o (Walks b c (λ r. var_sites r ty r row) (λ r. declare_all r (map (typed_local r.home ty) row))) → OnOk o (Walks a c (λ r. local_sites r local) (λ r. after_local r local))
in-typed a b c ty vars row local o is same h k =
    subst (λ z. OnOk o (Walks a c (λ r. local_sites r z) (λ r. after_local r z))) (sym is)
    (ok-map o (Walks b c (λ r. var_sites r ty r row) (λ r. declare_all r (map (typed_local r.home ty) row))) (Walks a c (λ r. local_sites r (l.Typed ty vars)) (λ r. after_local r (l.Typed ty vars)))
    (λ w. subst (λ z. Walks a c (λ r. type_sites r ty ++ var_sites r ty r z) (λ r. declare_all r (map (typed_local r.home ty) z))) same
    (read-then a b c (λ r. type_sites r ty) (λ r. var_sites r ty r row) (λ r. declare_all r (map (typed_local r.home ty) row)) h w)) k)

-- ---- statements one after the other

stmts-end : (r : Around) (xs : List Stmt) (a : Stmt) → stmts_sites r (xs ++ a ∷ []) ≡ stmts_sites r xs ++ stmt_sites (after_all r xs) a
unfolding stmts_sites after_all
stmts-end r [] a = append-nil (stmt_sites r a)
stmts-end r (x ∷ xs) a = ap (λ z. stmt_sites r x ++ z) (stmts-end (after r x) xs a) ∙ sym (append_assoc (stmt_sites r x) (stmts_sites (after r x) xs) (stmt_sites (after_all (after r x) xs) a))

after-end : (r : Around) (xs : List Stmt) (a : Stmt) → after_all r (xs ++ a ∷ []) ≡ after (after_all r xs) a
unfolding after_all
after-end r [] a = refl
after-end r (x ∷ xs) a = after-end (after r x) xs a

pub stmts-start : (all : List Stmt) (a : List Step) → Walks a a (λ r. stmts_sites r (take 0 all)) (λ r. after_all r (take 0 all))
unfolding stmts_sites after_all sites_by after_steps
stmts-start all a = record { more = []; grown = sym (append-nil a); comes = λ q here. refl; names = λ q here. here; stays = λ q here. refl; declares = λ q here. refl }

pub stmts-next : (all : List Stmt) (i : ℕ) (x : Stmt) (a b c : List Step) → i < length all → x ≡ get_or all i x → Walks a b (λ r. stmts_sites r (take i all)) (λ r. after_all r (take i all))
    → Walks b c (λ r. stmt_sites r x) (λ r. after r x) → Walks a c (λ r. stmts_sites r (take (i + 1) all)) (λ r. after_all r (take (i + 1) all))
stmts-next all i x a b c within at h k =
    walks-at a c (λ r. stmts_sites r (take i all) ++ stmt_sites (after_all r (take i all)) x) (λ r. stmts_sites r (take (i + 1) all)) (λ r. after (after_all r (take i all)) x) (λ r. after_all r (take (i + 1) all))
    (λ r here. ap (stmts_sites (scoped r here)) (take-more all i x within at) ∙ stmts-end (scoped r here) (take i all) x)
    (λ r. ap (after_all r) (take-more all i x within at) ∙ after-end r (take i all) x)
    (walks-then a b c (λ r. stmts_sites r (take i all)) (λ r. stmt_sites r x) (λ r. after_all r (take i all)) (λ r. after r x) h k)

pub stmts-all : (all : List Stmt) (i : ℕ) (a b : List Step) → i ≡ length all → Walks a b (λ r. stmts_sites r (take i all)) (λ r. after_all r (take i all)) → Walks a b (λ r. stmts_sites r all) (λ r. after_all r all)
stmts-all all i a b whole h = subst (λ z. Walks a b (λ r. stmts_sites r z) (λ r. after_all r z)) (ap (λ n. take n all) whole ∙ take-length all) h

-- ---- one statement

-- a statement that declares nothing
plain : (a b : List Step) (s : Around → List Site) (tree y : Stmt) → tree ≡ y → ((r : Around) → after r y ≡ r) → ((r : Around) → stmt_sites r y ≡ s r) → Reads a b s → Walks a b (λ r. stmt_sites r tree) (λ r. after r tree)
plain a b s tree y is same sites h = subst (λ z. Walks a b (λ r. stmt_sites r z) (λ r. after r z)) (sym is)
    (walks-at a b s (λ r. stmt_sites r y) (λ r. r) (λ r. after r y) (λ r here. sites (scoped r here)) same (reads-walks a b s h))

pub plain-part : {E : Type 0} (a b : List Step) (s : Around → List Site) (tree y : Stmt) (o : Result (Unit {0}) E) → tree ≡ y → ((r : Around) → after r y ≡ r) → ((r : Around) → stmt_sites r y ≡ s r)
    → OnOk o (Reads a b s) → OnOk o (Walks a b (λ r. stmt_sites r tree) (λ r. after r tree))
plain-part a b s tree y o is same sites h = ok-map o (Reads a b s) (Walks a b (λ r. stmt_sites r tree) (λ r. after r tree)) (plain a b s tree y is same sites) h

-- a statement with no site
pub plain-none : (a : List Step) (s : Around → List Site) (tree y : Stmt) → tree ≡ y → ((r : Around) → after r y ≡ r) → ((r : Around) → stmt_sites r y ≡ s r) → Reads a a s → Walks a a (λ r. stmt_sites r tree) (λ r. after r tree)
plain-none a s tree y is same sites h = plain a a s tree y is same sites h

-- a part that is read, and then a part
pub then-part : {E : Type 0} (a b c : List Step) (s t : Around → List Site) (o : Result (Unit {0}) E) → Reads a b s → OnOk o (Reads b c t) → OnOk o (Reads a c (λ r. s r ++ t r))
then-part a b c s t o h k = ok-map o (Reads b c t) (Reads a c (λ r. s r ++ t r)) (reads-then a b c s t h) k

pub local-part : {E : Type 0} (a b : List Step) (local : Local) (tree : Stmt) (o : Result (Unit {0}) E) → tree ≡ x.Local local → OnOk o (Walks a b (λ r. local_sites r local) (λ r. after_local r local))
    → OnOk o (Walks a b (λ r. stmt_sites r tree) (λ r. after r tree))
local-part a b local tree o is h = subst (λ z. OnOk o (Walks a b (λ r. stmt_sites r z) (λ r. after r z))) (sym is)
    (ok-map o (Walks a b (λ r. local_sites r local) (λ r. after_local r local)) (Walks a b (λ r. stmt_sites r (x.Local local)) (λ r. after_local r local))
    (walks-at a b (λ r. local_sites r local) (λ r. stmt_sites r (x.Local local)) (λ r. after_local r local) (λ r. after_local r local) (λ r here. stmt_sites-Local (scoped r here) local) (λ r. refl)) h)

-- the variable of a `for`, and the body
pub counted-part : {E : Type 0} (a b c d e f : List Step) (w : Word) (ty : TypeExpr) (tree : Stmt) (o : Result (Unit {0}) E) → b ≡ a ++ Enters ∷ [] → c ≡ b ++ MeetsCounter w ty ∷ [] → d ≡ c ++ Introduces w (Counter ty) ∷ []
    → Reads d e (λ r. stmt_sites (scoped (looped r) []) tree) → OnOk o (f ≡ e ++ Leaves ∷ []) → OnOk o (Reads a f (λ r. counted_sites r ty w tree))
counted-part a b c d e f w ty tree o enters meets grown h leaves =
    scope-part a b e f (λ r. site r (Declares (unscoped r) (counter r ty w)) ∷ stmt_sites (scoped (looped (declare r (counter r ty w))) []) tree) (λ r. declare r (counter r ty w)) o enters
    (read-then b c e (λ r. site r (Declares (unscoped r) (counter r ty w)) ∷ []) (λ r. stmt_sites (scoped (looped (declare r (counter r ty w))) []) tree) (λ r. declare r (counter r ty w))
    (reads-step b c (MeetsCounter w ty) (λ r. site r (Declares (unscoped r) (counter r ty w)) ∷ []) (λ q. refl) (λ q. refl) meets)
    (walks-then c d e (λ r. []) (λ r. stmt_sites (scoped (looped r) []) tree) (λ r. declare r (counter r ty w)) (λ r. r) (walks-declare c d w (Counter ty) grown) (reads-walks d e (λ r. stmt_sites (scoped (looped r) []) tree) h))) leaves

pub for-part : {E : Type 0} (a b c d e f g : List Step) (start : Option Start) (test : Option Expr) (next : Option Simple) (tree : Stmt) (o : Result (Unit {0}) E) → b ≡ a ++ Enters ∷ []
    → Walks b c (λ r. start_sites r start) (λ r. after_start r start) → Reads c d (λ r. optional_sites r test) → Reads d e (λ r. next_sites r next) → Reads e f (λ r. stmt_sites (scoped (looped r) []) tree)
    → OnOk o (g ≡ f ++ Leaves ∷ []) → OnOk o (Reads a g (λ r. for_sites (scoped r []) start test next tree))
for-part a b c d e f g start test next tree o enters h i j k leaves =
    scope-part a b f g (λ r. for_sites r start test next tree) (λ r. after_start r start) o enters
    (walks-then b c f (λ r. start_sites r start) (λ r. optional_sites r test ++ (next_sites r next ++ stmt_sites (scoped (looped r) []) tree)) (λ r. after_start r start) (λ r. r) h
    (reads-walks c f (λ r. optional_sites r test ++ (next_sites r next ++ stmt_sites (scoped (looped r) []) tree))
    (reads-then c d f (λ r. optional_sites r test) (λ r. next_sites r next ++ stmt_sites (scoped (looped r) []) tree) i
    (reads-then d e f (λ r. next_sites r next) (λ r. stmt_sites (scoped (looped r) []) tree) j k)))) leaves

pub start-none : (a : List Step) (start : Option Start) → start ≡ None → Walks a a (λ r. start_sites r start) (λ r. after_start r start)
unfolding sites_by after_steps
start-none a start is = subst (λ z. Walks a a (λ r. start_sites r z) (λ r. after_start r z)) (sym is)
    (record { more = []; grown = sym (append-nil a); comes = λ q here. refl; names = λ q here. here; stays = λ q here. refl; declares = λ q here. refl })

pub first-local : {E : Type 0} (a b : List Step) (local : Local) (first : Start) (o : Result (Unit {0}) E) → first ≡ st.Local local → OnOk o (Walks a b (λ r. local_sites r local) (λ r. after_local r local))
    → OnOk o (Walks a b (λ r. start_sites r (Some first)) (λ r. after_start r (Some first)))
first-local a b local first o is h = subst (λ z. OnOk o (Walks a b (λ r. start_sites r (Some z)) (λ r. after_start r (Some z)))) (sym is) h

pub first-simple : {E : Type 0} (a b : List Step) (simple : Simple) (first : Start) (o : Result (Unit {0}) E) → first ≡ st.Simple simple → OnOk o (Reads a b (λ r. simple_sites r simple))
    → OnOk o (Walks a b (λ r. start_sites r (Some first)) (λ r. after_start r (Some first)))
first-simple a b simple first o is h = subst (λ z. OnOk o (Walks a b (λ r. start_sites r (Some z)) (λ r. after_start r (Some z)))) (sym is)
    (ok-map o (Reads a b (λ r. simple_sites r simple)) (Walks a b (λ r. simple_sites r simple) (λ r. r)) (reads-walks a b (λ r. simple_sites r simple)) h)

pub start-some : {E : Type 0} (a b : List Step) (first : Start) (start : Option Start) (o : Result (Unit {0}) E) → start ≡ Some first → OnOk o (Walks a b (λ r. start_sites r (Some first)) (λ r. after_start r (Some first)))
    → OnOk o (Walks a b (λ r. start_sites r start) (λ r. after_start r start))
start-some a b first start o is h = subst (λ z. OnOk o (Walks a b (λ r. start_sites r z) (λ r. after_start r z))) (sym is) h
