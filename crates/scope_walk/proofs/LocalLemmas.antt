-- The steps of locals, each of which is visible to those after it.
use Rattle.std.specs.Prelude.{◌≡◌, refl, ℕ, suc, ◌+◌, ◌<◌, ◌≤◌, List, [], ◌∷◌, ◌++◌, length, map, take, Option, Some, None}
use Rattle.std.proofs.Common.{ap, sym, ◌∙◌, subst, arith, get_or}
use Rattle.std.proofs.Math.Seq.{take-length}
use Rattle.std.proofs.lemmas.List.{append-nil, append_assoc, map-append, length-map, length-take-le}
use Rattle.cm_tree.specs.declared.path.Word.{Word}
use Rattle.cm_tree.specs.declared.simple.Init.{Init}
use Rattle.cm_tree.specs.declared.simple.Var.{Var}
use Rattle.cm_tree.specs.declared.type_expr.TypeExpr.{TypeExpr}
use Rattle.cm_meaning.specs.Declared.{Home, Named, Declared}
use Rattle.cm_meaning.specs.Scopes.{Around, declare, declare_all, declared, scoped, typed_local}
use Rattle.cm_meaning.specs.Sites.{Site, site, Declares, expr_sites, optional_sites}
use Rattle.cm_meaning.specs.BodySites.{init_sites, var_sites}
use Rattle.scope_walk.specs.Steps.{Step, Introduces, MeetsLocal, before, undeclared, after_steps, sites_by, Walks, Reads}
use Rattle.scope_walk.proofs.StepLemmas.{reads-step, reads-then, reads-walks, walks-at, walks-then, take-more}

-- ---- a name is declared

pub walks-declare : (a b : List Step) (w : Word) (n : Named) → b ≡ a ++ Introduces w n ∷ [] → Walks a b (λ r. []) (λ r. declare r (declared r.home w n))
unfolding sites_by after_steps
walks-declare a b w n grown = record {
  more = Introduces w n ∷ [];
  grown = grown;
  comes = λ q here. refl;
  names = λ q here. declared q.home w n ∷ here;
  stays = λ q here. refl;
  declares = λ q here. refl;
}

-- what is round it before some names are declared
pub before-all : (r : Around) (here xs : List Declared) → before (length xs) (declare_all (scoped r here) xs) ≡ scoped r here
unfolding before declare_all
before-all r here [] = refl
before-all r here (x ∷ xs) = ap undeclared (before-all r (x ∷ here) xs)

-- ---- declarations one after the other

home-after : (r : Around) (xs : List Declared) → (declare_all r xs).home ≡ r.home
unfolding declare_all
home-after r [] = refl
home-after r (x ∷ xs) = home-after (declare r x) xs

declare-append : (r : Around) (xs ys : List Declared) → declare_all r (xs ++ ys) ≡ declare_all (declare_all r xs) ys
unfolding declare_all
declare-append r [] ys = refl
declare-append r (x ∷ xs) ys = declare-append (declare r x) xs ys

-- the sites of locals, each seen from where those before it are declared
unfoldable pub locals : {X : Type 0} → (Home → X → Declared) → (Around → X → List Site) → Around → List X → List Site
locals named value r [] = []
locals named value r (a ∷ all) = value r a ++ locals named value (declare r (named r.home a)) all

abbrev pub after_each : {X : Type 0} → (Home → X → Declared) → Around → List X → Around
after_each named r all = declare_all r (map (named r.home) all)

locals-end : {X : Type 0} (named : Home → X → Declared) (value : Around → X → List Site) (r : Around) (xs : List X) (a : X)
    → locals named value r (xs ++ a ∷ []) ≡ locals named value r xs ++ value (after_each named r xs) a
unfolding locals declare_all
locals-end named value r [] a = append-nil (value r a)
locals-end named value r (x ∷ xs) a =
    ap (λ z. value r x ++ z) (locals-end named value (declare r (named r.home x)) xs a)
    ∙ sym (append_assoc (value r x) (locals named value (declare r (named r.home x)) xs) (value (after_each named (declare r (named r.home x)) xs) a))

after-end : {X : Type 0} (named : Home → X → Declared) (r : Around) (xs : List X) (a : X) → after_each named r (xs ++ a ∷ []) ≡ declare (after_each named r xs) (named (after_each named r xs).home a)
unfolding declare_all
after-end named r xs a =
    ap (declare_all r) (map-append (named r.home) xs (a ∷ [])) ∙ declare-append r (map (named r.home) xs) (named r.home a ∷ [])
    ∙ ap (λ z. declare (after_each named r xs) (named z a)) (sym (home-after r (map (named r.home) xs)))

before-each : {X : Type 0} (named : Home → X → Declared) (r : Around) (here : List Declared) (xs : List X) (i : ℕ) → i ≡ length xs → before i (after_each named (scoped r here) xs) ≡ scoped r here
before-each named r here xs i is = ap (λ n. before n (after_each named (scoped r here) xs)) (is ∙ sym (length-map xs (named r.home))) ∙ before-all r here (map (named r.home) xs)

-- the sites of a local may depend on what is round the first one
pub locals-start : {X : Type 0} (named : Home → X → Declared) (value : Around → Around → X → List Site) (xs : List X) (a : List Step)
    → Walks a a (λ r. locals named (value r) r (take 0 xs)) (λ r. after_each named r (take 0 xs))
unfolding locals declare_all sites_by after_steps
locals-start named value xs a = record { more = []; grown = sym (append-nil a); comes = λ q here. refl; names = λ q here. here; stays = λ q here. refl; declares = λ q here. refl }

pub locals-next : {X : Type 0} (named : Home → X → Declared) (value : Around → Around → X → List Site) (word : X → Word) (n : X → Named) (xs : List X) (i : ℕ) (x : X) (a b c d : List Step)
    → ((home : Home) (y : X) → named home y ≡ declared home (word y) (n y)) → i < length xs → x ≡ get_or xs i x
    → Walks a b (λ r. locals named (value r) r (take i xs)) (λ r. after_each named r (take i xs)) → Reads b c (λ r. value (before i r) r x) → d ≡ c ++ Introduces (word x) (n x) ∷ []
    → Walks a d (λ r. locals named (value r) r (take (i + 1) xs)) (λ r. after_each named r (take (i + 1) xs))
locals-next named value word n xs i x a b c d is within at h k grown =
    walks-at a d (λ r. locals named (value r) r (take i xs) ++ (value (before i (after_each named r (take i xs))) (after_each named r (take i xs)) x ++ [])) (λ r. locals named (value r) r (take (i + 1) xs))
    (λ r. declare (after_each named r (take i xs)) (declared (after_each named r (take i xs)).home (word x) (n x))) (λ r. after_each named r (take (i + 1) xs))
    (λ r here. ap (locals named (value (scoped r here)) (scoped r here)) (take-more xs i x within at) ∙ locals-end named (value (scoped r here)) (scoped r here) (take i xs) x
    ∙ ap (λ z. locals named (value (scoped r here)) (scoped r here) (take i xs) ++ value z (after_each named (scoped r here) (take i xs)) x) (sym (before-each named r here (take i xs) i (sym (length-take-le i xs (omega (arith, within))))))
    ∙ ap (λ z. locals named (value (scoped r here)) (scoped r here) (take i xs) ++ z) (sym (append-nil (value (before i (after_each named (scoped r here) (take i xs))) (after_each named (scoped r here) (take i xs)) x))))
    (λ r. ap (after_each named r) (take-more xs i x within at) ∙ after-end named r (take i xs) x ∙ ap (declare (after_each named r (take i xs))) (is (after_each named r (take i xs)).home x))
    (walks-then a b d (λ r. locals named (value r) r (take i xs)) (λ r. value (before i r) r x ++ []) (λ r. after_each named r (take i xs)) (λ r. declare r (declared r.home (word x) (n x))) h
    (walks-then b c d (λ r. value (before i r) r x) (λ r. []) (λ r. r) (λ r. declare r (declared r.home (word x) (n x))) (reads-walks b c (λ r. value (before i r) r x) k) (walks-declare c d (word x) (n x) grown)))

locals-all : {X : Type 0} (named : Home → X → Declared) (value : Around → Around → X → List Site) (xs : List X) (i : ℕ) (a b : List Step) → i ≡ length xs
    → Walks a b (λ r. locals named (value r) r (take i xs)) (λ r. after_each named r (take i xs)) → Walks a b (λ r. locals named (value r) r xs) (λ r. after_each named r xs)
locals-all named value xs i a b all h = subst (λ z. Walks a b (λ r. locals named (value r) r z) (λ r. after_each named r z)) (ap (λ n. take n xs) all ∙ take-length xs) h

-- ---- constants and variables with a value, and variables with a type

abbrev pub init_value : (Home → Init → Declared) → Around → Around → Init → List Site
init_value named start r a = site r (Declares r (named r.home a)) ∷ expr_sites r a.value

abbrev pub var_value : TypeExpr → Around → Around → Var → List Site
var_value ty start r a = site r (Declares start (typed_local r.home ty a)) ∷ optional_sites r a.value

-- a local and its value
pub local-read : (a b c : List Step) (i : ℕ) (w : Word) (n : Named) (s : Around → List Site) → b ≡ a ++ MeetsLocal i w n ∷ [] → Reads b c s → Reads a c (λ r. site r (Declares (before i r) (declared r.home w n)) ∷ s r)
local-read a b c i w n s grown h = reads-then a b c (λ r. site r (Declares (before i r) (declared r.home w n)) ∷ []) s
    (reads-step a b (MeetsLocal i w n) (λ r. site r (Declares (before i r) (declared r.home w n)) ∷ []) (λ q. refl) (λ q. refl) grown) h

-- a local whose value sees what its own declaration sees
pub init-read : (a b c : List Step) (w : Word) (n : Named) (s : Around → List Site) → b ≡ a ++ MeetsLocal 0 w n ∷ [] → Reads b c s → Reads a c (λ r. site r (Declares r (declared r.home w n)) ∷ s r)
unfolding before
init-read a b c w n s grown h = local-read a b c 0 w n s grown h

inits-sites : (named : Home → Init → Declared) (start r : Around) (xs : List Init) → init_sites named r xs ≡ locals named (init_value named start) r xs
unfolding init_sites locals
inits-sites named start r [] = refl
inits-sites named start r (x ∷ xs) = ap (λ z. site r (Declares r (named r.home x)) ∷ (expr_sites r x.value ++ z)) (inits-sites named start (declare r (named r.home x)) xs)

vars-sites : (start : Around) (ty : TypeExpr) (r : Around) (xs : List Var) → var_sites start ty r xs ≡ locals (λ home. typed_local home ty) (var_value ty start) r xs
unfolding var_sites locals
vars-sites start ty r [] = refl
vars-sites start ty r (x ∷ xs) = ap (λ z. site r (Declares start (typed_local r.home ty x)) ∷ (optional_sites r x.value ++ z)) (vars-sites start ty (declare r (typed_local r.home ty x)) xs)

pub inits-all : (named : Home → Init → Declared) (inits : List Init) (i : ℕ) (a b : List Step) → i ≡ length inits
    → Walks a b (λ r. locals named (init_value named r) r (take i inits)) (λ r. after_each named r (take i inits)) → Walks a b (λ r. init_sites named r inits) (λ r. after_each named r inits)
inits-all named inits i a b all h = walks-at a b (λ r. locals named (init_value named r) r inits) (λ r. init_sites named r inits) (λ r. after_each named r inits) (λ r. after_each named r inits)
    (λ r here. inits-sites named (scoped r here) (scoped r here) inits) (λ r. refl) (locals-all named (init_value named) inits i a b all h)

pub vars-all : (ty : TypeExpr) (vars : List Var) (i : ℕ) (a b : List Step) → i ≡ length vars
    → Walks a b (λ r. locals (λ home. typed_local home ty) (var_value ty r) r (take i vars)) (λ r. after_each (λ home. typed_local home ty) r (take i vars))
    → Walks a b (λ r. var_sites r ty r vars) (λ r. after_each (λ home. typed_local home ty) r vars)
vars-all ty vars i a b all h = walks-at a b (λ r. locals (λ home. typed_local home ty) (var_value ty r) r vars) (λ r. var_sites r ty r vars) (λ r. after_each (λ home. typed_local home ty) r vars) (λ r. after_each (λ home. typed_local home ty) r vars)
    (λ r here. vars-sites (scoped r here) ty (scoped r here) vars) (λ r. refl) (locals-all (λ home. typed_local home ty) (var_value ty) vars i a b all h)
