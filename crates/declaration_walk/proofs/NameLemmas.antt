-- The steps that declare the names of a scope, from the last name to the first.
use Rattle.std.specs.Prelude.{◌≡◌, refl, ℕ, suc, ◌+◌, ◌<◌, List, [], ◌∷◌, ◌++◌, length, map, drop, flat_map, Result, Ok, Err, OnOk}
use Rattle.std.proofs.Common.{ap, sym, ◌∙◌, subst, arith, get_or}
use Rattle.std.proofs.Math.Seq.{drop-cons}
use Rattle.std.proofs.lemmas.List.{append-nil, append_assoc}
use Rattle.cm_tree.specs.declared.path.Word.{Word}
use Rattle.cm_tree.specs.declared.decl.Param.{Param}
use Rattle.cm_meaning.specs.Declared.{Home, Named, Declared}
use Rattle.cm_meaning.specs.Scopes.{Around, declare, declared, param_name, param_names, scoped, with_local}
use Rattle.cm_meaning.specs.Sites.{Site}
use Rattle.scope_walk.specs.Steps.{Step, Introduces, Walks}
use Rattle.scope_walk.proofs.StepLemmas.{ok-map, reads-none, reads-walks, walks-after, walks-then}
use Rattle.scope_walk.proofs.LocalLemmas.{walks-declare}
use Rattle.declaration_walk.specs.Declares.{in_front, filled, Declares}

-- ---- scopes

in_front-append : (xs ys : List Declared) (scopes : List (List Declared)) → in_front (xs ++ ys) scopes ≡ in_front xs (in_front ys scopes)
unfolding in_front
in_front-append [] ys scopes = refl
in_front-append (x ∷ xs) ys scopes = ap (with_local x) (in_front-append xs ys scopes)

in_front-scope : (xs scope : List Declared) (outer : List (List Declared)) → in_front xs (scope ∷ outer) ≡ (xs ++ scope) ∷ outer
unfolding in_front
in_front-scope [] scope outer = refl
in_front-scope (x ∷ xs) scope outer = ap (with_local x) (in_front-scope xs scope outer)

-- in a scope with no names
pub in_front-new : (xs : List Declared) (outer : List (List Declared)) → in_front xs ([] ∷ outer) ≡ xs ∷ outer
in_front-new xs outer = in_front-scope xs [] outer ∙ ap (λ z. z ∷ outer) (append-nil xs)

filled-none : (r : Around) → filled r [] ≡ r
unfolding in_front
filled-none r = refl

filled-one : (r : Around) (x : Declared) → filled r (x ∷ []) ≡ declare r x
unfolding in_front
filled-one r x = refl

filled-append : (r : Around) (xs ys : List Declared) → filled r (ys ++ xs) ≡ filled (filled r xs) ys
filled-append r xs ys = ap (λ z. record r { scopes = z }) (in_front-append ys xs r.scopes)

-- ---- names

pub declares-at : (a b : List Step) (xs ys : Home → List Declared) → ((h : Home) → ys h ≡ xs h) → Declares a b xs → Declares a b ys
declares-at a b xs ys same h = walks-after a b (λ r. []) (λ r. filled r (xs r.home)) (λ r. filled r (ys r.home)) (λ r. ap (filled r) (same r.home)) h

pub declares-none : (a : List Step) (xs : Home → List Declared) → ((h : Home) → xs h ≡ []) → Declares a a xs
declares-none a xs none = walks-after a a (λ r. []) (λ r. r) (λ r. filled r (xs r.home)) (λ r. ap (filled r) (none r.home) ∙ filled-none r) (reads-walks a a (λ r. []) (reads-none a a (λ r. []) refl (λ r. refl)))

pub declares-one : (a b : List Step) (w : Word) (n : Named) (xs : Home → List Declared) → ((h : Home) → xs h ≡ declared h w n ∷ []) → b ≡ a ++ Introduces w n ∷ [] → Declares a b xs
declares-one a b w n xs is grown = walks-after a b (λ r. []) (λ r. declare r (declared r.home w n)) (λ r. filled r (xs r.home)) (λ r. ap (filled r) (is r.home) ∙ filled-one r (declared r.home w n)) (walks-declare a b w n grown)

-- those declared later stand in front
pub declares-then : (a b c : List Step) (xs ys : Home → List Declared) → Declares a b xs → Declares b c ys → Declares a c (λ h. ys h ++ xs h)
declares-then a b c xs ys h k = walks-after a c (λ r. []) (λ r. filled (filled r (xs r.home)) (ys r.home)) (λ r. filled r (ys r.home ++ xs r.home)) (λ r. filled-append r (xs r.home) (ys r.home))
    (walks-then a b c (λ r. []) (λ r. []) (λ r. filled r (xs r.home)) (λ r. filled r (ys r.home)) h k)

-- ---- answers

pub one-name : {E : Type 0} (a b : List Step) (w : Word) (n : Named) (xs : Home → List Declared) (o : Result (Unit {0}) E) → ((h : Home) → xs h ≡ declared h w n ∷ []) → OnOk o (b ≡ a ++ Introduces w n ∷ []) → OnOk o (Declares a b xs)
one-name a b w n xs o is h = ok-map o (b ≡ a ++ Introduces w n ∷ []) (Declares a b xs) (declares-one a b w n xs is) h

pub same-names : {E : Type 0} (a b : List Step) (xs ys : Home → List Declared) (o : Result (Unit {0}) E) → ((h : Home) → ys h ≡ xs h) → OnOk o (Declares a b xs) → OnOk o (Declares a b ys)
same-names a b xs ys o same h = ok-map o (Declares a b xs) (Declares a b ys) (declares-at a b xs ys same) h

pub more-names : {E : Type 0} (a b c : List Step) (xs ys zs : Home → List Declared) (o : Result (Unit {0}) E) → ((h : Home) → zs h ≡ ys h ++ xs h) → Declares a b xs → OnOk o (Declares b c ys) → OnOk o (Declares a c zs)
more-names a b c xs ys zs o is h k = ok-map o (Declares b c ys) (Declares a c zs) (λ w. declares-at a c (λ m. ys m ++ xs m) zs is (declares-then a b c xs ys h w)) k

-- ---- names from the last to the first

one : (i : ℕ) → i + 1 ≡ suc i
one i = omega arith

drop-end : {X : Type 0} (xs : List X) (i : ℕ) → i ≡ length xs → drop i xs ≡ []
drop-end [] i is = ap (λ n. drop n []) is
drop-end (x ∷ xs) i is = ap (λ n. drop n (x ∷ xs)) is ∙ drop-end xs (length xs) refl

drop-at : {X : Type 0} (xs : List X) (i k : ℕ) (x : X) → k ≡ i + 1 → i < length xs → x ≡ get_or xs i x → drop i xs ≡ x ∷ drop k xs
drop-at xs i k x next within is = drop-cons xs i x within ∙ ap (λ z. z ∷ drop (suc i) xs) (sym is) ∙ ap (λ n. x ∷ drop n xs) (sym (next ∙ one i))

pub last-start : {X : Type 0} (f : Home → X → List Declared) (xs : List X) (i : ℕ) (a : List Step) → i ≡ length xs → Declares a a (λ h. flat_map (f h) (drop i xs))
last-start f xs i a is = declares-none a (λ h. flat_map (f h) (drop i xs)) (λ h. ap (flat_map (f h)) (drop-end xs i is))

pub last-next : {X : Type 0} (f : Home → X → List Declared) (xs : List X) (i k : ℕ) (x : X) (a b c : List Step) → k ≡ i + 1 → i < length xs → x ≡ get_or xs i x
    → Declares a b (λ h. flat_map (f h) (drop k xs)) → Declares b c (λ h. f h x) → Declares a c (λ h. flat_map (f h) (drop i xs))
last-next f xs i k x a b c next within is h g = declares-at a c (λ m. f m x ++ flat_map (f m) (drop k xs)) (λ m. flat_map (f m) (drop i xs)) (λ m. ap (flat_map (f m)) (drop-at xs i k x next within is))
    (declares-then a b c (λ m. flat_map (f m) (drop k xs)) (λ m. f m x) h g)

pub last-all : {X : Type 0} (f : Home → X → List Declared) (xs : List X) (i : ℕ) (a b : List Step) → i ≡ 0 → Declares a b (λ h. flat_map (f h) (drop i xs)) → Declares a b (λ h. flat_map (f h) xs)
last-all f xs i a b all h = declares-at a b (λ m. flat_map (f m) (drop i xs)) (λ m. flat_map (f m) xs) (λ m. ap (λ n. flat_map (f m) (drop n xs)) (sym all)) h

-- one name each
map-one : {X : Type 0} (f : X → Declared) (xs : List X) → map f xs ≡ flat_map (λ (x : X). f x ∷ []) xs
map-one f [] = refl
map-one f (x ∷ xs) = ap (λ z. f x ∷ z) (map-one f xs)

pub last-map : {X : Type 0} (f : Home → X → Declared) (xs : List X) (i : ℕ) (a b : List Step) → i ≡ 0 → Declares a b (λ h. flat_map (λ (x : X). f h x ∷ []) (drop i xs)) → Declares a b (λ h. map (f h) xs)
last-map f xs i a b all h = declares-at a b (λ m. flat_map (λ x. f m x ∷ []) xs) (λ m. map (f m) xs) (λ m. map-one (f m) xs) (last-all (λ m x. f m x ∷ []) xs i a b all h)

-- ---- parameters, by their positions

pub params-start : (xs : List Param) (i : ℕ) (a : List Step) → i ≡ length xs → Declares a a (λ h. param_names h i (drop i xs))
unfolding param_names
params-start xs i a is = declares-none a (λ h. param_names h i (drop i xs)) (λ h. ap (param_names h i) (drop-end xs i is))

param-first : (h : Home) (i : ℕ) (x : Param) (xs : List Param) → param_names h i (x ∷ xs) ≡ param_name h i x ∷ param_names h (suc i) xs
unfolding param_names
param-first h i x xs = refl

pub params-next : (xs : List Param) (i k : ℕ) (x : Param) (a b c : List Step) → k ≡ i + 1 → i < length xs → x ≡ get_or xs i x → Declares a b (λ h. param_names h k (drop k xs)) → Declares b c (λ h. param_name h i x ∷ [])
    → Declares a c (λ h. param_names h i (drop i xs))
params-next xs i k x a b c next within is h g = declares-at a c (λ m. param_name m i x ∷ param_names m k (drop k xs)) (λ m. param_names m i (drop i xs))
    (λ m. ap (param_names m i) (drop-at xs i k x next within is) ∙ param-first m i x (drop k xs) ∙ ap (λ n. param_name m i x ∷ param_names m n (drop k xs)) (sym (next ∙ one i)))
    (declares-then a b c (λ m. param_names m k (drop k xs)) (λ m. param_name m i x ∷ []) h g)

pub params-all : (xs : List Param) (i : ℕ) (a b : List Step) → i ≡ 0 → Declares a b (λ h. param_names h i (drop i xs)) → Declares a b (λ h. param_names h 0 xs)
params-all xs i a b all h = declares-at a b (λ m. param_names m i (drop i xs)) (λ m. param_names m 0 xs) (λ m. ap (λ n. param_names m n (drop n xs)) (sym all)) h
