-- How the steps of parts are put together.
use Rattle.std.specs.Prelude.{◌≡◌, refl, ℕ, suc, ◌+◌, ◌<◌, List, [], ◌∷◌, ◌++◌, length, take, flat_map, Option, Some, None, Result, Ok, Err, OnOk}
use Rattle.std.proofs.Common.{ap, sym, ◌∙◌, subst, arith, get_or}
use Rattle.std.proofs.Math.Seq.{take-suc, take-length}
use Rattle.std.proofs.lemmas.List.{append-nil, append_assoc}
use Rattle.std.proofs.lemmas.Grind.{flat_map-append}
use Rattle.cm_meaning.specs.Declared.{Declared}
use Rattle.cm_meaning.specs.Scopes.{Around, scoped}
use Rattle.cm_meaning.specs.Sites.{Site, site, Part}
use Rattle.scope_walk.specs.Steps.{Step, Stand, Meets, entered, round, step_after, step_sites, after_steps, sites_by, Walks, Reads}

-- ---- some steps, and then others

pub sites-append : (q : Stand) (xs ys : List Step) → sites_by q (xs ++ ys) ≡ sites_by q xs ++ sites_by (after_steps q xs) ys
unfolding sites_by after_steps
sites-append q [] ys = refl
sites-append q (s ∷ xs) ys =
    ap (λ z. step_sites q s ++ z) (sites-append (step_after q s) xs ys) ∙ sym (append_assoc (step_sites q s) (sites_by (step_after q s) xs) (sites_by (after_steps (step_after q s) xs) ys))

pub after-append : (q : Stand) (xs ys : List Step) → after_steps q (xs ++ ys) ≡ after_steps (after_steps q xs) ys
unfolding after_steps
after-append q [] ys = refl
after-append q (s ∷ xs) ys = after-append (step_after q s) xs ys

sites-one : (q : Stand) (a : Step) → sites_by q (a ∷ []) ≡ step_sites q a
unfolding sites_by
sites-one q a = append-nil (step_sites q a)

after-one : (q : Stand) (a : Step) → after_steps q (a ∷ []) ≡ step_after q a
unfolding after_steps
after-one q a = refl

-- ---- parts that declare nothing

pub reads-none : (a b : List Step) (s : Around → List Site) → b ≡ a → ((r : Around) → s r ≡ []) → Reads a b s
unfolding sites_by after_steps
reads-none a b s is none = record { more = []; grown = is ∙ sym (append-nil a); comes = λ q. sym (none (round q)); stays = λ q. refl }

pub reads-then : (a b c : List Step) (s t : Around → List Site) → Reads a b s → Reads b c t → Reads a c (λ r. s r ++ t r)
reads-then a b c s t h k = record {
  more = h.more ++ k.more;
  grown = k.grown ∙ ap (λ z. z ++ k.more) h.grown ∙ append_assoc a h.more k.more;
  comes = λ q. sites-append q h.more k.more ∙ ap (λ z. z ++ sites_by (after_steps q h.more) k.more) (h.comes q)
      ∙ ap (λ z. s (round q) ++ z) (k.comes (after_steps q h.more) ∙ ap (λ z. t (round z)) (h.stays q));
  stays = λ q. after-append q h.more k.more ∙ k.stays (after_steps q h.more) ∙ h.stays q;
}

-- where the sites are these
pub reads-at : (a b : List Step) (s t : Around → List Site) → ((r : Around) → t r ≡ s r) → Reads a b s → Reads a b t
reads-at a b s t same h = record { more = h.more; grown = h.grown; comes = λ q. h.comes q ∙ sym (same (round q)); stays = h.stays }

-- a step that comes to a site
pub reads-step : (a b : List Step) (e : Step) (s : Around → List Site) → ((q : Stand) → step_sites q e ≡ s (round q)) → ((q : Stand) → step_after q e ≡ q) → b ≡ a ++ e ∷ [] → Reads a b s
reads-step a b e s is stays grown = record { more = e ∷ []; grown = grown; comes = λ q. sites-one q e ∙ is q; stays = λ q. after-one q e ∙ stays q }

pub reads-meet : (a b : List Step) (p : Part) → b ≡ a ++ Meets p ∷ [] → Reads a b (λ r. site r p ∷ [])
reads-meet a b p grown = reads-step a b (Meets p) (λ r. site r p ∷ []) (λ q. refl) (λ q. refl) grown

-- between two steps that change what is round a part
pub reads-in : (a b c d : List Step) (e l : Step) (f : Around → Around) (s : Around → List Site) → ((q : Stand) → step_sites q e ≡ []) → ((q : Stand) → step_sites q l ≡ []) → ((q : Stand) → round (step_after q e) ≡ f (round q))
    → ((q : Stand) → step_after (step_after q e) l ≡ q) → b ≡ a ++ e ∷ [] → Reads b c s → d ≡ c ++ l ∷ [] → Reads a d (λ r. s (f r))
unfolding sites_by after_steps
reads-in a b c d e l f s none quiet changed back enters h leaves = record {
  more = e ∷ (h.more ++ l ∷ []);
  grown = leaves ∙ ap (λ z. z ++ l ∷ []) (h.grown ∙ ap (λ z. z ++ h.more) enters) ∙ ap (λ z. z ++ l ∷ []) (append_assoc a (e ∷ []) h.more) ∙ append_assoc a (e ∷ h.more) (l ∷ []);
  comes = λ q. first q ∙ sites-append (step_after q e) h.more (l ∷ []) ∙ ap (λ z. sites_by (step_after q e) h.more ++ z) (sites-one (after_steps (step_after q e) h.more) l ∙ quiet (after_steps (step_after q e) h.more))
      ∙ append-nil (sites_by (step_after q e) h.more) ∙ h.comes (step_after q e) ∙ ap s (changed q);
  stays = λ q. then q ∙ after-append (step_after q e) h.more (l ∷ []) ∙ after-one (after_steps (step_after q e) h.more) l ∙ ap (λ z. step_after z l) (h.stays (step_after q e)) ∙ back q;
} where
  first : (q : Stand) → sites_by q (e ∷ (h.more ++ l ∷ [])) ≡ sites_by (step_after q e) (h.more ++ l ∷ [])
  first q = ap (λ z. z ++ sites_by (step_after q e) (h.more ++ l ∷ [])) (none q)

  then : (q : Stand) → after_steps q (e ∷ (h.more ++ l ∷ [])) ≡ after_steps (step_after q e) (h.more ++ l ∷ [])
  then q = refl

-- ---- parts that may declare names

pub reads-walks : (a b : List Step) (s : Around → List Site) → Reads a b s → Walks a b s (λ r. r)
reads-walks a b s h = record { more = h.more; grown = h.grown; comes = λ q here. h.comes (entered q here); names = λ q here. here; stays = λ q here. h.stays (entered q here); declares = λ q here. refl }

pub walks-then : (a b c : List Step) (s t : Around → List Site) (f g : Around → Around) → Walks a b s f → Walks b c t g → Walks a c (λ r. s r ++ t (f r)) (λ r. g (f r))
walks-then a b c s t f g h k = record {
  more = h.more ++ k.more;
  grown = k.grown ∙ ap (λ z. z ++ k.more) h.grown ∙ append_assoc a h.more k.more;
  comes = λ q here. sites-append (entered q here) h.more k.more ∙ ap (λ z. z ++ sites_by (after_steps (entered q here) h.more) k.more) (h.comes q here)
      ∙ ap (λ z. s (round (entered q here)) ++ z) (ap (λ z. sites_by z k.more) (h.stays q here) ∙ k.comes q (h.names q here) ∙ ap t (h.declares q here));
  names = λ q here. k.names q (h.names q here);
  stays = λ q here. after-append (entered q here) h.more k.more ∙ ap (λ z. after_steps z k.more) (h.stays q here) ∙ k.stays q (h.names q here);
  declares = λ q here. k.declares q (h.names q here) ∙ ap g (h.declares q here);
}

-- where the sites are these, and the same is visible after it, as seen in a scope
pub walks-at : (a b : List Step) (s t : Around → List Site) (f g : Around → Around) → ((r : Around) (here : List Declared) → t (scoped r here) ≡ s (scoped r here)) → ((r : Around) → g r ≡ f r) → Walks a b s f → Walks a b t g
walks-at a b s t f g same after h = record {
  more = h.more;
  grown = h.grown;
  comes = λ q here. h.comes q here ∙ sym (same (round q) here);
  names = h.names;
  stays = h.stays;
  declares = λ q here. h.declares q here ∙ sym (after (round (entered q here)));
}

pub walks-after : (a b : List Step) (s : Around → List Site) (f g : Around → Around) → ((r : Around) → g r ≡ f r) → Walks a b s f → Walks a b s g
walks-after a b s f g after h = walks-at a b s s f g (λ r here. refl) after h

-- ---- answers

pub ok-map : {A E : Type 0} (o : Result A E) (P Q : Type 0) → (P → Q) → OnOk o P → OnOk o Q
ok-map (Ok x) P Q f h = f h
ok-map (Err x) P Q f h = h

-- a part with no site
pub no-part : (a : List Step) (u : Around → List Site) → ((r : Around) → u r ≡ []) → Reads a a u
no-part a u none = reads-none a a u refl none

-- a part that is one site
pub meet-part : {E : Type 0} (a b : List Step) (p : Part) (u : Around → List Site) (o : Result (Unit {0}) E) → ((r : Around) → u r ≡ site r p ∷ []) → OnOk o (b ≡ a ++ Meets p ∷ []) → OnOk o (Reads a b u)
meet-part a b p u o is h = ok-map o (b ≡ a ++ Meets p ∷ []) (Reads a b u) (λ g. reads-at a b (λ r. site r p ∷ []) u is (reads-meet a b p g)) h

-- a site, and then a part
pub meet-then : {E : Type 0} (a b c : List Step) (p : Part) (t u : Around → List Site) (o : Result (Unit {0}) E) → ((r : Around) → u r ≡ site r p ∷ t r) → b ≡ a ++ Meets p ∷ [] → OnOk o (Reads b c t) → OnOk o (Reads a c u)
meet-then a b c p t u o is grown h = ok-map o (Reads b c t) (Reads a c u) (λ k. reads-at a c (λ r. site r p ∷ t r) u is (reads-then a b c (λ r. site r p ∷ []) t (reads-meet a b p grown) k)) h

-- one part
pub one-part : {E : Type 0} (a b : List Step) (s u : Around → List Site) (o : Result (Unit {0}) E) → ((r : Around) → u r ≡ s r) → OnOk o (Reads a b s) → OnOk o (Reads a b u)
one-part a b s u o is h = ok-map o (Reads a b s) (Reads a b u) (reads-at a b s u is) h

-- two parts, the second of which gives the answer
pub two-parts : {E : Type 0} (a b c : List Step) (s t u : Around → List Site) (o : Result (Unit {0}) E) → ((r : Around) → u r ≡ s r ++ t r) → Reads a b s → OnOk o (Reads b c t) → OnOk o (Reads a c u)
two-parts a b c s t u o is h k = ok-map o (Reads b c t) (Reads a c u) (λ w. reads-at a c (λ r. s r ++ t r) u is (reads-then a b c s t h w)) k

pub three-parts : {E : Type 0} (a b c d : List Step) (s t u v : Around → List Site) (o : Result (Unit {0}) E) → ((r : Around) → v r ≡ s r ++ (t r ++ u r)) → Reads a b s → Reads b c t → OnOk o (Reads c d u)
    → OnOk o (Reads a d v)
three-parts a b c d s t u v o is h k l = two-parts a b d s (λ r. t r ++ u r) v o is h (two-parts b c d t u (λ r. t r ++ u r) o (λ r. refl) k l)

-- ---- lists of parts

one : (i : ℕ) → i + 1 ≡ suc i
one i = omega arith

pub take-more : {X : Type 0} (xs : List X) (i : ℕ) (x : X) → i < length xs → x ≡ get_or xs i x → take (i + 1) xs ≡ take i xs ++ x ∷ []
take-more xs i x within is = ap (λ n. take n xs) (one i) ∙ take-suc xs i x within ∙ ap (λ y. take i xs ++ y ∷ []) (sym is)

pub parts-start : {X : Type 0} (f : Around → X → List Site) (xs : List X) (a : List Step) → Reads a a (λ r. flat_map (f r) (take 0 xs))
parts-start f xs a = reads-none a a (λ r. flat_map (f r) (take 0 xs)) refl (λ r. refl)

pub parts-next : {X : Type 0} (f : Around → X → List Site) (xs : List X) (i : ℕ) (x : X) (a b c : List Step) → i < length xs → x ≡ get_or xs i x
    → Reads a b (λ r. flat_map (f r) (take i xs)) → Reads b c (λ r. f r x) → Reads a c (λ r. flat_map (f r) (take (i + 1) xs))
parts-next f xs i x a b c within is h k = reads-at a c (λ r. flat_map (f r) (take i xs) ++ f r x) (λ r. flat_map (f r) (take (i + 1) xs))
    (λ r. ap (flat_map (f r)) (take-more xs i x within is) ∙ flat_map-append (f r) (take i xs) (x ∷ []) ∙ ap (λ z. flat_map (f r) (take i xs) ++ z) (append-nil (f r x)))
    (reads-then a b c (λ r. flat_map (f r) (take i xs)) (λ r. f r x) h k)

pub parts-all : {X : Type 0} (f : Around → X → List Site) (xs : List X) (i : ℕ) (a b : List Step) → i ≡ length xs → Reads a b (λ r. flat_map (f r) (take i xs)) → Reads a b (λ r. flat_map (f r) xs)
parts-all f xs i a b all h = reads-at a b (λ r. flat_map (f r) (take i xs)) (λ r. flat_map (f r) xs) (λ r. ap (flat_map (f r)) (sym (ap (λ n. take n xs) all ∙ take-length xs))) h
