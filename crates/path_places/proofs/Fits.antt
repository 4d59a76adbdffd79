-- Words that are declared are some of the tokens, each token one of them at most.
use Rattle.std.proofs.Common.{◌≡◌, ℕ, ◌+◌, ◌≤◌, Bool, true, false, cond, min, List, [], ◌∷◌, ◌++◌, refl, sym, ap, subst, arith}
use Rattle.std.specs.Prelude.{◌&&◌, not, flat_map}
use Rattle.std.proofs.lemmas.List.{append-nil}
use Rattle.std.proofs.lemmas.Grind.{flat_map-append}
use Rattle.cm_base.specs.declared.place.Place.{Place}
use Rattle.cm_tree.specs.declared.token.Token.{Token}
use Rattle.cm_tree.specs.Lists as lists
use Rattle.cm_tree.specs.Lists.{Every, Further, Listed, MaybeListed}
use Rattle.cm_meaning.specs.Declared.{Declared, is_namespace}
use Rattle.cm_meaning.specs.Types.{is_place}
use Rattle.cm_meaning.specs.Sites.{Site}
use Rattle.cm_meaning.specs.PatchSites.{site_names}
use Rattle.path_places.proofs.NoWords.{NoWords, none_declared}

-- ---- how many stand at a place

abbrev pub one : Bool → ℕ
one b = cond b 1 0

abbrev pub is_other : Place → Declared → Bool
is_other p x = is_place p x.word.place && not (is_namespace x.named)

abbrev pub is_space_at : Place → Declared → Bool
is_space_at p x = is_place p x.word.place && is_namespace x.named

unfoldable pub others_at : Place → List Declared → ℕ
others_at p [] = 0
others_at p (x ∷ xs) = one (is_other p x) + others_at p xs

unfoldable pub spaces_at : Place → List Declared → ℕ
spaces_at p [] = 0
spaces_at p (x ∷ xs) = one (is_space_at p x) + spaces_at p xs

unfoldable pub tokens_at : Place → List Token → ℕ
tokens_at p [] = 0
tokens_at p (t ∷ tokens) = one (is_place p t.place) + tokens_at p tokens

-- all namespaces at a place are counted as one
abbrev pub weight : Place → List Declared → ℕ
weight p xs = others_at p xs + min 1 (spaces_at p xs)

others-append : (p : Place) (xs ys : List Declared) → others_at p (xs ++ ys) ≡ others_at p xs + others_at p ys
unfolding others_at
others-append p [] ys = omega arith
others-append p (x ∷ xs) ys = let h = others-append p xs ys in omega arith

spaces-append : (p : Place) (xs ys : List Declared) → spaces_at p (xs ++ ys) ≡ spaces_at p xs + spaces_at p ys
unfolding spaces_at
spaces-append p [] ys = omega arith
spaces-append p (x ∷ xs) ys = let h = spaces-append p xs ys in omega arith

tokens-append : (p : Place) (ts us : List Token) → tokens_at p (ts ++ us) ≡ tokens_at p ts + tokens_at p us
unfolding tokens_at
tokens-append p [] us = omega arith
tokens-append p (t ∷ ts) us = let h = tokens-append p ts us in omega arith

pub weight-append : (p : Place) (xs ys : List Declared) → weight p (xs ++ ys) ≤ weight p xs + weight p ys
weight-append p xs ys = let h = others-append p xs ys in let k = spaces-append p xs ys in omega arith

weight-none : (p : Place) → weight p [] ≡ 0
unfolding others_at spaces_at
weight-none p = refl

-- one of two kinds at a place
pub kinds : (here space : Bool) → one (here && not space) + one (here && space) ≡ one here
kinds true true = refl
kinds true false = refl
kinds false true = refl
kinds false false = refl

weight-more : (p : Place) (x : Declared) (xs : List Declared) → weight p (x ∷ xs) ≤ one (is_place p x.word.place) + weight p xs
unfolding others_at spaces_at
weight-more p x xs = let h = kinds (is_place p x.word.place) (is_namespace x.named) in omega arith

pub tokens-more : (p : Place) (t : Token) (tokens : List Token) → tokens_at p (t ∷ tokens) ≡ one (is_place p t.place) + tokens_at p tokens
unfolding tokens_at
tokens-more p t tokens = refl

-- ---- what fits

-- names of a scope round some sites, and what is declared at the sites, are among the tokens
pub record Fits (names : List Declared) (sites : List Site) (tokens : List Token) : Type 0 where
  pub each : (p : Place) → weight p names + weight p (flat_map site_names sites) ≤ tokens_at p tokens

pub nothing : {tokens : List Token} → Fits [] [] tokens
nothing {tokens} = record { each = λ p. omega (arith, weight-none p) }

pub with_no_words : {names : List Declared} {sites : List Site} {tokens : List Token} → Fits names [] tokens → NoWords sites → Fits names sites tokens
with_no_words {names} {sites} {tokens} h no_words = record { each = λ p. subst (λ xs. weight p names + weight p xs ≤ tokens_at p tokens) (sym (none_declared no_words)) (h.each p) }

pub no_words : {sites : List Site} {tokens : List Token} → NoWords sites → Fits [] sites tokens
no_words h = with_no_words nothing h

pub passing : {t : Token} {names : List Declared} {sites : List Site} {tokens : List Token} → Fits names sites tokens → Fits names sites (t ∷ tokens)
passing {t} {names} {sites} {tokens} h = record { each = λ p. omega (arith, h.each p, tokens-more p t tokens) }

pub after_front : {names : List Declared} {sites : List Site} {tokens : List Token} (front : List Token) → Fits names sites tokens → Fits names sites (front ++ tokens)
after_front {tokens = tokens} front h = record { each = λ p. omega (arith, h.each p, tokens-append p front tokens) }

pub before_back : {names : List Declared} {sites : List Site} {tokens : List Token} (back : List Token) → Fits names sites tokens → Fits names sites (tokens ++ back)
before_back {tokens = tokens} back h = record { each = λ p. omega (arith, h.each p, tokens-append p tokens back) }

pub together : {names more_names : List Declared} {sites others : List Site} {front tokens : List Token} → Fits names sites front → Fits more_names others tokens
    → Fits (names ++ more_names) (sites ++ others) (front ++ tokens)
together {names} {more_names} {sites} {others} {front} {tokens} h k = record {
  each = λ p. subst (λ xs. weight p (names ++ more_names) + weight p xs ≤ tokens_at p (front ++ tokens)) (sym (flat_map-append site_names sites others))
      (omega (arith, h.each p, k.each p, weight-append p names more_names, weight-append p (flat_map site_names sites) (flat_map site_names others), tokens-append p front tokens));
}

pub together_left : {names : List Declared} {sites others : List Site} {front tokens : List Token} → Fits names sites front → Fits [] others tokens → Fits names (sites ++ others) (front ++ tokens)
together_left {names} {sites} {others} {front} {tokens} h k = subst (λ xs. Fits xs (sites ++ others) (front ++ tokens)) (append-nil names) (together h k)

pub by_itself : {names : List Declared} {sites : List Site} {tokens : List Token} → Fits names sites tokens → Fits (names ++ []) (sites ++ []) tokens
by_itself {names} {sites} {tokens} h = subst (λ xs. Fits xs (sites ++ []) tokens) (sym (append-nil names)) (subst (λ xs. Fits names xs tokens) (sym (append-nil sites)) h)

-- a name stands at a token
pub named : {x : Declared} {t : Token} {names : List Declared} {sites : List Site} {tokens : List Token} → x.word.place ≡ t.place → Fits names sites tokens → Fits (x ∷ names) sites (t ∷ tokens)
named {x} {t} {names} {sites} {tokens} at h = record {
  each = λ p. let same : one (is_place p x.word.place) ≡ one (is_place p t.place) = ap (λ q. one (is_place p q)) at in
      omega (arith, h.each p, weight-more p x names, tokens-more p t tokens, same);
}

-- nothing is declared at a site
pub plainly : {s : Site} {names : List Declared} {sites : List Site} {tokens : List Token} → site_names s ≡ [] → Fits names sites tokens → Fits names (s ∷ sites) tokens
plainly {s} {names} {sites} {tokens} is h = record {
  each = λ p. subst (λ xs. weight p names + weight p (xs ++ flat_map site_names sites) ≤ tokens_at p tokens) (sym is) (h.each p);
}

-- these are declared at a site
pub opening : {s : Site} {names : List Declared} {sites : List Site} {tokens : List Token} → site_names s ≡ names → Fits names sites tokens → Fits [] (s ∷ sites) tokens
opening {s} {names} {sites} {tokens} is h = record {
  each = λ p. subst (λ xs. weight p [] + weight p (xs ++ flat_map site_names sites) ≤ tokens_at p tokens) (sym is)
      (omega (arith, h.each p, weight-none p, weight-append p names (flat_map site_names sites)));
}

-- ---- lists of parts

pub fits_every : {A : Type 0} {P : A → List Token → Type 0} (n : A → List Declared) (f : A → List Site) → ((x : A) (tokens : List Token) → P x tokens → Fits (n x) (f x) tokens)
    → {xs : List A} {tokens : List Token} → Every P xs tokens → Fits (flat_map n xs) (flat_map f xs) tokens
fits_every n f each lists.none = nothing
fits_every n f each (lists.more x xs first others spelled further) = together (each x first spelled) (fits_every n f each further)

pub fits_further : {A : Type 0} {P : A → List Token → Type 0} (n : A → List Declared) (f : A → List Site) → ((x : A) (tokens : List Token) → P x tokens → Fits (n x) (f x) tokens)
    → {xs : List A} {tokens : List Token} → Further P xs tokens → Fits (flat_map n xs) (flat_map f xs) tokens
fits_further n f each lists.none = nothing
fits_further n f each (lists.more x xs comma first others is spelled further) = passing (together (each x first spelled) (fits_further n f each further))

pub fits_listed : {A : Type 0} {P : A → List Token → Type 0} (n : A → List Declared) (f : A → List Site) → ((x : A) (tokens : List Token) → P x tokens → Fits (n x) (f x) tokens)
    → {xs : List A} {tokens : List Token} → Listed P xs tokens → Fits (flat_map n xs) (flat_map f xs) tokens
fits_listed n f each (lists.listed x xs first others spelled further) = together (each x first spelled) (fits_further n f each further)

pub fits_maybe_listed : {A : Type 0} {P : A → List Token → Type 0} (n : A → List Declared) (f : A → List Site) → ((x : A) (tokens : List Token) → P x tokens → Fits (n x) (f x) tokens)
    → {xs : List A} {tokens : List Token} → MaybeListed P xs tokens → Fits (flat_map n xs) (flat_map f xs) tokens
fits_maybe_listed n f each lists.none = nothing
fits_maybe_listed n f each (lists.some xs tokens spelled) = fits_listed n f each spelled
