-- What a parser answers depends on the tokens that it reads and on the next one alone.
use Rattle.std.proofs.Common.{◌≡◌, ℕ, zero, suc, ◌<◌, ◌≤◌, Bool, true, false, cond, List, [], ◌∷◌, ◌++◌, length, Option, Some, None, Ok, Err, refl, sym, ap, subst, ◌∙◌, append_assoc, length-append, inl, inr, arith}
use Rattle.cm_base.specs.declared.place.Place.{Place}
use Rattle.cm_tree.specs.declared.token.Token.{Token}
use Rattle.cm_tree.specs.declared.token.TokenKind.{TokenKind}
use Rattle.cm_tree.specs.declared.token.TokenKind.TheVariants as k
use Rattle.token_reader.specs.Parsers.{Outcome, Parser, and_then, ◌>>=◌, ◌>>◌, pure, refuse, first, rest, look, skip, see, sees, expect, Turn, more, done, goes, iterate, repeat}
use Rattle.token_reader.specs.Lists.{name_by, name_at, name, text_by, text_at, text, none_unless, optional, turn_if, turn_while, while_sees, separated}
use Rattle.token_reader.specs.Local.{LocalAt, Local, Takes}
use Rattle.token_reader.proofs.Loops.{Moves, repeat-turn}
use Rattle.token_reader.proofs.Inverses.{answer, bind_ok, if_ok, ok_value, ok_rest, skip_less, expect_ok}

pub local_pure : {A : Type 0} (x : A) → Local (pure x)
local_pure x = record { at = λ ts. ([], refl, λ r e. refl) }

pub local_refuse : {A : Type 0} → Local (refuse {A = A})
local_refuse = record { at = λ ts. ([], refl, λ r e. refl) }

-- what is told of the next token
pub local_first : {A : Type 0} (f : Option Token → A) → Local (λ ts. Ok (f (first ts), ts))
local_first f = record { at = λ ts. ([], refl, λ r e. ap (λ (o : Option Token). Ok (f o, r)) e) }

pub local_look : Local look
unfolding look
local_look = record { at = λ ts. ([], refl, λ r e. ap (λ (o : Option Token). Ok (o, r)) e) }

none_left : (r : List Token) → first r ≡ None → r ≡ []
none_left [] e = refl
none_left (t ∷ ts) e = absurd cc

skip_at : (ts : List Token) → LocalAt skip ts (skip ts)
unfolding skip
skip_at [] = ([], refl, λ r e. let h = none_left r e in ap (λ (x : List Token). Ok (tt, x)) (ap rest h ∙ sym h))
skip_at (t ∷ ts) = (t ∷ [], refl, λ r e. refl)

pub local_skip : Local skip
local_skip = record { at = skip_at }

pub local_see : (test : TokenKind → Bool) → Local (see test)
unfolding see sees
local_see test = record { at = λ ts. ([], refl, λ r e. rw e refl) }

refuses : (test : TokenKind → Bool) (t : Token) (r : List Token) → test t.kind ≡ false → first r ≡ Some t → expect test r ≡ Err r
unfolding expect sees
refuses test t [] is e = refl
refuses test t (u ∷ r) is e = let same : u ≡ t = cc in rw (same, is) refl

expect_at : (test : TokenKind → Bool) (t : Token) (ts : List Token) (b : Bool) → test t.kind ≡ b → LocalAt (expect test) (t ∷ ts) (cond b (Ok (tt, ts)) (Err (t ∷ ts)))
unfolding expect sees
expect_at test t ts true is = (t ∷ [], refl, λ r e. ap (λ (b : Bool). cond b (Ok (tt, r)) (Err (t ∷ r))) is)
expect_at test t ts false is = ([], refl, λ r e. refuses test t r is e)

expect_all : (test : TokenKind → Bool) (ts : List Token) → LocalAt (expect test) ts (expect test ts)
unfolding expect sees
expect_all test [] = ([], refl, λ r e. let h = none_left r e in rw h refl)
expect_all test (t ∷ ts) = expect_at test t ts (test t.kind) refl

pub local_expect : (test : TokenKind → Bool) → Local (expect test)
local_expect test = record { at = expect_all test }

pub local_if : {A : Type 0} {p q : Parser A} (b : Bool) → Local p → Local q → Local (cond b p q)
local_if true hp hq = hp
local_if false hp hq = hq

first-append : (u a b : List Token) → first a ≡ first b → first (u ++ a) ≡ first (u ++ b)
first-append [] a b e = e
first-append (t ∷ u) a b e = refl

join : {A B : Type 0} (p : Parser A) (f : A → Parser B) (ts : List Token) (x : A) (mid : List Token) (o : Outcome B)
    → LocalAt p ts (Ok (x, mid)) → LocalAt (f x) mid o → LocalAt (p >>= f) ts o
join {A} {B} p f ts x mid (Ok q) a b = (
  a.0 ++ b.0,
  a.1 ∙ ap (λ (l : List Token). a.0 ++ l) b.1 ∙ sym (append_assoc a.0 b.0 q.1),
  λ r e.
      let one : p ((a.0 ++ b.0) ++ r) ≡ Ok (x, b.0 ++ r) = rw append_assoc (a.2 (b.0 ++ r) (first-append b.0 r q.1 e ∙ sym (ap first b.1))) in
      ap (λ (c : Outcome A). and_then c f) one ∙ b.2 r e,
)
join {A} {B} p f ts x mid (Err q) a b = (
  a.0 ++ b.0,
  a.1 ∙ ap (λ (l : List Token). a.0 ++ l) b.1 ∙ sym (append_assoc a.0 b.0 q),
  λ r e.
      let one : p ((a.0 ++ b.0) ++ r) ≡ Ok (x, b.0 ++ r) = rw append_assoc (a.2 (b.0 ++ r) (first-append b.0 r q e ∙ sym (ap first b.1))) in
      ap (λ (c : Outcome A). and_then c f) one ∙ b.2 r e,
)

stop : {A B : Type 0} (p : Parser A) (f : A → Parser B) (ts e : List Token) → LocalAt p ts (Err e) → LocalAt (p >>= f) ts (Err e)
stop {A} {B} p f ts e a = (a.0, a.1, λ r h. ap (λ (c : Outcome A). and_then c f) (a.2 r h))

bind_at : {A B : Type 0} (p : Parser A) (f : A → Parser B) (ts : List Token) (o : Outcome A) → LocalAt p ts o → ((x : A) → Local (f x)) → LocalAt (p >>= f) ts (and_then o f)
bind_at p f ts (Ok q) a h = join p f ts q.0 q.1 (f q.0 q.1) a ((h q.0).at q.1)
bind_at p f ts (Err e) a h = stop p f ts e a

pub local_bind : {A B : Type 0} {p : Parser A} {f : A → Parser B} → Local p → ((x : A) → Local (f x)) → Local (p >>= f)
local_bind {p = p} {f = f} hp hf = record { at = λ ts. bind_at p f ts (p ts) (hp.at ts) hf }

local_name_by : (p : Place) (kind : TokenKind) → Local (name_by p kind)
local_name_by p (k.Word text) = local_bind local_skip (λ _. local_pure _)
local_name_by p _ = local_refuse

local_name_at : (t : Option Token) → Local (name_at t)
local_name_at None = local_refuse
local_name_at (Some t) = local_name_by t.place t.kind

pub local_name : Local name
unfolding name
local_name = local_bind local_look local_name_at

local_text_by : (p : Place) (kind : TokenKind) → Local (text_by p kind)
local_text_by p (k.Text bytes) = local_bind local_skip (λ _. local_pure _)
local_text_by p _ = local_refuse

local_text_at : (t : Option Token) → Local (text_at t)
local_text_at None = local_refuse
local_text_at (Some t) = local_text_by t.place t.kind

pub local_text : Local text
unfolding text
local_text = local_bind local_look local_text_at

pub local_optional : {A : Type 0} (test : TokenKind → Bool) (part : Parser A) → Local part → Local (optional test part)
unfolding optional
local_optional test part local = local_bind (local_see test) (λ b. local_if b (local_bind local (λ x. local_pure _)) (local_pure _))

-- ---- loops

same_at : {A : Type 0} (p q : Parser A) (ts : List Token) (o : Outcome A) → ((l : List Token) → p l ≡ q l) → LocalAt p ts o → LocalAt q ts o
same_at p q ts (Ok x) e a = (a.0, a.1, λ r h. sym (e (a.0 ++ r)) ∙ a.2 r h)
same_at p q ts (Err x) e a = (a.0, a.1, λ r h. sym (e (a.0 ++ r)) ∙ a.2 r h)

module _ {S A : Type 0} (turn : S → Parser (Turn S A)) (moves : Moves turn) (local : (s : S) → Local (turn s)) where
  again_at : (n : ℕ) (s : S) (ts : List Token) (o : Outcome (Turn S A)) → turn s ts ≡ o → LocalAt (turn s) ts o
      → ((s' : S) (ts' : List Token) → length ts' < length ts → LocalAt (repeat turn s') ts' (iterate turn n s' ts'))
      → LocalAt (turn s >>= goes (repeat turn)) ts (and_then o (goes (iterate turn n)))
  again_at n s ts (Err e) is a next = stop (turn s) (goes (repeat turn)) ts e a
  again_at n s ts (Ok (done x, ts')) is a next = join (turn s) (goes (repeat turn)) ts (done x) ts' (Ok (x, ts')) a ((local_pure x).at ts')
  again_at n s ts (Ok (more s', ts')) is a next = join (turn s) (goes (repeat turn)) ts (more s') ts' (iterate turn n s' ts') a (next s' ts' (moves.less s s' ts ts' is))

  local_iterate : (n : ℕ) (s : S) (ts : List Token) → length ts < n → LocalAt (repeat turn s) ts (iterate turn n s ts)
  unfolding iterate
  local_iterate zero s ts lt = absurd (omega arith)
  local_iterate (suc n) s ts lt =
      same_at (turn s >>= goes (repeat turn)) (repeat turn s) ts (and_then (turn s ts) (goes (iterate turn n))) (λ l. sym (repeat-turn turn moves s l))
      (again_at n s ts (turn s ts) refl ((local s).at ts) (λ s' ts' less. local_iterate n s' ts' (omega arith)))

  pub local_repeat : (s : S) → Local (repeat turn s)
  unfolding repeat
  local_repeat s = record { at = λ ts. local_iterate (suc (length ts)) s ts (omega arith) }

shrinks_at : {A : Type 0} (p : Parser A) (ts : List Token) (x : A) (ts' : List Token) → LocalAt p ts (Ok (x, ts')) → length ts' ≤ length ts
shrinks_at p ts x ts' a = omega (arith, length-append a.0 ts', ap length a.1)

-- what is left is no longer than what there was
pub shrinks : {A : Type 0} (p : Parser A) → Local p → (ts : List Token) (x : A) (ts' : List Token) → p ts ≡ Ok (x, ts') → length ts' ≤ length ts
shrinks p local ts x ts' e = shrinks_at p ts x ts' (subst (LocalAt p ts) e (local.at ts))

-- ---- what takes a token

pub takes_expect : (test : TokenKind → Bool) → Takes (expect test)
takes_expect test = record { some = λ ts x r is. let t = expect_ok test ts x r is in omega (arith, ap length t.1) }

pub takes_refuse : {A : Type 0} → Takes (refuse {A = A})
takes_refuse = record { some = λ ts x r is. absurd cc }

-- if the first part does, the whole does
pub takes_bind : {A B : Type 0} {p : Parser A} {f : A → Parser B} → Takes p → ((x : A) → Local (f x)) → Takes (p >>= f)
takes_bind {A} {B} {p} {f} tp lf = record {
  some = λ ts y r is.
      let b = bind_ok (p ts) f y r is in
      omega (arith, tp.some ts b.0 b.1 b.2, shrinks (f b.0) (lf b.0) b.1 y r b.3);
}

-- if the second part does, the whole does
pub takes_then : {A B : Type 0} {p : Parser A} {f : A → Parser B} → Local p → ((x : A) → Takes (f x)) → Takes (p >>= f)
takes_then {A} {B} {p} {f} lp tf = record {
  some = λ ts y r is.
      let b = bind_ok (p ts) f y r is in
      omega (arith, shrinks p lp ts b.0 b.1 b.2, (tf b.0).some b.1 y r b.3);
}

pub takes_if : {A : Type 0} {p q : Parser A} (b : Bool) → Takes p → Takes q → Takes (cond b p q)
takes_if true hp hq = hp
takes_if false hp hq = hq

-- A choice by the next token takes one where each of its cases goes past that token first
pub takes_skip : {A : Type 0} (p : Parser A) → Local p → (t : Token) (ts : List Token) (a : A) (r : List Token) → (skip >> p) (t ∷ ts) ≡ answer a r → length r < suc (length ts)
takes_skip p local t ts a r is =
    let b = bind_ok (skip (t ∷ ts)) (λ _. p) a r is in
    omega (arith, skip_less (t ∷ ts) t b.0 b.1 refl b.2, shrinks p local b.1 a r b.3)

name_takes : (t : Token) (ts : List Token) (kind : TokenKind) (p : Place) (a : Place × List ℕ) (r : List Token) → name_by p kind (t ∷ ts) ≡ answer a r → length r < suc (length ts)
name_takes t ts (k.Word text) p a r is = takes_skip (pure (p, text)) (local_pure _) t ts a r is
name_takes t ts _ p a r is = absurd cc

name_some : (ts : List Token) (a : Place × List ℕ) (r : List Token) → name ts ≡ answer a r → length r < length ts
unfolding name look
name_some [] a r is = absurd cc
name_some (t ∷ ts) a r is = name_takes t ts t.kind t.place a r is

pub takes_name : Takes name
takes_name = record { some = name_some }

-- ---- lists of parts

module _ {A : Type 0} (test : TokenKind → Bool) (part : Parser A) (local : Local part) where
  local_turn_if : (found : List A) (b : Bool) → Local (turn_if part found b)
  local_turn_if found b = local_if b (local_bind local (λ x. local_pure _)) (local_pure _)

  local_turn_while : (found : List A) → Local (turn_while test part found)
  unfolding turn_while
  local_turn_while found = local_bind (local_see test) (local_turn_if found)

  moves_by : (takes : Takes part) (found found' : List A) (ts ts' : List Token) → turn_while test part found ts ≡ answer (more found') ts' → length ts' < length ts
  unfolding turn_while see
  moves_by takes found found' ts ts' is =
      elim (if_ok (sees test ts) _ _ ts _ is) [
        | inl a ↦
            let b = bind_ok (part ts) (λ x. pure (more (found ++ x ∷ []))) (more found') ts' a.1 in
            omega (arith, takes.some ts b.0 b.1 b.2, ap length (ok_rest (more (found ++ b.0 ∷ [])) (more found') b.1 ts' b.3))
        | inr a ↦ absurd (let none : done found ≡ more found' = ok_value _ _ _ _ a.1 in cc)
      ]

  pub moves_while : Takes part → Moves (turn_while test part)
  moves_while takes = record { less = moves_by takes }

  pub local_while : Takes part → (found : List A) → Local (while_sees test part found)
  unfolding while_sees
  local_while takes found = local_repeat (turn_while test part) (moves_while takes) local_turn_while found

pub local_separated : {A : Type 0} (test : TokenKind → Bool) (part : Parser A) → Local part → Local (separated test part)
unfolding separated
local_separated test part local =
    local_bind local (λ x. local_while test (expect test >> part) (local_bind (local_expect test) (λ _. local)) (takes_bind (takes_expect test) (λ _. local)) (x ∷ []))

pub takes_separated : {A : Type 0} (test : TokenKind → Bool) (part : Parser A) → Local part → Takes part → Takes (separated test part)
unfolding separated
takes_separated test part local takes =
    takes_bind takes (λ x. local_while test (expect test >> part) (local_bind (local_expect test) (λ _. local)) (takes_bind (takes_expect test) (λ _. local)) (x ∷ []))
