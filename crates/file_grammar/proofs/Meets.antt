-- What a parser meets: a relation between trees and tokens. What is read is spelled, and the tokens that are left are
-- as `Given` says; what is spelled is read, where the tokens go on as `Needs` says. Each way of putting parsers
-- together keeps that.
use Rattle.std.proofs.Common.{◌≡◌, Bool, true, false, List, [], ◌∷◌, ◌++◌, Option, Some, None, refl, ap, sym, subst, ◌∙◌, append_assoc, append-nil, inl, inr}
use Rattle.cm_tree.specs.declared.token.Token.{Token}
use Rattle.cm_tree.specs.declared.token.TokenKind.{TokenKind}
use Rattle.token_reader.specs.Parsers.{Outcome, Parser, and_then, ◌>>=◌, ◌>>◌, pure, see, sees, expect, first, rest, is_sign}
use Rattle.token_reader.specs.Lists.{optional, while_sees, separated}
use Rattle.token_reader.specs.Local.{Local, Takes}
use Rattle.token_reader.proofs.Locality.{local_bind, local_expect, takes_bind, takes_expect}
use Rattle.token_reader.proofs.Parts.{Read, while_ok, while_more, while_ends}
use Rattle.cm_tree.specs.Lists.{Every, Further, Listed, Optional}
use Rattle.cm_tree.specs.Lists as lists
use Rattle.cm_tree.specs.Spelling.{IsSign}
use Rattle.cm_tree.specs.declared.sign.Sign.TheVariants as s
use Rattle.token_reader.proofs.Inverses.{answer, bind_ok, if_ok, given, expect_ok, expected, seen, sign_is, sign_same}

-- from the tokens `ts` the tree was read, and `r` is left
pub record Found {A : Type 0} (R Given : A → List Token → Type 0) (ts : List Token) (a : A) (r : List Token) : Type 0 where
  pub used : List Token
  pub parts : ts ≡ used ++ r
  pub spelled : R a used
  pub follows : Given a r

pub record Meets {A : Type 0} (p : Parser A) (R Given Needs : A → List Token → Type 0) : Type 0 where
  pub sound : (ts : List Token) (a : A) (r : List Token) → p ts ≡ answer a r → Found R Given ts a r
  pub complete : (a : A) (u r : List Token) → R a u → Needs a r → p (u ++ r) ≡ answer a r

-- anything may follow
abbrev pub Any : {A : Type 0} → A → List Token → Type 0
Any a r = Unit {0}

-- the next token doesn't pass the test
abbrev pub Not : {A : Type 0} → (TokenKind → Bool) → A → List Token → Type 0
Not test a r = sees test r ≡ false

-- nothing is read, and x is answered
pub record Is {A : Type 0} (x a : A) (u : List Token) : Type 0 where
  pub same : a ≡ x
  pub none : u ≡ []

-- one token that passes the test
pub record One (test : TokenKind → Bool) (u : List Token) : Type 0 where
  pub token : Token
  pub parts : u ≡ token ∷ []
  pub passes : test token.kind ≡ true

-- first one part, and then the other
pub record Then {A B : Type 0} (R : A → List Token → Type 0) (S : A → B → List Token → Type 0) (b : B) (w : List Token) : Type 0 where
  pub part : A
  pub front : List Token
  pub back : List Token
  pub parts : w ≡ front ++ back
  pub begins : R part front
  pub ends : S part b back

pub meets_as : {A : Type 0} {p : Parser A} {R S F G N M : A → List Token → Type 0} → Meets p R F N → ((a : A) (u : List Token) → R a u → S a u) → ((a : A) (u : List Token) → S a u → R a u)
    → ((a : A) (r : List Token) → F a r → G a r) → ((a : A) (r : List Token) → M a r → N a r) → Meets p S G M
meets_as m to from follows back = record {
  sound = λ ts a r h. let f = m.sound ts a r h in record { used = f.used; parts = f.parts; spelled = to a f.used f.spelled; follows = follows a r f.follows };
  complete = λ a u r s g. m.complete a u r (from a u s) (back a r g);
}

pub meets_pure : {A : Type 0} (x : A) → Meets (pure x) (Is x) Any Any
meets_pure x = record {
  sound = λ ts a r h. given (λ y l. Found (Is x) Any ts y l) x a ts r h (record { used = []; parts = refl; spelled = record { same = refl; none = refl }; follows = tt });
  complete = λ a u r s g. ap (λ (l : List Token). answer x (l ++ r)) s.none ∙ ap (λ (y : _). answer y r) (sym s.same);
}

pub meets_bind : {A B : Type 0} {p : Parser A} {q : A → Parser B} {R F N : A → List Token → Type 0} {S : A → B → List Token → Type 0} {G M : B → List Token → Type 0}
    → Meets p R F N → ((x : A) → Meets (q x) (S x) G M) → ((x : A) (b : B) (v r : List Token) → S x b v → M b r → N x (v ++ r)) → Meets (p >>= q) (Then R S) G M
meets_bind {A} {B} {p} {q} {R} {F} {N} {S} {G} {M} mp mq next = record {
  sound = λ ts b r h.
      let c = bind_ok (p ts) q b r h in
      let one = mp.sound ts c.0 c.1 c.2 in
      let two = (mq c.0).sound c.1 b r c.3 in
      record {
        used = one.used ++ two.used;
        parts = one.parts ∙ ap (λ (l : List Token). one.used ++ l) two.parts ∙ sym (append_assoc one.used two.used r);
        spelled = record { part = c.0; front = one.used; back = two.used; parts = refl; begins = one.spelled; ends = two.spelled };
        follows = two.follows;
      };
  complete = λ b w r s g.
      let regroup : w ++ r ≡ s.front ++ (s.back ++ r) = ap (λ (l : List Token). l ++ r) s.parts ∙ append_assoc s.front s.back r in
      let one = mp.complete s.part s.front (s.back ++ r) s.begins (next s.part b s.back r s.ends g) in
      ap (λ (l : List Token). and_then (p l) q) regroup ∙ ap (λ (o : Outcome A). and_then o q) one ∙ (mq s.part).complete b s.back r s.ends g;
}

pub meets_map : {A B : Type 0} {p : Parser A} {R F N : A → List Token → Type 0} {S G M : B → List Token → Type 0} (f : A → B)
    → Meets p R F N → ((a : A) (u : List Token) → R a u → S (f a) u) → ((b : B) (u : List Token) → S b u → (a : A) × (b ≡ f a) × R a u)
    → ((a : A) (r : List Token) → F a r → G (f a) r) → ((a : A) (r : List Token) → M (f a) r → N a r) → Meets (p >>= (λ a. pure (f a))) S G M
meets_map {A} {B} {p} {R} {F} {N} {S} {G} {M} f mp to from follows back = record {
  sound = λ ts b r h.
      let c = bind_ok (p ts) (λ a. pure (f a)) b r h in
      let one = mp.sound ts c.0 c.1 c.2 in
      given (λ y l. Found S G ts y l) (f c.0) b c.1 r c.3 (record { used = one.used; parts = one.parts; spelled = to c.0 one.used one.spelled; follows = follows c.0 c.1 one.follows });
  complete = λ b u r s g.
      let a = from b u s in
      let one = mp.complete a.0 u r a.2 (back a.0 r (subst (λ (y : B). M y r) a.1 g)) in
      ap (λ (o : Outcome A). and_then o (λ y. pure (f y))) one ∙ ap (λ (y : B). answer y r) (sym a.1);
}

pub meets_expect : (test : TokenKind → Bool) → Meets (expect test) (λ x u. One test u) Any Any
meets_expect test = record {
  sound = λ ts a r h. let t = expect_ok test ts a r h in record { used = t.0 ∷ []; parts = t.1; spelled = record { token = t.0; parts = refl; passes = t.2 }; follows = tt };
  complete = λ a u r s g. ap (λ (l : List Token). expect test (l ++ r)) s.parts ∙ expected test s.token r s.passes;
}

-- ---- what may be missing

optional_sound : {A : Type 0} (test : TokenKind → Bool) {part : Parser A} {R G N : A → List Token → Type 0} → Meets part R G N
    → (ts : List Token) (a : Option A) (r : List Token) → optional test part ts ≡ answer a r → Found (Optional R) Any ts a r
unfolding optional see
optional_sound test {part} {R} {G} {N} m ts a r h =
    elim (if_ok (sees test ts) _ _ ts _ h) [
      | inl y ↦
          let c = bind_ok (part ts) (λ x. pure (Some x)) a r y.1 in
          let one = m.sound ts c.0 c.1 c.2 in
          given (λ z l. Found (Optional R) Any ts z l) (Some c.0) a c.1 r c.3 (record { used = one.used; parts = one.parts; spelled = lists.present c.0 one.used one.spelled; follows = tt })
      | inr y ↦ given (λ z l. Found (Optional R) Any ts z l) None a ts r y.1 (record { used = []; parts = refl; spelled = lists.absent; follows = tt })
    ]

absent_complete : {A : Type 0} (test : TokenKind → Bool) (part : Parser A) (r : List Token) → sees test r ≡ false → optional test part r ≡ answer None r
unfolding optional see
absent_complete test part r none = rw none refl

present_complete : {A : Type 0} (test : TokenKind → Bool) (part : Parser A) (ts : List Token) (x : A) (r : List Token) → sees test ts ≡ true → part ts ≡ answer x r → optional test part ts ≡ answer (Some x) r
unfolding optional see
present_complete test part ts x r there is = rw (there, is) refl

module _ {A : Type 0} (test : TokenKind → Bool) {part : Parser A} {R G N : A → List Token → Type 0} (M : Option A → List Token → Type 0) (m : Meets part R G N)
    (starts : (x : A) (v r : List Token) → R x v → sees test (v ++ r) ≡ true) (none : (r : List Token) → M None r → sees test r ≡ false) (some : (x : A) (r : List Token) → M (Some x) r → N x r) where
  optional_complete : {a : Option A} {u : List Token} → Optional R a u → (r : List Token) → M a r → optional test part (u ++ r) ≡ answer a r
  optional_complete lists.absent r g = absent_complete test part r (none r g)
  optional_complete (lists.present x u spelled) r g = present_complete test part (u ++ r) x r (starts x u r spelled) (m.complete x u r spelled (some x r g))

  pub meets_optional : Meets (optional test part) (Optional R) Any M
  meets_optional = record { sound = optional_sound test m; complete = λ a u r s g. optional_complete s r g }

-- ---- lists of parts

-- the tokens of some parts, and the one after them
pub record EveryFrom {A : Type 0} (test : TokenKind → Bool) (R : A → List Token → Type 0) (xs : List A) (ts r : List Token) : Type 0 where
  pub used : List Token
  pub parts : ts ≡ used ++ r
  pub spelled : Every R xs used
  pub ended : sees test r ≡ false

-- what a list of parts needs after it: its end, and what each part needs
pub record Ended {A : Type 0} (test : TokenKind → Bool) (N : A → List Token → Type 0) (xs : List A) (r : List Token) : Type 0 where
  pub ended : sees test r ≡ false
  pub needs : (x : A) → N x r

module _ {A : Type 0} (test : TokenKind → Bool) (part : Parser A) (local : Local part) (takes : Takes part) {R G N : A → List Token → Type 0} (m : Meets part R G N)
    (starts : (x : A) (v r : List Token) → R x v → sees test (v ++ r) ≡ true) (after : (x y : A) (v r : List Token) → R y v → N x (v ++ r)) where
  every_read : (xs : List A) (ts r : List Token) → Read test part local takes xs ts r → EveryFrom test R xs ts r
  unfolding Read
  every_read [] ts r h = record { used = []; parts = h.1; spelled = lists.none; ended = subst (λ (l : List Token). sees test l ≡ false) h.1 h.0 }
  every_read (x ∷ xs) ts r h =
      let one = m.sound ts x h.0 h.2 in
      let others = every_read xs h.0 r h.3 in
      record {
        used = one.used ++ others.used;
        parts = one.parts ∙ ap (λ (l : List Token). one.used ++ l) others.parts ∙ sym (append_assoc one.used others.used r);
        spelled = lists.more x xs one.used others.used one.spelled others.spelled;
        ended = others.ended;
      }

  pub while_sound : (found : List A) (ts : List Token) (all : List A) (r : List Token) → while_sees test part found ts ≡ answer all r → (xs : List A) × (all ≡ found ++ xs) × EveryFrom test R xs ts r
  while_sound found ts all r h = let l = while_ok test part local takes ts found all r h in (l.items, l.whole, every_read l.items ts r l.read)

  next_needs : (x : A) {xs : List A} {u : List Token} → Every R xs u → (r : List Token) → Ended test N xs r → N x (u ++ r)
  next_needs x lists.none r e = e.needs x
  next_needs x (lists.more y ys first others one rest) r e = subst (N x) (sym (append_assoc first others r)) (after x y first (others ++ r) one)

  pub while_complete : {xs : List A} {u : List Token} → Every R xs u → (found : List A) (r : List Token) → Ended test N xs r → while_sees test part found (u ++ r) ≡ answer (found ++ xs) r
  while_complete lists.none found r e = while_ends test part local takes found r e.ended ∙ ap (λ (l : List A). answer l r) (sym (append-nil found))
  while_complete (lists.more x xs first others one rest) found r e =
      let regroup : (first ++ others) ++ r ≡ first ++ (others ++ r) = append_assoc first others r in
      let further : Ended test N xs r = record { ended = e.ended; needs = e.needs } in
      ap (while_sees test part found) regroup
      ∙ while_more test part local takes found (first ++ (others ++ r)) x (others ++ r) (starts x first (others ++ r) one) (m.complete x first (others ++ r) one (next_needs x rest r further))
      ∙ while_complete rest (found ++ x ∷ []) r further ∙ ap (λ (l : List A). answer l r) (append_assoc found (x ∷ []) xs)

  pub meets_while : Meets (while_sees test part []) (Every R) (Not test) (Ended test N)
  meets_while = record {
    sound = λ ts all r h.
        let f = while_sound [] ts all r h in
        record { used = f.2.used; parts = f.2.parts; spelled = subst (λ (l : List A). Every R l f.2.used) (sym f.1) f.2.spelled; follows = f.2.ended };
    complete = λ all u r s e. while_complete s [] r e;
  }

-- ---- parts with a comma between any two

-- a comma and a part
pub record Next {A : Type 0} (R : A → List Token → Type 0) (x : A) (u : List Token) : Type 0 where
  pub comma : Token
  pub tokens : List Token
  pub parts : u ≡ comma ∷ tokens
  pub is : IsSign s.Comma comma
  pub spelled : R x tokens

next_of : {A : Type 0} {R : A → List Token → Type 0} (x : A) (w : List Token) → Then (λ (y : Unit {0}) u. One (is_sign s.Comma) u) (λ (y : Unit {0}). R) x w → Next R x w
next_of x w h = record {
  comma = h.begins.token;
  tokens = h.back;
  parts = h.parts ∙ ap (λ (l : List Token). l ++ h.back) h.begins.parts;
  is = record { kind = sign_is s.Comma h.begins.token.kind h.begins.passes };
  spelled = h.ends;
}

of_next : {A : Type 0} {R : A → List Token → Type 0} (x : A) (w : List Token) → Next R x w → Then (λ (y : Unit {0}) u. One (is_sign s.Comma) u) (λ (y : Unit {0}). R) x w
of_next x w h = record {
  part = tt;
  front = h.comma ∷ [];
  back = h.tokens;
  parts = h.parts;
  begins = record { token = h.comma; parts = refl; passes = ap (is_sign s.Comma) h.is.kind ∙ sign_same s.Comma };
  ends = h.spelled;
}

pub meets_next : {A : Type 0} {part : Parser A} {R G N : A → List Token → Type 0} → Meets part R G N → Meets (expect (is_sign s.Comma) >> part) (Next R) G N
meets_next m = meets_as (meets_bind (meets_expect (is_sign s.Comma)) (λ _. m) (λ x b v r h g. tt)) next_of of_next (λ a r f. f) (λ a r f. f)

further_of : {A : Type 0} {R : A → List Token → Type 0} {xs : List A} {u : List Token} → Every (Next R) xs u → Further R xs u
further_of lists.none = lists.none
further_of {R = R} (lists.more x xs first others one rest) =
    subst (λ (l : List Token). Further R (x ∷ xs) (l ++ others)) (sym one.parts) (lists.more x xs one.comma one.tokens others one.is one.spelled (further_of rest))

of_further : {A : Type 0} {R : A → List Token → Type 0} {xs : List A} {u : List Token} → Further R xs u → Every (Next R) xs u
of_further lists.none = lists.none
of_further (lists.more x xs comma first others is one rest) =
    lists.more x xs (comma ∷ first) others (record { comma = comma; tokens = first; parts = refl; is = is; spelled = one }) (of_further rest)

comma_seen : {A : Type 0} {R : A → List Token → Type 0} (x : A) (v r : List Token) → Next R x v → sees (is_sign s.Comma) (v ++ r) ≡ true
comma_seen x v r h = ap (λ (l : List Token). sees (is_sign s.Comma) (l ++ r)) h.parts ∙ seen (is_sign s.Comma) h.comma (h.tokens ++ r) _ h.is.kind true (sign_same s.Comma)

module _ {A : Type 0} (part : Parser A) (local : Local part) {R G N : A → List Token → Type 0} (m : Meets part R G N) (commas : (x : A) (t : Token) (r : List Token) → IsSign s.Comma t → N x (t ∷ r)) where
  abbrev following : Parser A
  following = expect (is_sign s.Comma) >> part

  local_following : Local following
  local_following = local_bind (local_expect (is_sign s.Comma)) (λ _. local)

  takes_following : Takes following
  takes_following = takes_bind (takes_expect (is_sign s.Comma)) (λ _. local)

  after_comma : (x y : A) (v r : List Token) → Next R y v → N x (v ++ r)
  after_comma x y v r h = subst (λ (l : List Token). N x (l ++ r)) (sym h.parts) (commas x h.comma (h.tokens ++ r) h.is)

  pub commas_sound : (found : List A) (ts : List Token) (all : List A) (r : List Token) → while_sees (is_sign s.Comma) following found ts ≡ answer all r → (xs : List A) × (all ≡ found ++ xs) × EveryFrom (is_sign s.Comma) (Next R) xs ts r
  commas_sound = while_sound (is_sign s.Comma) following local_following takes_following (meets_next m) comma_seen after_comma

  pub commas_complete : {xs : List A} {u : List Token} → Further R xs u → (found : List A) (r : List Token) → Ended (is_sign s.Comma) N xs r → while_sees (is_sign s.Comma) following found (u ++ r) ≡ answer (found ++ xs) r
  commas_complete f = while_complete (is_sign s.Comma) following local_following takes_following (meets_next m) comma_seen after_comma (of_further f)

  separated_sound : (ts : List Token) (all : List A) (r : List Token) → separated (is_sign s.Comma) part ts ≡ answer all r → Found (Listed R) (Not (is_sign s.Comma)) ts all r
  unfolding separated
  separated_sound ts all r h =
      let b = bind_ok (part ts) (λ x. while_sees (is_sign s.Comma) following (x ∷ [])) all r h in
      let one = m.sound ts b.0 b.1 b.2 in
      let f = commas_sound (b.0 ∷ []) b.1 all r b.3 in
      record {
        used = one.used ++ f.2.used;
        parts = one.parts ∙ ap (λ (l : List Token). one.used ++ l) f.2.parts ∙ sym (append_assoc one.used f.2.used r);
        spelled = subst (λ (l : List A). Listed R l (one.used ++ f.2.used)) (sym f.1) (lists.listed b.0 f.0 one.used f.2.used one.spelled (further_of f.2.spelled));
        follows = f.2.ended;
      }

  first_needs : (x : A) {xs : List A} {u : List Token} → Further R xs u → (r : List Token) → Ended (is_sign s.Comma) N (x ∷ xs) r → N x (u ++ r)
  first_needs x lists.none r e = e.needs x
  first_needs x (lists.more y ys comma first others is one rest) r e = commas x comma ((first ++ others) ++ r) is

  separated_complete : {all : List A} {u : List Token} → Listed R all u → (r : List Token) → Ended (is_sign s.Comma) N all r → separated (is_sign s.Comma) part (u ++ r) ≡ answer all r
  unfolding separated
  separated_complete (lists.listed x xs first others one rest) r e =
      let regroup : (first ++ others) ++ r ≡ first ++ (others ++ r) = append_assoc first others r in
      let read = m.complete x first (others ++ r) one (first_needs x rest r e) in
      let further : Ended (is_sign s.Comma) N xs r = record { ended = e.ended; needs = e.needs } in
      ap (λ (l : List Token). and_then (part l) (λ y. while_sees (is_sign s.Comma) following (y ∷ []))) regroup
      ∙ ap (λ (o : Outcome A). and_then o (λ y. while_sees (is_sign s.Comma) following (y ∷ []))) read
      ∙ commas_complete rest (x ∷ []) r further

  pub meets_separated : Meets (separated (is_sign s.Comma) part) (Listed R) (Not (is_sign s.Comma)) (Ended (is_sign s.Comma) N)
  meets_separated = record { sound = separated_sound; complete = λ all u r h e. separated_complete h r e }
