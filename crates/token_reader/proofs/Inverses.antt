-- What is known of the parts where the whole has read something.
use Rattle.std.proofs.Common.{◌≡◌, ℕ, Bool, true, false, cond, List, [], ◌∷◌, length, Some, Ok, Err, ◌<◌, refl, ap, subst, ◌∙◌, rules, inl, inr, ◌⊎◌, arith}
use denote.Enum.Bare.{same_true, true_same}
use Rattle.std.proofs.lemmas.Slice.Eq.{bytes_eq-Decides}
use Rattle.cm_base.specs.declared.place.Place.{Place}
use Rattle.cm_tree.specs.declared.token.Token.{Token}
use Rattle.cm_tree.specs.declared.token.TokenKind.{TokenKind}
use Rattle.cm_tree.specs.declared.token.TokenKind.TheVariants as k
use Rattle.cm_tree.specs.declared.sign.Sign.{Sign}
use Rattle.cm_tree.specs.declared.reserved.Reserved.{Reserved}
use Rattle.cm_tree.specs.contracts.sign.Sign as signs
use Rattle.cm_tree.specs.contracts.reserved.Reserved as words
use Rattle.token_reader.specs.declared.cursor.Stop.{Stop}
use Rattle.token_reader.specs.declared.cursor.Stop.TheVariants.{Here, NoMemory}
use Rattle.token_reader.specs.Parsers.{Outcome, Parser, and_then, first, look, sees, skip, expect, is_sign, is_reserved, is_word, same_sign, same_reserved, Reads}
use Rattle.token_reader.specs.Lists.{name_by, name, text_by, text}

-- what was answered
abbrev pub answer : {A : Type 0} → A → List Token → Outcome A
answer x ts = Ok (x, ts)

pub bind_ok : {A B : Type 0} (o : Outcome A) (f : A → Parser B) (y : B) (ts : List Token) → and_then o f ≡ answer y ts
    → (x : A) × (mid : List Token) × (o ≡ answer x mid) × (f x mid ≡ answer y ts)
bind_ok (Ok q) f y ts e = (q.0, q.1, refl, e)
bind_ok (Err d) f y ts e = absurd cc

pub if_ok : {A : Type 0} (b : Bool) (p q : Parser A) (ts : List Token) (o : Outcome A) → cond b p q ts ≡ o → ((b ≡ true) × (p ts ≡ o)) ⊎ ((b ≡ false) × (q ts ≡ o))
if_ok true p q ts o e = inl (refl, e)
if_ok false p q ts o e = inr (refl, e)

-- ---- the parts of what was answered

pub ok_value : {A : Type 0} (x y : A) (a b : List Token) → answer x a ≡ answer y b → x ≡ y
ok_value {A} x y a b e = let l : A × List Token = (x, a) in let r : A × List Token = (y, b) in let pair : l ≡ r = cc in ap (λ (p : A × List Token). p.0) pair

pub ok_rest : {A : Type 0} (x y : A) (a b : List Token) → answer x a ≡ answer y b → a ≡ b
ok_rest {A} x y a b e = let l : A × List Token = (x, a) in let r : A × List Token = (y, b) in let pair : l ≡ r = cc in ap (λ (p : A × List Token). p.1) pair

-- what holds of the answer holds of the one that it equals
pub given : {A : Type 0} (P : A → List Token → Type 0) (x y : A) (a b : List Token) → answer x a ≡ answer y b → P x a → P y b
given {A} P x y a b e h = let l : A × List Token = (x, a) in let r : A × List Token = (y, b) in let pair : l ≡ r = cc in subst (λ (p : A × List Token). P p.0 p.1) pair h

-- an answer isn't a refusal
pub not_both : {A : Type 0} (x : A) (a e : List Token) → answer x a ≡ Err e → ⊥
not_both x a e h = cc

-- a part's refusal is the whole's
pub Reads-err : {A B : Type 0} (p : Outcome A) (q : Outcome B) (e : Stop) (new : List Token) → ((l : List Token) → p ≡ Err l → q ≡ Err l) → Reads p (Err e) new → Reads q (Err e) new
Reads-err p q Here new f is = f new is
Reads-err p q NoMemory new f is = tt

-- ---- the next token

-- a token that is there is taken
pub skip_less : (ts : List Token) (t : Token) (x : Unit {0}) (mid : List Token) → first ts ≡ Some t → skip ts ≡ answer x mid → length mid < length ts
unfolding skip
skip_less [] t x mid some is = absurd cc
skip_less (u ∷ ts) t x mid some is = let same : ts ≡ mid = ok_rest tt x ts mid is in omega (arith, ap length same)

pub skip_is : (t : Token) (ts : List Token) (x : Unit {0}) (mid : List Token) → skip (t ∷ ts) ≡ answer x mid → ts ≡ mid
unfolding skip
skip_is t ts x mid is = ok_rest tt x ts mid is

pub same_sign-true : (r s : Sign) → same_sign r s ≡ true → r ≡ s
unfolding same_sign
same_sign-true r s e = same_true signs.the_type (search rules) r s e

pub same_reserved-true : (r s : Reserved) → same_reserved r s ≡ true → r ≡ s
unfolding same_reserved
same_reserved-true r s e = same_true words.the_type (search rules) r s e

pub sign_is : (s : Sign) (kind : TokenKind) → is_sign s kind ≡ true → kind ≡ k.Sign s
sign_is s (k.Sign r) e = ap (λ (x : Sign). k.Sign x) (same_sign-true r s e)
sign_is s (k.Word n) e = absurd cc
sign_is s (k.Number n w) e = absurd cc
sign_is s (k.Text b) e = absurd cc
sign_is s (k.Reserved w) e = absurd cc

pub reserved_is : (w : Reserved) (kind : TokenKind) → is_reserved w kind ≡ true → kind ≡ k.Reserved w
reserved_is w (k.Reserved r) e = ap (λ (x : Reserved). k.Reserved x) (same_reserved-true r w e)
reserved_is w (k.Word n) e = absurd cc
reserved_is w (k.Number n v) e = absurd cc
reserved_is w (k.Text b) e = absurd cc
reserved_is w (k.Sign s) e = absurd cc

pub word_is : (text : List ℕ) (kind : TokenKind) → is_word text kind ≡ true → kind ≡ k.Word text
word_is text (k.Word n) e = ap (λ (x : List ℕ). k.Word x) ((bytes_eq-Decides n text).0 e)
word_is text (k.Reserved r) e = absurd cc
word_is text (k.Number n v) e = absurd cc
word_is text (k.Text b) e = absurd cc
word_is text (k.Sign s) e = absurd cc

expect_by : (test : TokenKind → Bool) (t : Token) (ts : List Token) (b : Bool) (x : Unit {0}) (mid : List Token) → test t.kind ≡ b → cond b (answer tt ts) (Err (t ∷ ts)) ≡ answer x mid
    → (v : Token) × (t ∷ ts ≡ v ∷ mid) × (test v.kind ≡ true)
expect_by test t ts true x mid is e = (t, ap (λ (l : List Token). t ∷ l) (ok_rest _ _ _ _ e), is)
expect_by test t ts false x mid is e = absurd cc

-- the token that was expected stood there
pub expect_ok : (test : TokenKind → Bool) (ts : List Token) (x : Unit {0}) (mid : List Token) → expect test ts ≡ answer x mid → (t : Token) × (ts ≡ t ∷ mid) × (test t.kind ≡ true)
unfolding expect sees
expect_ok test [] x mid e = absurd cc
expect_ok test (t ∷ ts) x mid e = expect_by test t ts (test t.kind) x mid refl e

-- the token that was seen is there
pub sees_ok : (test : TokenKind → Bool) (ts : List Token) → sees test ts ≡ true → (t : Token) × (r : List Token) × (ts ≡ t ∷ r) × (test t.kind ≡ true)
unfolding sees
sees_ok test [] e = absurd cc
sees_ok test (t ∷ ts) e = (t, ts, refl, e)

-- a name stood there
pub record IsName (ts : List Token) (p : Place × List ℕ) (r : List Token) : Type 0 where
  pub token : Token
  pub parts : ts ≡ token ∷ r
  pub kind : token.kind ≡ k.Word p.1
  pub place : token.place ≡ p.0

name_by_ok : (t : Token) (ts : List Token) (p : Place × List ℕ) (r : List Token) (kind : TokenKind) → t.kind ≡ kind → name_by t.place kind (t ∷ ts) ≡ answer p r → IsName (t ∷ ts) p r
unfolding skip
name_by_ok t ts p r (k.Word text) is h =
    given (λ y l. IsName (t ∷ ts) y l) (t.place, text) p ts r h (record { token = t; parts = refl; kind = is; place = refl })
name_by_ok t ts p r _ is h = absurd cc

pub name_ok : (ts : List Token) (p : Place × List ℕ) (r : List Token) → name ts ≡ answer p r → IsName ts p r
unfolding name look
name_ok [] p r h = absurd cc
name_ok (t ∷ ts) p r h = name_by_ok t ts p r t.kind refl h

-- a string stood there
pub record IsText (ts : List Token) (p : Place × List ℕ) (r : List Token) : Type 0 where
  pub token : Token
  pub parts : ts ≡ token ∷ r
  pub kind : token.kind ≡ k.Text p.1
  pub place : token.place ≡ p.0

text_by_ok : (t : Token) (ts : List Token) (p : Place × List ℕ) (r : List Token) (kind : TokenKind) → t.kind ≡ kind → text_by t.place kind (t ∷ ts) ≡ answer p r → IsText (t ∷ ts) p r
unfolding skip
text_by_ok t ts p r (k.Text bytes) is h =
    given (λ y l. IsText (t ∷ ts) y l) (t.place, bytes) p ts r h (record { token = t; parts = refl; kind = is; place = refl })
text_by_ok t ts p r _ is h = absurd cc

pub text_ok : (ts : List Token) (p : Place × List ℕ) (r : List Token) → text ts ≡ answer p r → IsText ts p r
unfolding text look
text_ok [] p r h = absurd cc
text_ok (t ∷ ts) p r h = text_by_ok t ts p r t.kind refl h

-- ---- what stands there is read

pub sign_same : (s : Sign) → is_sign s (k.Sign s) ≡ true
unfolding same_sign
sign_same s = true_same signs.the_type s s refl

pub reserved_same : (w : Reserved) → is_reserved w (k.Reserved w) ≡ true
unfolding same_reserved
reserved_same w = true_same words.the_type w w refl

pub word_same : (text : List ℕ) → is_word text (k.Word text) ≡ true
word_same text = (bytes_eq-Decides text text).1 refl

pub skipped : (t : Token) (ts : List Token) → skip (t ∷ ts) ≡ answer tt ts
unfolding skip
skipped t ts = refl

pub seen : (test : TokenKind → Bool) (t : Token) (ts : List Token) (kind : TokenKind) → t.kind ≡ kind → (b : Bool) → test kind ≡ b → sees test (t ∷ ts) ≡ b
unfolding sees
seen test t ts kind is b holds = ap test is ∙ holds

pub expected : (test : TokenKind → Bool) (t : Token) (ts : List Token) → test t.kind ≡ true → expect test (t ∷ ts) ≡ answer tt ts
unfolding expect sees
expected test t ts holds = ap (λ (b : Bool). cond b (answer tt ts) (Err (t ∷ ts))) holds

pub named : (t : Token) (ts : List Token) (text : List ℕ) → t.kind ≡ k.Word text → name (t ∷ ts) ≡ answer (t.place, text) ts
unfolding name look skip
named t ts text is = ap (λ (kind : TokenKind). name_by t.place kind (t ∷ ts)) is

pub text_there : (t : Token) (ts : List Token) (bytes : List ℕ) → t.kind ≡ k.Text bytes → text (t ∷ ts) ≡ answer (t.place, bytes) ts
unfolding text look skip
text_there t ts bytes is = ap (λ (kind : TokenKind). text_by t.place kind (t ∷ ts)) is
