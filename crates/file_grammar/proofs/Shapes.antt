-- Parts one after the other, one case for each: matching takes the tokens apart as the grammar's constructors join them.
use Rattle.std.proofs.Common.{◌≡◌, ℕ, zero, suc, ◌≤◌, Bool, true, false, cond, List, [], ◌∷◌, ◌++◌, Ok, Err, refl, ap, sym, subst, ◌∙◌, append_assoc, inl, inr, arith}
use Rattle.std.proofs.Math.Dec.{eqb-suc-zero}
use Rattle.cm_tree.specs.declared.token.Token.{Token}
use Rattle.cm_tree.specs.declared.token.TokenKind.{TokenKind}
use Rattle.cm_tree.specs.declared.token.TokenKind.TheVariants as k
use Rattle.cm_tree.specs.declared.sign.Sign.{Sign}
use Rattle.cm_tree.specs.declared.sign.Sign.TheVariants as s
use Rattle.cm_tree.specs.declared.type_expr.TypeExpr.{TypeExpr}
use Rattle.cm_tree.specs.Spelling.{IsSign}
use Rattle.cm_tree.specs.StmtSpelling.{SpellsWord}
use Rattle.cm_tree.specs.StmtSpelling as g
use Rattle.cm_tree.specs.DeclSpelling.{IsText}
use Rattle.token_reader.specs.Parsers.{Outcome, Parser, and_then, ◌>>=◌, ◌>>◌, pure, refuse, see, sees, skip, expect, is_sign, is_word}
use Rattle.token_reader.proofs.Inverses.{answer, bind_ok, if_ok, seen, sign_is, sign_same, word_is, word_same, skipped, given}
use Rattle.file_grammar.specs.Words.{within}
use Rattle.file_grammar.specs.Stmts.{semicolon}
use Rattle.file_grammar.proofs.Meets.{Found, Meets, Any, One, Then, meets_as, meets_bind, meets_map, meets_expect, Is}
use Rattle.file_grammar.proofs.Spelled.{TypeEnds, After, meets_after}
use Rattle.file_grammar.proofs.Targets.{seen_skip}

-- ---- one token

-- this sign
pub data Signed (x : Sign) : Unit {0} → List Token → Type 0 where
  signed : (y : Unit {0}) (t : Token) → IsSign x t → Signed x y (t ∷ [])

signed_of : (x : Sign) (y : Unit {0}) (u : List Token) → One (is_sign x) u → Signed x y u
signed_of x y u h = subst (Signed x y) (sym h.parts) (signed y h.token (record { kind = sign_is x h.token.kind h.passes }))

of_signed : (x : Sign) (y : Unit {0}) (u : List Token) → Signed x y u → One (is_sign x) u
of_signed x _ _ (signed y t is) = record { token = t; parts = refl; passes = ap (is_sign x) is.kind ∙ sign_same x }

pub meets_sign : (x : Sign) → Meets (expect (is_sign x)) (Signed x) Any Any
meets_sign x = meets_as (meets_expect (is_sign x)) (signed_of x) (of_signed x) (λ a r f. f) (λ a r f. f)

-- this name
pub data Texted (x : List ℕ) : Unit {0} → List Token → Type 0 where
  texted : (y : Unit {0}) (t : Token) → IsText x t → Texted x y (t ∷ [])

texted_of : (x : List ℕ) (y : Unit {0}) (u : List Token) → One (is_word x) u → Texted x y u
texted_of x y u h = subst (Texted x y) (sym h.parts) (texted y h.token (record { kind = word_is x h.token.kind h.passes }))

of_texted : (x : List ℕ) (y : Unit {0}) (u : List Token) → Texted x y u → One (is_word x) u
of_texted x _ _ (texted y t is) = record { token = t; parts = refl; passes = ap (is_word x) is.kind ∙ word_same x }

pub meets_text_word : (x : List ℕ) → Meets (expect (is_word x)) (Texted x) Any Any
meets_text_word x = meets_as (meets_expect (is_word x)) (texted_of x) (of_texted x) (λ a r f. f) (λ a r f. f)

-- ---- one part after the other

pub data Seq {A B : Type 0} (R : A → List Token → Type 0) (S : A → B → List Token → Type 0) : B → List Token → Type 0 where
  seq : (a : A) (b : B) (front back : List Token) → R a front → S a b back → Seq R S b (front ++ back)

seq_of : {A B : Type 0} {R : A → List Token → Type 0} {S : A → B → List Token → Type 0} (b : B) (w : List Token) → Then R S b w → Seq R S b w
seq_of {R = R} {S = S} b w h = subst (Seq R S b) (sym h.parts) (seq h.part b h.front h.back h.begins h.ends)

of_seq : {A B : Type 0} {R : A → List Token → Type 0} {S : A → B → List Token → Type 0} (b : B) (w : List Token) → Seq R S b w → Then R S b w
of_seq _ _ (seq a b u v x y) = record { part = a; front = u; back = v; parts = refl; begins = x; ends = y }

pub meets_seq : {A B : Type 0} {p : Parser A} {q : A → Parser B} {R F N : A → List Token → Type 0} {S : A → B → List Token → Type 0} {G M : B → List Token → Type 0}
    → Meets p R F N → ((x : A) → Meets (q x) (S x) G M) → ((x : A) (b : B) (v r : List Token) → S x b v → M b r → N x (v ++ r)) → Meets (p >>= q) (Seq R S) G M
meets_seq mp mq next = meets_as (meets_bind mp mq next) seq_of of_seq (λ a r f. f) (λ a r f. f)

-- a tree made of a part
pub data Of {A B : Type 0} (f : A → B) (R : A → List Token → Type 0) : B → List Token → Type 0 where
  of : (a : A) (u : List Token) → R a u → Of f R (f a) u

of_back : {A B : Type 0} (f : A → B) (R : A → List Token → Type 0) (b : B) (u : List Token) → Of f R b u → (a : A) × (b ≡ f a) × R a u
of_back f R _ _ (of a u h) = (a, refl, h)

pub meets_of : {A B : Type 0} {p : Parser A} {R F N : A → List Token → Type 0} {G M : B → List Token → Type 0} (f : A → B)
    → Meets p R F N → ((a : A) (r : List Token) → F a r → G (f a) r) → ((a : A) (r : List Token) → M (f a) r → N a r) → Meets (p >>= (λ a. pure (f a))) (Of f R) G M
meets_of {R = R} f mp follows back = meets_map f mp (λ a u h. of a u h) (of_back f R) follows back

-- with other words for the same
pub meets_iff : {A : Type 0} {p : Parser A} {R S F N : A → List Token → Type 0} → Meets p R F N → ((a : A) (u : List Token) → R a u → S a u) → ((a : A) (u : List Token) → S a u → R a u) → Meets p S F N
meets_iff m to from = meets_as m to from (λ a r f. f) (λ a r f. f)

-- with fewer claims on what follows
pub meets_weaker : {A : Type 0} {p : Parser A} {R F G N M : A → List Token → Type 0} → Meets p R F N → ((a : A) (r : List Token) → F a r → G a r) → ((a : A) (r : List Token) → M a r → N a r) → Meets p R G M
meets_weaker m follows back = meets_as m (λ a u h. h) (λ a u h. h) follows back

-- ---- `;`

pub data Semi {A : Type 0} (x : A) : A → List Token → Type 0 where
  semi : (t : Token) → IsSign s.Semicolon t → Semi x x (t ∷ [])

semi_of : {A : Type 0} (x a : A) (u : List Token) → Of (λ (y : Unit {0}). x) (Signed s.Semicolon) a u → Semi x a u
semi_of x _ _ (of y _ (signed _ t is)) = semi t is

of_semi : {A : Type 0} (x a : A) (u : List Token) → Semi x a u → Of (λ (y : Unit {0}). x) (Signed s.Semicolon) a u
of_semi x _ _ (semi t is) = of tt (t ∷ []) (signed tt t is)

pub meets_semicolon : {A : Type 0} (x : A) → Meets (semicolon x) (Semi x) Any Any
unfolding semicolon
meets_semicolon x = meets_iff (meets_of {G = Any} {M = Any} (λ (y : Unit {0}). x) (meets_sign s.Semicolon) (λ a r f. tt) (λ a r f. tt)) (semi_of x) (of_semi x)

-- ---- what stands before a sign or a name

pub starts : {B : Type 0} (P : List Token → Type 0) {x : Sign} {S : Unit {0} → B → List Token → Type 0} → ((t : Token) (ts : List Token) → IsSign x t → P (t ∷ ts)) → (b : B) (v r : List Token) → Seq (Signed x) S b v → P (v ++ r)
starts P f _ _ r (seq y b _ back (signed _ t is) more) = f t (back ++ r) is

pub starts_of : {B : Type 0} (P : List Token → Type 0) {x : Sign} {f : Unit {0} → B} → ((t : Token) (ts : List Token) → IsSign x t → P (t ∷ ts)) → (b : B) (v r : List Token) → Of f (Signed x) b v → P (v ++ r)
starts_of P g _ _ r (of y _ (signed _ t is)) = g t r is

pub starts_semi : {B : Type 0} (P : List Token → Type 0) (y b : B) → ((t : Token) (ts : List Token) → IsSign s.Semicolon t → P (t ∷ ts)) → (v r : List Token) → Semi y b v → P (v ++ r)
starts_semi P y _ f _ r (semi t is) = f t r is

pub starts_word : {B : Type 0} (P : List Token → Type 0) {S : _ → B → List Token → Type 0} → ((t : Token) (ts : List Token) (text : List ℕ) → t.kind ≡ k.Word text → P (t ∷ ts)) → (b : B) (v r : List Token) → Seq SpellsWord S b v → P (v ++ r)
starts_word P f _ _ r (seq w b _ back (g.word _ t is) more) = f t (back ++ r) w.text is.kind

pub type_before_word : (ty : TypeExpr) (t : Token) (ts : List Token) (text : List ℕ) → t.kind ≡ k.Word text → TypeEnds ty (t ∷ ts)
type_before_word ty t ts text is = record { no_size = seen _ t ts _ is false refl; no_name = seen _ t ts _ is false refl }

-- ---- what needs a height of one at least

pub meets_within : {A : Type 0} (n : ℕ) {p : Parser A} {R G N : A → List Token → Type 0} → (1 ≤ n → Meets p R G N) → ((a : A) (u : List Token) → R a u → 1 ≤ n) → Meets (within n p) R G N
meets_within zero m some = record { sound = λ ts a r h. absurd cc; complete = λ a u r h needs. absurd (let one = some a u h in omega arith) }
meets_within (suc n) {p = p} {R = R} {G = G} {N = N} m some = subst (λ (b : Bool). Meets (cond b refuse p) R G N) (sym (eqb-suc-zero n)) (m (omega arith))

-- what is read where a height of one is left
pub data Room {A : Type 0} (n : ℕ) (R : A → List Token → Type 0) : A → List Token → Type 0 where
  room : (a : A) (u : List Token) → 1 ≤ n → R a u → Room n R a u

room_some : {A : Type 0} (n : ℕ) (R : A → List Token → Type 0) (a : A) (u : List Token) → Room n R a u → 1 ≤ n
room_some n R _ _ (room a u some h) = some

room_back : {A : Type 0} (n : ℕ) (R : A → List Token → Type 0) (a : A) (u : List Token) → Room n R a u → R a u
room_back n R _ _ (room a u some h) = h

pub meets_room : {A : Type 0} (n : ℕ) {p : Parser A} {R G N : A → List Token → Type 0} → Meets p R G N → Meets (within n p) (Room n R) G N
meets_room n {R = R} m = meets_within n (λ some. meets_iff m (λ a u h. room a u some h) (room_back n R)) (room_some n R)

-- ---- a token that decides

-- the token that was looked at is taken, and the rest is read
pub skip_found : {A : Type 0} {q : Parser A} {R G N P : A → List Token → Type 0} → Meets q R G N → (t : Token) (ts : List Token) (a : A) (r : List Token) → (skip >> q) (t ∷ ts) ≡ answer a r
    → ((b : A) (u : List Token) → R b u → P b (t ∷ u)) → Found P G (t ∷ ts) a r
skip_found {q = q} m t ts a r h to =
    let f = m.sound ts a r (sym (ap (λ (o : Outcome (Unit {0})). and_then o (λ _. q)) (skipped t ts)) ∙ h) in
    record { used = t ∷ f.used; parts = ap (λ (l : List Token). t ∷ l) f.parts; spelled = to a f.used f.spelled; follows = f.follows }

pub skip_read : {A : Type 0} {q : Parser A} {R G N : A → List Token → Type 0} → Meets q R G N → (t : Token) (a : A) (u r : List Token) → R a u → N a r → (skip >> q) (t ∷ (u ++ r)) ≡ answer a r
skip_read {q = q} m t a u r h needs = ap (λ (o : Outcome (Unit {0})). and_then o (λ _. q)) (skipped t (u ++ r)) ∙ m.complete a u r h needs

-- the same token is left to the rest
pub stay_found : {A : Type 0} {q : Parser A} {R G N P : A → List Token → Type 0} → Meets q R G N → (ts : List Token) (a : A) (r : List Token) → q ts ≡ answer a r → ((b : A) (u : List Token) → R b u → P b u) → Found P G ts a r
stay_found m ts a r h to = let f = m.sound ts a r h in record { used = f.used; parts = f.parts; spelled = to a f.used f.spelled; follows = f.follows }

-- and a tree is made of the rest
pub skip_of_found : {A B : Type 0} {q : Parser A} {R G N : A → List Token → Type 0} {P : B → List Token → Type 0} (f : A → B) → Meets q R G N → (t : Token) (ts : List Token) (b : B) (r : List Token)
    → (skip >> q >>= (λ x. pure (f x))) (t ∷ ts) ≡ answer b r → ((x : A) (u : List Token) → R x u → P (f x) (t ∷ u)) → Found P Any (t ∷ ts) b r
skip_of_found {q = q} {P = P} f m t ts b r h to =
    let c = bind_ok ((skip >> q) (t ∷ ts)) (λ x. pure (f x)) b r h in
    let one = m.sound ts c.0 c.1 (sym (ap (λ (o : Outcome (Unit {0})). and_then o (λ _. q)) (skipped t ts)) ∙ c.2) in
    given (λ z l. Found P Any (t ∷ ts) z l) (f c.0) b c.1 r c.3
    (record { used = t ∷ one.used; parts = ap (λ (l : List Token). t ∷ l) one.parts; spelled = to c.0 one.used one.spelled; follows = tt })

pub skip_of_read : {A B : Type 0} {q : Parser A} {R G N : A → List Token → Type 0} (f : A → B) → Meets q R G N → (t : Token) (a : A) (u r : List Token) → R a u → N a r → (skip >> q >>= (λ x. pure (f x))) (t ∷ (u ++ r)) ≡ answer (f a) r
skip_of_read {A} {q = q} f m t a u r h needs =
    ap (λ (o : Outcome A). and_then o (λ x. pure (f x))) (skip_read m t a u r h needs)

-- the whole is what is known of the tokens that were read
pub found_as : {A : Type 0} {R G S : A → List Token → Type 0} {ts : List Token} {a : A} {r : List Token} → Found R G ts a r → ((u : List Token) → R a u → S a u) → Found S G ts a r
found_as f to = record { used = f.used; parts = f.parts; spelled = to f.used f.spelled; follows = f.follows }

-- ---- a sign, and then a part

pub data Led {A : Type 0} (x : Sign) (R : A → List Token → Type 0) : A → List Token → Type 0 where
  led : (a : A) (t : Token) (u : List Token) → IsSign x t → R a u → Led x R a (t ∷ u)

led_of : {A : Type 0} (x : Sign) {R : A → List Token → Type 0} (a : A) (w : List Token) → After x R a w → Led x R a w
led_of x {R} a w h = subst (Led x R a) (sym h.parts) (led a h.token h.tokens h.is h.spelled)

of_led : {A : Type 0} (x : Sign) {R : A → List Token → Type 0} (a : A) (w : List Token) → Led x R a w → After x R a w
of_led x _ _ (led a t u is h) = record { token = t; tokens = u; parts = refl; is = is; spelled = h }

pub meets_led : {A : Type 0} (x : Sign) {part : Parser A} {R G N : A → List Token → Type 0} → Meets part R G N → Meets (expect (is_sign x) >> part) (Led x R) G N
meets_led x m = meets_iff (meets_after x m) (led_of x) (of_led x)

pub led_seen : {A : Type 0} (x : Sign) {R : A → List Token → Type 0} (a : A) (v r : List Token) → Led x R a v → sees (is_sign x) (v ++ r) ≡ true
led_seen x _ _ r (led a t u is h) = seen (is_sign x) t (u ++ r) _ is.kind true (sign_same x)

-- ---- a part, a sign after it, and what is left

pub data Ending {A B : Type 0} (x : Sign) (R : A → List Token → Type 0) (S : A → B → List Token → Type 0) : B → List Token → Type 0 where
  ending : (a : A) (b : B) (c : Token) (front back : List Token) → R a front → IsSign x c → S a b back → Ending x R S b (front ++ c ∷ back)

ending_of : {A B : Type 0} {x : Sign} {R : A → List Token → Type 0} {S : A → B → List Token → Type 0} (b : B) (w : List Token) → Seq (Seq R (λ a. Of (λ (y : Unit {0}). a) (Signed x))) S b w → Ending x R S b w
ending_of {x = x} {R = R} {S = S} _ _ (seq _ b _ back (seq a _ front _ h (of _ _ (signed _ c is))) g) = subst (Ending x R S b) (sym (append_assoc front (c ∷ []) back)) (ending a b c front back h is g)

of_ending : {A B : Type 0} {x : Sign} {R : A → List Token → Type 0} {S : A → B → List Token → Type 0} (b : B) (w : List Token) → Ending x R S b w → Seq (Seq R (λ a. Of (λ (y : Unit {0}). a) (Signed x))) S b w
of_ending {x = x} {R = R} {S = S} _ _ (ending a b c front back h is g) =
    subst (Seq (Seq R (λ a. Of (λ (y : Unit {0}). a) (Signed x))) S b) (append_assoc front (c ∷ []) back) (seq a b (front ++ c ∷ []) back (seq a a front (c ∷ []) h (of tt (c ∷ []) (signed tt c is))) g)

-- up to a sign
pub meets_up_to : {A : Type 0} {x : Sign} {p : Parser A} {R F N : A → List Token → Type 0} → Meets p R F N → ((a : A) (t : Token) (r : List Token) → IsSign x t → N a (t ∷ r))
    → Meets (p >>= (λ a. expect (is_sign x) >> pure a)) (Seq R (λ a. Of (λ (y : Unit {0}). a) (Signed x))) Any Any
meets_up_to {x = x} {N = N} m needs = meets_seq m (λ a. meets_of {G = Any} {M = Any} (λ (y : Unit {0}). a) (meets_sign x) (λ y r f. tt) (λ y r f. tt)) (λ a b v r h g. starts_of (N a) (needs a) b v r h)

pub meets_ending : {A B : Type 0} {x : Sign} {p : Parser A} {q : A → Parser B} {R F N : A → List Token → Type 0} {S : A → B → List Token → Type 0} {G M : B → List Token → Type 0}
    → Meets p R F N → ((a : A) (t : Token) (r : List Token) → IsSign x t → N a (t ∷ r)) → ((a : A) → Meets (q a) (S a) G M) → Meets (p >>= (λ a. expect (is_sign x) >> pure a) >>= q) (Ending x R S) G M
meets_ending m needs mq = meets_iff (meets_seq (meets_up_to m needs) mq (λ a b v r h g. tt)) ending_of of_ending

-- ---- one of two, as the next token says

pub data Choice {A : Type 0} (R S : A → List Token → Type 0) : A → List Token → Type 0 where
  one_way : (a : A) (u : List Token) → R a u → Choice R S a u
  other_way : (a : A) (u : List Token) → S a u → Choice R S a u

module _ {A : Type 0} (test : TokenKind → Bool) {p p' q : Parser A} {R S G N M : A → List Token → Type 0} (same : (ts : List Token) → sees test ts ≡ true → p ts ≡ p' ts) (mp : Meets p' R G N) (mq : Meets q S G M)
    (passes : (a : A) (u r : List Token) → R a u → N a r → sees test (u ++ r) ≡ true) (fails : (a : A) (u r : List Token) → S a u → M a r → sees test (u ++ r) ≡ false) where
  choice_found : (ts : List Token) (a : A) (r : List Token) → (see test >>= (λ b. cond b p q)) ts ≡ answer a r → Found (Choice R S) G ts a r
  unfolding see
  choice_found ts a r h =
      elim (if_ok (sees test ts) p q ts (answer a r) h) [
        | inl x ↦ found_as (mp.sound ts a r (sym (same ts x.0) ∙ x.1)) (λ u g. one_way a u g)
        | inr x ↦ found_as (mq.sound ts a r x.1) (λ u g. other_way a u g)
      ]

  choice_read : {a : A} {u : List Token} → Choice R S a u → (r : List Token) → N a r → M a r → (see test >>= (λ b. cond b p q)) (u ++ r) ≡ answer a r
  unfolding see
  choice_read (one_way a u h) r n m =
      let there = passes a u r h n in
      ap (λ (b : Bool). cond b p q (u ++ r)) there ∙ same (u ++ r) there ∙ mp.complete a u r h n
  choice_read (other_way a u h) r n m = ap (λ (b : Bool). cond b p q (u ++ r)) (fails a u r h m) ∙ mq.complete a u r h m

  pub meets_choice : {K : A → List Token → Type 0} → ((a : A) (r : List Token) → K a r → N a r) → ((a : A) (r : List Token) → K a r → M a r) → Meets (see test >>= (λ b. cond b p q)) (Choice R S) G K
  meets_choice n m = record { sound = choice_found; complete = λ a u r h k. choice_read h r (n a r k) (m a r k) }

-- a token that was seen is taken as one that is expected
pub skip_same : {A : Type 0} (test : TokenKind → Bool) (q : Parser A) (ts : List Token) → sees test ts ≡ true → (skip >> q) ts ≡ (expect test >> q) ts
skip_same test q ts there = ap (λ (o : Outcome (Unit {0})). and_then o (λ _. q)) (seen_skip test ts there)

pub skip_same_then : {A B : Type 0} (test : TokenKind → Bool) (q : Parser A) (f : A → Parser B) (ts : List Token) → sees test ts ≡ true → (skip >> q >>= f) ts ≡ (expect test >> q >>= f) ts
skip_same_then {A} test q f ts there = ap (λ (o : Outcome A). and_then o f) (skip_same test q ts there)

-- ---- parts that are read before others

pub then_assoc : {A B C : Type 0} (o : Outcome A) (q : Parser B) (f : B → Parser C) → and_then o (λ _. q >>= f) ≡ and_then (and_then o (λ _. q)) f
then_assoc (Ok z) q f = refl
then_assoc (Err l) q f = refl

-- a token that was looked at is taken, whichever part follows
pub skip_then_found : {A B : Type 0} (q : Parser A) (f : A → Parser B) {R G N P : B → List Token → Type 0} → Meets (q >>= f) R G N → (t : Token) (ts : List Token) (b : B) (r : List Token) → (skip >> q >>= f) (t ∷ ts) ≡ answer b r
    → ((b : B) (u : List Token) → R b u → P b (t ∷ u)) → Found P G (t ∷ ts) b r
skip_then_found q f m t ts b r h to = skip_found m t ts b r (then_assoc (skip (t ∷ ts)) q f ∙ h) to

pub skip_then_read : {A B : Type 0} (q : Parser A) (f : A → Parser B) {R G N : B → List Token → Type 0} → Meets (q >>= f) R G N → (t : Token) (b : B) (u r : List Token) → R b u → N b r → (skip >> q >>= f) (t ∷ (u ++ r)) ≡ answer b r
skip_then_read q f m t b u r h needs = sym (then_assoc (skip (t ∷ (u ++ r))) q f) ∙ skip_read m t b u r h needs

pub starts_name : {B : Type 0} (P : List Token → Type 0) {f : _ → B} → ((t : Token) (ts : List Token) (text : List ℕ) → t.kind ≡ k.Word text → P (t ∷ ts)) → (b : B) (v r : List Token) → Of f SpellsWord b v → P (v ++ r)
starts_name P i _ _ r (of z _ (g.word _ t is)) = i t r z.text is.kind

-- where nothing was read, the next token is the one after it
pub nothing_there : {A : Type 0} (x : Sign) (a : A) (z : A) (u r : List Token) → Is z a u → sees (is_sign x) r ≡ false → sees (is_sign x) (u ++ r) ≡ false
nothing_there x a z u r h none = ap (λ (l : List Token). sees (is_sign x) (l ++ r)) h.none ∙ none
