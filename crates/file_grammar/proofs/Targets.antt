-- What the parsers of indices and of what is assigned meet.
use Rattle.std.proofs.Common.{◌≡◌, ℕ, ◌-◌, ◌≤◌, Bool, true, false, List, [], ◌∷◌, ◌++◌, Some, refl, ap, sym, subst, ◌∙◌, append_assoc, inl, inr, arith}
use Rattle.cm_base.specs.declared.place.Place.{Place}
use Rattle.cm_tree.specs.declared.token.Token.{Token}
use Rattle.cm_tree.specs.declared.token.TokenKind.{TokenKind}
use Rattle.cm_tree.specs.declared.sign.Sign.TheVariants as s
use Rattle.cm_tree.specs.declared.path.Word.{Word}
use Rattle.cm_tree.specs.declared.expr.Expr.{Expr}
use Rattle.cm_tree.specs.declared.simple.Step.{Step}
use Rattle.cm_tree.specs.declared.simple.Step.TheVariants as st
use Rattle.cm_tree.specs.Heights.{height}
use Rattle.cm_tree.specs.StmtHeights.{step_height}
use Rattle.cm_tree.specs.Spelling.{IsSign, SpellsExpr}
use Rattle.cm_tree.specs.StmtSpelling.{SpellsWord, SpellsStep}
use Rattle.cm_tree.specs.StmtSpelling as g
use Rattle.token_reader.specs.Parsers.{Outcome, Parser, and_then, ◌>>=◌, ◌>>◌, pure, first, look, skip, see, sees, expect, is_sign, same_sign}
use Rattle.token_reader.proofs.Inverses.{answer, bind_ok, if_ok, ok_value, ok_rest, given, seen}
use Rattle.cm_parse_expr.specs.Reading.{expr}
use Rattle.cm_parse_expr.proofs.Next.{closes}
use Rattle.cm_parse_expr.proofs.Complete.{sign_expected}
use Rattle.cm_parse_expr.proofs.Sound.{sign_ok}
use Rattle.file_grammar.specs.Words.{here, word, bracket}
use Rattle.file_grammar.specs.Simples.{index, step_of}
use Rattle.file_grammar.proofs.Meets.{Found, Meets, Any}
use Rattle.file_grammar.proofs.Spelled.{Within, After, meets_expr, meets_word, meets_after}

-- ---- the place of the next token

pub record Begins (ts : List Token) (p : Place) (mid : List Token) : Type 0 where
  pub token : Token
  pub tokens : List Token
  pub parts : ts ≡ token ∷ tokens
  pub place : token.place ≡ p
  pub same : ts ≡ mid

pub here_ok : (ts : List Token) (p : Place) (mid : List Token) → here ts ≡ answer p mid → Begins ts p mid
unfolding here look
here_ok [] p mid h = absurd cc
here_ok (t ∷ ts) p mid h = record { token = t; tokens = ts; parts = refl; place = ok_value _ _ _ _ h; same = ok_rest _ _ _ _ h }

pub here_is : (t : Token) (ts : List Token) → here (t ∷ ts) ≡ answer t.place (t ∷ ts)
unfolding here look
here_is t ts = refl

-- ---- indices

-- an expression in brackets, with the place of the first
pub record SpellsBracket (n : ℕ) (q : Place × Expr) (u : List Token) : Type 0 where
  pub opening : Token
  pub closing : Token
  pub inner : List Token
  pub parts : u ≡ opening ∷ (inner ++ closing ∷ [])
  pub opens : IsSign s.LeftBracket opening
  pub closes : IsSign s.RightBracket closing
  pub place : opening.place ≡ q.0
  pub spelled : SpellsExpr q.1 inner
  pub low : height q.1 ≤ n - 1

abbrev inside : ℕ → Place → Parser (Place × Expr)
inside n p = expect (is_sign s.LeftBracket) >> expr (n - 1) >>= (λ e. expect (is_sign s.RightBracket) >> pure (p, e))

pub head_same : (t v : Token) (a b : List Token) → t ∷ a ≡ v ∷ b → t ≡ v
head_same t v a b same = let firsts : Some t ≡ Some v = ap first same in cc

bracket_found : (n : ℕ) (ts : List Token) (q : Place × Expr) (r : List Token) → bracket n ts ≡ answer q r → Found (SpellsBracket n) Any ts q r
unfolding bracket
bracket_found n ts q r h =
    let a = bind_ok (here ts) (inside n) q r h in
    let b = here_ok ts a.0 a.1 a.2 in
    let c = bind_ok ((expect (is_sign s.LeftBracket) >> expr (n - 1)) a.1) (λ e. expect (is_sign s.RightBracket) >> pure (a.0, e)) q r a.3 in
    let front = (meets_after s.LeftBracket (meets_expr (n - 1))).sound a.1 c.0 c.1 c.2 in
    let d = bind_ok (expect (is_sign s.RightBracket) c.1) (λ _. pure (a.0, c.0)) q r c.3 in
    let v = sign_ok s.RightBracket c.1 d.0 d.1 d.2 in
    let o = front.spelled.token in
    let inner = front.spelled.tokens in
    let whole : ts ≡ o ∷ (inner ++ c.1) = b.same ∙ front.parts ∙ ap (λ (l : List Token). l ++ c.1) front.spelled.parts in
    given (λ y l. Found (SpellsBracket n) Any ts y l) (a.0, c.0) q d.1 r d.3 (record {
      used = o ∷ (inner ++ v.token ∷ []);
      parts = whole ∙ ap (λ (l : List Token). o ∷ (inner ++ l)) v.parts ∙ ap (λ (l : List Token). o ∷ l) (sym (append_assoc inner (v.token ∷ []) d.1));
      spelled = record {
        opening = o;
        closing = v.token;
        inner = inner;
        parts = refl;
        opens = front.spelled.is;
        closes = v.sign;
        place = ap (λ (t : Token). t.place) (head_same o b.token (inner ++ c.1) b.tokens (sym whole ∙ b.parts)) ∙ b.place;
        spelled = front.spelled.spelled.spelled;
        low = front.spelled.spelled.low;
      };
      follows = tt;
    })

bracket_read : (n : ℕ) (q : Place × Expr) (u r : List Token) → SpellsBracket n q u → bracket n (u ++ r) ≡ answer q r
unfolding bracket
bracket_read n q u r h =
    let regroup : u ++ r ≡ h.opening ∷ (h.inner ++ h.closing ∷ r) = ap (λ (l : List Token). l ++ r) h.parts ∙ ap (λ (l : List Token). h.opening ∷ l) (append_assoc h.inner (h.closing ∷ []) r) in
    let one : (expect (is_sign s.LeftBracket) >> expr (n - 1)) (h.opening ∷ (h.inner ++ h.closing ∷ r)) ≡ answer q.1 (h.closing ∷ r) =
    (meets_after s.LeftBracket (meets_expr (n - 1))).complete q.1 (h.opening ∷ h.inner) (h.closing ∷ r)
    (record { token = h.opening; tokens = h.inner; parts = refl; is = h.opens; spelled = record { spelled = h.spelled; low = h.low } })
    (closes s.RightBracket refl h.closing r q.1 h.closes) in
    rw (regroup, here_is h.opening (h.inner ++ h.closing ∷ r), one, sign_expected s.RightBracket h.closing r h.closes) (ap (λ (p : Place). answer (p, q.1) r) h.place)

pub meets_bracket : (n : ℕ) → Meets (bracket n) (SpellsBracket n) Any Any
meets_bracket n = record { sound = bracket_found n; complete = λ q u r h any. bracket_read n q u r h }

-- ---- steps

pub seen_skip : (test : TokenKind → Bool) (ts : List Token) → sees test ts ≡ true → skip ts ≡ expect test ts
unfolding skip expect sees
seen_skip test [] is = absurd cc
seen_skip test (t ∷ ts) is = rw is refl

-- a dot and a name
abbrev dotted : Parser Word
dotted = expect (is_sign s.Dot) >> word

meets_dotted : Meets dotted (After s.Dot SpellsWord) Any Any
meets_dotted = meets_after s.Dot meets_word

field_of : {w : Word} {u v : List Token} → SpellsWord w v → (dot : Token) → IsSign s.Dot dot → u ≡ dot ∷ v → SpellsStep (st.Field w) u
field_of (g.word w t is) dot opens parts = subst (SpellsStep (st.Field w)) (sym parts) (g.field w dot t opens is)

pub index_of : (n : ℕ) (q : Place × Expr) (u : List Token) → SpellsBracket n q u → SpellsStep (index q) u
index_of n q u h =
    subst (λ (p : Place). SpellsStep (st.Index p q.1) u) h.place (subst (SpellsStep (st.Index h.opening.place q.1)) (sym h.parts) (g.index q.1 h.opening h.closing h.inner h.opens h.spelled h.closes))

module _ (n : ℕ) (some : 1 ≤ n) where
  field_found : (ts : List Token) (a : Step) (r : List Token) → sees (is_sign s.Dot) ts ≡ true → (skip >> word >>= (λ w. pure (st.Field w))) ts ≡ answer a r → Found (Within step_height n SpellsStep) Any ts a r
  field_found ts a r is h =
      let c = bind_ok ((skip >> word) ts) (λ w. pure (st.Field w)) a r h in
      let f = meets_dotted.sound ts c.0 c.1 (ap (λ (o : Outcome (Unit {0})). and_then o (λ _. word)) (sym (seen_skip (is_sign s.Dot) ts is)) ∙ c.2) in
      given (λ y l. Found (Within step_height n SpellsStep) Any ts y l) (st.Field c.0) a c.1 r c.3 (record {
        used = f.used;
        parts = f.parts;
        follows = tt;
        spelled = record { spelled = field_of f.spelled.spelled f.spelled.token f.spelled.is f.spelled.parts; low = some };
      })

  index_found : (ts : List Token) (a : Step) (r : List Token) → (bracket n >>= (λ q. pure (index q))) ts ≡ answer a r → Found (Within step_height n SpellsStep) Any ts a r
  index_found ts a r h =
      let c = bind_ok (bracket n ts) (λ q. pure (index q)) a r h in
      let f = bracket_found n ts c.0 c.1 c.2 in
      given (λ y l. Found (Within step_height n SpellsStep) Any ts y l) (index c.0) a c.1 r c.3 (record {
        used = f.used;
        parts = f.parts;
        follows = tt;
        spelled = record { spelled = index_of n c.0 f.used f.spelled; low = omega (arith, f.spelled.low) };
      })

  step_found : (ts : List Token) (a : Step) (r : List Token) → step_of n ts ≡ answer a r → Found (Within step_height n SpellsStep) Any ts a r
  unfolding step_of see
  step_found ts a r h =
      elim (if_ok (sees (is_sign s.Dot) ts) _ _ ts _ h) [ inl x ↦ field_found ts a r x.0 x.1 | inr x ↦ index_found ts a r x.1 ]

  step_read : {a : Step} {u : List Token} → SpellsStep a u → step_height a ≤ n → (r : List Token) → step_of n (u ++ r) ≡ answer a r
  unfolding step_of see same_sign
  step_read (g.field w dot t opens is) low r =
      let there : sees (is_sign s.Dot) (dot ∷ t ∷ r) ≡ true = seen (is_sign s.Dot) dot (t ∷ r) _ opens.kind true refl in
      let one = meets_dotted.complete w (dot ∷ t ∷ []) r (record { token = dot; tokens = t ∷ []; parts = refl; is = opens; spelled = g.word w t is }) tt in
      rw (there, seen_skip (is_sign s.Dot) (dot ∷ t ∷ r) there, one) refl
  step_read (g.index a o c inner opens spelled ends) low r =
      let none : sees (is_sign s.Dot) ((o ∷ (inner ++ c ∷ [])) ++ r) ≡ false = seen (is_sign s.Dot) o ((inner ++ c ∷ []) ++ r) _ opens.kind false refl in
      let one = bracket_read n (o.place, a) (o ∷ (inner ++ c ∷ [])) r
      (record { opening = o; closing = c; inner = inner; parts = refl; opens = opens; closes = ends; place = refl; spelled = spelled; low = omega arith }) in
      rw (none, one) refl

  pub meets_step : Meets (step_of n) (Within step_height n SpellsStep) Any Any
  meets_step = record { sound = step_found; complete = λ a u r h any. step_read h.spelled h.low r }
