-- A loop of code that collects parts, a turn at a time. `while_from` is what is left of a loop that goes on as long as
-- a test passes, and `separated_from` what is left of one that takes a part, and then another one after each separator.
use Rattle.std.proofs.Common.{◌≡◌, ℕ, ◌+◌, ◌<◌, ◌≤◌, Bool, true, false, List, [], ◌∷◌, ◌++◌, length, Result, Ok, Err, refl, sym, ap, ◌∙◌, arith}
use Rattle.cm_tree.specs.declared.token.Token.{Token}
use Rattle.cm_tree.specs.declared.token.TokenKind.{TokenKind}
use Rattle.token_reader.specs.declared.cursor.Stop.{Stop}
use Rattle.token_reader.specs.Parsers.{Outcome, Parser, and_then, ◌>>=◌, ◌>>◌, pure, first, see, sees, expect, skip, Reads}
use Rattle.token_reader.specs.Lists.{while_sees, separated}
use Rattle.token_reader.specs.Local.{Local, Takes}
use Rattle.token_reader.proofs.Inverses.{answer, sees_ok, ok_rest, Reads-err, expected}
use Rattle.token_reader.proofs.Locality.{local_bind, local_expect, takes_bind, takes_expect, shrinks}
use Rattle.token_reader.proofs.Parts.{while_more, while_fails, while_ends}

-- a separator that was seen is taken
pub skip_seen : (test : TokenKind → Bool) (ts : List Token) (x : Unit {0}) (mid : List Token) → sees test ts ≡ true → skip ts ≡ answer x mid → (expect test ts ≡ answer tt mid) × (length mid < length ts)
unfolding skip
skip_seen test ts x mid goes_on is =
    let t = sees_ok test ts goes_on in
    let same : t.1 ≡ mid = ok_rest tt x t.1 mid (sym (ap skip t.2) ∙ is) in
    (ap (expect test) t.2 ∙ expected test t.0 t.1 t.3 ∙ ap (λ (l : List Token). answer tt l) same, omega (arith, ap length t.2, ap length same))

module _ {A : Type 0} (test : TokenKind → Bool) (part : Parser A) (local : Local part) where
  abbrev pub separated_from : List A → Parser (List A)
  separated_from found = part >>= (λ x. while_sees test (expect test >> part) (found ++ x ∷ []))

  abbrev next : Parser A
  next = expect test >> part

  local_next : Local next
  local_next = local_bind (local_expect test) (λ _. local)

  takes_next : Takes next
  takes_next = takes_bind (takes_expect test) (λ _. local)

  pub separated_begins : (ts : List Token) → separated test part ts ≡ separated_from [] ts
  unfolding separated
  separated_begins ts = refl

  pub separated_fails : (found : List A) (ts e : List Token) → part ts ≡ Err e → separated_from found ts ≡ Err e
  separated_fails found ts e is = ap (λ (o : Outcome A). and_then o (λ x. while_sees test next (found ++ x ∷ []))) is

  pub separated_ends : (found : List A) (ts : List Token) (x : A) (r : List Token) → part ts ≡ answer x r → sees test r ≡ false → separated_from found ts ≡ answer (found ++ x ∷ []) r
  separated_ends found ts x r is ends =
      ap (λ (o : Outcome A). and_then o (λ y. while_sees test next (found ++ y ∷ []))) is ∙ while_ends test next local_next takes_next (found ++ x ∷ []) r ends

  again_by : (found : List A) (x : A) (r mid : List Token) (o : Outcome A) → part mid ≡ o → sees test r ≡ true → expect test r ≡ answer tt mid
      → while_sees test next (found ++ x ∷ []) r ≡ and_then o (λ y. while_sees test next ((found ++ x ∷ []) ++ y ∷ []))
  again_by found x r mid (Ok q) is goes_on taken = while_more test next local_next takes_next (found ++ x ∷ []) r q.0 q.1 goes_on (rw taken is)
  again_by found x r mid (Err e) is goes_on taken = while_fails test next local_next takes_next (found ++ x ∷ []) r e goes_on (rw taken is)

  pub separated_more : (found : List A) (ts : List Token) (x : A) (r : List Token) (y : Unit {0}) (mid : List Token)
      → part ts ≡ answer x r → sees test r ≡ true → skip r ≡ answer y mid → separated_from found ts ≡ separated_from (found ++ x ∷ []) mid
  separated_more found ts x r y mid is goes_on skips =
      ap (λ (o : Outcome A). and_then o (λ z. while_sees test next (found ++ z ∷ []))) is
      ∙ again_by found x r mid (part mid) refl goes_on (skip_seen test r y mid goes_on skips).0

  pub separated_less : (ts : List Token) (x : A) (r : List Token) (y : Unit {0}) (mid : List Token) → part ts ≡ answer x r → sees test r ≡ true → skip r ≡ answer y mid → length mid < length ts
  separated_less ts x r y mid is goes_on skips = omega (arith, shrinks part local ts x r is, (skip_seen test r y mid goes_on skips).1)
