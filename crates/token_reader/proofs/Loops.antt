-- A loop, a turn at a time.
use Rattle.std.proofs.Common.{◌≡◌, ℕ, zero, suc, ◌<◌, List, length, Ok, Err, refl, ap, ◌∙◌, arith}
use Rattle.cm_tree.specs.declared.token.Token.{Token}
use Rattle.token_reader.specs.Parsers.{Outcome, Parser, and_then, Turn, more, done, goes, iterate, repeat}

-- a turn that goes on takes a token
pub record Moves {S A : Type 0} (turn : S → Parser (Turn S A)) : Type 0 where
  pub less : (s s' : S) (ts ts' : List Token) → turn s ts ≡ Ok (more s', ts') → length ts' < length ts

module _ {S A : Type 0} (turn : S → Parser (Turn S A)) (moves : Moves turn) where
  -- how often it may turn plays no part
  same_after : (n m : ℕ) (s : S) (ts : List Token) (o : Outcome (Turn S A)) → turn s ts ≡ o → length ts < suc n → length ts < suc m
      → ((s' : S) (ts' : List Token) → length ts' < length ts → iterate turn n s' ts' ≡ iterate turn m s' ts')
      → and_then o (goes (iterate turn n)) ≡ and_then o (goes (iterate turn m))
  same_after n m s ts (Err e) is a b next = refl
  same_after n m s ts (Ok (done x, ts')) is a b next = refl
  same_after n m s ts (Ok (more s', ts')) is a b next = next s' ts' (moves.less s s' ts ts' is)

  same_turns : (n m : ℕ) (s : S) (ts : List Token) → length ts < n → length ts < m → iterate turn n s ts ≡ iterate turn m s ts
  unfolding iterate
  same_turns zero m s ts a b = absurd (omega arith)
  same_turns (suc n) zero s ts a b = absurd (omega arith)
  same_turns (suc n) (suc m) s ts a b = same_after n m s ts (turn s ts) refl a b (λ s' ts' lt. same_turns n m s' ts' (omega arith) (omega arith))

  one_turn : (s : S) (ts : List Token) (o : Outcome (Turn S A)) → turn s ts ≡ o → and_then o (goes (iterate turn (length ts))) ≡ and_then o (goes (repeat turn))
  unfolding repeat
  one_turn s ts (Err e) is = refl
  one_turn s ts (Ok (done x, ts')) is = refl
  one_turn s ts (Ok (more s', ts')) is = same_turns (length ts) (suc (length ts')) s' ts' (moves.less s s' ts ts' is) (omega arith)

  pub repeat-turn : (s : S) (ts : List Token) → repeat turn s ts ≡ and_then (turn s ts) (goes (repeat turn))
  unfolding repeat iterate
  repeat-turn s ts = one_turn s ts (turn s ts) refl

  pub repeat-more : (s s' : S) (ts ts' : List Token) → turn s ts ≡ Ok (more s', ts') → repeat turn s ts ≡ repeat turn s' ts'
  repeat-more s s' ts ts' is = repeat-turn s ts ∙ ap (λ (o : Outcome (Turn S A)). and_then o (goes (repeat turn))) is

  pub repeat-done : (s : S) (x : A) (ts ts' : List Token) → turn s ts ≡ Ok (done x, ts') → repeat turn s ts ≡ Ok (x, ts')
  repeat-done s x ts ts' is = repeat-turn s ts ∙ ap (λ (o : Outcome (Turn S A)). and_then o (goes (repeat turn))) is

  pub repeat-err : (s : S) (ts e : List Token) → turn s ts ≡ Err e → repeat turn s ts ≡ Err e
  repeat-err s ts e is = repeat-turn s ts ∙ ap (λ (o : Outcome (Turn S A)). and_then o (goes (repeat turn))) is
