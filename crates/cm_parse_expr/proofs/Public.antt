-- What the answer of the reading at height 256 says of the tokens.
use Rattle.std.proofs.Common.{◌≡◌, ℕ, ◌+◌, ◌≤◌, List, length, drop, Ok, Err, refl, ap, length-drop, arith}
use Rattle.cm_tree.specs.declared.token.Token.{Token}
use Rattle.cm_tree.specs.declared.expr.Expr.{Expr}
use Rattle.cm_parse_expr.specs.Reading.{expr}
use Rattle.cm_parse_expr.specs.Answer.{IsExprAt}
use Rattle.cm_parse_expr.proofs.Faults.{sound, left_of, one_reading, no_reading}

module _ (tokens : List Token) (from : ℕ) where
  pub left_in : (a : Expr) (r : List Token) → expr 256 (drop from tokens) ≡ Ok (a, r) → length r ≤ length tokens
  left_in a r is = omega (arith, left_of 256 (drop from tokens) a r (sound 256 (drop from tokens) a r is), length-drop from tokens)

  pub found_at : (a : Expr) (r : List Token) (end : ℕ) → expr 256 (drop from tokens) ≡ Ok (a, r) → end + length r ≡ length tokens → IsExprAt tokens from (a, end)
  found_at a r end is ends = record { others = r; is = sound 256 (drop from tokens) a r is; end = ends }

  abbrev at : Expr → ℕ → Expr × ℕ
  at a n = (a, n)

  same_pair : (a c : Expr) (m n : ℕ) → a ≡ c → m ≡ n → at a m ≡ at c n
  same_pair a c m n one two = rw (one, two) refl

  pub only_at : (a : Expr) (r : List Token) (end : ℕ) (q : Expr × ℕ) → expr 256 (drop from tokens) ≡ Ok (a, r) → end + length r ≡ length tokens → IsExprAt tokens from q → at a end ≡ q
  only_at a r end q is ends other =
      let same = one_reading 256 (drop from tokens) a q.0 r other.others is other.is in
      same_pair a q.0 end q.1 same.0 (omega (arith, ends, other.end, ap length same.1))

  pub none_at : (e : List Token) (q : Expr × ℕ) → expr 256 (drop from tokens) ≡ Err e → IsExprAt tokens from q → ⊥
  none_at e q is other = no_reading 256 (drop from tokens) e q.0 other.others is other.is
