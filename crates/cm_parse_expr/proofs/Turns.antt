-- The loops over steps and over operators, a turn at a time.
use Rattle.std.proofs.Common.{◌≡◌, ℕ, zero, suc, ◌+◌, ◌<◌, ◌≤◌, Bool, true, false, List, Option, Some, None, Ok, Err, refl, ap, ◌∙◌, arith}
use Rattle.std.proofs.lemmas.Bool.{lt-ltb, le-ltb, le-leb, lt-leb}
use Rattle.cm_tree.specs.declared.token.Token.{Token}
use Rattle.cm_tree.specs.declared.sign.Sign.TheVariants as s
use Rattle.cm_tree.specs.declared.operator.Binary.{Binary}
use Rattle.cm_tree.specs.declared.expr.Expr.{Expr}
use Rattle.cm_tree.specs.declared.expr.Expr.TheVariants as e
use Rattle.cm_tree.specs.Heights.{height}
use Rattle.cm_tree.specs.Levels.{binds, place}
use Rattle.token_reader.specs.Parsers.{and_then, ◌>>=◌, pure, skip, see, sees, is_sign, more}
use Rattle.token_reader.proofs.Loops.{repeat-more, repeat-done, repeat-err}
use Rattle.cm_parse_expr.specs.Reading.{operator, see_operator, again, field, index, index_if, field_if, step, steps, turn_by, turn, climb, operation, tail, binary, expr}
use Rattle.cm_parse_expr.proofs.Reach.{local_expr, local_binary, moves_step, moves_turn}

-- ---- steps

module _ (n room : ℕ) (left : Expr) (ts : List Token) where
  stepped : (d : Bool) → sees (is_sign s.Dot) ts ≡ d → step (expr n) (binary n) room left ts ≡ field_if (expr n) (binary n) room left d ts
  unfolding step see
  stepped d is = ap (λ (x : Bool). field_if (expr n) (binary n) room left x ts) is

  indexed : (i : Bool) → sees (is_sign s.Dot) ts ≡ false → sees (is_sign s.LeftBracket) ts ≡ i → step (expr n) (binary n) room left ts ≡ index_if (expr n) (binary n) room left i ts
  unfolding see
  indexed i none is = stepped false none ∙ ap (λ (x : Bool). index_if (expr n) (binary n) room left x ts) is

  pub steps_end : sees (is_sign s.Dot) ts ≡ false → sees (is_sign s.LeftBracket) ts ≡ false → steps (expr n) (binary n) room left ts ≡ Ok (left, ts)
  unfolding steps
  steps_end no_dot no_bracket = repeat-done _ (moves_step (expr n) (binary n) (local_expr n) (local_binary n) room) left left ts ts (indexed false no_dot no_bracket)

  module _ (dot : sees (is_sign s.Dot) ts ≡ true) where
    pub field_high : room ≤ height left → steps (expr n) (binary n) room left ts ≡ Err ts
    unfolding steps
    field_high high = repeat-err _ (moves_step (expr n) (binary n) (local_expr n) (local_binary n) room) left ts ts (stepped true dot ∙ rw (le-leb room (height left) high) refl)

    module _ (low : height left < room) where
      taken : step (expr n) (binary n) room left ts ≡ and_then (field (expr n) (binary n) left ts) (λ a. pure (again a))
      taken = stepped true dot ∙ rw (lt-leb room (height left) low) refl

      pub field_fails : (q : List Token) → field (expr n) (binary n) left ts ≡ Err q → steps (expr n) (binary n) room left ts ≡ Err q
      unfolding steps
      field_fails q fails = repeat-err _ (moves_step (expr n) (binary n) (local_expr n) (local_binary n) room) left ts q (taken ∙ rw fails refl)

      pub field_more : (a : Expr) (q : List Token) → field (expr n) (binary n) left ts ≡ Ok (a, q) → steps (expr n) (binary n) room left ts ≡ steps (expr n) (binary n) room a q
      unfolding steps
      field_more a q reads = repeat-more _ (moves_step (expr n) (binary n) (local_expr n) (local_binary n) room) left a ts q (taken ∙ rw reads refl)

  module _ (no_dot : sees (is_sign s.Dot) ts ≡ false) (bracket : sees (is_sign s.LeftBracket) ts ≡ true) where
    pub index_high : room ≤ height left → steps (expr n) (binary n) room left ts ≡ Err ts
    unfolding steps
    index_high high =
        repeat-err _ (moves_step (expr n) (binary n) (local_expr n) (local_binary n) room) left ts ts (indexed true no_dot bracket ∙ rw (le-leb room (height left) high) refl)

    module _ (low : height left < room) where
      taken_index : step (expr n) (binary n) room left ts ≡ and_then (index (expr n) (binary n) left ts) (λ a. pure (again a))
      taken_index = indexed true no_dot bracket ∙ rw (lt-leb room (height left) low) refl

      pub index_fails : (q : List Token) → index (expr n) (binary n) left ts ≡ Err q → steps (expr n) (binary n) room left ts ≡ Err q
      unfolding steps
      index_fails q fails = repeat-err _ (moves_step (expr n) (binary n) (local_expr n) (local_binary n) room) left ts q (taken_index ∙ rw fails refl)

      pub index_more : (a : Expr) (q : List Token) → index (expr n) (binary n) left ts ≡ Ok (a, q) → steps (expr n) (binary n) room left ts ≡ steps (expr n) (binary n) room a q
      unfolding steps
      index_more a q reads = repeat-more _ (moves_step (expr n) (binary n) (local_expr n) (local_binary n) room) left a ts q (taken_index ∙ rw reads refl)

-- ---- operators

module _ (n room least : ℕ) (left : Expr) (ts : List Token) where
  turned : (o : Option Binary) → operator ts ≡ o → turn (expr n) (binary n) room least left ts ≡ turn_by (expr n) (binary n) room least left o ts
  unfolding turn see_operator
  turned o is = ap (λ (x : Option Binary). turn_by (expr n) (binary n) room least left x ts) is

  pub climb_stops : operator ts ≡ None → climb (expr n) (binary n) room least left ts ≡ Ok (left, ts)
  unfolding climb
  climb_stops is = repeat-done _ (moves_turn (expr n) (binary n) (local_expr n) (local_binary n) room least) left left ts ts (turned None is)

  pub climb_looser : (o : Binary) → operator ts ≡ Some o → binds o < least → climb (expr n) (binary n) room least left ts ≡ Ok (left, ts)
  unfolding climb
  climb_looser o is lt =
      repeat-done _ (moves_turn (expr n) (binary n) (local_expr n) (local_binary n) room least) left left ts ts (turned (Some o) is ∙ rw (lt-ltb (binds o) least lt) refl)

  pub climb_high : (o : Binary) → operator ts ≡ Some o → least ≤ binds o → room ≤ height left → climb (expr n) (binary n) room least left ts ≡ Err ts
  unfolding climb
  climb_high o is le high =
      repeat-err _ (moves_turn (expr n) (binary n) (local_expr n) (local_binary n) room least) left ts ts
      (turned (Some o) is ∙ rw (le-ltb (binds o) least le, le-leb room (height left) high) refl)

  module _ (o : Binary) (is : operator ts ≡ Some o) (le : least ≤ binds o) (low : height left < room) (mid : List Token) (skipped : skip ts ≡ Ok (tt, mid)) where
    operated : turn (expr n) (binary n) room least left ts ≡ and_then (binary n (binds o + 1) mid) (λ right. pure (more (e.Binary (place left) o left right)))
    operated = turned (Some o) is ∙ rw (le-ltb (binds o) least le, lt-leb room (height left) low, skipped) refl

    pub climb_fails : (q : List Token) → binary n (binds o + 1) mid ≡ Err q → climb (expr n) (binary n) room least left ts ≡ Err q
    unfolding climb
    climb_fails q fails = repeat-err _ (moves_turn (expr n) (binary n) (local_expr n) (local_binary n) room least) left ts q (operated ∙ rw fails refl)

    pub climb_more : (right : Expr) (q : List Token) → binary n (binds o + 1) mid ≡ Ok (right, q)
        → climb (expr n) (binary n) room least left ts ≡ climb (expr n) (binary n) room least (e.Binary (place left) o left right) q
    unfolding climb
    climb_more right q reads =
        repeat-more _ (moves_turn (expr n) (binary n) (local_expr n) (local_binary n) room least) left (e.Binary (place left) o left right) ts q (operated ∙ rw reads refl)

-- ---- by height

pub binary_at : (n m least : ℕ) (ts : List Token) → n ≡ m + 1 → binary n least ts ≡ operation (expr m) (binary m) (m + 1) least ts
unfolding binary
binary_at zero m least ts is = absurd (omega arith)
binary_at (suc n) m least ts is = let same : n ≡ m = omega arith in let more : m + 1 ≡ suc m = omega arith in rw (same, more) refl

pub expr_at : (n m : ℕ) (ts : List Token) → n ≡ m + 1 → expr n ts ≡ (operation (expr m) (binary m) (m + 1) 1 >>= tail (expr m) (binary m) (m + 1)) ts
unfolding expr
expr_at zero m ts is = absurd (omega arith)
expr_at (suc n) m ts is = let same : n ≡ m = omega arith in let more : m + 1 ≡ suc m = omega arith in rw (same, more) refl
