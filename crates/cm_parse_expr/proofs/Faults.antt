-- Where an expression is refused.
use Rattle.std.proofs.Common.{◌≡◌, ℕ, ◌≤◌, List, [], ◌∷◌, ◌++◌, length, Ok, Err, refl, ap, subst, ◌∙◌, sym, append-nil, length-append, arith}
use Rattle.cm_base.specs.declared.place.Place.{Place}
use Rattle.cm_tree.specs.declared.token.Token.{Token}
use Rattle.cm_tree.specs.declared.expr.Expr.{Expr}
use Rattle.cm_tree.specs.Faults.{place_of}
use Rattle.cm_tree.specs.ExprFaults.{IsExpr, IsExprFault}
use Rattle.token_reader.specs.Local.{LocalAt}
use Rattle.token_reader.proofs.Inverses.{answer, ok_value, ok_rest}
use Rattle.cm_parse_expr.specs.Reading.{expr}
use Rattle.cm_parse_expr.proofs.Reach.{local_expr}
use Rattle.cm_parse_expr.proofs.Next.{closed_of, ends_of}
use Rattle.cm_parse_expr.proofs.Complete.{read}
use Rattle.cm_parse_expr.proofs.Sound.{expr_sound}

pub complete : (n : ℕ) (ts : List Token) (a : Expr) (r : List Token) → IsExpr n ts a r → expr n ts ≡ Ok (a, r)
complete n ts a r x = ap (expr n) x.parts ∙ (read x.spelled).whole n r x.low (closed_of a r x.ends)

pub sound : (n : ℕ) (ts : List Token) (a : Expr) (r : List Token) → expr n ts ≡ Ok (a, r) → IsExpr n ts a r
sound n ts a r h =
    let x = expr_sound n ts a r h in
    record { used = x.gives.used; parts = x.gives.parts; spelled = x.gives.spelled; ends = ends_of a r x.closed; low = x.gives.low }

refused_at : (n : ℕ) (ts e : List Token) (last : Place) → LocalAt (expr n) ts (Err e) → IsExprFault n ts last (place_of last e)
refused_at n ts [] last l = record {
  seen = l.0;
  others = [];
  parts = l.1;
  place_is = refl;
  none = λ a r x.
      let reads = complete n l.0 a r x in
      let refuses : expr n l.0 ≡ Err [] = ap (expr n) (sym (append-nil l.0)) ∙ l.2 [] refl in
      absurd cc;
}
refused_at n ts (t ∷ e) last l = record {
  seen = l.0;
  others = t ∷ e;
  parts = l.1;
  place_is = refl;
  none = λ more a r x.
      let reads = complete n (l.0 ++ t ∷ more) a r x in
      let refuses = l.2 (t ∷ more) refl in
      absurd cc;
}

-- no expression begins with the tokens through the refused one
pub refused : (n : ℕ) (ts e : List Token) (last : Place) → expr n ts ≡ Err e → IsExprFault n ts last (place_of last e)
refused n ts e last is = refused_at n ts e last (subst (LocalAt (expr n) ts) is ((local_expr n).at ts))

-- what is left is no longer than what there was
pub left_of : (n : ℕ) (ts : List Token) (a : Expr) (r : List Token) → IsExpr n ts a r → length r ≤ length ts
left_of n ts a r x = omega (arith, ap length x.parts, length-append x.used r)

-- the tokens begin with one expression
pub one_reading : (n : ℕ) (ts : List Token) (a c : Expr) (r q : List Token) → expr n ts ≡ Ok (a, r) → IsExpr n ts c q → (a ≡ c) × (r ≡ q)
one_reading n ts a c r q is x = let same : answer a r ≡ answer c q = sym is ∙ complete n ts c q x in (ok_value a c r q same, ok_rest a c r q same)

pub no_reading : (n : ℕ) (ts e : List Token) (a : Expr) (r : List Token) → expr n ts ≡ Err e → IsExpr n ts a r → ⊥
no_reading n ts e a r is x = let reads = complete n ts a r x in cc
