-- Sizes of code rest on what its calls and writes count only as far as these are held.
use Rattle.std.specs.Prelude.{◌≡◌, refl, ℕ, ◌+◌, List, [], ◌∷◌, map, sum_by, Option, Some, None, false}
use Rattle.std.proofs.Common.{ap, sym, ◌∙◌, arith}
use Rattle.cm_core.specs.declared.core_type.StructType.{StructType}
use Rattle.cm_core.specs.declared.unit.Unit.{Unit as CoreUnit}
use Rattle.cm_core.specs.Code.{Expr, Number, Truth, Variable, Input, Constant, Field, Index, Call, Construct, Convert, Unary, Binary, Logic, Choose, Exprs, Last, With, Test, Always, Holds, Down, Next, Stmt, Nothing, Empty, Block, Locals, Cleared, Started, Assign, Update, Count, Perform, If, Loop, Times, While, Each, For, Break, Continue, Return, Answer, Advance, Write, Stmts, End, More, expr_of, stmt_of, body_of}
use Rattle.cm_core.specs.Sizes.{Measured, Use, AsValue, AsPlace, own_size, part_use, call_size, expr_size, exprs_size, test_size, target_size, stmt_size, stmts_size}
use Rattle.cm_core.specs.declared.expr.CoreExpr.{CoreExpr}
use Rattle.cm_core.specs.declared.unit.Handler.{Handler}
use Rattle.cm_core.specs.declared.unit.Var.{Var}
use Rattle.std.proofs.lemmas.List.Sums.{sum_by-cons}
use Rattle.cm_core.specs.Measures.{measured_in, first_size, unit_size, ends_size}
use Rattle.memory_layout.specs.Held.{held}
use Rattle.memory_layout.proofs.Own.{own_is}

pub joined : (a b m n : ℕ) → held a ≡ held b → held m ≡ held n → held (a + m) ≡ held (b + n)
joined a b m n h g = grind (arith, h, g)

pub behind : (a m n : ℕ) → held m ≡ held n → held (a + m) ≡ held (a + n)
behind a m n h = joined a a m n refl h

module _ (structs : List StructType) (unit : CoreUnit) (body other_body chains other_chains : ℕ → ℕ)
    (bodies : (f : ℕ) → held (body f) ≡ held (other_body f)) (writes : (e : ℕ) → held (chains e) ≡ held (other_chains e)) where
  abbrev one : Measured
  one = measured_in structs unit body chains

  abbrev other : Measured
  other = measured_in structs unit other_body other_chains

  own : (u : Use) (e : Expr) → held (own_size one u e) ≡ held (own_size other u e)
  own u e = ap held (own_is one u e ∙ sym (own_is other u e))

  call : (f : ℕ) → held (call_size one f) ≡ held (call_size other f)
  call f = behind _ (body f) (other_body f) (bodies f)

  mutual
    pub expr_alike : (u : Use) (e : Expr) → held (expr_size one u e) ≡ held (expr_size other u e)
    expr_alike u (Number value wide) = own u (Number value wide)
    expr_alike u (Truth value) = own u (Truth value)
    expr_alike u (Variable x) = own u (Variable x)
    expr_alike u (Input e) = own u (Input e)
    expr_alike u (Constant c) = own u (Constant c)
    expr_alike u (Field a k) = joined _ _ _ _ (own u (Field a k)) (expr_alike (part_use u (Field a k)) a)
    expr_alike u (Index a i) = joined _ _ _ _ (joined _ _ _ _ (own u (Index a i)) (expr_alike (part_use u (Index a i)) a)) (expr_alike AsValue i)
    expr_alike u (Call f es) = joined _ _ _ _ (call f) (exprs_alike es)
    expr_alike u (Construct ty es) = behind _ _ _ (exprs_alike es)
    expr_alike u (Convert kind a) = expr_alike AsValue a
    expr_alike u (Unary op kind a) = behind _ _ _ (expr_alike AsValue a)
    expr_alike u (Binary op kind a b) = joined _ _ _ _ (behind _ _ _ (expr_alike AsValue a)) (expr_alike AsValue b)
    expr_alike u (Logic op a b) = joined _ _ _ _ (behind _ _ _ (expr_alike AsValue a)) (expr_alike AsValue b)
    expr_alike u (Choose c a b) = joined _ _ _ _ (joined _ _ _ _ (behind _ _ _ (expr_alike AsValue c)) (expr_alike AsValue a)) (expr_alike AsValue b)

    pub exprs_alike : (es : Exprs) → held (exprs_size one es) ≡ held (exprs_size other es)
    exprs_alike Last = refl
    exprs_alike (With e es) = joined _ _ _ _ (expr_alike AsValue e) (exprs_alike es)

  test_alike : (t : Test) → held (test_size one t) ≡ held (test_size other t)
  test_alike Always = refl
  test_alike (Holds e) = expr_alike AsValue e
  test_alike (Down x) = refl
  test_alike (Next x) = refl

  target_alike : (e : Expr) → held (target_size one e) ≡ held (target_size other e)
  target_alike e = behind _ _ _ (expr_alike (AsPlace false) e)

  mutual
    pub stmt_alike : (s : Stmt) → held (stmt_size one s) ≡ held (stmt_size other s)
    stmt_alike Nothing = refl
    stmt_alike Empty = refl
    stmt_alike (Block ss) = behind 1 _ _ (stmts_alike ss)
    stmt_alike (Locals ss) = stmts_alike ss
    stmt_alike (Cleared x) = refl
    stmt_alike (Started x e) = behind _ _ _ (expr_alike AsValue e)
    stmt_alike (Assign target e) = joined _ _ _ _ (target_alike target) (expr_alike AsValue e)
    stmt_alike (Update target op kind e) = joined _ _ _ _ (target_alike target) (expr_alike AsValue e)
    stmt_alike (Count op target) = target_alike target
    stmt_alike (Perform f es) = joined _ _ _ _ (behind 1 _ _ (call f)) (exprs_alike es)
    stmt_alike (If c a b) = joined _ _ _ _ (joined _ _ _ _ (behind 1 _ _ (expr_alike AsValue c)) (stmt_alike a)) (stmt_alike b)
    stmt_alike (Loop s) = behind 1 _ _ (stmt_alike s)
    stmt_alike (Times x c s) = joined _ _ _ _ (behind 1 _ _ (expr_alike AsValue c)) (stmt_alike s)
    stmt_alike (While c s) = joined _ _ _ _ (behind 1 _ _ (expr_alike AsValue c)) (stmt_alike s)
    stmt_alike (Each x s) = behind 2 _ _ (stmt_alike s)
    stmt_alike (For start c step s) =
        joined _ _ _ _ (joined _ _ _ _ (joined _ _ _ _ (behind 1 _ _ (stmt_alike start)) (test_alike c)) (stmt_alike step)) (stmt_alike s)
    stmt_alike Break = refl
    stmt_alike Continue = refl
    stmt_alike Return = refl
    stmt_alike (Answer e) = behind 1 _ _ (expr_alike AsValue e)
    stmt_alike Advance = refl
    stmt_alike (Write n value) = joined _ _ _ _ (behind _ _ _ (expr_alike AsValue value)) (writes n)

    pub stmts_alike : (ss : Stmts) → held (stmts_size one ss) ≡ held (stmts_size other ss)
    stmts_alike End = refl
    stmts_alike (More s ss) = joined _ _ _ _ (stmt_alike s) (stmts_alike ss)

  first_alike : (first : Option CoreExpr) → held (first_size one first) ≡ held (first_size other first)
  first_alike None = refl
  first_alike (Some e) = expr_alike AsValue (expr_of e)

  state_alike : (vs : List Var) → held (sum_by (λ (v : Var). first_size one v.first) vs) ≡ held (sum_by (λ (v : Var). first_size other v.first) vs)
  state_alike [] = refl
  state_alike (v ∷ vs) = rw (sum_by-cons (λ (v : Var). first_size one v.first) v vs, sum_by-cons (λ (v : Var). first_size other v.first) v vs)
      (joined _ _ _ _ (first_alike v.first) (state_alike vs))

  -- a leaf, and its handlers
  pub unit_alike : held (unit_size one) ≡ held (unit_size other)
  unit_alike =
      joined _ _ _ _ (joined _ _ _ _ (behind (1 + ends_size unit) _ _ (state_alike unit.state)) (stmt_alike (body_of unit.init))) (stmt_alike (body_of unit.main))

  pub handlers_alike : (hs : List Handler) → map (λ (h : Handler). held (stmt_size one (stmt_of h.body))) hs ≡ map (λ (h : Handler). held (stmt_size other (stmt_of h.body))) hs
  handlers_alike [] = refl
  handlers_alike (h ∷ hs) =
      ap (λ (n : ℕ). n ∷ map (λ (h : Handler). held (stmt_size one (stmt_of h.body))) hs) (stmt_alike (stmt_of h.body))
      ∙ ap (λ (l : List ℕ). held (stmt_size other (stmt_of h.body)) ∷ l) (handlers_alike hs)
