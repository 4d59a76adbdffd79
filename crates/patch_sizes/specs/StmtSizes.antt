-- The sizes of statements: docs/LANGUAGE.md, "Sizes".
use Rattle.std.specs.Prelude.{ℕ, ◌+◌, false, List, [], ◌∷◌, Option, Some, None}
use Rattle.cm_tree.specs.declared.type_expr.TypeExpr.{TypeExpr}
use Rattle.cm_tree.specs.declared.simple.Init.{Init}
use Rattle.cm_tree.specs.declared.simple.Var.{Var}
use Rattle.cm_tree.specs.declared.simple.Local.{Local}
use Rattle.cm_tree.specs.declared.simple.Local.TheVariants as l
use Rattle.cm_tree.specs.declared.simple.Target.{Target}
use Rattle.cm_tree.specs.declared.simple.Simple.{Simple}
use Rattle.cm_tree.specs.declared.simple.Simple.TheVariants as i
use Rattle.cm_tree.specs.declared.stmt.Start.{Start}
use Rattle.cm_tree.specs.declared.stmt.Start.TheVariants as f
use Rattle.cm_tree.specs.declared.stmt.Stmt.{Stmt, Row_of-Stmt, end_of-Stmt, more_of-Stmt}
use Rattle.cm_tree.specs.declared.stmt.Stmt.TheVariants as x
use Rattle.cm_meaning.specs.Declared.{Home, Declared}
use Rattle.cm_meaning.specs.Scopes.{Around, scoped, looped, declare, local_constant, inferred_local, typed_local, find, find_word}
use Rattle.cm_meaning.specs.BodySites.{after as behind, after_start, counter}
use Rattle.cm_meaning.specs.Types.{CmType}
use Rattle.cm_meaning.specs.Constants.{type_of_expr}
use Rattle.cm_meaning.specs.Demands.{place_expr}
use Rattle.patch_sizes.specs.Sizes.{Measured, AsValue, AsPlace, scalars_in, value_size, expr_size, exprs_size, optional_size}

-- ---- locals

-- each local: 1, its scalars and its value, where the locals before it are visible
abbrev pub inits_size : (Home → Init → Declared) → List Init → Around → Measured → ℕ
inits_size named [] r m = 0
inits_size named (a ∷ all) r m = value_size r m a.value + expr_size a.value r m AsValue + inits_size named all (declare r (named r.home a)) m

abbrev pub vars_size : TypeExpr → Option CmType → List Var → Around → Measured → ℕ
vars_size ty t [] r m = 0
vars_size ty t (a ∷ all) r m = 1 + scalars_in t + optional_size a.value r m + vars_size ty t all (declare r (typed_local r.home ty a)) m

abbrev pub local_size : Local → Around → Measured → ℕ
local_size (l.Let p inits) r m = inits_size local_constant inits r m
local_size (l.Var p inits) r m = inits_size inferred_local inits r m
local_size (l.Typed ty vars) r m = vars_size ty (type_of_expr r m.known.look ty) vars r m

-- ---- assignments and calls

-- 1, the scalars of the place, and the place
abbrev pub target_size : Target → Around → Measured → ℕ
target_size t r m = value_size r m (place_expr t) + expr_size (place_expr t) r m (AsPlace false)

abbrev pub call_size : Option Declared → Measured → ℕ
call_size None m = 0
call_size (Some x) m = m.call x

abbrev pub simple_size : Simple → Around → Measured → ℕ
simple_size (i.Assign t op a) r m = target_size t r m + expr_size a r m AsValue
simple_size (i.After t change) r m = target_size t r m
simple_size (i.Before p change t) r m = target_size t r m
simple_size (i.Call q args) r m = 1 + call_size (find r q) m + exprs_size args r m

abbrev pub third_size : Option Simple → Around → Measured → ℕ
third_size None r m = 0
third_size (Some a) r m = simple_size a r m

abbrev pub start_size : Option Start → Around → Measured → ℕ
start_size None r m = 0
start_size (Some (f.Local a)) r m = local_size a r m
start_size (Some (f.Simple a)) r m = simple_size a r m

abbrev pub write_size : Option Declared → Measured → ℕ
write_size None m = 0
write_size (Some x) m = m.write x

-- ---- statements

unfoldable mutual
  pub stmt_size : Stmt → Around → Measured → ℕ
  stmt_size (x.Block' p sh all) r m = 1 + stmts_size all (scoped r []) m
  stmt_size (x.Empty p) r m = 1
  stmt_size (x.Local a) r m = local_size a r m
  stmt_size (x.Simple a) r m = simple_size a r m
  stmt_size (x.Assert a) r m = 0
  stmt_size (x.If' p c sh (more_of-Stmt a end_of-Stmt)) r m = 1 + expr_size c r m AsValue + stmt_size a (scoped r []) m
  stmt_size (x.IfElse' p c sh (more_of-Stmt a end_of-Stmt) si (more_of-Stmt b end_of-Stmt)) r m =
      1 + expr_size c r m AsValue + stmt_size a (scoped r []) m + stmt_size b (scoped r []) m
  stmt_size (x.Loop' p c sh (more_of-Stmt a end_of-Stmt)) r m = 1 + optional_size c r m + stmt_size a (scoped (looped r) []) m
  stmt_size (x.While' p c sh (more_of-Stmt a end_of-Stmt)) r m = 1 + expr_size c r m AsValue + stmt_size a (scoped (looped r) []) m
  stmt_size (x.ForType' p ty w sh (more_of-Stmt a end_of-Stmt)) r m = 2 + stmt_size a (scoped (scoped (looped r) (counter r ty w ∷ [])) []) m
  stmt_size (x.For' p s c n sh (more_of-Stmt a end_of-Stmt)) r m =
      1 + start_size s (scoped r []) m + optional_size c (after_start (scoped r []) s) m + third_size n (after_start (scoped r []) s) m
      + stmt_size a (scoped (looped (after_start (scoped r []) s)) []) m
  stmt_size (x.Break p) r m = 1
  stmt_size (x.Continue p) r m = 1
  stmt_size (x.Return p v) r m = 1 + optional_size v r m
  stmt_size (x.Advance p) r m = 1
  stmt_size (x.Write w a) r m = 1 + write_size (find_word r w) m + expr_size a r m AsValue

  pub stmts_size : {n : _} → Row_of-Stmt n → Around → Measured → ℕ
  stmts_size end_of-Stmt r m = 0
  stmts_size (more_of-Stmt a others) r m = stmt_size a r m + stmts_size others (behind r a) m
