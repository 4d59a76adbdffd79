-- The sites of statements: docs/LANGUAGE.md, "Names". A local is visible from after its declaration to the end of its scope.
use Rattle.std.specs.Prelude.{List, [], ◌∷◌, ◌++◌, flat_map, Option, Some, None}
use Rattle.cm_tree.specs.declared.path.Word.{Word}
use Rattle.cm_tree.specs.declared.type_expr.TypeExpr.{TypeExpr}
use Rattle.cm_tree.specs.declared.simple.Init.{Init}
use Rattle.cm_tree.specs.declared.simple.Var.{Var}
use Rattle.cm_tree.specs.declared.simple.Local.{Local}
use Rattle.cm_tree.specs.declared.simple.Local.TheVariants as l
use Rattle.cm_tree.specs.declared.simple.Step.{Step}
use Rattle.cm_tree.specs.declared.simple.Step.TheVariants as st
use Rattle.cm_tree.specs.declared.simple.Target.{Target}
use Rattle.cm_tree.specs.declared.simple.Simple.{Simple}
use Rattle.cm_tree.specs.declared.simple.Simple.TheVariants as i
use Rattle.cm_tree.specs.declared.stmt.Start.{Start}
use Rattle.cm_tree.specs.declared.stmt.Start.TheVariants as f
use Rattle.cm_tree.specs.declared.stmt.Block.{Block}
use Rattle.cm_tree.specs.declared.stmt.Stmt.{Stmt, Row_of-Stmt, end_of-Stmt, more_of-Stmt}
use Rattle.cm_tree.specs.declared.stmt.Stmt.TheVariants as x
use Rattle.cm_meaning.specs.Declared.{Counter, Home, Declared}
use Rattle.cm_meaning.specs.Scopes.{Around, scoped, looped, declare, declare_all, declared, local_constant, inferred_local, typed_local, local_names}
use Rattle.cm_meaning.specs.Sites.{Site, site, Calls, Writes, Assigns, Declares, Jumps, Advances, expr_sites, optional_sites, arguments_sites, type_sites}

-- ---- locals

-- each local is visible to those after it
unfoldable pub init_sites : (Home → Init → Declared) → Around → List Init → List Site
init_sites named r [] = []
init_sites named r (a ∷ all) = site r (Declares r (named r.home a)) ∷ (expr_sites r a.value ++ init_sites named (declare r (named r.home a)) all)

-- the type is written in front of them all
unfoldable pub var_sites : Around → TypeExpr → Around → List Var → List Site
var_sites start ty r [] = []
var_sites start ty r (a ∷ all) = site r (Declares start (typed_local r.home ty a)) ∷ (optional_sites r a.value ++ var_sites start ty (declare r (typed_local r.home ty a)) all)

abbrev pub local_sites : Around → Local → List Site
local_sites r (l.Let p inits) = init_sites local_constant r inits
local_sites r (l.Var p inits) = init_sites inferred_local r inits
local_sites r (l.Typed ty vars) = type_sites r ty ++ var_sites r ty r vars

abbrev pub after_local : Around → Local → Around
after_local r a = declare_all r (local_names r.home a)

-- ---- what a statement is made of

abbrev pub step_sites : Around → Step → List Site
step_sites r (st.Field w) = []
step_sites r (st.Index p a) = expr_sites r a

abbrev pub target_sites : Around → Target → List Site
target_sites r t = site r (Assigns t.name) ∷ flat_map (step_sites r) t.steps

abbrev pub simple_sites : Around → Simple → List Site
simple_sites r (i.Assign t o a) = target_sites r t ++ expr_sites r a
simple_sites r (i.After t o) = target_sites r t
simple_sites r (i.Before p o t) = target_sites r t
simple_sites r (i.Call q args) = site r (Calls q args) ∷ arguments_sites r args

-- how a `for` of three parts begins, if it does
abbrev pub start_sites : Around → Option Start → List Site
start_sites r None = []
start_sites r (Some (f.Local a)) = local_sites r a
start_sites r (Some (f.Simple a)) = simple_sites r a

abbrev pub after_start : Around → Option Start → Around
after_start r (Some (f.Local a)) = after_local r a
after_start r _ = r

abbrev pub next_sites : Around → Option Simple → List Site
next_sites r None = []
next_sites r (Some a) = simple_sites r a

-- what is visible after a statement in its block
abbrev pub after : Around → Stmt → Around
after r (x.Local a) = after_local r a
after r _ = r

-- the variable of for (wrap<4> i)
abbrev pub counter : Around → TypeExpr → Word → Declared
counter r ty w = declared r.home w (Counter ty)

-- ---- statements

-- An arm of an `if` and a body of a loop have a scope of their own, in which a block has one more. So does a `for`, round
-- its body's.
unfoldable mutual
  pub stmt_sites : Around → Stmt → List Site
  stmt_sites r (x.Block' p sh all) = stmts_row (scoped r []) all
  stmt_sites r (x.Empty p) = []
  stmt_sites r (x.Local a) = local_sites r a
  stmt_sites r (x.Simple a) = simple_sites r a
  stmt_sites r (x.Assert a) = expr_sites r a.condition
  stmt_sites r (x.If' p c sh (more_of-Stmt a end_of-Stmt)) = expr_sites r c ++ stmt_sites (scoped r []) a
  stmt_sites r (x.IfElse' p c sh (more_of-Stmt a end_of-Stmt) si (more_of-Stmt b end_of-Stmt)) =
      expr_sites r c ++ (stmt_sites (scoped r []) a ++ stmt_sites (scoped r []) b)
  stmt_sites r (x.Loop' p c sh (more_of-Stmt a end_of-Stmt)) = optional_sites r c ++ stmt_sites (scoped (looped r) []) a
  stmt_sites r (x.While' p c sh (more_of-Stmt a end_of-Stmt)) = expr_sites r c ++ stmt_sites (scoped (looped r) []) a
  stmt_sites r (x.ForType' p ty w sh (more_of-Stmt a end_of-Stmt)) =
      type_sites r ty ++ (site (scoped r []) (Declares r (counter r ty w)) ∷ stmt_sites (scoped (scoped (looped r) (counter r ty w ∷ [])) []) a)
  stmt_sites r (x.For' p s c n sh (more_of-Stmt a end_of-Stmt)) =
      start_sites (scoped r []) s
      ++ (optional_sites (after_start (scoped r []) s) c
      ++ (next_sites (after_start (scoped r []) s) n ++ stmt_sites (scoped (looped (after_start (scoped r []) s)) []) a))
  stmt_sites r (x.Break p) = site r (Jumps p) ∷ []
  stmt_sites r (x.Continue p) = site r (Jumps p) ∷ []
  stmt_sites r (x.Return p c) = optional_sites r c
  stmt_sites r (x.Advance p) = site r (Advances p) ∷ []
  stmt_sites r (x.Write w a) = site r (Writes w) ∷ expr_sites r a

  pub stmts_row : Around → {n : _} → Row_of-Stmt n → List Site
  stmts_row r end_of-Stmt = []
  stmts_row r (more_of-Stmt a others) = stmt_sites r a ++ stmts_row (after r a) others

-- the statements of a body
unfoldable pub stmts_sites : Around → List Stmt → List Site
stmts_sites r [] = []
stmts_sites r (a ∷ all) = stmt_sites r a ++ stmts_sites (after r a) all

-- of the body of a function or a handler, which is a scope in that of the parameters
abbrev pub block_sites : Around → Block → List Site
block_sites r b = stmts_sites (scoped r []) b.stmts
