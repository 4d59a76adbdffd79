-- The places of a body or a member where values and types have to fit, each by its role: docs/LANGUAGE.md, "Types". Here are
-- those of expressions, types and statements. The walk follows the order of the text.
use Rattle.std.specs.Prelude.{pos, false, List, [], ◌∷◌, ◌++◌, flat_map, Option, Some, None}
use Rattle.cm_base.specs.declared.place.Place.{Place}
use Rattle.cm_tree.specs.declared.path.Path.{Path}
use Rattle.cm_tree.specs.declared.path.Word.{Word}
use Rattle.cm_tree.specs.declared.operator.Unary.{Unary}
use Rattle.cm_tree.specs.declared.operator.Binary.{Binary}
use Rattle.cm_tree.specs.declared.operator.Binary.TheVariants as o
use Rattle.cm_tree.specs.declared.operator.Assign.{Assign}
use Rattle.cm_tree.specs.declared.operator.Assign.TheVariants as a
use Rattle.cm_tree.specs.declared.operator.Change.{Change}
use Rattle.cm_tree.specs.declared.operator.Change.TheVariants as c
use Rattle.cm_tree.specs.declared.expr.Expr.{Expr, Row_of-Expr, end_of-Expr, more_of-Expr, items-the_row-Expr}
use Rattle.cm_tree.specs.declared.expr.Base.{Base}
use Rattle.cm_tree.specs.declared.expr.Expr.TheVariants as e
use Rattle.cm_tree.specs.declared.expr.Base.TheVariants as b
use Rattle.cm_tree.specs.declared.type_expr.TypeExpr.{TypeExpr}
use Rattle.cm_tree.specs.declared.type_expr.TypeExpr.TheVariants as y
use Rattle.cm_tree.specs.declared.shared.Function.{Function as FunctionDecl}
use Rattle.cm_tree.specs.declared.simple.Init.{Init}
use Rattle.cm_tree.specs.declared.simple.Var.{Var}
use Rattle.cm_tree.specs.declared.simple.Local.{Local}
use Rattle.cm_tree.specs.declared.simple.Local.TheVariants as l
use Rattle.cm_tree.specs.declared.simple.Step.{Step}
use Rattle.cm_tree.specs.declared.simple.Step.TheVariants as st
use Rattle.cm_tree.specs.declared.simple.Target.{Target}
use Rattle.cm_tree.specs.declared.simple.Simple.{Simple}
use Rattle.cm_tree.specs.declared.simple.Simple.TheVariants as i
use Rattle.cm_tree.specs.declared.stmt.Assert.{Assert}
use Rattle.cm_tree.specs.declared.stmt.Start.{Start}
use Rattle.cm_tree.specs.declared.stmt.Start.TheVariants as f
use Rattle.cm_tree.specs.declared.stmt.Block.{Block}
use Rattle.cm_tree.specs.declared.stmt.Stmt.{Stmt, Row_of-Stmt, end_of-Stmt, more_of-Stmt}
use Rattle.cm_tree.specs.declared.stmt.Stmt.TheVariants as x
use Rattle.cm_meaning.specs.Declared.{Home, Declared}
use Rattle.cm_meaning.specs.Scopes.{Around, scoped, looped, declare, local_constant, inferred_local, typed_local}
use Rattle.cm_meaning.specs.Sites.{path_of_word}
use Rattle.cm_meaning.specs.BodySites.{after, after_start, counter}

-- the type that is needed of a value
pub data Wanted : Type 0 where
  -- one that is written, where this is round it
  Written : Around → TypeExpr → Wanted
  -- that of what is assigned
  OfPlace : Expr → Wanted
  -- that of the endpoint that is written
  OfEndpoint : Word → Wanted

-- a place where values and types have to fit
pub data Demand : Type 0 where
  -- an operation takes its operands, and a divisor is a constant other than 0
  Operates : Place → Binary → Expr → Expr → Demand
  OperatesAlone : Place → Unary → Expr → Demand
  -- the arms of `?:`
  Chooses : Place → Expr → Expr → Demand
  -- a.field
  Selects : Expr → Word → Demand
  -- a[i]
  Indexes : Place → Expr → Expr → Demand
  -- a call or a named type with values, whose value is used
  UsesCall : Path → List Expr → Demand
  -- the same as a statement
  Performs : Path → List Expr → Demand
  -- a base type with its sizes and the values of which it makes one
  Makes : Base → List Expr → List Expr → Demand
  -- a value of a type is needed
  Fits : Wanted → Expr → Demand
  -- what converts to `bool` is needed
  IsCondition : Expr → Demand
  -- a number is needed
  IsNumber : Expr → Demand
  -- a constant is needed
  IsConstant : Expr → Demand
  -- 1 to 2^31 - 1
  IsCount : Expr → Demand
  -- a type with at most so many scalars as one may have
  HasSize : TypeExpr → Demand
  -- `wrap<n>`
  IsCounter : TypeExpr → Demand
  -- a constant condition that holds
  IsAsserted : Expr → Demand
  -- `return`, with a value or without
  Returns : Place → Option Expr → Demand
  -- a function with a result surely returns
  Ends : FunctionDecl → Demand
  -- the event input of a handler, and the type of its parameter
  TakesEvent : Word → TypeExpr → Demand
  -- the type of a stream; the type of a value parameter of a processor
  IsStream : TypeExpr → Demand
  IsArgument : TypeExpr → Demand
  -- a struct has at most so many scalars as a type may have; the place is the struct's
  IsSmall : Place → Declared → Demand
  -- a latency; a factor of a node
  IsLatency : Expr → Demand
  IsFactor : Expr → Demand

pub record Demanded : Type 0 where
  pub around : Around
  pub demand : Demand

abbrev pub demanded : Around → Demand → Demanded
demanded r demand = record { around = r; demand = demand }

-- ---- expressions and types

-- a constant number of 1 to 2^31 - 1
abbrev pub count_demands : Around → Expr → List Demanded
count_demands r a = demanded r (IsConstant a) ∷ demanded r (IsNumber a) ∷ demanded r (IsCount a) ∷ []

unfoldable mutual
  pub expr_demands : Around → Expr → List Demanded
  expr_demands r (e.Number p v w) = []
  expr_demands r (e.Truth p t) = []
  expr_demands r (e.Name q) = []
  expr_demands r (e.Call' q sh args) = expr_demands_row r args ++ demanded r (UsesCall q (items-the_row-Expr _ args)) ∷ []
  expr_demands r (e.Construct' t sh sizes i args) =
      base_demands r t ++ (size_demands r sizes ++ (expr_demands_row r args ++ demanded r (Makes t (items-the_row-Expr _ sizes) (items-the_row-Expr _ args)) ∷ []))
  expr_demands r (e.Paren' p sh (more_of-Expr v end_of-Expr)) = expr_demands r v
  expr_demands r (e.Field' p sh (more_of-Expr v end_of-Expr) w) = expr_demands r v ++ demanded r (Selects v w) ∷ []
  expr_demands r (e.Index' p sh (more_of-Expr v end_of-Expr) i (more_of-Expr n end_of-Expr)) = expr_demands r v ++ (expr_demands r n ++ demanded r (Indexes p v n) ∷ [])
  expr_demands r (e.Unary' p op sh (more_of-Expr v end_of-Expr)) = expr_demands r v ++ demanded r (OperatesAlone p op v) ∷ []
  expr_demands r (e.Binary' p op sh (more_of-Expr v end_of-Expr) i (more_of-Expr w end_of-Expr)) =
      expr_demands r v ++ (expr_demands r w ++ demanded r (Operates p op v w) ∷ [])
  expr_demands r (e.Choice' p sh (more_of-Expr t end_of-Expr) i (more_of-Expr v end_of-Expr) j (more_of-Expr w end_of-Expr)) =
      expr_demands r t ++ (demanded r (IsCondition t) ∷ (expr_demands r v ++ (expr_demands r w ++ demanded r (Chooses p v w) ∷ [])))

  pub expr_demands_row : Around → {n : _} → Row_of-Expr n → List Demanded
  expr_demands_row r end_of-Expr = []
  expr_demands_row r (more_of-Expr v others) = expr_demands r v ++ expr_demands_row r others

  -- array sizes
  pub size_demands : Around → {n : _} → Row_of-Expr n → List Demanded
  size_demands r end_of-Expr = []
  size_demands r (more_of-Expr v others) = (expr_demands r v ++ count_demands r v) ++ size_demands r others

  pub base_demands : Around → Base → List Demanded
  base_demands r (b.Bool p) = []
  base_demands r (b.Int p) = []
  base_demands r (b.Int32 p) = []
  base_demands r (b.Int64 p) = []
  base_demands r (b.Wrap' p sh (more_of-Expr v end_of-Expr)) = expr_demands r v ++ count_demands r v
  base_demands r (b.Clamp' p sh (more_of-Expr v end_of-Expr)) = expr_demands r v ++ count_demands r v

abbrev pub counted_demands : Around → Expr → List Demanded
counted_demands r v = expr_demands r v ++ count_demands r v

-- a type that is written
abbrev pub type_demands : Around → TypeExpr → List Demanded
type_demands r (y.Base t sizes) = base_demands r t ++ (flat_map (counted_demands r) sizes ++ demanded r (HasSize (y.Base t sizes)) ∷ [])
type_demands r (y.Named q sizes) = flat_map (counted_demands r) sizes ++ demanded r (HasSize (y.Named q sizes)) ∷ []

-- a value where it is needed in some way
abbrev pub needed : Around → Expr → Demand → List Demanded
needed r v demand = expr_demands r v ++ demanded r demand ∷ []

abbrev pub condition_demands : Around → Expr → List Demanded
condition_demands r v = needed r v (IsCondition v)

abbrev pub optional_condition : Around → Option Expr → List Demanded
optional_condition r None = []
optional_condition r (Some v) = condition_demands r v

abbrev pub optional_number : Around → Option Expr → List Demanded
optional_number r None = []
optional_number r (Some v) = needed r v (IsNumber v)

abbrev pub optional_fit : Around → Wanted → Option Expr → List Demanded
optional_fit r wanted None = []
optional_fit r wanted (Some v) = needed r v (Fits wanted v)

-- ---- statements

unfoldable pub init_demands : (Home → Init → Declared) → Around → List Init → List Demanded
init_demands named r [] = []
init_demands named r (v ∷ all) = expr_demands r v.value ++ init_demands named (declare r (named r.home v)) all

-- the type is written in front of them all
unfoldable pub var_demands : Around → TypeExpr → Around → List Var → List Demanded
var_demands start ty r [] = []
var_demands start ty r (v ∷ all) = optional_fit r (Written start ty) v.value ++ var_demands start ty (declare r (typed_local r.home ty v)) all

abbrev pub local_demands : Around → Local → List Demanded
local_demands r (l.Let p inits) = init_demands local_constant r inits
local_demands r (l.Var p inits) = init_demands inferred_local r inits
local_demands r (l.Typed ty vars) = type_demands r ty ++ var_demands r ty r vars

-- what is assigned, as an expression that begins at its name
abbrev pub step_of : Place → Expr → Step → Expr
step_of p v (st.Field w) = e.Field p v w
step_of p v (st.Index at n) = e.Index p v n

unfoldable pub steps_of : Place → Expr → List Step → Expr
steps_of p v [] = v
steps_of p v (step ∷ steps) = steps_of p (step_of p v step) steps

abbrev pub place_expr : Target → Expr
place_expr t = steps_of t.name.place (e.Name (path_of_word t.name)) t.steps

-- the operator of an assignment, if it has one
abbrev pub operator_of : Assign → Option Binary
operator_of a.Set = None
operator_of a.Add = Some o.Add
operator_of a.Subtract = Some o.Subtract
operator_of a.Multiply = Some o.Multiply
operator_of a.Divide = Some o.Divide
operator_of a.Remainder = Some o.Remainder
operator_of a.BitAnd = Some o.BitAnd
operator_of a.BitOr = Some o.BitOr
operator_of a.BitXor = Some o.BitXor
operator_of a.ShiftLeft = Some o.ShiftLeft
operator_of a.ShiftRight = Some o.ShiftRight
operator_of a.ShiftRightZero = Some o.ShiftRightZero

-- a plain `=` needs an implicit conversion; with an operator the result is stored by a cast
abbrev pub assigned : Place → Expr → Option Binary → Expr → Demand
assigned p place None v = Fits (OfPlace place) v
assigned p place (Some op) v = Operates p op place v

abbrev pub change_operator : Change → Binary
change_operator c.Increase = o.Add
change_operator c.Decrease = o.Subtract

-- `++` and `--` are `+= 1` and `-= 1`; the place is the statement's
abbrev pub changed : Around → Place → Target → Change → List Demanded
changed r p t op = expr_demands r (place_expr t) ++ demanded r (Operates p (change_operator op) (place_expr t) (e.Number p (pos 1) false)) ∷ []

abbrev pub simple_demands : Around → Simple → List Demanded
simple_demands r (i.Assign t op v) = expr_demands r (place_expr t) ++ needed r v (assigned t.name.place (place_expr t) (operator_of op) v)
simple_demands r (i.After t op) = changed r t.name.place t op
simple_demands r (i.Before p op t) = changed r p t op
simple_demands r (i.Call q args) = flat_map (expr_demands r) args ++ demanded r (Performs q args) ∷ []

abbrev pub start_demands : Around → Option Start → List Demanded
start_demands r None = []
start_demands r (Some (f.Local v)) = local_demands r v
start_demands r (Some (f.Simple v)) = simple_demands r v

abbrev pub next_demands : Around → Option Simple → List Demanded
next_demands r None = []
next_demands r (Some v) = simple_demands r v

abbrev pub assert_demands : Around → Assert → List Demanded
assert_demands r v = expr_demands r v.condition ++ demanded r (IsConstant v.condition) ∷ demanded r (IsCondition v.condition) ∷ demanded r (IsAsserted v.condition) ∷ []

abbrev pub return_demands : Around → Place → Option Expr → List Demanded
return_demands r p None = demanded r (Returns p None) ∷ []
return_demands r p (Some v) = needed r v (Returns p (Some v))

unfoldable mutual
  pub stmt_demands : Around → Stmt → List Demanded
  stmt_demands r (x.Block' p sh all) = stmt_demands_row (scoped r []) all
  stmt_demands r (x.Empty p) = []
  stmt_demands r (x.Local v) = local_demands r v
  stmt_demands r (x.Simple v) = simple_demands r v
  stmt_demands r (x.Assert v) = assert_demands r v
  stmt_demands r (x.If' p t sh (more_of-Stmt v end_of-Stmt)) = condition_demands r t ++ stmt_demands (scoped r []) v
  stmt_demands r (x.IfElse' p t sh (more_of-Stmt v end_of-Stmt) si (more_of-Stmt w end_of-Stmt)) =
      condition_demands r t ++ (stmt_demands (scoped r []) v ++ stmt_demands (scoped r []) w)
  stmt_demands r (x.Loop' p t sh (more_of-Stmt v end_of-Stmt)) = optional_number r t ++ stmt_demands (scoped (looped r) []) v
  stmt_demands r (x.While' p t sh (more_of-Stmt v end_of-Stmt)) = condition_demands r t ++ stmt_demands (scoped (looped r) []) v
  stmt_demands r (x.ForType' p ty w sh (more_of-Stmt v end_of-Stmt)) =
      type_demands r ty ++ (demanded r (IsCounter ty) ∷ stmt_demands (scoped (scoped (looped r) (counter r ty w ∷ [])) []) v)
  stmt_demands r (x.For' p s t n sh (more_of-Stmt v end_of-Stmt)) =
      start_demands (scoped r []) s
      ++ (optional_condition (after_start (scoped r []) s) t
      ++ (next_demands (after_start (scoped r []) s) n ++ stmt_demands (scoped (looped (after_start (scoped r []) s)) []) v))
  stmt_demands r (x.Break p) = []
  stmt_demands r (x.Continue p) = []
  stmt_demands r (x.Return p v) = return_demands r p v
  stmt_demands r (x.Advance p) = []
  stmt_demands r (x.Write w v) = needed r v (Fits (OfEndpoint w) v)

  pub stmt_demands_row : Around → {n : _} → Row_of-Stmt n → List Demanded
  stmt_demands_row r end_of-Stmt = []
  stmt_demands_row r (more_of-Stmt v others) = stmt_demands r v ++ stmt_demands_row (after r v) others

-- the body of a function or a handler
unfoldable pub stmts_demands : Around → List Stmt → List Demanded
stmts_demands r [] = []
stmts_demands r (v ∷ all) = stmt_demands r v ++ stmts_demands (after r v) all

abbrev pub block_demands : Around → Block → List Demanded
block_demands r v = stmts_demands (scoped r []) v.stmts
