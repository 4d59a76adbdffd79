-- Declared names with their values, and statements that may stand in the head of a `for`.
use Rattle.std.specs.Prelude.{ℕ, ◌-◌, Bool, true, false, if◌then◌else◌, map, List, [], ◌∷◌, Option, Some, None}
use Rattle.cm_base.specs.declared.place.Place.{Place}
use Rattle.cm_tree.specs.declared.token.Token.{Token}
use Rattle.cm_tree.specs.declared.token.TokenKind.{TokenKind}
use Rattle.cm_tree.specs.declared.token.TokenKind.TheVariants as k
use Rattle.cm_tree.specs.declared.sign.Sign.TheVariants as s
use Rattle.cm_tree.specs.declared.path.Word.{Word}
use Rattle.cm_tree.specs.declared.path.Path.{Path}
use Rattle.cm_tree.specs.declared.expr.Expr.{Expr}
use Rattle.cm_tree.specs.declared.type_expr.TypeExpr.{TypeExpr}
use Rattle.cm_tree.specs.declared.type_expr.TypeExpr.TheVariants.{Named}
use Rattle.cm_tree.specs.declared.operator.Assign.{Assign}
use Rattle.cm_tree.specs.declared.operator.Assign.TheVariants as a
use Rattle.cm_tree.specs.declared.operator.Change.{Change}
use Rattle.cm_tree.specs.declared.operator.Change.TheVariants as c
use Rattle.cm_tree.specs.declared.simple.Init.{Init}
use Rattle.cm_tree.specs.declared.simple.Var.{Var}
use Rattle.cm_tree.specs.declared.simple.Step.{Step}
use Rattle.cm_tree.specs.declared.simple.Step.TheVariants as step
use Rattle.cm_tree.specs.declared.simple.Target.{Target}
use Rattle.cm_tree.specs.declared.simple.Simple.{Simple}
use Rattle.cm_tree.specs.declared.simple.Simple.TheVariants as simple
use Rattle.cm_tree.specs.declared.simple.Local.{Local}
use Rattle.cm_tree.specs.declared.simple.Local.TheVariants as local
use Rattle.token_reader.specs.Parsers.{Parser, ◌>>=◌, ◌>>◌, pure, refuse, look, skip, see, expect, is_sign}
use Rattle.token_reader.specs.Lists.{separated, while_sees, optional}
use Rattle.cm_parse_expr.specs.Reading.{path, expr}
use Rattle.file_grammar.specs.declared.begun.Begun.{Begun}
use Rattle.file_grammar.specs.declared.begun.Begun.TheVariants as begun
use Rattle.file_grammar.specs.Words.{within, is_name, word, bracket, arguments}

-- ---- names with their values

unfoldable pub value : ℕ → Parser Expr
value n = expect (is_sign s.Assign) >> expr n

unfoldable pub init : ℕ → Parser Init
init n = word >>= (λ name. value n >>= (λ e. pure (record { name = name; value = e })))

unfoldable pub inits : ℕ → Parser (List Init)
inits n = separated (is_sign s.Comma) (init n)

-- what may follow a name that is declared with a type
unfoldable pub var_of : ℕ → Word → Parser Var
var_of n name = optional (is_sign s.Assign) (value n) >>= (λ e. pure (record { name = name; value = e }))

unfoldable pub var : ℕ → Parser Var
var n = word >>= var_of n

unfoldable pub next_var : ℕ → Parser Var
next_var n = expect (is_sign s.Comma) >> var n

unfoldable pub more_vars : ℕ → List Var → Parser (List Var)
more_vars n = while_sees (is_sign s.Comma) (next_var n)

-- the names that are declared with a type, the first of which was read
unfoldable pub vars_of : ℕ → Word → Parser (List Var)
vars_of n name = var_of n name >>= (λ v. more_vars n (v ∷ []))

unfoldable pub vars : ℕ → Parser (List Var)
vars n = word >>= vars_of n

-- ---- what begins with a name

abbrev pub is_step : TokenKind → Bool
is_step (k.Sign s.Dot) = true
is_step (k.Sign s.LeftBracket) = true
is_step _ = false

abbrev pub index : Place × Expr → Step
index q = step.Index q.0 q.1

abbrev pub step_if : ℕ → Bool → Parser Step
step_if n dot = if dot then skip >> word >>= (λ name. pure (step.Field name)) else bracket n >>= (λ q. pure (index q))

unfoldable pub step_of : ℕ → Parser Step
step_of n = see (is_sign s.Dot) >>= step_if n

-- the further steps to a part of a variable
unfoldable pub target_of : ℕ → Word → List Step → Parser Target
target_of n name steps = while_sees is_step (step_of n) steps >>= (λ all. pure (record { name = name; steps = all }))

unfoldable pub target : ℕ → Parser Target
target n = within n (word >>= (λ name. target_of n name []))

abbrev pub single : List (List ℕ) → Option (List ℕ)
single (text ∷ []) = Some text
single _ = None

abbrev pub target_at : ℕ → Place → List (Place × Expr) → Option (List ℕ) → Parser Begun
target_at n p sizes None = refuse
target_at n p sizes (Some text) = target_of n (record { place = p; text = text }) (map index sizes) >>= (λ t. pure (begun.Target t))

abbrev pub second : Place × Expr → Expr
second q = q.1

abbrev pub type_or_target : ℕ → Path → List (Place × Expr) → Bool → Parser Begun
type_or_target n q sizes named = if named then pure (begun.Type (Named q (map second sizes))) else target_at n q.place sizes (single q.names)

-- a type or what is assigned, after the indices
unfoldable pub after_indices : ℕ → Path → List (Place × Expr) → Parser Begun
after_indices n q sizes = see is_name >>= type_or_target n q sizes

unfoldable pub called : ℕ → Path → Parser Begun
called n q = within (n - 1) (arguments (n - 1) >>= (λ args. pure (begun.Call q args)))

abbrev pub call_or_rest : ℕ → Path → Bool → Parser Begun
call_or_rest n q call =
    if call then called n q else while_sees (is_sign s.LeftBracket) (bracket n) [] >>= (λ sizes. after_indices n q sizes)

-- A call, the type of a declaration, or what is assigned: the token after the path, or the one after the indices tells
unfoldable pub begun_by_name : ℕ → Parser Begun
begun_by_name n = within n (path >>= (λ q. see (is_sign s.LeftParenthesis) >>= call_or_rest n q))

-- ---- statements that may stand in the head of a `for`

abbrev pub assign_of : TokenKind → Option Assign
assign_of (k.Sign s.Assign) = Some a.Set
assign_of (k.Sign s.PlusAssign) = Some a.Add
assign_of (k.Sign s.MinusAssign) = Some a.Subtract
assign_of (k.Sign s.StarAssign) = Some a.Multiply
assign_of (k.Sign s.SlashAssign) = Some a.Divide
assign_of (k.Sign s.PercentAssign) = Some a.Remainder
assign_of (k.Sign s.AmpersandAssign) = Some a.BitAnd
assign_of (k.Sign s.BarAssign) = Some a.BitOr
assign_of (k.Sign s.CaretAssign) = Some a.BitXor
assign_of (k.Sign s.ShiftLeftAssign) = Some a.ShiftLeft
assign_of (k.Sign s.ShiftRightAssign) = Some a.ShiftRight
assign_of (k.Sign s.ShiftRightZeroAssign) = Some a.ShiftRightZero
assign_of _ = None

abbrev pub change_of : TokenKind → Option Change
change_of (k.Sign s.PlusPlus) = Some c.Increase
change_of (k.Sign s.MinusMinus) = Some c.Decrease
change_of _ = None

abbrev pub after_target : ℕ → Target → TokenKind → Option Assign → Option Change → Parser Simple
after_target n t kind (Some op) change = skip >> expr n >>= (λ e. pure (simple.Assign t op e))
after_target n t kind None (Some change) = skip >> pure (simple.After t change)
after_target n t kind None None = refuse

abbrev pub after_target_at : ℕ → Target → Option Token → Parser Simple
after_target_at n t None = refuse
after_target_at n t (Some token) = after_target n t token.kind (assign_of token.kind) (change_of token.kind)

-- what is done with what is assigned
unfoldable pub change_target : ℕ → Target → Parser Simple
change_target n t = look >>= after_target_at n t

abbrev pub changed_by : ℕ → Place → Option Change → Parser Simple
changed_by n p None = refuse
changed_by n p (Some change) = skip >> target n >>= (λ t. pure (simple.Before p change t))

abbrev pub changed_at : ℕ → Option Token → Parser Simple
changed_at n None = refuse
changed_at n (Some t) = changed_by n t.place (change_of t.kind)

-- `++a` or `--a`
unfoldable pub before : ℕ → Parser Simple
before n = look >>= changed_at n

abbrev pub simple_by : ℕ → Begun → Parser Simple
simple_by n (begun.Type ty) = refuse
simple_by n (begun.Target t) = change_target n t
simple_by n (begun.Call q args) = pure (simple.Call q args)

abbrev pub simple_if : ℕ → Bool → Parser Simple
simple_if n named = if named then begun_by_name n >>= simple_by n else before n

unfoldable pub simple_stmt : ℕ → Parser Simple
simple_stmt n = see is_name >>= simple_if n

-- the declaration of names whose type was read
unfoldable pub typed_local : ℕ → TypeExpr → Parser Local
typed_local n ty = vars n >>= (λ vs. pure (local.Typed ty vs))

unfoldable pub let_local : ℕ → Place → Parser Local
let_local n p = inits n >>= (λ xs. pure (local.Let p xs))

unfoldable pub var_local : ℕ → Place → Parser Local
var_local n p = inits n >>= (λ xs. pure (local.Var p xs))
