-- Statements.
use Rattle.std.specs.Prelude.{ℕ, zero, suc, ◌-◌, Bool, true, false, if◌then◌else◌, List, [], Option, Some, None}
use Rattle.cm_base.specs.declared.place.Place.{Place}
use Rattle.cm_tree.specs.declared.token.Token.{Token}
use Rattle.cm_tree.specs.declared.token.TokenKind.{TokenKind}
use Rattle.cm_tree.specs.declared.token.TokenKind.TheVariants as k
use Rattle.cm_tree.specs.declared.sign.Sign.TheVariants as s
use Rattle.cm_tree.specs.declared.reserved.Reserved.{Reserved}
use Rattle.cm_tree.specs.declared.reserved.Reserved.TheVariants as w
use Rattle.cm_tree.specs.declared.path.Word.{Word}
use Rattle.cm_tree.specs.declared.expr.Expr.{Expr}
use Rattle.cm_tree.specs.declared.type_expr.TypeExpr.{TypeExpr}
use Rattle.cm_tree.specs.declared.simple.Target.{Target}
use Rattle.cm_tree.specs.declared.simple.Step.{Step}
use Rattle.cm_tree.specs.declared.simple.Simple.{Simple}
use Rattle.cm_tree.specs.declared.simple.Simple.TheVariants as simple
use Rattle.cm_tree.specs.declared.simple.Local.TheVariants as local
use Rattle.cm_tree.specs.declared.stmt.Assert.{Assert}
use Rattle.cm_tree.specs.declared.stmt.Start.{Start}
use Rattle.cm_tree.specs.declared.stmt.Start.TheVariants as start
use Rattle.cm_tree.specs.declared.stmt.Block.{Block}
use Rattle.cm_tree.specs.declared.stmt.Stmt.{Stmt}
use Rattle.cm_tree.specs.declared.stmt.Stmt.TheVariants as x
use Rattle.token_reader.specs.Parsers.{Parser, ◌>>=◌, ◌>>◌, pure, refuse, look, skip, see, expect, is_sign, is_reserved, is_other}
use Rattle.token_reader.specs.Lists.{text, while_sees, optional}
use Rattle.cm_parse_expr.specs.Reading.{expr, type_expr}
use Rattle.file_grammar.specs.declared.begun.Begun.{Begun}
use Rattle.file_grammar.specs.declared.begun.Begun.TheVariants as begun
use Rattle.file_grammar.specs.Words.{within, here, word, condition}
use Rattle.file_grammar.specs.Simples.{vars_of, begun_by_name, change_target, before, simple_stmt, typed_local, let_local, var_local}

abbrev pub then_text : Parser (List ℕ)
then_text = expect (is_sign s.Comma) >> text >>= (λ t. pure t.1)

-- what stands after `static_assert`
unfoldable pub assertion : ℕ → Place → Parser Assert
assertion n p = expect (is_sign s.LeftParenthesis) >> expr n >>= (λ e. optional (is_sign s.Comma) then_text >>= (λ t.
    expect (is_sign s.RightParenthesis) >> expect (is_sign s.Semicolon) >> pure (record { place = p; condition = e; text = t })))

unfoldable pub semicolon : {A : Type 0} → A → Parser A
semicolon x = expect (is_sign s.Semicolon) >> pure x

-- the value of a `return`, the condition of a `for`, up to `;`
abbrev pub value_if : ℕ → Bool → Parser (Option Expr)
value_if n none = if none then skip >> pure None else expr n >>= (λ e. expect (is_sign s.Semicolon) >> pure (Some e))

unfoldable pub value_up_to : ℕ → Parser (Option Expr)
value_up_to n = see (is_sign s.Semicolon) >>= value_if n

-- ---- what begins with a name, up to `;`

abbrev pub write_if : ℕ → Target → Bool → Parser Stmt
write_if n t written =
    if written then skip >> expr n >>= (λ e. semicolon (x.Write t.name e))
    else change_target n t >>= (λ a. semicolon (x.Simple a))

abbrev pub is_plain : List Step → Bool
is_plain [] = true
is_plain _ = false

abbrev pub may_write : Target → Bool → Bool
may_write t arrow = if arrow then is_plain t.steps else false

abbrev pub begun_stmt : ℕ → Begun → Parser Stmt
begun_stmt n (begun.Type ty) = typed_local n ty >>= (λ a. semicolon (x.Local a))
begun_stmt n (begun.Target t) = see (is_sign s.LeftArrow) >>= (λ arrow. write_if n t (may_write t arrow))
begun_stmt n (begun.Call q args) = semicolon (x.Simple (simple.Call q args))

unfoldable pub named_stmt : ℕ → Parser Stmt
named_stmt n = begun_by_name n >>= begun_stmt n

-- a declaration by a base type, up to `;`
unfoldable pub based_stmt : ℕ → Parser Stmt
based_stmt n = type_expr n >>= (λ ty. typed_local n ty >>= (λ a. semicolon (x.Local a)))

-- ---- the head of a `for`

abbrev pub third_if : ℕ → Bool → Parser (Option Simple)
third_if n none = if none then pure None else simple_stmt n >>= (λ a. pure (Some a))

unfoldable pub third : ℕ → Parser (Option Simple)
third n = see (is_sign s.RightParenthesis) >>= third_if n

-- expressions of a height of at most n, and statements of such a height
module _ (n : ℕ) (stmt : Parser Stmt) where
  -- from the first `;` on
  unfoldable pub for_parts : Place → Option Start → Parser Stmt
  for_parts p begin = expect (is_sign s.Semicolon) >> value_up_to n >>= (λ c. third n >>= (λ a. expect (is_sign s.RightParenthesis) >> stmt >>= (λ b. pure (x.For p begin c a b))))

  abbrev pub for_type_if : Place → TypeExpr → Word → Bool → Parser Stmt
  for_type_if p ty name ends =
      if ends then skip >> stmt >>= (λ a. pure (x.ForType p ty name a))
      else vars_of n name >>= (λ vs. for_parts p (Some (start.Local (local.Typed ty vs))))

  -- a type was read: the token after the name tells what follows
  unfoldable pub for_type : Place → TypeExpr → Parser Stmt
  for_type p ty = word >>= (λ name. see (is_sign s.RightParenthesis) >>= for_type_if p ty name)

  abbrev pub for_begun : Place → Begun → Parser Stmt
  for_begun p (begun.Type ty) = for_type p ty
  for_begun p (begun.Target t) = change_target n t >>= (λ a. for_parts p (Some (start.Simple a)))
  for_begun p (begun.Call q args) = for_parts p (Some (start.Simple (simple.Call q args)))

  unfoldable pub for_base : Place → Parser Stmt
  for_base p = type_expr n >>= for_type p

  unfoldable pub for_name : Place → Parser Stmt
  for_name p = begun_by_name n >>= for_begun p

  unfoldable pub for_step : Place → Parser Stmt
  for_step p = before n >>= (λ a. for_parts p (Some (start.Simple a)))

  unfoldable pub for_let : Place → Place → Parser Stmt
  for_let p q = let_local n q >>= (λ a. for_parts p (Some (start.Local a)))

  unfoldable pub for_var : Place → Place → Parser Stmt
  for_var p q = var_local n q >>= (λ a. for_parts p (Some (start.Local a)))

  abbrev pub for_by : Place → Place → TokenKind → Parser Stmt
  for_by p q (k.Sign s.Semicolon) = for_parts p None
  for_by p q (k.Sign s.PlusPlus) = for_step p
  for_by p q (k.Sign s.MinusMinus) = for_step p
  for_by p q (k.Reserved w.Let) = skip >> for_let p q
  for_by p q (k.Reserved w.Var) = skip >> for_var p q
  for_by p q (k.Reserved w.Bool) = for_base p
  for_by p q (k.Reserved w.Int) = for_base p
  for_by p q (k.Reserved w.Int32) = for_base p
  for_by p q (k.Reserved w.Int64) = for_base p
  for_by p q (k.Reserved w.Wrap) = for_base p
  for_by p q (k.Reserved w.Clamp) = for_base p
  for_by p q (k.Word name) = for_name p
  for_by p q _ = refuse

  abbrev pub for_at : Place → Option Token → Parser Stmt
  for_at p None = refuse
  for_at p (Some t) = for_by p t.place t.kind

  unfoldable pub for_stmt : Place → Parser Stmt
  for_stmt p = expect (is_sign s.LeftParenthesis) >> look >>= for_at p

  -- ---- statements that hold others

  unfoldable pub stmts : Parser (List Stmt)
  stmts = while_sees (is_other s.RightBrace) stmt [] >>= (λ all. expect (is_sign s.RightBrace) >> pure all)

  unfoldable pub block : Place → Parser Stmt
  block p = stmts >>= (λ all. pure (x.Block p all))

  abbrev pub if_rest : Place → Expr → Stmt → Bool → Parser Stmt
  if_rest p c a has_else = if has_else then skip >> stmt >>= (λ b. pure (x.IfElse p c a b)) else pure (x.If p c a)

  unfoldable pub if_stmt : Place → Parser Stmt
  if_stmt p = condition n >>= (λ c. stmt >>= (λ a. see (is_reserved w.Else) >>= if_rest p c a))

  unfoldable pub loop_stmt : Place → Parser Stmt
  loop_stmt p = optional (is_sign s.LeftParenthesis) (condition n) >>= (λ c. stmt >>= (λ a. pure (x.Loop p c a)))

  unfoldable pub while_stmt : Place → Parser Stmt
  while_stmt p = condition n >>= (λ c. stmt >>= (λ a. pure (x.While p c a)))

  -- ---- all statements

  unfoldable pub return_stmt : Place → Parser Stmt
  return_stmt p = value_up_to n >>= (λ c. pure (x.Return p c))

  unfoldable pub advance_stmt : Place → Parser Stmt
  advance_stmt p = expect (is_sign s.LeftParenthesis) >> expect (is_sign s.RightParenthesis) >> semicolon (x.Advance p)

  unfoldable pub let_stmt : Place → Parser Stmt
  let_stmt p = let_local n p >>= (λ a. semicolon (x.Local a))

  unfoldable pub var_stmt : Place → Parser Stmt
  var_stmt p = var_local n p >>= (λ a. semicolon (x.Local a))

  unfoldable pub step_stmt : Parser Stmt
  step_stmt = before n >>= (λ a. semicolon (x.Simple a))

  unfoldable pub assert_stmt : Place → Parser Stmt
  assert_stmt p = assertion n p >>= (λ a. pure (x.Assert a))

  abbrev pub reserved_stmt : Place → Reserved → Parser Stmt
  reserved_stmt p w.Let = skip >> let_stmt p
  reserved_stmt p w.Var = skip >> var_stmt p
  reserved_stmt p w.Bool = based_stmt n
  reserved_stmt p w.Int = based_stmt n
  reserved_stmt p w.Int32 = based_stmt n
  reserved_stmt p w.Int64 = based_stmt n
  reserved_stmt p w.Wrap = based_stmt n
  reserved_stmt p w.Clamp = based_stmt n
  reserved_stmt p w.StaticAssert = skip >> assert_stmt p
  reserved_stmt p w.If = skip >> if_stmt p
  reserved_stmt p w.Loop = skip >> loop_stmt p
  reserved_stmt p w.While = skip >> while_stmt p
  reserved_stmt p w.For = skip >> for_stmt p
  reserved_stmt p w.Break = skip >> semicolon (x.Break p)
  reserved_stmt p w.Continue = skip >> semicolon (x.Continue p)
  reserved_stmt p w.Return = skip >> return_stmt p
  reserved_stmt p w.Advance = skip >> advance_stmt p
  reserved_stmt p _ = refuse

  abbrev pub stmt_by : Place → TokenKind → Parser Stmt
  stmt_by p (k.Sign s.LeftBrace) = skip >> block p
  stmt_by p (k.Sign s.Semicolon) = skip >> pure (x.Empty p)
  stmt_by p (k.Sign s.PlusPlus) = step_stmt
  stmt_by p (k.Sign s.MinusMinus) = step_stmt
  stmt_by p (k.Reserved r) = reserved_stmt p r
  stmt_by p (k.Word name) = named_stmt n
  stmt_by p _ = refuse

  abbrev pub stmt_at : Option Token → Parser Stmt
  stmt_at None = refuse
  stmt_at (Some t) = stmt_by t.place t.kind

  unfoldable pub one : Parser Stmt
  one = look >>= stmt_at

-- a statement of a height of at most n
unfoldable pub stmt : ℕ → Parser Stmt
stmt zero = refuse
stmt (suc n) = one n (stmt n)

-- the body of a function or a handler
unfoldable pub body : ℕ → Parser Block
body n = within n (here >>= (λ p. expect (is_sign s.LeftBrace) >> stmts (n - 1) (stmt (n - 1)) >>= (λ all. pure (record { place = p; stmts = all }))))
