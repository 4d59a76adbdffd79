-- Which tokens spell a statement: the grammar of docs/LANGUAGE.md, "Statements", one constructor for each alternative.
use Rattle.std.specs.Prelude.{ℕ, ◌≡◌, Bool, true, false, List, [], ◌∷◌, ◌++◌, Option, Some, None}
use Rattle.cm_tree.specs.declared.token.Token.{Token}
use Rattle.cm_tree.specs.declared.token.TokenKind.TheVariants as k
use Rattle.cm_tree.specs.declared.sign.Sign.{Sign}
use Rattle.cm_tree.specs.declared.sign.Sign.TheVariants as s
use Rattle.cm_tree.specs.declared.reserved.Reserved.TheVariants as r
use Rattle.cm_tree.specs.declared.operator.Assign.{Assign}
use Rattle.cm_tree.specs.declared.operator.Assign.TheVariants as o
use Rattle.cm_tree.specs.declared.operator.Change.{Change}
use Rattle.cm_tree.specs.declared.operator.Change.TheVariants as c
use Rattle.cm_tree.specs.declared.path.Path.{Path}
use Rattle.cm_tree.specs.declared.path.Word.{Word}
use Rattle.cm_tree.specs.declared.expr.Expr.{Expr}
use Rattle.cm_tree.specs.declared.type_expr.TypeExpr.{TypeExpr}
use Rattle.cm_tree.specs.declared.type_expr.Typed.{Typed}
use Rattle.cm_tree.specs.declared.simple.Init.{Init}
use Rattle.cm_tree.specs.declared.simple.Var.{Var}
use Rattle.cm_tree.specs.declared.simple.Local.{Local}
use Rattle.cm_tree.specs.declared.simple.Local.TheVariants as l
use Rattle.cm_tree.specs.declared.simple.Step.{Step}
use Rattle.cm_tree.specs.declared.simple.Step.TheVariants as st
use Rattle.cm_tree.specs.declared.simple.Target.{Target}
use Rattle.cm_tree.specs.declared.simple.Simple.{Simple}
use Rattle.cm_tree.specs.declared.simple.Simple.TheVariants as i
use Rattle.cm_tree.specs.declared.stmt.Assert.{Assert}
use Rattle.cm_tree.specs.declared.stmt.Start.{Start}
use Rattle.cm_tree.specs.declared.stmt.Start.TheVariants as f
use Rattle.cm_tree.specs.declared.stmt.Block.{Block}
use Rattle.cm_tree.specs.declared.stmt.Stmt.{Stmt, end_of-Stmt, more_of-Stmt}
use Rattle.cm_tree.specs.declared.stmt.Stmt.TheVariants as x
use Rattle.cm_tree.specs.Lists.{Optional, Every, Listed}
use Rattle.cm_tree.specs.Spelling.{IsSign, IsReserved, IsWord, SpellsPath, SpellsExpr, SpellsArgs, SpellsType}

abbrev pub assign_sign : Assign → Sign
assign_sign o.Set = s.Assign
assign_sign o.Add = s.PlusAssign
assign_sign o.Subtract = s.MinusAssign
assign_sign o.Multiply = s.StarAssign
assign_sign o.Divide = s.SlashAssign
assign_sign o.Remainder = s.PercentAssign
assign_sign o.BitAnd = s.AmpersandAssign
assign_sign o.BitOr = s.BarAssign
assign_sign o.BitXor = s.CaretAssign
assign_sign o.ShiftLeft = s.ShiftLeftAssign
assign_sign o.ShiftRight = s.ShiftRightAssign
assign_sign o.ShiftRightZero = s.ShiftRightZeroAssign

abbrev pub change_sign : Change → Sign
change_sign c.Increase = s.PlusPlus
change_sign c.Decrease = s.MinusMinus

-- NAME, on its own
pub data SpellsWord : Word → List Token → Type 0 where
  word : (w : Word) (t : Token) → IsWord w t → SpellsWord w (t ∷ [])

-- type NAME
pub data SpellsTyped : Typed → List Token → Type 0 where
  typed : (ty : TypeExpr) (w : Word) (t : Token) (front : List Token)
      → SpellsType ty front → IsWord w t → SpellsTyped (record { ty = ty; name = w }) (front ++ t ∷ [])

-- ---- inits, vars, local

-- NAME "=" expr
pub data SpellsInit : Init → List Token → Type 0 where
  init : (w : Word) (a : Expr) (t equals : Token) (value : List Token)
      → IsWord w t → IsSign s.Assign equals → SpellsExpr a value → SpellsInit (record { name = w; value = a }) (t ∷ equals ∷ value)

-- NAME [ "=" expr ]
pub data SpellsVar : Var → List Token → Type 0 where
  bare : (w : Word) (t : Token) → IsWord w t → SpellsVar (record { name = w; value = None }) (t ∷ [])
  init : (w : Word) (a : Expr) (t equals : Token) (value : List Token)
      → IsWord w t → IsSign s.Assign equals → SpellsExpr a value → SpellsVar (record { name = w; value = Some a }) (t ∷ equals ∷ value)

-- local = ( "let" | "var" ) inits | type vars
pub data SpellsLocal : Local → List Token → Type 0 where
  constants : (all : List Init) (t : Token) (others : List Token)
      → IsReserved r.Let t → Listed SpellsInit all others → SpellsLocal (l.Let t.place all) (t ∷ others)
  variables : (all : List Init) (t : Token) (others : List Token)
      → IsReserved r.Var t → Listed SpellsInit all others → SpellsLocal (l.Var t.place all) (t ∷ others)
  typed : (ty : TypeExpr) (all : List Var) (front others : List Token)
      → SpellsType ty front → Listed SpellsVar all others → SpellsLocal (l.Typed ty all) (front ++ others)

-- ---- place, simple

-- "." NAME | "[" expr "]"
pub data SpellsStep : Step → List Token → Type 0 where
  field : (w : Word) (dot t : Token) → IsSign s.Dot dot → IsWord w t → SpellsStep (st.Field w) (dot ∷ t ∷ [])
  index : (a : Expr) (o c : Token) (inner : List Token)
      → IsSign s.LeftBracket o → SpellsExpr a inner → IsSign s.RightBracket c → SpellsStep (st.Index o.place a) (o ∷ (inner ++ c ∷ []))

-- place = NAME { "." NAME | "[" expr "]" }
pub data SpellsTarget : Target → List Token → Type 0 where
  target : (w : Word) (steps : List Step) (t : Token) (others : List Token)
      → IsWord w t → Every SpellsStep steps others → SpellsTarget (record { name = w; steps = steps }) (t ∷ others)

-- simple = place ASSIGN expr | place ( "++" | "--" ) | ( "++" | "--" ) place | call
pub data SpellsSimple : Simple → List Token → Type 0 where
  assign : (v : Target) (op : Assign) (a : Expr) (t : Token) (front value : List Token)
      → SpellsTarget v front → IsSign (assign_sign op) t → SpellsExpr a value → SpellsSimple (i.Assign v op a) (front ++ t ∷ value)
  after : (v : Target) (op : Change) (t : Token) (front : List Token)
      → SpellsTarget v front → IsSign (change_sign op) t → SpellsSimple (i.After v op) (front ++ t ∷ [])
  before : (v : Target) (op : Change) (t : Token) (others : List Token)
      → IsSign (change_sign op) t → SpellsTarget v others → SpellsSimple (i.Before t.place op v) (t ∷ others)
  call : (q : Path) (args : List Expr) (o c : Token) (front inner : List Token)
      → SpellsPath q front → IsSign s.LeftParenthesis o → SpellsArgs args inner → IsSign s.RightParenthesis c
      → SpellsSimple (i.Call q args) (front ++ o ∷ (inner ++ c ∷ []))

-- ---- statements

-- assert = "static_assert" "(" expr [ "," STRING ] ")" ";"
pub data SpellsAssert : Assert → List Token → Type 0 where
  bare : (a : Expr) (t o c end : Token) (inner : List Token)
      → IsReserved r.StaticAssert t → IsSign s.LeftParenthesis o → SpellsExpr a inner → IsSign s.RightParenthesis c → IsSign s.Semicolon end
      → SpellsAssert (record { place = t.place; condition = a; text = None }) (t ∷ o ∷ (inner ++ c ∷ end ∷ []))
  told : (a : Expr) (text : List ℕ) (t o comma v c end : Token) (inner : List Token)
      → IsReserved r.StaticAssert t → IsSign s.LeftParenthesis o → SpellsExpr a inner → IsSign s.Comma comma → v.kind ≡ k.Text text
      → IsSign s.RightParenthesis c → IsSign s.Semicolon end
      → SpellsAssert (record { place = t.place; condition = a; text = Some text }) (t ∷ o ∷ (inner ++ comma ∷ v ∷ c ∷ end ∷ []))

-- [ local | simple ]
pub data SpellsStart : Start → List Token → Type 0 where
  declared : (a : Local) (tokens : List Token) → SpellsLocal a tokens → SpellsStart (f.Local a) tokens
  simple : (a : Simple) (tokens : List Token) → SpellsSimple a tokens → SpellsStart (f.Simple a) tokens

-- it ends in an `if` that has no `else`, and an `else` after it would belong to that one
unfoldable pub is_open : Stmt → Bool
is_open (x.Block' p sh all) = false
is_open (x.Empty p) = false
is_open (x.Local a) = false
is_open (x.Simple a) = false
is_open (x.Assert a) = false
is_open (x.If' p c sh a) = true
is_open (x.IfElse' p c sh a si (more_of-Stmt b end_of-Stmt)) = is_open b
is_open (x.Loop' p c sh (more_of-Stmt a end_of-Stmt)) = is_open a
is_open (x.While' p c sh (more_of-Stmt a end_of-Stmt)) = is_open a
is_open (x.ForType' p ty w sh (more_of-Stmt a end_of-Stmt)) = is_open a
is_open (x.For' p b c n sh (more_of-Stmt a end_of-Stmt)) = is_open a
is_open (x.Break p) = false
is_open (x.Continue p) = false
is_open (x.Return p c) = false
is_open (x.Advance p) = false
is_open (x.Write w a) = false

mutual
  -- stmt; an `else` belongs to the nearest `if`
  pub data SpellsStmt : Stmt → List Token → Type 0 where
    block : (all : List Stmt) (o c : Token) (inner : List Token)
        → IsSign s.LeftBrace o → SpellsStmts all inner → IsSign s.RightBrace c → SpellsStmt (x.Block o.place all) (o ∷ (inner ++ c ∷ []))
    empty : (t : Token) → IsSign s.Semicolon t → SpellsStmt (x.Empty t.place) (t ∷ [])
    declared : (a : Local) (end : Token) (front : List Token)
        → SpellsLocal a front → IsSign s.Semicolon end → SpellsStmt (x.Local a) (front ++ end ∷ [])
    simple : (a : Simple) (end : Token) (front : List Token)
        → SpellsSimple a front → IsSign s.Semicolon end → SpellsStmt (x.Simple a) (front ++ end ∷ [])
    asserted : (a : Assert) (tokens : List Token) → SpellsAssert a tokens → SpellsStmt (x.Assert a) tokens
    if_only : (c : Expr) (a : Stmt) (t o p : Token) (test yes : List Token)
        → IsReserved r.If t → IsSign s.LeftParenthesis o → SpellsExpr c test → IsSign s.RightParenthesis p → SpellsStmt a yes
        → SpellsStmt (x.If t.place c a) (t ∷ o ∷ (test ++ p ∷ yes))
    if_else : (c : Expr) (a b : Stmt) (t o p v : Token) (test yes no : List Token)
        → IsReserved r.If t → IsSign s.LeftParenthesis o → SpellsExpr c test → IsSign s.RightParenthesis p → SpellsStmt a yes
        → is_open a ≡ false → IsReserved r.Else v → SpellsStmt b no
        → SpellsStmt (x.IfElse t.place c a b) (t ∷ o ∷ (test ++ p ∷ (yes ++ v ∷ no)))
    forever : (a : Stmt) (t : Token) (body : List Token)
        → IsReserved r.Loop t → SpellsStmt a body → SpellsStmt (x.Loop t.place None a) (t ∷ body)
    times : (c : Expr) (a : Stmt) (t o p : Token) (count body : List Token)
        → IsReserved r.Loop t → IsSign s.LeftParenthesis o → SpellsExpr c count → IsSign s.RightParenthesis p → SpellsStmt a body
        → SpellsStmt (x.Loop t.place (Some c) a) (t ∷ o ∷ (count ++ p ∷ body))
    while : (c : Expr) (a : Stmt) (t o p : Token) (test body : List Token)
        → IsReserved r.While t → IsSign s.LeftParenthesis o → SpellsExpr c test → IsSign s.RightParenthesis p → SpellsStmt a body
        → SpellsStmt (x.While t.place c a) (t ∷ o ∷ (test ++ p ∷ body))
    for_type : (ty : TypeExpr) (w : Word) (a : Stmt) (t o n p : Token) (front body : List Token)
        → IsReserved r.For t → IsSign s.LeftParenthesis o → SpellsType ty front → IsWord w n → IsSign s.RightParenthesis p → SpellsStmt a body
        → SpellsStmt (x.ForType t.place ty w a) (t ∷ o ∷ (front ++ n ∷ p ∷ body))
    for_parts : (b : Option Start) (c : Option Expr) (n : Option Simple) (a : Stmt) (t o u v p : Token) (first test next body : List Token)
        → IsReserved r.For t → IsSign s.LeftParenthesis o → Optional SpellsStart b first → IsSign s.Semicolon u → Optional SpellsExpr c test → IsSign s.Semicolon v
        → Optional SpellsSimple n next → IsSign s.RightParenthesis p → SpellsStmt a body
        → SpellsStmt (x.For t.place b c n a) (t ∷ o ∷ (first ++ u ∷ (test ++ v ∷ (next ++ p ∷ body))))
    break : (t end : Token) → IsReserved r.Break t → IsSign s.Semicolon end → SpellsStmt (x.Break t.place) (t ∷ end ∷ [])
    continue : (t end : Token) → IsReserved r.Continue t → IsSign s.Semicolon end → SpellsStmt (x.Continue t.place) (t ∷ end ∷ [])
    return : (c : Option Expr) (t end : Token) (value : List Token)
        → IsReserved r.Return t → Optional SpellsExpr c value → IsSign s.Semicolon end → SpellsStmt (x.Return t.place c) (t ∷ (value ++ end ∷ []))
    advance : (t o p end : Token)
        → IsReserved r.Advance t → IsSign s.LeftParenthesis o → IsSign s.RightParenthesis p → IsSign s.Semicolon end
        → SpellsStmt (x.Advance t.place) (t ∷ o ∷ p ∷ end ∷ [])
    write : (w : Word) (a : Expr) (t arrow end : Token) (value : List Token)
        → IsWord w t → IsSign s.LeftArrow arrow → SpellsExpr a value → IsSign s.Semicolon end
        → SpellsStmt (x.Write w a) (t ∷ arrow ∷ (value ++ end ∷ []))

  -- { stmt }
  pub data SpellsStmts : List Stmt → List Token → Type 0 where
    no_stmts : SpellsStmts [] []
    stmts : (a : Stmt) (all : List Stmt) (first others : List Token)
        → SpellsStmt a first → SpellsStmts all others → SpellsStmts (a ∷ all) (first ++ others)

-- block = "{" { stmt } "}"
pub data SpellsBlock : Block → List Token → Type 0 where
  block : (all : List Stmt) (o c : Token) (inner : List Token)
      → IsSign s.LeftBrace o → SpellsStmts all inner → IsSign s.RightBrace c
      → SpellsBlock (record { place = o.place; stmts = all }) (o ∷ (inner ++ c ∷ []))
