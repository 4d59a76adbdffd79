-- What a statement begins with, and what that leads to.
use Rattle.std.specs.Prelude.{ℕ, Option, Some, None}
use Rattle.cm_base.specs.declared.place.Place.{Place}
use Rattle.cm_tree.specs.declared.token.TokenKind.{TokenKind}
use Rattle.cm_tree.specs.declared.token.TokenKind.TheVariants as k
use Rattle.cm_tree.specs.declared.sign.Sign.TheVariants as s
use Rattle.cm_tree.specs.declared.reserved.Reserved.{Reserved}
use Rattle.cm_tree.specs.declared.reserved.Reserved.TheVariants as w
use Rattle.cm_tree.specs.declared.stmt.Stmt.{Stmt}
use Rattle.cm_tree.specs.declared.stmt.Stmt.TheVariants as x
use Rattle.token_reader.specs.Parsers.{Parser, ◌>>=◌, ◌>>◌, pure, refuse, look, skip}
use Rattle.file_grammar.specs.Stmts as spec
use Rattle.cm_parser.specs.declared.starts.StmtStart.{StmtStart}
use Rattle.cm_parser.specs.declared.starts.StmtStart.TheVariants as b
use Rattle.cm_parser.specs.declared.starts.Opening.{Opening}
use Rattle.cm_parser.specs.declared.starts.Opening.TheVariants as o

abbrev pub reserved_start : Reserved → Option StmtStart
reserved_start w.Bool = Some b.Base
reserved_start w.Int = Some b.Base
reserved_start w.Int32 = Some b.Base
reserved_start w.Int64 = Some b.Base
reserved_start w.Wrap = Some b.Base
reserved_start w.Clamp = Some b.Base
reserved_start w.Let = Some (b.Opening o.Let)
reserved_start w.Var = Some (b.Opening o.Var)
reserved_start w.StaticAssert = Some (b.Opening o.Assert)
reserved_start w.If = Some (b.Opening o.If)
reserved_start w.Loop = Some (b.Opening o.Loop)
reserved_start w.While = Some (b.Opening o.While)
reserved_start w.For = Some (b.Opening o.For)
reserved_start w.Break = Some (b.Opening o.Break)
reserved_start w.Continue = Some (b.Opening o.Continue)
reserved_start w.Return = Some (b.Opening o.Return)
reserved_start w.Advance = Some (b.Opening o.Advance)
reserved_start _ = None

abbrev pub stmt_start : TokenKind → Option StmtStart
stmt_start (k.Sign s.LeftBrace) = Some (b.Opening o.Block)
stmt_start (k.Sign s.Semicolon) = Some (b.Opening o.Empty)
stmt_start (k.Sign s.PlusPlus) = Some b.Step
stmt_start (k.Sign s.MinusMinus) = Some b.Step
stmt_start (k.Reserved r) = reserved_start r
stmt_start (k.Word name) = Some b.Name
stmt_start _ = None

-- statements that hold others of a height of at most n
module _ (n : ℕ) (stmt : Parser Stmt) where
  abbrev pub opened : Place → Opening → Parser Stmt
  opened p o.Block = spec.block n stmt p
  opened p o.Empty = pure (x.Empty p)
  opened p o.Let = spec.let_stmt n stmt p
  opened p o.Var = spec.var_stmt n stmt p
  opened p o.Assert = spec.assert_stmt n stmt p
  opened p o.If = spec.if_stmt n stmt p
  opened p o.Loop = spec.loop_stmt n stmt p
  opened p o.While = spec.while_stmt n stmt p
  opened p o.For = spec.for_stmt n stmt p
  opened p o.Break = spec.semicolon (x.Break p)
  opened p o.Continue = spec.semicolon (x.Continue p)
  opened p o.Return = spec.return_stmt n stmt p
  opened p o.Advance = spec.advance_stmt n stmt p

  abbrev pub stmt_from : Place → Option StmtStart → Parser Stmt
  stmt_from p None = refuse
  stmt_from p (Some b.Step) = spec.step_stmt n stmt
  stmt_from p (Some b.Base) = spec.based_stmt n
  stmt_from p (Some b.Name) = spec.named_stmt n
  stmt_from p (Some (b.Opening a)) = skip >> opened p a

  -- the head of a `for`, from what stands after `(` on
  unfoldable pub for_head : Place → Parser Stmt
  for_head p = look >>= spec.for_at n stmt p

  -- by what it begins with, which stands at the second place
  abbrev pub head_opened : Place → Place → Opening → Parser Stmt
  head_opened p q o.Empty = spec.for_parts n stmt p None
  head_opened p q o.Let = skip >> spec.for_let n stmt p q
  head_opened p q o.Var = skip >> spec.for_var n stmt p q
  head_opened p q _ = refuse

  abbrev pub head_from : Place → Place → Option StmtStart → Parser Stmt
  head_from p q None = refuse
  head_from p q (Some b.Step) = spec.for_step n stmt p
  head_from p q (Some b.Base) = spec.for_base n stmt p
  head_from p q (Some b.Name) = spec.for_name n stmt p
  head_from p q (Some (b.Opening a)) = head_opened p q a
