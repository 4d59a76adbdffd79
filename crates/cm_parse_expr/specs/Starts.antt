-- What an atom or a base type begins with.
use Rattle.std.specs.Prelude.{true, false, Option, Some, None}
use Rattle.cm_tree.specs.declared.token.TokenKind.{TokenKind}
use Rattle.cm_tree.specs.declared.token.TokenKind.TheVariants as k
use Rattle.cm_tree.specs.declared.sign.Sign.TheVariants as s
use Rattle.cm_tree.specs.declared.reserved.Reserved.TheVariants as w
use Rattle.cm_parse_expr.specs.declared.start.Start.{Start}
use Rattle.cm_parse_expr.specs.declared.start.Start.TheVariants as a
use Rattle.cm_parse_expr.specs.declared.start.BaseWord.{BaseWord}
use Rattle.cm_parse_expr.specs.declared.start.BaseWord.TheVariants as b
use Rattle.cm_parse_expr.specs.declared.start.Plain.{Plain}
use Rattle.cm_parse_expr.specs.declared.start.Plain.TheVariants as p
use Rattle.cm_parse_expr.specs.declared.start.Counted.{Counted}
use Rattle.cm_parse_expr.specs.declared.start.Counted.TheVariants as c
use Rattle.cm_base.specs.declared.place.Place.{Place}
use Rattle.cm_tree.specs.declared.token.Token.{Token}
use Rattle.cm_tree.specs.declared.expr.Expr.{Expr}
use Rattle.cm_tree.specs.declared.expr.Expr.TheVariants as e
use Rattle.token_reader.specs.Parsers.{Parser, ◌>>=◌, ◌>>◌, pure, refuse, look, skip}
use Rattle.cm_tree.specs.declared.expr.Base.{Base}
use Rattle.cm_tree.specs.declared.expr.Base.TheVariants as y

abbrev pub start_of : TokenKind → Option Start
start_of (k.Number v wide) = Some a.Number
start_of (k.Reserved w.True) = Some (a.Truth true)
start_of (k.Reserved w.False) = Some (a.Truth false)
start_of (k.Reserved w.Bool) = Some a.Base
start_of (k.Reserved w.Int) = Some a.Base
start_of (k.Reserved w.Int32) = Some a.Base
start_of (k.Reserved w.Int64) = Some a.Base
start_of (k.Reserved w.Wrap) = Some a.Base
start_of (k.Reserved w.Clamp) = Some a.Base
start_of (k.Word text) = Some a.Path
start_of (k.Sign s.LeftParenthesis) = Some a.Parenthesis
start_of _ = None

abbrev pub base_word_of : TokenKind → Option BaseWord
base_word_of (k.Reserved w.Bool) = Some (b.Plain p.Bool)
base_word_of (k.Reserved w.Int) = Some (b.Plain p.Int)
base_word_of (k.Reserved w.Int32) = Some (b.Plain p.Int32)
base_word_of (k.Reserved w.Int64) = Some (b.Plain p.Int64)
base_word_of (k.Reserved w.Wrap) = Some (b.Counted c.Wrap)
base_word_of (k.Reserved w.Clamp) = Some (b.Counted c.Clamp)
base_word_of _ = None

abbrev pub plain_base : Place → Plain → Base
plain_base at p.Bool = y.Bool at
plain_base at p.Int = y.Int at
plain_base at p.Int32 = y.Int32 at
plain_base at p.Int64 = y.Int64 at

abbrev pub counted_base : Place → Counted → Expr → Base
counted_base at c.Wrap count = y.Wrap at count
counted_base at c.Clamp count = y.Clamp at count

abbrev pub number_by : Place → TokenKind → Parser Expr
number_by at (k.Number v wide) = skip >> pure (e.Number at v wide)
number_by at _ = refuse

abbrev pub number_at : Option Token → Parser Expr
number_at None = refuse
number_at (Some t) = number_by t.place t.kind

-- a number, with its place
unfoldable pub number : Parser Expr
number = look >>= number_at
