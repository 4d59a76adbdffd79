-- Names, paths, indices and arguments.
use Rattle.std.specs.Prelude.{ℕ, ◌-◌, Bool, true, false, if◌then◌else◌, nat_eq, List, [], Option, Some, None}
use Rattle.cm_base.specs.declared.place.Place.{Place}
use Rattle.cm_tree.specs.declared.token.Token.{Token}
use Rattle.cm_tree.specs.declared.token.TokenKind.{TokenKind}
use Rattle.cm_tree.specs.declared.token.TokenKind.TheVariants as k
use Rattle.cm_tree.specs.declared.sign.Sign.TheVariants as s
use Rattle.cm_tree.specs.declared.path.Word.{Word}
use Rattle.cm_tree.specs.declared.expr.Expr.{Expr}
use Rattle.cm_tree.specs.declared.type_expr.Typed.{Typed}
use Rattle.token_reader.specs.Parsers.{Parser, ◌>>=◌, ◌>>◌, pure, refuse, look, skip, see, expect, is_sign}
use Rattle.token_reader.specs.Lists.{name, separated}
use Rattle.cm_parse_expr.specs.Reading.{args, binary, expr, type_expr}

-- what is one high at least, in a height of at most n
abbrev pub within : {A : Type 0} → ℕ → Parser A → Parser A
within n p = if nat_eq n 0 then refuse else p

abbrev pub is_name : TokenKind → Bool
is_name (k.Word text) = true
is_name _ = false

abbrev pub place_at : Option Token → Parser Place
place_at None = refuse
place_at (Some t) = pure t.place

-- the place of the next token
unfoldable pub here : Parser Place
here = look >>= place_at

unfoldable pub word : Parser Word
word = name >>= (λ w. pure (record { place = w.0; text = w.1 }))

-- an expression in brackets, with their place
unfoldable pub bracket : ℕ → Parser (Place × Expr)
bracket n = here >>= (λ p. expect (is_sign s.LeftBracket) >> expr (n - 1) >>= (λ e. expect (is_sign s.RightBracket) >> pure (p, e)))

-- an expression in parentheses
unfoldable pub condition : ℕ → Parser Expr
condition n = expect (is_sign s.LeftParenthesis) >> expr n >>= (λ e. expect (is_sign s.RightParenthesis) >> pure e)

unfoldable pub typed : ℕ → Parser Typed
typed n = type_expr n >>= (λ ty. word >>= (λ w. pure (record { ty = ty; name = w })))

abbrev pub listed_if : {A : Type 0} → Parser A → Bool → Parser (List A)
listed_if part none = if none then skip >> pure [] else separated (is_sign s.Comma) part >>= (λ xs. expect (is_sign s.RightParenthesis) >> pure xs)

-- parts in parentheses, with a comma between any two
unfoldable pub in_parentheses : {A : Type 0} → Parser A → Parser (List A)
in_parentheses part = expect (is_sign s.LeftParenthesis) >> see (is_sign s.RightParenthesis) >>= listed_if part

abbrev pub arguments : ℕ → Parser (List Expr)
arguments n = args (expr n) (binary n)
