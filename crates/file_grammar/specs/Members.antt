-- What declarations are made of: annotations, endpoints, shared declarations, functions, nodes, connections, members.
use Rattle.std.specs.Prelude.{ℕ, Bool, true, false, if◌then◌else◌, codes, List, [], ◌∷◌, Option, Some, None}
use Rattle.cm_base.specs.declared.place.Place.{Place}
use Rattle.cm_base.specs.declared.host.Flow.{Flow}
use Rattle.cm_base.specs.declared.host.Flow.TheVariants as flow
use Rattle.cm_base.specs.declared.host.Kind.{Kind}
use Rattle.cm_base.specs.declared.host.Kind.TheVariants as kind
use Rattle.cm_tree.specs.declared.token.Token.{Token}
use Rattle.cm_tree.specs.declared.token.TokenKind.{TokenKind}
use Rattle.cm_tree.specs.declared.token.TokenKind.TheVariants as k
use Rattle.cm_tree.specs.declared.sign.Sign.TheVariants as s
use Rattle.cm_tree.specs.declared.reserved.Reserved.{Reserved}
use Rattle.cm_tree.specs.declared.reserved.Reserved.TheVariants as w
use Rattle.cm_tree.specs.declared.path.Word.{Word}
use Rattle.cm_tree.specs.declared.expr.Expr.{Expr}
use Rattle.cm_tree.specs.declared.type_expr.TypeExpr.{TypeExpr}
use Rattle.cm_tree.specs.declared.type_expr.Arg.{Arg}
use Rattle.cm_tree.specs.declared.shared.Fields.{Fields}
use Rattle.cm_tree.specs.declared.shared.Shared.{Shared}
use Rattle.cm_tree.specs.declared.shared.Shared.TheVariants as shared
use Rattle.cm_tree.specs.declared.shared.Function.{Function}
use Rattle.cm_tree.specs.declared.member.KeyValue.{KeyValue}
use Rattle.cm_tree.specs.declared.member.KeyValue.TheVariants as key
use Rattle.cm_tree.specs.declared.member.Key.{Key}
use Rattle.cm_tree.specs.declared.member.EndName.{EndName}
use Rattle.cm_tree.specs.declared.member.End.{End}
use Rattle.cm_tree.specs.declared.member.Node.{Node}
use Rattle.cm_tree.specs.declared.member.Point.{Point}
use Rattle.cm_tree.specs.declared.member.Link.{Link}
use Rattle.cm_tree.specs.declared.member.Member.{Member}
use Rattle.cm_tree.specs.declared.member.Member.TheVariants as member
use Rattle.token_reader.specs.Parsers.{Parser, ◌>>=◌, ◌>>◌, pure, refuse, look, skip, see, expect, is_sign, is_word, is_other}
use Rattle.token_reader.specs.Lists.{text, separated, while_sees, optional}
use Rattle.cm_parse_expr.specs.Reading.{path, expr, type_expr, arg}
use Rattle.file_grammar.specs.Words.{within, here, word, bracket, typed, in_parentheses}
use Rattle.file_grammar.specs.Simples.{value, inits, vars_of}
use Rattle.file_grammar.specs.Stmts.{assertion, semicolon, body}

abbrev pub is_text : TokenKind → Bool
is_text (k.Text bytes) = true
is_text _ = false

-- up to `}`
unfoldable pub in_braces : {A : Type 0} → Parser A → Parser (List A)
in_braces part = while_sees (is_other s.RightBrace) part [] >>= (λ all. expect (is_sign s.RightBrace) >> pure all)

abbrev pub group_if : {A : Type 0} → Parser A → Bool → Parser (List A)
group_if part several = if several then skip >> in_braces part else part >>= (λ x. pure (x ∷ []))

-- one part, or several in braces
unfoldable pub group : {A : Type 0} → Parser A → Parser (List A)
group part = see (is_sign s.LeftBrace) >>= group_if part

-- ---- annotations

abbrev pub key_value_if : ℕ → Bool → Parser KeyValue
key_value_if n is_string = if is_string then text >>= (λ t. pure (key.Text t.0 t.1)) else expr n >>= (λ e. pure (key.Value e))

unfoldable pub key_value : ℕ → Parser KeyValue
key_value n = expect (is_sign s.Colon) >> see is_text >>= key_value_if n

unfoldable pub one_key : ℕ → Parser Key
one_key n = word >>= (λ name. optional (is_sign s.Colon) (key_value n) >>= (λ v. pure (record { name = name; value = v })))

abbrev pub keys_if : ℕ → Bool → Parser (List Key)
keys_if n there =
    if there then skip >> expect (is_sign s.LeftBracket) >> separated (is_sign s.Comma) (one_key n) >>= (λ all.
    expect (is_sign s.RightBracket) >> expect (is_sign s.RightBracket) >> pure all)
    else pure []

unfoldable pub keys : ℕ → Parser (List Key)
keys n = see (is_sign s.LeftBracket) >>= keys_if n

-- ---- endpoints

unfoldable pub end_name : ℕ → Parser EndName
end_name n = word >>= (λ name. keys n >>= (λ all. pure (record { name = name; keys = all })))

abbrev pub kind_of : TokenKind → Option Kind
kind_of (k.Reserved w.Event) = Some kind.Event
kind_of t = if is_word (codes "stream") t then Some kind.Stream else (if is_word (codes "value") t then Some kind.Value else None)

-- from the names on
unfoldable pub end_names : ℕ → Place → Kind → TypeExpr → Parser End
end_names n p which ty = separated (is_sign s.Comma) (end_name n) >>= (λ names. semicolon (record { place = p; kind = which; ty = ty; names = names }))

abbrev pub end_by : ℕ → Place → Option Kind → Parser End
end_by n p None = refuse
end_by n p (Some which) = skip >> type_expr n >>= end_names n p which

abbrev pub end_at : ℕ → Option Token → Parser End
end_at n None = refuse
end_at n (Some t) = end_by n t.place (kind_of t.kind)

unfoldable pub one_end : ℕ → Parser End
one_end n = look >>= end_at n

unfoldable pub ends : ℕ → Place → Flow → Parser Member
ends n p way = group (one_end n) >>= (λ all. pure (member.Ends p way all))

-- ---- declarations of every place

unfoldable pub fields : ℕ → Parser Fields
fields n = type_expr n >>= (λ ty. separated (is_sign s.Comma) word >>= (λ names. semicolon (record { ty = ty; names = names })))

unfoldable pub structure : ℕ → Place → Parser Shared
structure n p = word >>= (λ name. expect (is_sign s.LeftBrace) >> in_braces (fields n) >>= (λ all. pure (shared.Struct p name all)))

unfoldable pub alias : ℕ → Place → Parser Shared
alias n p = word >>= (λ name. expect (is_sign s.Assign) >> type_expr n >>= (λ ty. semicolon (shared.Using p name ty)))

unfoldable pub constants : ℕ → Place → Parser Shared
constants n p = inits n >>= (λ all. semicolon (shared.Let p all))

unfoldable pub asserted : ℕ → Place → Parser Shared
asserted n p = assertion n p >>= (λ a. pure (shared.Assert a))

-- ---- functions

-- from the parentheses on
unfoldable pub function_of : ℕ → Place → Option TypeExpr → Word → Parser Function
function_of n p ty name = in_parentheses (typed n) >>= (λ params. body n >>= (λ b.
    pure (record { place = p; result = ty; name = name; params = params; body = b })))

unfoldable pub void_function : ℕ → Place → Parser Function
void_function n p = word >>= function_of n p None

-- ---- nodes

abbrev pub args_if : ℕ → Bool → Parser (List Arg)
args_if n there =
    if there then skip >> separated (is_sign s.Comma) (arg n) >>= (λ all. expect (is_sign s.RightParenthesis) >> pure all) else pure []

unfoldable pub args : ℕ → Parser (List Arg)
args n = see (is_sign s.LeftParenthesis) >>= args_if n

unfoldable pub index : ℕ → Parser Expr
index n = bracket n >>= (λ q. pure q.1)

unfoldable pub factor : ℕ → Parser Expr
factor n = expect (is_sign s.Star) >> expr n

unfoldable pub one_node : ℕ → Parser Node
one_node n = word >>= (λ name. expect (is_sign s.Assign) >> within n path >>= (λ q. args n >>= (λ all.
    optional (is_sign s.LeftBracket) (index n) >>= (λ count. optional (is_sign s.Star) (factor n) >>= (λ f.
    pure (record { name = name; path = q; args = all; count = count; factor = f }))))))

unfoldable pub nodes : ℕ → Place → Parser Member
nodes n p = separated (is_sign s.Comma) (one_node n) >>= (λ all. semicolon (member.Nodes p all))

-- ---- connections

unfoldable pub dotted : Parser Word
dotted = expect (is_sign s.Dot) >> word

unfoldable pub point : ℕ → Parser Point
point n = within n (word >>= (λ name. optional (is_sign s.LeftBracket) (index n) >>= (λ i. optional (is_sign s.Dot) dotted >>= (λ e.
    pure (record { name = name; index = i; end = e })))))

unfoldable pub delay : ℕ → Parser Expr
delay n = expect (is_sign s.LeftBracket) >> expr n >>= (λ e. expect (is_sign s.RightBracket) >> expect (is_sign s.Arrow) >> pure e)

unfoldable pub link_of : ℕ → Place → Bool → Parser Link
link_of n p latch = point n >>= (λ a. expect (is_sign s.Arrow) >> optional (is_sign s.LeftBracket) (delay n) >>= (λ d. point n >>= (λ b.
    semicolon (record { place = p; latch = latch; from = a; delay = d; to = b }))))

abbrev pub link_if : ℕ → Place → Bool → Parser Link
link_if n p latch = if latch then skip >> expect (is_word (codes "latch")) >> expect (is_sign s.RightBracket) >> link_of n p true else link_of n p false

unfoldable pub link : ℕ → Parser Link
link n = here >>= (λ p. see (is_sign s.LeftBracket) >>= link_if n p)

unfoldable pub connection : ℕ → Place → Parser Member
connection n p = group (link n) >>= (λ all. pure (member.Connection p all))

-- ---- members

unfoldable pub handler : ℕ → Place → Parser Member
handler n p = word >>= (λ name. expect (is_sign s.LeftParenthesis) >> typed n >>= (λ a. expect (is_sign s.RightParenthesis) >> body n >>= (λ b.
    pure (member.Handler p name a b))))

unfoldable pub variables : ℕ → Place → Parser Member
variables n p = inits n >>= (λ all. semicolon (member.Var p all))

unfoldable pub latency : ℕ → Place → Parser Member
latency n p = expect (is_sign s.Dot) >> expect (is_word (codes "latency")) >> value n >>= (λ e. semicolon (member.Latency p e))

abbrev pub typed_member_if : ℕ → Place → TypeExpr → Word → Bool → Parser Member
typed_member_if n p ty name called =
    if called then function_of n p (Some ty) name >>= (λ f. pure (member.Function f))
    else vars_of n name >>= (λ all. semicolon (member.State ty all))

-- a function with a result, or state: the token after the name tells
unfoldable pub typed_member : ℕ → Place → Parser Member
typed_member n p = type_expr n >>= (λ ty. word >>= (λ name. see (is_sign s.LeftParenthesis) >>= typed_member_if n p ty name))

-- the reserved words that begin a declaration of every place
abbrev pub is_shared : Reserved → Bool
is_shared w.Struct = true
is_shared w.Using = true
is_shared w.Let = true
is_shared w.StaticAssert = true
is_shared _ = false

abbrev pub shared_by : ℕ → Place → Reserved → Parser Shared
shared_by n p w.Struct = structure n p
shared_by n p w.Using = alias n p
shared_by n p w.Let = constants n p
shared_by n p w.StaticAssert = asserted n p
shared_by n p _ = refuse

abbrev pub shared_member : Parser Shared → Parser Member
shared_member a = skip >> a >>= (λ x. pure (member.Shared x))

abbrev pub processor_member_by : ℕ → Place → TokenKind → Parser Member
processor_member_by n p (k.Reserved w.Input) = skip >> ends n p flow.Input
processor_member_by n p (k.Reserved w.Output) = skip >> ends n p flow.Output
processor_member_by n p (k.Reserved w.Struct) = shared_member (structure n p)
processor_member_by n p (k.Reserved w.Using) = shared_member (alias n p)
processor_member_by n p (k.Reserved w.Let) = shared_member (constants n p)
processor_member_by n p (k.Reserved w.StaticAssert) = shared_member (asserted n p)
processor_member_by n p (k.Reserved w.Event) = skip >> handler n p
processor_member_by n p (k.Reserved w.Var) = skip >> variables n p
processor_member_by n p (k.Reserved w.Processor) = skip >> latency n p
processor_member_by n p (k.Reserved w.Void) = skip >> void_function n p >>= (λ f. pure (member.Function f))
processor_member_by n p (k.Reserved w.Bool) = typed_member n p
processor_member_by n p (k.Reserved w.Int) = typed_member n p
processor_member_by n p (k.Reserved w.Int32) = typed_member n p
processor_member_by n p (k.Reserved w.Int64) = typed_member n p
processor_member_by n p (k.Reserved w.Wrap) = typed_member n p
processor_member_by n p (k.Reserved w.Clamp) = typed_member n p
processor_member_by n p (k.Word name) = typed_member n p
processor_member_by n p _ = refuse

abbrev pub processor_member_at : ℕ → Option Token → Parser Member
processor_member_at n None = refuse
processor_member_at n (Some t) = processor_member_by n t.place t.kind

-- a member of a processor whose parts are at most n high
unfoldable pub processor_member : ℕ → Parser Member
processor_member n = look >>= processor_member_at n

abbrev pub graph_member_by : ℕ → Place → TokenKind → Parser Member
graph_member_by n p (k.Reserved w.Input) = skip >> ends n p flow.Input
graph_member_by n p (k.Reserved w.Output) = skip >> ends n p flow.Output
graph_member_by n p (k.Reserved w.Struct) = shared_member (structure n p)
graph_member_by n p (k.Reserved w.Using) = shared_member (alias n p)
graph_member_by n p (k.Reserved w.Let) = shared_member (constants n p)
graph_member_by n p (k.Reserved w.StaticAssert) = shared_member (asserted n p)
graph_member_by n p (k.Reserved w.Node) = skip >> nodes n p
graph_member_by n p (k.Reserved w.Connection) = skip >> connection n p
graph_member_by n p _ = refuse

abbrev pub graph_member_at : ℕ → Option Token → Parser Member
graph_member_at n None = refuse
graph_member_at n (Some t) = graph_member_by n t.place t.kind

unfoldable pub graph_member : ℕ → Parser Member
graph_member n = look >>= graph_member_at n
