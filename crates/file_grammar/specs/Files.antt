-- Declarations and files.
use Rattle.std.specs.Prelude.{ℕ, zero, suc, ◌-◌, Bool, if◌then◌else◌, List, [], Option, Some, None}
use Rattle.cm_base.specs.declared.place.Place.{Place}
use Rattle.cm_tree.specs.declared.token.Token.{Token}
use Rattle.cm_tree.specs.declared.token.TokenKind.{TokenKind}
use Rattle.cm_tree.specs.declared.token.TokenKind.TheVariants as k
use Rattle.cm_tree.specs.declared.sign.Sign.TheVariants as s
use Rattle.cm_tree.specs.declared.reserved.Reserved.{Reserved}
use Rattle.cm_tree.specs.declared.reserved.Reserved.TheVariants as w
use Rattle.cm_tree.specs.declared.shared.Function.{Function}
use Rattle.cm_tree.specs.declared.member.Member.{Member}
use Rattle.cm_tree.specs.declared.decl.Param.{Param}
use Rattle.cm_tree.specs.declared.decl.Param.TheVariants as param
use Rattle.cm_tree.specs.declared.decl.UnitDecl.{UnitDecl}
use Rattle.cm_tree.specs.declared.decl.Decl.{Decl}
use Rattle.cm_tree.specs.declared.decl.Decl.TheVariants as d
use Rattle.token_reader.specs.Parsers.{Parser, ◌>>=◌, ◌>>◌, pure, refuse, look, skip, see, expect, is_sign, is_reserved, is_any}
use Rattle.token_reader.specs.Lists.{separated, while_sees}
use Rattle.cm_parse_expr.specs.Reading.{path, type_expr}
use Rattle.file_grammar.specs.Words.{within, here, word, typed}
use Rattle.file_grammar.specs.Members.{in_braces, keys, structure, alias, constants, asserted, function_of, void_function, processor_member, graph_member}

abbrev pub param_if : ℕ → Place → Bool → Parser Param
param_if n p named = if named then within n (skip >> word >>= (λ name. pure (param.Type p name))) else typed n >>= (λ t. pure (param.Value t.ty t.name))

unfoldable pub one_param : ℕ → Parser Param
one_param n = here >>= (λ p. see (is_reserved w.Using) >>= param_if n p)

abbrev pub params_if : ℕ → Bool → Parser (List Param)
params_if n there =
    if there then skip >> separated (is_sign s.Comma) (one_param n) >>= (λ all. expect (is_sign s.RightParenthesis) >> pure all) else pure []

unfoldable pub params : ℕ → Parser (List Param)
params n = see (is_sign s.LeftParenthesis) >>= params_if n

-- a member of a height of at most n
unfoldable pub below : {A : Type 0} → ℕ → Parser A → Parser A
below n p = within n p

-- a processor or a graph, from its name on
unfoldable pub unit_of : ℕ → Parser Member → Place → Parser UnitDecl
unit_of n item p = word >>= (λ name. params n >>= (λ all. keys n >>= (λ marks. expect (is_sign s.LeftBrace) >> in_braces item >>= (λ members.
    pure (record { place = p; name = name; params = all; keys = marks; members = members })))))

unfoldable pub processor : ℕ → Place → Parser UnitDecl
processor n p = unit_of n (below n (processor_member (n - 1))) p

unfoldable pub graph : ℕ → Place → Parser UnitDecl
graph n p = unit_of n (below n (graph_member (n - 1))) p

unfoldable pub typed_function : ℕ → Place → Parser Function
typed_function n p = type_expr n >>= (λ ty. word >>= function_of n p (Some ty))

-- a declaration that begins with this reserved word, other than `namespace`
abbrev pub reserved_decl : ℕ → Place → Reserved → Parser Decl
reserved_decl n p w.Processor = skip >> processor n p >>= (λ a. pure (d.Processor a))
reserved_decl n p w.Graph = skip >> graph n p >>= (λ a. pure (d.Graph a))
reserved_decl n p w.Struct = skip >> structure n p >>= (λ a. pure (d.Shared a))
reserved_decl n p w.Using = skip >> alias n p >>= (λ a. pure (d.Shared a))
reserved_decl n p w.Let = skip >> constants n p >>= (λ a. pure (d.Shared a))
reserved_decl n p w.StaticAssert = skip >> asserted n p >>= (λ a. pure (d.Shared a))
reserved_decl n p w.Void = skip >> void_function n p >>= (λ f. pure (d.Function f))
reserved_decl n p w.Bool = typed_function n p >>= (λ f. pure (d.Function f))
reserved_decl n p w.Int = typed_function n p >>= (λ f. pure (d.Function f))
reserved_decl n p w.Int32 = typed_function n p >>= (λ f. pure (d.Function f))
reserved_decl n p w.Int64 = typed_function n p >>= (λ f. pure (d.Function f))
reserved_decl n p w.Wrap = typed_function n p >>= (λ f. pure (d.Function f))
reserved_decl n p w.Clamp = typed_function n p >>= (λ f. pure (d.Function f))
reserved_decl n p _ = refuse

-- declarations of a height of at most n
module _ (n : ℕ) (decl : Parser Decl) where
  unfoldable pub namespace_of : Place → Parser Decl
  namespace_of p = path >>= (λ q. expect (is_sign s.LeftBrace) >> in_braces decl >>= (λ all. pure (d.Namespace p q all)))

  abbrev pub decl_by : Place → TokenKind → Parser Decl
  decl_by p (k.Reserved w.Namespace) = skip >> namespace_of p
  decl_by p (k.Reserved r) = reserved_decl n p r
  decl_by p (k.Word name) = typed_function n p >>= (λ f. pure (d.Function f))
  decl_by p _ = refuse

  abbrev pub decl_at : Option Token → Parser Decl
  decl_at None = refuse
  decl_at (Some t) = decl_by t.place t.kind

  unfoldable pub one : Parser Decl
  one = look >>= decl_at

-- a declaration of a height of at most n
unfoldable pub decl : ℕ → Parser Decl
decl zero = refuse
decl (suc n) = one n (decl n)

-- declarations up to the end of the tokens
unfoldable pub decls : ℕ → Parser (List Decl)
decls n = while_sees is_any (decl n) []
