-- What steps declare in the innermost scope: docs/LANGUAGE.md, "Names". They declare the last name first, so that the first of
-- two equal names is found, as in the scope of a processor, a graph or a function.
use Rattle.std.specs.Prelude.{ℕ, List, [], ◌∷◌, ◌++◌, map, flat_map, slice_index_or, Option, Some, None}
use Rattle.cm_tree.specs.declared.path.Path.{Path}
use Rattle.cm_tree.specs.declared.expr.Expr.{Expr}
use Rattle.cm_tree.specs.declared.type_expr.Arg.{Arg}
use Rattle.cm_tree.specs.declared.type_expr.Typed.{Typed}
use Rattle.cm_tree.specs.declared.simple.Init.{Init}
use Rattle.cm_tree.specs.declared.stmt.Block.{Block}
use Rattle.cm_tree.specs.declared.shared.Function.{Function as FunctionDecl}
use Rattle.cm_tree.specs.declared.member.EndName.{EndName}
use Rattle.cm_tree.specs.declared.member.Key.{Key}
use Rattle.cm_tree.specs.declared.decl.UnitDecl.{UnitDecl}
use Rattle.cm_tree.specs.declared.file.File.{File}
use Rattle.cm_meaning.specs.Declared.{Space, Home, Declared}
use Rattle.cm_meaning.specs.Scopes.{Around, parameter, with_local}
use Rattle.cm_meaning.specs.Sites.{Site, site, Defines, GivesNode, Opens, TakesAny, expr_sites}
use Rattle.cm_meaning.specs.BodySites.{block_sites}
use Rattle.cm_meaning.specs.PatchSites.{decl_sites, given_sites, key_value_sites, keys_sites, member_sites, param_sites, result_sites, takes, typed_sites}
use Rattle.scope_walk.specs.Bodies.{alone}
use Rattle.scope_walk.specs.Steps.{Step, Walks, whole_sites}

-- scopes with these names in front of those of the innermost one
unfoldable pub in_front : List Declared → List (List Declared) → List (List Declared)
in_front [] scopes = scopes
in_front (x ∷ xs) scopes = with_local x (in_front xs scopes)

abbrev pub filled : Around → List Declared → Around
filled r xs = record r { scopes = in_front xs r.scopes }

-- steps are added that declare these names, with no site
abbrev pub Declares : List Step → List Step → (Home → List Declared) → Type 0
Declares old new names = Walks old new (λ r. []) (λ r. filled r (names r.home))

-- the sites of an argument of a node that is an expression: a path alone is judged as an argument
abbrev pub unnamed : Option Path → List Site → List Site
unnamed (Some q) sites = []
unnamed None sites = sites

abbrev pub value_sites : Around → Expr → List Site
value_sites r a = unnamed (alone a) (expr_sites r a)

-- those of an argument of a node with this path, by its position
abbrev pub arg_sites : Path → ℕ → Around → Arg → List Site
arg_sites path k r a = site r (GivesNode (slice_index_or (takes r path) k TakesAny) a) ∷ given_sites r a

-- those of a function, where its parameters are declared
abbrev pub own_sites : Around → FunctionDecl → List Site
own_sites r f = site r (Defines f) ∷ (result_sites r f.result ++ (site r (Opens (map (parameter r.home) f.params)) ∷ (flat_map (typed_sites r) f.params ++ block_sites r f.body)))

-- those of a handler, where its parameter is declared
abbrev pub handled_sites : Around → Typed → Block → List Site
handled_sites r t b = site r (Opens (parameter r.home t ∷ [])) ∷ (typed_sites r t ++ block_sites r b)

-- those of a processor or a graph, where its names are declared and a declaration stands in it
abbrev pub inner_sites : Around → UnitDecl → List Site
inner_sites r u = whole_sites r r.home.unit ++ (flat_map (param_sites r) u.params ++ (keys_sites r u.keys ++ flat_map (member_sites r) u.members))

-- those of a variable's value, and of an endpoint's annotation
abbrev pub init_sites : Around → Init → List Site
init_sites r a = expr_sites r a.value

abbrev pub end_name_sites : Around → EndName → List Site
end_name_sites r a = keys_sites r a.keys

-- those of a file whose declarations stand in a namespace
abbrev pub file_sites : List Declared → Space → File → List Site
file_sites all space f = flat_map (decl_sites all space) f.decls

-- those of a key of an annotation
abbrev pub key_sites : Around → Key → List Site
key_sites r a = key_value_sites r a.value
