-- The sites of declarations, members and whole files: docs/LANGUAGE.md, "Names".
use Rattle.std.specs.Prelude.{List, [], ◌∷◌, ◌++◌, map, flat_map, Option, Some, None, option_and_then}
use Rattle.cm_base.specs.declared.place.Place.{Place}
use Rattle.cm_tree.specs.declared.path.Path.{Path}
use Rattle.cm_tree.specs.declared.path.Word.{Word}
use Rattle.cm_tree.specs.declared.expr.Expr.TheVariants as e
use Rattle.cm_tree.specs.declared.type_expr.TypeExpr.{TypeExpr}
use Rattle.cm_tree.specs.declared.type_expr.Arg.{Arg}
use Rattle.cm_tree.specs.declared.type_expr.Arg.TheVariants as g
use Rattle.cm_tree.specs.declared.type_expr.Typed.{Typed}
use Rattle.cm_tree.specs.declared.simple.Init.{Init}
use Rattle.cm_tree.specs.declared.simple.Var.{Var}
use Rattle.cm_tree.specs.declared.stmt.Block.{Block}
use Rattle.cm_tree.specs.declared.shared.Fields.{Fields}
use Rattle.cm_tree.specs.declared.shared.Shared.{Shared}
use Rattle.cm_tree.specs.declared.shared.Shared.TheVariants as h
use Rattle.cm_tree.specs.declared.shared.Function.{Function as FunctionDecl}
use Rattle.cm_tree.specs.declared.member.KeyValue.TheVariants as kv
use Rattle.cm_tree.specs.declared.member.KeyValue.{KeyValue}
use Rattle.cm_tree.specs.declared.member.Key.{Key}
use Rattle.cm_tree.specs.declared.member.EndName.{EndName}
use Rattle.cm_tree.specs.declared.member.End.{End}
use Rattle.cm_tree.specs.declared.member.Node.{Node as NodeDecl}
use Rattle.cm_tree.specs.declared.member.Point.{Point}
use Rattle.cm_tree.specs.declared.member.Link.{Link}
use Rattle.cm_tree.specs.declared.member.Member.{Member}
use Rattle.cm_tree.specs.declared.member.Member.TheVariants as m
use Rattle.cm_tree.specs.declared.decl.Param.{Param}
use Rattle.cm_tree.specs.declared.decl.Param.TheVariants as q
use Rattle.cm_tree.specs.declared.decl.UnitDecl.{UnitDecl}
use Rattle.cm_tree.specs.declared.decl.Decl.{Decl, Row_of-Decl, end_of-Decl, more_of-Decl}
use Rattle.cm_tree.specs.declared.decl.Decl.TheVariants as d
use Rattle.cm_tree.specs.declared.file.File.{File}
use Rattle.cm_meaning.specs.Declared.{Space, Processor, Graph, Struct, Using, Function, Declared, unit_of}
use Rattle.cm_meaning.specs.Scopes.{Around, declared, constant, parameter, patch_names, within, around_space, inside_unit, inside_of, scoped, innermost, in_space, find}
use Rattle.cm_meaning.specs.Sites.{Part, Declares, Site, site, Taken, TakesType, TakesValue, TakesAny, Opens, KeepsApart, HasLatencies, Defines, Handles, DeclaresNode, GivesNode, Joins, expr_sites, base_sites, optional_sites, type_sites}
use Rattle.cm_meaning.specs.BodySites.{block_sites}

-- ---- functions and handlers

abbrev pub typed_sites : Around → Typed → List Site
typed_sites r t = type_sites r t.ty

abbrev pub result_sites : Around → Option TypeExpr → List Site
result_sites r None = []
result_sites r (Some ty) = type_sites r ty

-- parameters are visible in the whole function, its types among it
abbrev pub in_function : Around → FunctionDecl → List Site
in_function r f = site r (Defines f) ∷ (result_sites r f.result ++ (site r (Opens (innermost r)) ∷ (flat_map (typed_sites r) f.params ++ block_sites r f.body)))

abbrev pub function_sites : Around → FunctionDecl → List Site
function_sites r f = in_function (inside_of (scoped r (map (parameter r.home) f.params)) (declared r.home f.name (Function f))) f

abbrev pub in_handler : Around → Typed → Block → List Site
in_handler r t b = site r (Opens (innermost r)) ∷ (typed_sites r t ++ block_sites r b)

abbrev pub handler_sites : Around → Word → Typed → Block → List Site
handler_sites r w t b = site r (Handles w) ∷ in_handler (scoped r (parameter r.home t ∷ [])) t b

-- ---- what stands in namespaces, processors and graphs

abbrev pub fields_sites : Around → Fields → List Site
fields_sites r a = type_sites r a.ty

abbrev pub field_words : List Fields → List Word
field_words fields = flat_map (λ (a : Fields). a.names) fields

abbrev pub struct_sites : Around → List Fields → List Site
struct_sites r fields = site r (KeepsApart (field_words fields)) ∷ flat_map (fields_sites r) fields

abbrev pub constant_sites : Around → Init → List Site
constant_sites r a = expr_sites (inside_of r (constant r.home a)) a.value

abbrev pub shared_sites : Around → Shared → List Site
shared_sites r (h.Struct p w fields) = struct_sites (inside_of r (declared r.home w (Struct p fields))) fields
shared_sites r (h.Using p w ty) = type_sites (inside_of r (declared r.home w (Using ty))) ty
shared_sites r (h.Let p inits) = flat_map (constant_sites r) inits
shared_sites r (h.Assert a) = expr_sites r a.condition

-- ---- members

abbrev pub key_value_sites : Around → Option KeyValue → List Site
key_value_sites r None = []
key_value_sites r (Some (kv.Value a)) = expr_sites r a
key_value_sites r (Some (kv.Text p t)) = []

-- every path of an annotation, whether its key means something or not
abbrev pub keys_sites : Around → List Key → List Site
keys_sites r keys = flat_map (λ (a : Key). key_value_sites r a.value) keys

abbrev pub end_sites : Around → End → List Site
end_sites r a = type_sites r a.ty ++ flat_map (λ (n : EndName). keys_sites r n.keys) a.names

abbrev pub state_value_sites : Around → Var → List Site
state_value_sites r a = optional_sites r a.value

abbrev pub taken : Param → Taken
taken (q.Type p w) = TakesType
taken (q.Value ty w) = TakesValue

-- what the parameters of the processor or graph that a path finds take
abbrev pub takes : Around → Path → List Taken
takes r path = params_of (option_and_then (λ (x : Declared). unit_of x.named) (find r path)) where
  params_of : Option UnitDecl → List Taken
  params_of None = []
  params_of (Some u) = map taken u.params

-- a path alone may name a type, and is judged as an argument
abbrev pub given_sites : Around → Arg → List Site
given_sites r (g.Type b sizes) = base_sites r b ++ flat_map (expr_sites r) sizes
given_sites r (g.Value (e.Name q)) = []
given_sites r (g.Value a) = expr_sites r a

-- arguments with no parameter of their position may be anything
unfoldable pub given_all : Around → List Taken → List Arg → List Site
given_all r ts [] = []
given_all r [] (a ∷ all) = site r (GivesNode TakesAny a) ∷ (given_sites r a ++ given_all r [] all)
given_all r (t ∷ ts) (a ∷ all) = site r (GivesNode t a) ∷ (given_sites r a ++ given_all r ts all)

abbrev pub node_sites : Around → NodeDecl → List Site
node_sites r a = site r (DeclaresNode a) ∷ (given_all r (takes r a.path) a.args ++ (optional_sites r a.count ++ optional_sites r a.factor))

abbrev pub point_sites : Around → Point → List Site
point_sites r a = site r (Joins a) ∷ optional_sites r a.index

abbrev pub link_sites : Around → Link → List Site
link_sites r a = point_sites r a.from ++ (optional_sites r a.delay ++ point_sites r a.to)

abbrev pub member_sites : Around → Member → List Site
member_sites r (m.Ends p flow ends) = flat_map (end_sites r) ends
member_sites r (m.Shared a) = shared_sites r a
member_sites r (m.Function f) = function_sites r f
member_sites r (m.Handler p w t b) = handler_sites r w t b
member_sites r (m.Var p inits) = flat_map (λ (a : Init). expr_sites r a.value) inits
member_sites r (m.State ty vars) = type_sites r ty ++ flat_map (state_value_sites r) vars
member_sites r (m.Latency p a) = expr_sites r a
member_sites r (m.Nodes p nodes) = flat_map (node_sites r) nodes
member_sites r (m.Connection p links) = flat_map (link_sites r) links

-- ---- processors and graphs

abbrev pub handled_word : Member → List Word
handled_word (m.Handler p w t b) = w ∷ []
handled_word _ = []

abbrev pub latency_place : Member → List Place
latency_place (m.Latency p a) = p ∷ []
latency_place _ = []

abbrev pub param_sites : Around → Param → List Site
param_sites r (q.Type p w) = []
param_sites r (q.Value ty w) = type_sites r ty

-- parameters and members are visible in the whole of it, in its parameters' types and its annotation too
abbrev pub in_unit_sites : Around → UnitDecl → List Site
in_unit_sites r u =
    site r (Opens (innermost r)) ∷ site r (KeepsApart (flat_map handled_word u.members)) ∷ site r (HasLatencies (flat_map latency_place u.members))
    ∷ (flat_map (param_sites r) u.params ++ (keys_sites r u.keys ++ flat_map (member_sites r) u.members))

abbrev pub unit_sites : Around → Declared → UnitDecl → List Site
unit_sites r x u = in_unit_sites (inside_of (inside_unit r u) x) u

-- ---- files

unfoldable mutual
  pub decl_sites : List Declared → Space → Decl → List Site
  decl_sites all space (d.Namespace' p path sh decls) = decl_sites_row all (within space path.names) decls
  decl_sites all space (d.Processor u) = unit_sites (around_space all space) (declared (in_space space) u.name (Processor u)) u
  decl_sites all space (d.Graph u) = unit_sites (around_space all space) (declared (in_space space) u.name (Graph u)) u
  decl_sites all space (d.Shared a) = shared_sites (around_space all space) a
  decl_sites all space (d.Function f) = function_sites (around_space all space) f

  pub decl_sites_row : List Declared → Space → {n : _} → Row_of-Decl n → List Site
  decl_sites_row all space end_of-Decl = []
  decl_sites_row all space (more_of-Decl a others) = decl_sites all space a ++ decl_sites_row all space others

abbrev pub file_sites : List Declared → File → List Site
file_sites all f = flat_map (decl_sites all []) f.decls

-- all sites of a patch, in the order of its files and then of the text
unfoldable pub patch_sites : List File → List Site
patch_sites files = flat_map (file_sites (patch_names files)) files

-- ---- all declarations

abbrev pub site_names : Site → List Declared
site_names s = of_part s.part where
  of_part : Part → List Declared
  of_part (Opens names) = names
  of_part (Declares start x) = x ∷ []
  of_part _ = []

-- all declarations of a patch: those of namespaces, and then those of processors, graphs, functions, handlers and bodies, in
-- the order of the files and of the text
unfoldable pub all_names : List File → List Declared
all_names files = patch_names files ++ flat_map site_names (patch_sites files)
