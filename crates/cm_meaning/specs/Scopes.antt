-- Which declarations are visible at a place, and what a path finds there: docs/LANGUAGE.md, "Names".
use Rattle.std.specs.Prelude.{ℕ, suc, Bool, true, false, ◌&&◌, if◌then◌else◌, List, [], ◌∷◌, ◌++◌, map, filter, flat_map, Option, Some, None, option_and_then, option_map, bytes_eq}
use Rattle.std.specs.Option.{option_or}
use Rattle.cm_base.specs.declared.place.Place.{Place}
use Rattle.cm_base.specs.declared.host.Flow.{Flow}
use Rattle.cm_tree.specs.declared.path.Path.{Path}
use Rattle.cm_tree.specs.declared.path.Word.{Word}
use Rattle.cm_tree.specs.declared.type_expr.TypeExpr.{TypeExpr}
use Rattle.cm_tree.specs.declared.type_expr.Typed.{Typed}
use Rattle.cm_tree.specs.declared.simple.Init.{Init}
use Rattle.cm_tree.specs.declared.simple.Var.{Var}
use Rattle.cm_tree.specs.declared.simple.Local.{Local}
use Rattle.cm_tree.specs.declared.simple.Local.TheVariants as l
use Rattle.cm_tree.specs.declared.shared.Function.{Function as FunctionDecl}
use Rattle.cm_tree.specs.declared.shared.Shared.{Shared}
use Rattle.cm_tree.specs.declared.shared.Shared.TheVariants as h
use Rattle.cm_tree.specs.declared.member.EndName.{EndName}
use Rattle.cm_tree.specs.declared.member.End.{End}
use Rattle.cm_tree.specs.declared.member.Node.{Node as NodeDecl}
use Rattle.cm_tree.specs.declared.member.Member.{Member}
use Rattle.cm_tree.specs.declared.member.Member.TheVariants as m
use Rattle.cm_tree.specs.declared.decl.Param.{Param}
use Rattle.cm_tree.specs.declared.decl.Param.TheVariants as q
use Rattle.cm_tree.specs.declared.decl.UnitDecl.{UnitDecl}
use Rattle.cm_tree.specs.declared.decl.Decl.{Decl, Row_of-Decl, end_of-Decl, more_of-Decl}
use Rattle.cm_tree.specs.declared.decl.Decl.TheVariants as d
use Rattle.cm_tree.specs.declared.file.File.{File}
use Rattle.cm_meaning.specs.Declared.{Space, Named, Namespace, Processor, Graph, Struct, Using, Constant, Function, State, Endpoint, Node, TypeParameter, ValueParameter, Parameter, LocalConstant, LocalVariable, Home, Declared}

abbrev pub in_space : Space → Home
in_space space = record { space = space; unit = None }

abbrev pub in_unit : Space → UnitDecl → Home
in_unit space unit = record { space = space; unit = Some unit }

abbrev pub declared : Home → Word → Named → Declared
declared home word named = record { word = word; home = home; named = named }

-- ---- what the parts of a file declare

-- let a = 1, b = 2; outside of bodies
abbrev pub constant : Home → Init → Declared
constant home a = declared home a.name (Constant a.value)

-- what may stand in a namespace, a processor or a graph
abbrev pub shared_names : Home → Shared → List Declared
shared_names home (h.Struct p w fields) = declared home w (Struct p fields) ∷ []
shared_names home (h.Using p w ty) = declared home w (Using ty) ∷ []
shared_names home (h.Let p inits) = map (constant home) inits
shared_names home (h.Assert a) = []

-- `namespace a::b` declares a, and b in a
unfoldable pub opened : Space → Place → List (List ℕ) → List Declared
opened space p [] = []
opened space p (n ∷ ns) = declared (in_space space) (record { place = p; text = n }) (Namespace (n ∷ space)) ∷ opened (n ∷ space) p ns

-- the namespace that a path of names opens in another
unfoldable pub within : Space → List (List ℕ) → Space
within space [] = space
within space (n ∷ ns) = within (n ∷ space) ns

-- a declaration's name, and all that stands in it where it is a namespace
unfoldable mutual
  pub decl_names : Space → Decl → List Declared
  decl_names space (d.Namespace' p path sh all) = opened space path.place path.names ++ decl_names_row (within space path.names) all
  decl_names space (d.Processor unit) = declared (in_space space) unit.name (Processor unit) ∷ []
  decl_names space (d.Graph unit) = declared (in_space space) unit.name (Graph unit) ∷ []
  decl_names space (d.Shared a) = shared_names (in_space space) a
  decl_names space (d.Function f) = declared (in_space space) f.name (Function f) ∷ []

  pub decl_names_row : Space → {n : _} → Row_of-Decl n → List Declared
  decl_names_row space end_of-Decl = []
  decl_names_row space (more_of-Decl a others) = decl_names space a ++ decl_names_row space others

-- the declarations of all namespaces of a patch, in the order of its files and then of the text
unfoldable pub patch_names : List File → List Declared
patch_names files = flat_map (λ (f : File). flat_map (decl_names []) f.decls) files

abbrev pub param_name : Home → ℕ → Param → Declared
param_name home i (q.Type p w) = declared home w (TypeParameter i)
param_name home i (q.Value ty w) = declared home w (ValueParameter i ty)

-- parameters have positions from 0
unfoldable pub param_names : Home → ℕ → List Param → List Declared
param_names home i [] = []
param_names home i (a ∷ all) = param_name home i a ∷ param_names home (suc i) all

abbrev pub end_name : Home → Flow → End → EndName → Declared
end_name home flow end a = declared home a.name (Endpoint flow end.kind end.ty a.keys)

abbrev pub end_names : Home → Flow → End → List Declared
end_names home flow end = map (end_name home flow end) end.names

-- var a = 1; and int a = 1; of a processor
abbrev pub inferred_state : Home → Init → Declared
inferred_state home a = declared home a.name (State None (Some a.value))

abbrev pub typed_state : Home → TypeExpr → Var → Declared
typed_state home ty a = declared home a.name (State (Some ty) a.value)

abbrev pub node_name : Home → NodeDecl → Declared
node_name home a = declared home a.name (Node a)

-- a handler is no declaration: it names an event input
abbrev pub member_names : Home → Member → List Declared
member_names home (m.Ends p flow ends) = flat_map (end_names home flow) ends
member_names home (m.Shared a) = shared_names home a
member_names home (m.Function f) = declared home f.name (Function f) ∷ []
member_names home (m.Handler p w t b) = []
member_names home (m.Var p inits) = map (inferred_state home) inits
member_names home (m.State ty vars) = map (typed_state home ty) vars
member_names home (m.Latency p a) = []
member_names home (m.Nodes p nodes) = map (node_name home) nodes
member_names home (m.Connection p links) = []

-- a processor or a graph and its parameters are one scope
unfoldable pub unit_names : Space → UnitDecl → List Declared
unit_names space u = param_names (in_unit space u) 0 u.params ++ flat_map (member_names (in_unit space u)) u.members

-- a parameter of a function or a handler
abbrev pub parameter : Home → Typed → Declared
parameter home t = declared home t.name (Parameter t.ty)

-- let a = 1; and var a = 1; and int a = 1; in a body
abbrev pub local_constant : Home → Init → Declared
local_constant home a = declared home a.name (LocalConstant a.value)

abbrev pub inferred_local : Home → Init → Declared
inferred_local home a = declared home a.name (LocalVariable None (Some a.value))

abbrev pub typed_local : Home → TypeExpr → Var → Declared
typed_local home ty a = declared home a.name (LocalVariable (Some ty) a.value)

abbrev pub local_names : Home → Local → List Declared
local_names home (l.Let p inits) = map (local_constant home) inits
local_names home (l.Var p inits) = map (inferred_local home) inits
local_names home (l.Typed ty vars) = map (typed_local home ty) vars

-- ---- what is round a place

pub record Around : Type 0 where
  -- the declarations of all namespaces
  pub all : List Declared
  -- what is visible, the innermost scope first; the last one is that of the whole patch
  pub scopes : List (List Declared)
  pub home : Home
  -- the constant, type or function round the place, or else the processor or graph
  pub inside : Option Declared
  pub in_loop : Bool

unfoldable pub is_space : Space → Space → Bool
is_space [] [] = true
is_space (n ∷ ns) (k ∷ ks) = bytes_eq n k && is_space ns ks
is_space _ _ = false

-- all parts of a namespace are one scope
abbrev pub space_names : List Declared → Space → List Declared
space_names all space = filter (λ (x : Declared). is_space x.home.space space) all

-- a namespace's scope and those round it, up to that of the whole patch
unfoldable pub space_scopes : List Declared → Space → List (List Declared)
space_scopes all [] = space_names all [] ∷ []
space_scopes all (n ∷ outer) = space_names all (n ∷ outer) ∷ space_scopes all outer

abbrev pub around_space : List Declared → Space → Around
around_space all space = record { all = all; scopes = space_scopes all space; home = in_space space; inside = None; in_loop = false }

abbrev pub inside_unit : Around → UnitDecl → Around
inside_unit r u = record r { scopes = unit_names r.home.space u ∷ r.scopes; home = in_unit r.home.space u }

-- what is round the members of the place where a declaration stands
abbrev pub around_home : List Declared → Home → Around
around_home all home = unit_too home.unit where
  unit_too : Option UnitDecl → Around
  unit_too None = around_space all home.space
  unit_too (Some u) = inside_unit (around_space all home.space) u

-- in a declaration
abbrev pub inside_of : Around → Declared → Around
inside_of r x = record r { inside = Some x }

-- in a scope of its own, with these declarations
abbrev pub scoped : Around → List Declared → Around
scoped r names = record r { scopes = names ∷ r.scopes }

-- what is round the types and the body of a function
abbrev pub around_function : List Declared → Declared → FunctionDecl → Around
around_function all x f = inside_of (scoped (around_home all x.home) (map (parameter x.home) f.params)) x

abbrev pub looped : Around → Around
looped r = record r { in_loop = true }

-- a local is visible from after its declaration, and hides those of its name that were declared before it
abbrev pub with_local : Declared → List (List Declared) → List (List Declared)
with_local x [] = (x ∷ []) ∷ []
with_local x (scope ∷ outer) = (x ∷ scope) ∷ outer

abbrev pub declare : Around → Declared → Around
declare r x = record r { scopes = with_local x r.scopes }

unfoldable pub declare_all : Around → List Declared → Around
declare_all r [] = r
declare_all r (x ∷ xs) = declare_all (declare r x) xs

abbrev pub innermost : Around → List Declared
innermost r = first r.scopes where
  first : List (List Declared) → List Declared
  first [] = []
  first (scope ∷ outer) = scope

-- ---- look-up

unfoldable pub find_in : List ℕ → List Declared → Option Declared
find_in n [] = None
find_in n (x ∷ xs) = if bytes_eq x.word.text n then Some x else find_in n xs

-- the first name of a path, from the innermost scope outward
unfoldable pub outward : List ℕ → List (List Declared) → Option Declared
outward n [] = None
outward n (scope ∷ outer) = option_or (find_in n scope) (outward n outer)

-- a name in a namespace; in anything else there is none
abbrev pub find_inner : List Declared → List ℕ → Named → Option Declared
find_inner all n (Namespace path) = find_in n (space_names all path)
find_inner all n _ = None

-- each further name only in the namespace found
unfoldable pub onward : List Declared → Option Declared → List (List ℕ) → Option Declared
onward all found [] = found
onward all found (n ∷ ns) = onward all (option_and_then (λ (x : Declared). find_inner all n x.named) found) ns

abbrev pub find_names : Around → List (List ℕ) → Option Declared
find_names r [] = None
find_names r (n ∷ ns) = onward r.all (outward n r.scopes) ns

-- what a path stands for at a place
unfoldable pub find : Around → Path → Option Declared
find r path = find_names r path.names

-- what a single name stands for
abbrev pub find_word : Around → Word → Option Declared
find_word r w = outward w.text r.scopes

abbrev pub named_by : Option Declared → Option Named
named_by found = option_map (λ (x : Declared). x.named) found
