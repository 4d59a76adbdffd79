-- The instances of a patch: docs/LANGUAGE.md, "Graphs". They are a tree of nodes that grows from the main declaration; each
-- has its arguments. Here too is what is wrong with the types of a whole patch.
use Rattle.std.specs.Prelude.{ℕ, ◌+◌, ◌*◌, ◌<◌, ◌≡◌, List, [], ◌∷◌, ◌++◌, length, flat_map, Option, Some, None, option_and_then, Contains}
use Rattle.cm_base.specs.declared.cause.Cause.{Cause}
use Rattle.cm_base.specs.declared.cause.Cause.TheVariants as cause
use Rattle.cm_base.specs.declared.place.Place.{Place}
use Rattle.cm_tree.specs.declared.expr.Expr.{Expr}
use Rattle.cm_tree.specs.declared.expr.Expr.TheVariants as e
use Rattle.cm_tree.specs.declared.type_expr.TypeExpr.TheVariants as y
use Rattle.cm_tree.specs.declared.type_expr.Arg.{Arg}
use Rattle.cm_tree.specs.declared.type_expr.Arg.TheVariants as g
use Rattle.cm_tree.specs.declared.member.Node.{Node as NodeDecl}
use Rattle.cm_tree.specs.declared.member.Link.{Link}
use Rattle.cm_tree.specs.declared.member.Member.{Member}
use Rattle.cm_tree.specs.declared.member.Member.TheVariants as m
use Rattle.cm_tree.specs.declared.decl.Param.{Param}
use Rattle.cm_tree.specs.declared.decl.Param.TheVariants as q
use Rattle.cm_tree.specs.declared.decl.UnitDecl.{UnitDecl}
use Rattle.cm_tree.specs.declared.file.File.{File}
use Rattle.cm_meaning.specs.Declared.{Declared}
use Rattle.cm_meaning.specs.Scopes.{Around, around_home, patch_names, find}
use Rattle.cm_meaning.specs.Mains.{DeclaredUnit, as_unit, main_of}
use Rattle.cm_meaning.specs.Faults.{Fault}
use Rattle.cm_meaning.specs.Types.{CmType}
use Rattle.cm_meaning.specs.Conversions.{Valued, fitted, with_type}
use Rattle.cm_meaning.specs.Constants.{Meaning, Nothing, as_value, as_type, type_in, meant_by, count_in, eval, type_of_expr, IsMeaning}
use Rattle.cm_meaning.specs.TypeOf.{Knowledge}
use Rattle.cm_meaning.specs.TypeRows.{fit_rows}
use Rattle.cm_meaning.specs.TypeFaults.{home_of, Knows, IsTypeFault, IsMainFault}

-- a processor or a graph with its arguments, and what is known in it
pub record Instance : Type 0 where
  pub unit : DeclaredUnit
  pub args : List Meaning
  pub known : Knowledge

-- what is round the members of a processor or a graph
abbrev pub around_members : List File → DeclaredUnit → Around
around_members files x = around_home (patch_names files) (home_of x)

abbrev pub member_nodes : Member → List NodeDecl
member_nodes (m.Nodes p nodes) = nodes
member_nodes _ = []

abbrev pub nodes_of : UnitDecl → List NodeDecl
nodes_of u = flat_map member_nodes u.members

abbrev pub node_unit : Around → NodeDecl → Option DeclaredUnit
node_unit r a = option_and_then as_unit (find r a.path)

-- ---- arguments

-- an argument as a type
abbrev pub given_type : Around → Knowledge → Arg → Option CmType
given_type r k (g.Type b sizes) = type_of_expr r k.look (y.Base b sizes)
given_type r k (g.Value (e.Name path)) = type_in (meant_by r k.look path)
given_type r k (g.Value a) = None

-- an argument as a value of a type
abbrev pub given_value : Around → Knowledge → Option CmType → Arg → Option Valued
given_value r k t (g.Type b sizes) = None
given_value r k t (g.Value a) = option_and_then (λ (to : CmType). option_and_then (λ (v : Valued). with_type to (fitted to v)) (eval r k.look a)) t

-- type arguments are bound first: those of values mean nothing yet
abbrev pub type_argument : Around → Knowledge → Param → Arg → Meaning
type_argument r k (q.Type p w) a = as_type (given_type r k a)
type_argument r k (q.Value ty w) a = Nothing

unfoldable pub type_arguments : Around → Knowledge → List Param → List Arg → List Meaning
type_arguments r k (p ∷ params) (a ∷ args) = type_argument r k p a ∷ type_arguments r k params args
type_arguments r k _ _ = []

-- then those of values, each of the type that its parameter has with the type arguments
abbrev pub argument_of : Around → Knowledge → Around → (Declared → Meaning) → Param → Arg → Meaning
argument_of r k inner types (q.Type p w) a = as_type (given_type r k a)
argument_of r k inner types (q.Value ty w) a = as_value (given_value r k (type_of_expr inner types ty) a)

unfoldable pub arguments_of : Around → Knowledge → Around → (Declared → Meaning) → List Param → List Arg → List Meaning
arguments_of r k inner types (p ∷ params) (a ∷ args) = argument_of r k inner types p a ∷ arguments_of r k inner types params args
arguments_of r k inner types _ _ = []

-- the processor or graph of a node of this instance, and what its names mean with the node's type arguments
pub record IsBound (files : List File) (i : Instance) (a : NodeDecl) (x : DeclaredUnit) (types : Declared → Meaning) : Type 0 where
  pub node : Contains (nodes_of i.unit.unit) a
  pub unit : node_unit (around_members files i.unit) a ≡ Some x
  pub bound : IsMeaning files (home_of x) (type_arguments (around_members files i.unit) i.known x.unit.params a.args) types

-- an instance that a node of another makes, each element of an array alike; all its arguments mean something
pub record IsNode (files : List File) (i : Instance) (a : NodeDecl) (j : Instance) : Type 0 where
  pub types : Declared → Meaning
  pub bound : IsBound files i a j.unit types
  pub args : j.args ≡ arguments_of (around_members files i.unit) i.known (around_members files j.unit) types j.unit.unit.params a.args
  pub count : length j.args ≡ length j.unit.unit.params
  pub told : Contains j.args Nothing → ⊥
  pub known : Knows files j.unit j.args j.known

-- the instances of a patch
pub data IsInstance (files : List File) : Instance → Type 0 where
  main : (i : Instance) → main_of files ≡ Some i.unit → i.args ≡ [] → Knows files i.unit [] i.known → IsInstance files i
  node : (i : Instance) → (a : NodeDecl) → (j : Instance) → IsInstance files i → IsNode files i a j → IsInstance files j

-- ---- what a node's arguments can be at fault for

-- a value doesn't convert to the type of its parameter
abbrev pub given_faults : Around → Knowledge → Around → (Declared → Meaning) → Param → Arg → List Fault
given_faults r k inner types (q.Value ty w) (g.Value a) = fit_rows r k a (type_of_expr inner types ty)
given_faults r k inner types _ _ = []

unfoldable pub all_given_faults : Around → Knowledge → Around → (Declared → Meaning) → List Param → List Arg → List Fault
all_given_faults r k inner types (p ∷ params) (a ∷ args) = given_faults r k inner types p a ++ all_given_faults r k inner types params args
all_given_faults r k inner types _ _ = []

-- ---- how many there are

-- one, or as many as the count of the node's array
abbrev pub node_count : Around → Knowledge → NodeDecl → Option ℕ
node_count r k a = by a.count where
  by : Option Expr → Option ℕ
  by None = Some 1
  by (Some n) = count_in (eval r k.look n)

-- what an instance and all below it have together, where each has `own` of its processor or graph
mutual
  pub data Amounts (files : List File) (own : UnitDecl → ℕ) : Instance → ℕ → Type 0 where
    amounts : (i : Instance) → (n : ℕ) → NodesAmount files own i (nodes_of i.unit.unit) n → Amounts files own i (own i.unit.unit + n)

  pub data NodesAmount (files : List File) (own : UnitDecl → ℕ) : Instance → List NodeDecl → ℕ → Type 0 where
    none : (i : Instance) → NodesAmount files own i [] 0
    more : (i j : Instance) → (a : NodeDecl) → (nodes : List NodeDecl) → (count each rest : ℕ)
        → IsNode files i a j → node_count (around_members files i.unit) i.known a ≡ Some count → Amounts files own j each
        → NodesAmount files own i nodes rest → NodesAmount files own i (a ∷ nodes) (count * each + rest)

abbrev pub one_each : UnitDecl → ℕ
one_each u = 1

abbrev pub member_links : Member → List Link
member_links (m.Connection p links) = links
member_links _ = []

-- the connections that are written in a graph
abbrev pub link_count : UnitDecl → ℕ
link_count u = length (flat_map member_links u.members)

-- the place of a node declaration in an instance
pub record IsNodePlace (files : List File) (place : Place) : Type 0 where
  pub i : Instance
  pub instance : IsInstance files i
  pub nodes : List NodeDecl
  pub member : Contains i.unit.unit.members (m.Nodes place nodes)

-- the most instances of a patch, the main one among them, and the most connections that are written in them
abbrev pub most_nodes : ℕ
most_nodes = 16384

abbrev pub most_links : ℕ
most_links = 262144

-- ---- the faults of types of a patch

pub data IsPatchTypeFault (files : List File) : Cause → Place → Type 0 where
  -- in an instance
  of_instance : (i : Instance) → (cause : Cause) → (place : Place) → IsInstance files i
      → IsTypeFault files i.unit i.known cause place → IsPatchTypeFault files cause place
  -- in a parameter of the main declaration
  of_main : (i : Instance) → (cause : Cause) → (place : Place) → main_of files ≡ Some i.unit → IsInstance files i
      → IsMainFault files i.unit i.known cause place → IsPatchTypeFault files cause place
  -- in the arguments of a node
  of_arguments : (i : Instance) → (a : NodeDecl) → (x : DeclaredUnit) → (types : Declared → Meaning) → (f : Fault)
      → IsInstance files i → IsBound files i a x types
      → Contains (all_given_faults (around_members files i.unit) i.known (around_members files x) types x.unit.params a.args) f → IsPatchTypeFault files f.cause f.place
  -- too many instances
  too_many_nodes : (i : Instance) → (n : ℕ) → (place : Place) → main_of files ≡ Some i.unit → IsInstance files i
      → Amounts files one_each i n → most_nodes < n
      → IsNodePlace files place → IsPatchTypeFault files cause.TooManyNodes place
  -- too many connections
  too_many_links : (i : Instance) → (n : ℕ) → main_of files ≡ Some i.unit → IsInstance files i
      → Amounts files link_count i n → most_links < n
      → IsPatchTypeFault files cause.TooManyLinks i.unit.unit.place

-- the types of a patch are right
abbrev pub HasRightTypes : List File → Type 0
HasRightTypes files = (cause : Cause) → (place : Place) → IsPatchTypeFault files cause place → ⊥
