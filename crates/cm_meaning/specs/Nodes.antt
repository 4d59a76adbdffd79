-- The instances of a patch as a tree, and the leaves of the tree: docs/LANGUAGE.md, "Graphs". An instance has below it, for
-- each of its nodes, the elements of the node's array.
use Rattle.std.specs.Prelude.{ℕ, suc, ◌/◌, ◌≡◌, Bool, true, false, if◌then◌else◌, List, [], ◌∷◌, ◌++◌, filter_map, Option, Some, None, unwrap_or, ℤ, pos}
use Rattle.cm_base.specs.declared.host.Flow.{Flow}
use Rattle.cm_base.specs.declared.host.Kind.{Kind}
use Rattle.cm_tree.specs.declared.expr.Expr.{Expr}
use Rattle.cm_tree.specs.declared.member.Key.{Key}
use Rattle.cm_tree.specs.declared.member.Node.{Node as NodeDecl}
use Rattle.cm_tree.specs.declared.member.Member.{Member}
use Rattle.cm_tree.specs.declared.member.Member.TheVariants as m
use Rattle.cm_tree.specs.declared.file.File.{File}
use Rattle.cm_meaning.specs.Declared.{Named, Endpoint, Declared, is_graph}
use Rattle.cm_meaning.specs.Scopes.{Around, patch_names, unit_names}
use Rattle.cm_meaning.specs.Mains.{main_of}
use Rattle.cm_meaning.specs.Types.{CmType, int32}
use Rattle.cm_meaning.specs.TypeOf.{known_number, type_at_home}
use Rattle.cm_meaning.specs.TypeFaults.{Knows}
use Rattle.cm_meaning.specs.Instances.{Instance, around_members, nodes_of, IsNode, node_count}

-- ---- the tree

mutual
  -- an instance with the factor of its node
  pub data Tree : Type 0 where
    Grown : (instance : Instance) → (factor : ℕ) → (below : Groups) → Tree

  -- for each node of a graph, in declaration order, its elements
  pub data Groups : Type 0 where
    NoGroups : Groups
    Group : (node : NodeDecl) → (elements : Elements) → (others : Groups) → Groups

  pub data Elements : Type 0 where
    NoElements : Elements
    Element : (first : Tree) → (others : Elements) → Elements

abbrev pub root : Tree → Instance
root (Grown i factor below) = i

abbrev pub factor_of : Tree → ℕ
factor_of (Grown i factor below) = factor

-- a constant number from 0 on
abbrev pub natural : Option ℤ → ℕ
natural (Some (pos n)) = n
natural _ = 0

-- what is round the members of an instance
abbrev pub inside : List File → Instance → Around
inside files i = around_members files i.unit

abbrev pub constant_in : List File → Instance → Expr → ℕ
constant_in files i a = natural (known_number (inside files i) i.known a)

-- node a = P * 4;
abbrev pub node_factor : List File → Instance → NodeDecl → ℕ
node_factor files i a = by a.factor where
  by : Option Expr → ℕ
  by None = 1
  by (Some n) = constant_in files i n

-- a tree that has grown from its root as the nodes say, each element of an array alike
mutual
  pub data IsGrown (files : List File) : Tree → Type 0 where
    grown : (i : Instance) → (factor : ℕ) → (below : Groups) → AreGroups files i (nodes_of i.unit.unit) below → IsGrown files (Grown i factor below)

  pub data AreGroups (files : List File) : Instance → List NodeDecl → Groups → Type 0 where
    none : (i : Instance) → AreGroups files i [] NoGroups
    more : (i : Instance) → (a : NodeDecl) → (nodes : List NodeDecl) → (count : ℕ) → (elements : Elements) → (others : Groups)
        → node_count (inside files i) i.known a ≡ Some count → AreElements files i a count elements → AreGroups files i nodes others
        → AreGroups files i (a ∷ nodes) (Group a elements others)

  pub data AreElements (files : List File) : Instance → NodeDecl → ℕ → Elements → Type 0 where
    no_element : (i : Instance) → (a : NodeDecl) → AreElements files i a 0 NoElements
    element : (i : Instance) → (a : NodeDecl) → (count : ℕ) → (tree : Tree) → (others : Elements)
        → IsNode files i a (root tree) → factor_of tree ≡ node_factor files i a → IsGrown files tree → AreElements files i a count others
        → AreElements files i a (suc count) (Element tree others)

-- the tree of a patch grows from its main declaration
pub record IsTree (files : List File) (tree : Tree) : Type 0 where
  pub main : main_of files ≡ Some (root tree).unit
  pub args : (root tree).args ≡ []
  pub known : Knows files (root tree).unit [] (root tree).known
  pub factor : factor_of tree ≡ 1
  pub grown : IsGrown files tree

-- ---- endpoints

-- an endpoint of an instance, with its type there
pub record End : Type 0 where
  pub declared : Declared
  pub flow : Flow
  pub kind : Kind
  pub keys : List Key
  pub ty : CmType

abbrev pub end_of : List File → Instance → Declared → Option End
end_of files i x = by x.named where
  by : Named → Option End
  by (Endpoint flow kind ty keys) =
      Some (record { declared = x; flow = flow; kind = kind; keys = keys; ty = unwrap_or (type_at_home (patch_names files) i.known x ty) int32 })
  by _ = None

-- in declaration order
abbrev pub ends_of : List File → Instance → List End
ends_of files i = filter_map (end_of files i) (unit_names i.unit.declared.home.space i.unit.unit)

-- ---- leaves

-- where an instance stands in the tree: from the root on, the number of the node and that of the element
abbrev pub Path : Type 0
Path = List (ℕ × ℕ)

-- a processor
pub record Leaf : Type 0 where
  pub path : Path
  pub instance : Instance
  pub factor : ℕ
  pub ends : List End

abbrev pub is_processor : Instance → Bool
is_processor i = if is_graph i.unit.declared.named then false else true

abbrev pub leaf_of : List File → Path → Instance → ℕ → Leaf
leaf_of files path i factor = record { path = path; instance = i; factor = factor; ends = ends_of files i }

-- depth first, nodes in declaration order and elements by index
abbrev mutual
  pub leaves_at : List File → Path → Tree → List Leaf
  leaves_at files path (Grown i factor below) = if is_processor i then leaf_of files path i factor ∷ [] else group_leaves files path 0 below

  pub group_leaves : List File → Path → ℕ → Groups → List Leaf
  group_leaves files path n NoGroups = []
  group_leaves files path n (Group a elements others) = element_leaves files path n 0 elements ++ group_leaves files path (suc n) others

  pub element_leaves : List File → Path → ℕ → ℕ → Elements → List Leaf
  element_leaves files path n k NoElements = []
  element_leaves files path n k (Element tree others) = leaves_at files (path ++ (n, k) ∷ []) tree ++ element_leaves files path n (suc k) others

abbrev pub leaves_of : List File → Tree → List Leaf
leaves_of files tree = leaves_at files [] tree

-- the latency that a processor states
abbrev pub stated : List File → Instance → List Member → ℕ
stated files i [] = 0
stated files i (m.Latency p a ∷ members) = constant_in files i a
stated files i (_ ∷ members) = stated files i members

-- divided by the factor, rounded down
abbrev pub latency_of : List File → Leaf → ℕ
latency_of files leaf = stated files leaf.instance leaf.instance.unit.unit.members / leaf.factor
