-- The tree of a patch as it is computed, with fuel for what names mean and for how deep nodes stand in one another: where the
-- fuel is enough it is the tree of `Nodes`. It serves to work runs.
use Rattle.std.specs.Prelude.{ℕ, zero, suc, if◌then◌else◌, List, [], ◌∷◌, Option, Some, None, option_map, unwrap_or}
use Rattle.std.specs.Option.{option_or}
use Rattle.cm_tree.specs.declared.member.Node.{Node as NodeDecl}
use Rattle.cm_tree.specs.declared.file.File.{File}
use Rattle.cm_meaning.specs.Declared.{Named, Parameter, Declared}
use Rattle.cm_meaning.specs.Scopes.{Around, patch_names}
use Rattle.cm_meaning.specs.Sites.{Part, Opens, Declares, Site}
use Rattle.cm_meaning.specs.PatchSites.{patch_sites}
use Rattle.cm_meaning.specs.Mains.{DeclaredUnit, main_of}
use Rattle.cm_meaning.specs.Types.{CmType, is_place}
use Rattle.cm_meaning.specs.Constants.{Meaning, meant, type_of_expr}
use Rattle.cm_meaning.specs.TypeOf.{Knowledge, declared_type}
use Rattle.cm_meaning.specs.Instances.{Instance, around_members, nodes_of, node_unit, type_arguments, arguments_of, node_count}
use Rattle.cm_meaning.specs.Nodes.{Tree, Grown, Groups, NoGroups, Group, Elements, NoElements, Element, inside, node_factor}

-- ---- the types of locals

-- of a parameter, where it is one
abbrev pub parameter_type : Around → Knowledge → Named → Option CmType
parameter_type r k (Parameter ty) = type_of_expr r k.look ty
parameter_type r k _ = None

abbrev pub opened_type : Around → Knowledge → Declared → List Declared → Option CmType
opened_type r k d [] = None
opened_type r k d (y ∷ names) = if is_place y.word.place d.word.place then parameter_type r k y.named else opened_type r k d names

-- the type of a parameter or local that is declared at a site
abbrev pub type_at : Knowledge → Declared → Site → Option CmType
type_at k d s = by s.part where
  by : Part → Option CmType
  by (Declares start y) = if is_place y.word.place d.word.place then declared_type start s.around k y.named else None
  by (Opens names) = opened_type s.around k d names
  by _ = None

abbrev pub type_among : Knowledge → Declared → List Site → Option CmType
type_among k d [] = None
type_among k d (s ∷ sites) = option_or (type_at k d s) (type_among k d sites)

abbrev pub locals : List Site → (Declared → Meaning) → ℕ → Declared → Option CmType
locals sites look zero d = None
locals sites look (suc fuel) d = type_among (record { look = look; local = locals sites look fuel }) d sites

abbrev pub known : List File → ℕ → List Meaning → Knowledge
known files fuel args = record { look = meant (patch_names files) args fuel; local = locals (patch_sites files) (meant (patch_names files) args fuel) fuel }

-- ---- the tree

abbrev pub instance_of : List File → ℕ → DeclaredUnit → List Meaning → Instance
instance_of files fuel d args = record { unit = d; args = args; known = known files fuel args }

-- what a node of an instance makes
abbrev pub node_instance : List File → ℕ → Instance → NodeDecl → DeclaredUnit → Instance
node_instance files fuel i a d =
    instance_of files fuel d
    (arguments_of (inside files i) i.known (around_members files d) (meant (patch_names files) (type_arguments (inside files i) i.known d.unit.params a.args) fuel)
    d.unit.params a.args)

abbrev pub alike : ℕ → Tree → Elements
alike zero tree = NoElements
alike (suc n) tree = Element tree (alike n tree)

abbrev pub elements_of : (Instance → ℕ → Tree) → List File → ℕ → Instance → NodeDecl → Option DeclaredUnit → Elements
elements_of grow files fuel i a None = NoElements
elements_of grow files fuel i a (Some d) =
    alike (unwrap_or (node_count (inside files i) i.known a) 0) (grow (node_instance files fuel i a d) (node_factor files i a))

abbrev pub groups_of : (Instance → ℕ → Tree) → List File → ℕ → Instance → List NodeDecl → Groups
groups_of grow files fuel i [] = NoGroups
groups_of grow files fuel i (a ∷ nodes) = Group a (elements_of grow files fuel i a (node_unit (inside files i) a)) (groups_of grow files fuel i nodes)

abbrev pub grown : ℕ → List File → ℕ → Instance → ℕ → Tree
grown zero files fuel i factor = Grown i factor NoGroups
grown (suc height) files fuel i factor = Grown i factor (groups_of (grown height files fuel) files fuel i (nodes_of i.unit.unit))

-- the tree of a patch with a main declaration
abbrev pub tree_of : List File → ℕ → Option Tree
tree_of files fuel = option_map (λ (d : DeclaredUnit). grown fuel files fuel (instance_of files fuel d []) 1) (main_of files)
