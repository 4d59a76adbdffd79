-- The declarations of namespaces, and what is refused among them: docs/LANGUAGE.md, "Names". Two of one name in one namespace
-- have to be parts of a namespace.
use Rattle.std.specs.Prelude.{◌≡◌, ℕ, suc, ◌<◌, Bool, true, false, not, ◌&&◌, nat_eq, bytes_eq, List, [], ◌∷◌, ◌++◌, length, map, flat_map, filter_map, if◌then◌else◌, Option, Some, None, Result, Ok, Err, slice_get, slice_index_or, option_and_then, option_map}
use Rattle.std.specs.List.{list_any}
use Rattle.std.specs.Map.{lookup}
use Rattle.cm_base.specs.declared.cause.Cause.TheVariants as cause
use Rattle.cm_base.specs.declared.place.Place.{Place}
use Rattle.cm_tree.specs.declared.simple.Init.{Init}
use Rattle.cm_tree.specs.declared.file.File.{File}
use Rattle.cm_base.specs.declared.failure.Fail.{Fail}
use Rattle.cm_base.specs.declared.failure.Fail.TheVariants as fail
use Rattle.cm_meaning.specs.Declared.{Space, Named, Namespace, Processor, Graph, Struct, Using, Constant, Function, Declared}
use Rattle.cm_meaning.specs.Scopes.{in_space, declared, constant, decl_names, find_inner}
use Rattle.cm_meaning.specs.NameFaults.{clashes, unit_faults}
use Rattle.cm_meaning.specs.Mains.{as_unit}
use Rattle.cm_meaning.specs.Faults.{Fault, fault, unless}
use Rattle.cm_meaning.specs.Exact.{In}
use Rattle.name_scopes.specs.Openings.{Opening, inner}
use Rattle.name_scopes.specs.declared.named.Member.{Member}
use Rattle.name_scopes.specs.declared.named.Named.{Named as Part}
use Rattle.name_scopes.specs.declared.named.Named.TheVariants as n

-- ---- what declarations stand for

-- where these namespaces have numbers
abbrev pub named_in : List Space → Part → Named
named_in spaces (n.Namespace i) = Namespace (slice_index_or spaces i [])
named_in spaces (n.Processor u) = Processor u.now
named_in spaces (n.Graph u) = Graph u.now
named_in spaces (n.Struct p fields) = Struct p fields.now
named_in spaces (n.Using ty) = Using ty.now
named_in spaces (n.Constant a) = Constant a.now
named_in spaces (n.Function f) = Function f.now

abbrev pub declared_in : List Space → Member → Declared
declared_in spaces m = declared (in_space (slice_index_or spaces m.space [])) (record { place = m.place; text = m.text.now }) (named_in spaces m.named)

abbrev pub names_in : List Space → List Member → List Declared
names_in spaces names = map (declared_in spaces) names

-- a part of a namespace
abbrev pub is_part : Part → Bool
is_part (n.Namespace i) = true
is_part (n.Processor u) = false
is_part (n.Graph u) = false
is_part (n.Struct p fields) = false
is_part (n.Using ty) = false
is_part (n.Constant a) = false
is_part (n.Function f) = false

-- the number of the namespace that this is a part of
abbrev pub namespace_number : Part → Option ℕ
namespace_number (n.Namespace i) = Some i
namespace_number (n.Processor u) = None
namespace_number (n.Graph u) = None
namespace_number (n.Struct p fields) = None
namespace_number (n.Using ty) = None
namespace_number (n.Constant a) = None
namespace_number (n.Function f) = None

-- a part of the namespace of this name in another
abbrev pub part_of : List Space → ℕ → Place → List ℕ → Declared
part_of spaces space p name = declared (in_space (slice_index_or spaces space [])) (record { place = p; text = name }) (Namespace (inner spaces space name))

-- ---- namespaces and declarations that are there

pub record Known : Type 0 where
  pub spaces : List Space
  pub members : List Member

-- the declarations
abbrev pub names_of : Known → List Declared
names_of k = names_in k.spaces k.members

-- what is found has this number, or nothing is found
abbrev pub IsNumberOf : List Declared → Option ℕ → Option Declared → Type 0
IsNumberOf names number found = option_map (slice_get names) number ≡ option_map Some found

-- what a name finds in the declaration of a number
abbrev pub found_within : List Declared → ℕ → List ℕ → Option Declared
found_within names number text = option_and_then (λ (x : Declared). find_inner names text x.named) (slice_get names number)

-- the number of the namespace that the declaration of a number is a part of
abbrev pub space_at : List Member → ℕ → Option ℕ
space_at members number = option_and_then (λ (m : Member). namespace_number m.named) (slice_get members number)

abbrev pub is_below : ℕ → Part → Type 0
is_below count (n.Namespace i) = i < count
is_below count (n.Processor u) = Unit {0}
is_below count (n.Graph u) = Unit {0}
is_below count (n.Struct p fields) = Unit {0}
is_below count (n.Using ty) = Unit {0}
is_below count (n.Constant a) = Unit {0}
is_below count (n.Function f) = Unit {0}

-- its namespaces have numbers below a count
pub record IsBelow (count : ℕ) (m : Member) : Type 0 where
  pub space : m.space < count
  pub part : is_below count m.named

-- each has this
abbrev pub Each : (Member → Type 0) → List Member → Type 0
Each P [] = Unit {0}
Each P (m ∷ names) = P m × Each P names

-- a name in the namespace of a number is declared here
abbrev pub stands_at : ℕ → List ℕ → Member → Bool
stands_at space name m = nat_eq space m.space && bytes_eq name m.text.now

-- the number of the first of them that declares it
abbrev pub first_from : ℕ → List ℕ → ℕ → List Member → Option ℕ
first_from space name i [] = None
first_from space name i (m ∷ names) = if stands_at space name m then Some i else first_from space name (suc i) names

-- whether that one is a part of a namespace
abbrev pub kind_at : ℕ → List ℕ → List Member → Option Bool
kind_at space name [] = None
kind_at space name (m ∷ names) = if stands_at space name m then Some (is_part m.named) else kind_at space name names

abbrev pub same_opening : Opening → Opening → Bool
same_opening a k = nat_eq a.0 k.0 && bytes_eq a.1.now k.1.now

abbrev pub HasKind : ℕ → List ℕ → Bool → Member → Type 0
HasKind space name kind m = stands_at space name m ≡ true → is_part m.named ≡ kind

-- what the index of first declarations has: all of one name in one namespace are parts of a namespace, or none is
pub record AreIndexed (spaces : List Space) (names : List Member) (entries : List (Opening × ℕ)) : Type 0 where
  pub below : Each (IsBelow (length spaces)) names
  pub firsts : (q : Opening) → lookup (same_opening q) entries ≡ first_from q.0 q.1.now 0 names
  pub kinds : (space : ℕ) (name : List ℕ) (kind : Bool) → kind_at space name names ≡ Some kind → Each (HasKind space name kind) names

-- ---- declarations that are added

-- each declaration that clashes with one before it
unfoldable pub clashes_behind : List Declared → List Declared → List Fault
clashes_behind seen [] = []
clashes_behind seen (x ∷ names) = unless (not (list_any (clashes x) seen)) cause.DuplicateName x.word.place ++ clashes_behind (seen ++ x ∷ []) names

-- the namespaces that had a number keep it
pub record IsLonger (old new : List Space) : Type 0 where
  pub more : List Space
  pub is : new ≡ old ++ more

pub record Added (old : Known) (names : List Declared) (new : Known) : Type 0 where
  pub free : clashes_behind (names_of old) names ≡ []
  pub grown : names_of new ≡ names_of old ++ names
  pub spaces : IsLonger old.spaces new.spaces

-- what a call answers that adds these declarations
abbrev pub Adds : {A : Type 0} → Known → List Declared → Result A Fail → Known → Type 0
Adds old names (Ok a) new = Added old names new
Adds old names (Err (fail.Refused f)) new = In (fault f.cause f.place) (clashes_behind (names_of old) names)
Adds old names (Err fail.NoMemory) new = Unit {0}

-- ---- the processors and graphs among declarations

-- the names that stand twice in them
abbrev pub faults_within : List Declared → List Fault
faults_within names = flat_map unit_faults (filter_map as_unit names)

-- ---- the declarations of each part

abbrev pub init_names : Space → Init → List Declared
init_names space a = constant (in_space space) a ∷ []

abbrev pub file_names : Space → File → List Declared
file_names space f = flat_map (decl_names space) f.decls
