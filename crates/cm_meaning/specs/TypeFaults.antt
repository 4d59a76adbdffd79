-- What is wrong with the types of one instance of a processor or a graph: docs/LANGUAGE.md, "Refusals". All that stands in it
-- is checked, and the declarations of namespaces that it uses, and those that these use.
use Rattle.std.specs.Prelude.{Bool, ◌||◌, IsTrue, List, flat_map, Contains}
use Rattle.cm_base.specs.declared.cause.Cause.{Cause}
use Rattle.cm_base.specs.declared.place.Place.{Place}
use Rattle.cm_tree.specs.declared.file.File.{File}
use Rattle.cm_meaning.specs.Declared.{Named, Home, Declared, is_function}
use Rattle.cm_meaning.specs.Scopes.{in_unit, unit_names, around_home, patch_names}
use Rattle.cm_meaning.specs.PatchSites.{patch_sites}
use Rattle.cm_meaning.specs.Needs.{Need, all_needs, is_definition}
use Rattle.cm_meaning.specs.Faults.{Fault}
use Rattle.cm_meaning.specs.Constants.{Meaning, IsMeaning}
use Rattle.cm_meaning.specs.TypeOf.{Knowledge, KnowsLocals}
use Rattle.cm_meaning.specs.MemberDemands.{own_demands}
use Rattle.cm_meaning.specs.TypeRows.{type_rows}
use Rattle.cm_meaning.specs.Mains.{DeclaredUnit}
use Rattle.cm_meaning.specs.Parameters.{main_faults}

abbrev pub home_of : DeclaredUnit → Home
home_of x = in_unit x.declared.home.space x.unit

-- what is known in an instance with these arguments
pub record Knows (files : List File) (x : DeclaredUnit) (args : List Meaning) (k : Knowledge) : Type 0 where
  pub meaning : IsMeaning files (home_of x) args k.look
  pub locals : KnowsLocals (patch_sites files) (home_of x) k

-- a constant, a type or a function; the graphs and processors of nodes are instances of their own
abbrev pub is_shared : Named → Bool
is_shared n = is_definition n || is_function n

-- what is checked with an instance: itself, its members, and what these use
pub data IsChecked (files : List File) (x : DeclaredUnit) : Declared → Type 0 where
  itself : IsChecked files x x.declared
  member : (d : Declared) → Contains (unit_names x.declared.home.space x.unit) d → IsTrue (is_shared d.named) → IsChecked files x d
  used : (n : Need) → Contains (all_needs files) n → IsChecked files x n.from → IsTrue (is_shared n.to.named) → IsChecked files x n.to

-- the faults of a declaration by itself
abbrev pub own_faults : List File → Knowledge → Declared → List Fault
own_faults files k d = flat_map (type_rows k) (own_demands (patch_names files) d)

pub data IsTypeFault (files : List File) (x : DeclaredUnit) (k : Knowledge) : Cause → Place → Type 0 where
  of_checked : (d : Declared) → (f : Fault) → IsChecked files x d → Contains (own_faults files k d) f → IsTypeFault files x k f.cause f.place

-- the main declaration has those of its parameters too
pub data IsMainFault (files : List File) (x : DeclaredUnit) (k : Knowledge) : Cause → Place → Type 0 where
  of_instance : (cause : Cause) → (place : Place) → IsTypeFault files x k cause place → IsMainFault files x k cause place
  of_parameter : (f : Fault) → Contains (main_faults (around_home (patch_names files) (home_of x)) k x.unit) f → IsMainFault files x k f.cause f.place
