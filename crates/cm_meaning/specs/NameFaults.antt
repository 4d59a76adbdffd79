-- What is wrong with the names of a patch: docs/LANGUAGE.md, "Refusals". One rule for each cause that isn't a row of a
-- single site.
use Rattle.std.specs.Prelude.{Bool, not, ◌&&◌, IsTrue, List, [], ◌∷◌, ◌++◌, flat_map, bytes_eq, Contains}
use Rattle.std.specs.List.{list_any}
use Rattle.cm_base.specs.declared.cause.Cause.{Cause}
use Rattle.cm_base.specs.declared.cause.Cause.TheVariants as cause
use Rattle.cm_base.specs.declared.place.Place.{Place}
use Rattle.cm_tree.specs.declared.file.File.{File}
use Rattle.cm_meaning.specs.Declared.{Declared, is_namespace, is_function, is_graph}
use Rattle.cm_meaning.specs.Scopes.{is_space, patch_names, unit_names}
use Rattle.cm_meaning.specs.PatchSites.{patch_sites}
use Rattle.cm_meaning.specs.Faults.{Fault, unless}
use Rattle.cm_meaning.specs.NameRows.{repeated, words_of, rows}
use Rattle.cm_meaning.specs.Mains.{DeclaredUnit, further, has_parameters, lacks_main, marked, units, without_parameters}
use Rattle.cm_meaning.specs.Needs.{definition_needs, graph_needs, call_needs, is_named_constant, is_made, IsOnCycle, IsInitWrite}

-- two declarations of one name in one namespace; parts of a namespace are one
abbrev pub clashes : Declared → Declared → Bool
clashes x y = is_space x.home.space y.home.space && (bytes_eq x.word.text y.word.text && not (is_namespace x.named && is_namespace y.named))

-- each declaration of a namespace that stands behind one that it clashes with
unfoldable pub clashing : List Declared → List Declared → List Fault
clashing before [] = []
clashing before (x ∷ names) = unless (not (list_any (clashes x) before)) cause.DuplicateName x.word.place ++ clashing (x ∷ before) names

abbrev pub unit_faults : DeclaredUnit → List Fault
unit_faults x = repeated [] (words_of (unit_names x.declared.home.space x.unit))

-- the names that stand twice in a namespace, a processor or a graph: all that the building of scopes refuses
unfoldable pub member_faults : List File → List Fault
member_faults files = clashing [] (patch_names files) ++ flat_map unit_faults (units files)

-- all faults of single sites, in the order of the text
unfoldable pub site_faults : List File → List Fault
site_faults files = flat_map rows (patch_sites files)

-- the first byte of the first file
abbrev pub start : Place
start = record { file = 1; line = 1; column = 1 }

pub data IsNameFault (files : List File) : Cause → Place → Type 0 where
  -- a row of a site
  at_site : (f : Fault) → Contains (site_faults files) f → IsNameFault files f.cause f.place
  -- a second declaration of a name in a namespace
  clash : (f : Fault) → Contains (clashing [] (patch_names files)) f → IsNameFault files f.cause f.place
  -- there is no main declaration
  no_main : IsTrue (lacks_main (marked files) (without_parameters files)) → IsNameFault files cause.NoMain start
  -- a second one is marked
  many_main : (x : DeclaredUnit) → Contains (further (marked files)) x → IsNameFault files cause.ManyMain x.unit.place
  -- one with parameters is marked
  wrong_main : (x : DeclaredUnit) → Contains (marked files) x → IsTrue (has_parameters x) → IsNameFault files cause.WrongMain x.unit.place
  -- a constant, a type, a graph or a function needs itself
  constant_cycle : (p : Place) → IsOnCycle (definition_needs files) is_named_constant p → IsNameFault files cause.ConstantCycle p
  type_cycle : (p : Place) → IsOnCycle (definition_needs files) is_made p → IsNameFault files cause.TypeCycle p
  node_cycle : (p : Place) → IsOnCycle (graph_needs files) is_graph p → IsNameFault files cause.NodeCycle p
  recursion : (p : Place) → IsOnCycle (call_needs files) is_function p → IsNameFault files cause.Recursion p
  -- a write while a processor is initialised
  init_write : (p : Place) → IsInitWrite files p → IsNameFault files cause.InitWrite p

-- the names of a patch are right
abbrev pub HasRightNames : List File → Type 0
HasRightNames files = (cause : Cause) → (place : Place) → IsNameFault files cause place → ⊥
