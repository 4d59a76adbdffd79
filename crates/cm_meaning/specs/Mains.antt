-- The main declaration of a patch: docs/LANGUAGE.md, "Names". It is the one marked `[[main]]`; without a mark it is the only
-- processor or graph without parameters.
use Rattle.std.specs.Prelude.{ℕ, Bool, false, not, ◌==◌, List, [], ◌∷◌, length, filter, filter_map, Option, Some, None, is_some, option_map, bytes_eq, codes}
use Rattle.std.specs.List.{list_any}
use Rattle.cm_tree.specs.declared.member.Key.{Key}
use Rattle.cm_tree.specs.declared.decl.UnitDecl.{UnitDecl}
use Rattle.cm_tree.specs.declared.file.File.{File}
use Rattle.cm_meaning.specs.Declared.{Declared, unit_of}
use Rattle.cm_meaning.specs.Scopes.{patch_names}

-- a processor or a graph, and its declaration
pub record DeclaredUnit : Type 0 where
  pub declared : Declared
  pub unit : UnitDecl

abbrev pub as_unit : Declared → Option DeclaredUnit
as_unit x = option_map (λ (u : UnitDecl). record { declared = x; unit = u }) (unit_of x.named)

-- all processors and graphs of a patch
abbrev pub units : List File → List DeclaredUnit
units files = filter_map as_unit (patch_names files)

abbrev pub has_key : List ℕ → List Key → Bool
has_key name keys = list_any (λ (k : Key). bytes_eq k.name.text name) keys

-- [[main]], whatever follows the key
abbrev pub is_marked : DeclaredUnit → Bool
is_marked x = has_key (codes "main") x.unit.keys

abbrev pub has_parameters : DeclaredUnit → Bool
has_parameters x = not (length x.unit.params == 0)

abbrev pub marked : List File → List DeclaredUnit
marked files = filter is_marked (units files)

abbrev pub without_parameters : List File → List DeclaredUnit
without_parameters files = filter (λ x. not (has_parameters x)) (units files)

abbrev pub sole : List DeclaredUnit → Option DeclaredUnit
sole (x ∷ []) = Some x
sole _ = None

abbrev pub picked : List DeclaredUnit → List DeclaredUnit → Option DeclaredUnit
picked [] others = sole others
picked (x ∷ all) others = sole (x ∷ all)

unfoldable pub main_of : List File → Option DeclaredUnit
main_of files = picked (marked files) (without_parameters files)

abbrev pub lacks_main : List DeclaredUnit → List DeclaredUnit → Bool
lacks_main [] others = not (is_some (sole others))
lacks_main (x ∷ all) others = false

-- those marked behind another
abbrev pub further : List DeclaredUnit → List DeclaredUnit
further [] = []
further (x ∷ all) = all
