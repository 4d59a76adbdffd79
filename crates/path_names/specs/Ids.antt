-- Numbers of declarations: docs/LANGUAGE.md, "Names". The declarations of namespaces have numbers, and those of scopes have
-- numbers of their own, each in the order in which they come.
use Rattle.std.specs.Prelude.{◌≡◌, List, [], ◌∷◌, ◌++◌, Option, Some, option_map, slice_get, slice_index_or}
use Rattle.std.specs.Option.{option_copied}
use Rattle.cm_base.specs.declared.place.Place.{Place}
use Rattle.cm_meaning.specs.Declared.{Space, Declared}
use Rattle.cm_meaning.specs.Scopes.{declared}
use Rattle.scope_walk.specs.Meant.{named_as}
use Rattle.scope_walk.specs.Steps.{Introduces, Stand, Step, step_after}
use Rattle.path_names.specs.Found.{Found}
use Rattle.path_names.specs.declared.id.DeclId.{DeclId}
use Rattle.path_names.specs.declared.id.DeclId.TheVariants as i
use Rattle.path_names.specs.declared.id.Use.{Use}
use Rattle.path_names.specs.declared.local.Local.{Local}

-- the declaration of a number, among those of namespaces and those of scopes
abbrev pub declared_as : List Declared → List Declared → DeclId → Option Declared
declared_as members locals (i.Member n) = slice_get members n
declared_as members locals (i.Local n) = slice_get locals n

-- what is found has this number, or nothing is found
abbrev pub StandsFor : List Declared → List Declared → Option DeclId → Option Declared → Type 0
StandsFor members locals id found = option_map (declared_as members locals) id ≡ option_map Some found

-- declarations of namespaces, those of other scopes, and the places of paths with the numbers of what they stand for
pub record Named : Type 0 where
  pub members : List Declared
  pub locals : List Declared
  pub uses : List Use

-- a place, and the declaration of the number that it has, if it has one
abbrev pub use_as : List Declared → List Declared → Use → Place × Option (Option Declared)
use_as members locals u = (u.place, option_map (declared_as members locals) u.id)

-- the place of a path, and what the path finds, if it finds something
abbrev pub placed : Found → Place × Option (Option Declared)
placed f = (f.0.place, option_map Some f.1)

-- ---- the declarations of scopes

-- where these namespaces have numbers
abbrev pub local_in : List Space → Local → Declared
local_in spaces l = declared (record { space = slice_index_or spaces l.space []; unit = option_copied l.unit }) l.word.now (named_as l.declaration)

abbrev pub step_declared : Stand → Step → List Declared
step_declared s (Introduces w n) = declared s.home w n ∷ []
step_declared s _ = []

-- what steps declare, in their order
unfoldable pub declared_by : Stand → List Step → List Declared
declared_by s [] = []
declared_by s (a ∷ steps) = step_declared s a ++ declared_by (step_after s a) steps
