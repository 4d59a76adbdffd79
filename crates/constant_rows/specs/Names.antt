-- What the names of a row are found to be.
use Rattle.std.specs.Prelude.{ℕ, List, [], ◌∷◌, bytes_eq, if◌then◌else◌}
use Rattle.cm_types.specs.Meant.{meant_type, meant_valued}
use Rattle.const_values.specs.Names.{Known, IsValue, IsType, IsParameter, IsOther}
use Rattle.constant_rows.specs.Lawful.{is_sound, is_sound_type}
use Rattle.constant_rows.specs.declared.names.Entry.{Entry}
use Rattle.constant_rows.specs.declared.names.Meaning.{Meaning}
use Rattle.constant_rows.specs.declared.names.Meaning.TheVariants as m

abbrev pub known_as : Meaning → Known
known_as (m.Constant v) = if is_sound (meant_valued v) then IsValue (meant_valued v) else IsOther
known_as (m.Type t) = if is_sound_type (meant_type t) then IsType (meant_type t) else IsOther
known_as (m.Parameter i) = IsParameter i

-- the first declaration of a name is what counts
unfoldable pub known_in : List ℕ → List Entry → Known
known_in name [] = IsOther
known_in name (e ∷ all) = if bytes_eq e.name name then known_as e.meaning else known_in name all

-- a path of one name
abbrev pub known_by : List (List ℕ) → List Entry → Known
known_by (name ∷ []) all = known_in name all
known_by _ all = IsOther
