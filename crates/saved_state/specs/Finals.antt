-- The values of parameters at the end of a run: docs/COMMANDS.md, "State file".
use Rattle.std.specs.Prelude.{ℕ, ◌+◌, ◌==◌, List, [], ◌∷◌, ◌++◌, slice_set, if◌then◌else◌, Option, Some, None, option_to_list, ℤ, pos}
use Rattle.cm_base.specs.declared.host.Range.{Range}
use Rattle.cm_base.specs.declared.host.HostEnd.{HostEnd}
use Rattle.cm_base.specs.declared.play.Saved.{Saved}
use Rattle.cm_base.specs.declared.play.Script.{Script}
use Rattle.cm_base.specs.declared.play.Setting.{Setting}
use Rattle.cm_base.specs.Parts.{start_of}

-- the scalar of a parameter's value
abbrev pub scalar_in : List ℤ → ℤ
scalar_in [] = pos 0
scalar_in (z ∷ zs) = z

-- what the last of the settings of the endpoint sets or sends, and the other value where none is of it
abbrev pub last_or : ℤ → (number : ℕ) → List Setting → ℤ
last_or other number [] = other
last_or other number (setting ∷ settings) = last_or (if setting.endpoint == number then scalar_in setting.value else other) number settings

-- the last value of a parameter that the script sets or sends, else the one that the run begins with
abbrev pub final_of : HostEnd → Option Range → (number : ℕ) → List Saved → Script → Option ℤ
final_of end None number saved script = None
final_of end (Some range) number saved script = Some (last_or (start_of end range saved) number (script.values ++ script.events))

-- those of the parameters from the endpoint of this number on
abbrev pub finals_from : (number : ℕ) → List HostEnd → List Saved → Script → List ℤ
finals_from number [] saved script = []
finals_from number (end ∷ ends) saved script = option_to_list (final_of end end.parameter number saved script) ++ finals_from (number + 1) ends saved script

-- the values of the parameters at the end of a run, in declaration order
abbrev pub final_values : List HostEnd → List Saved → Script → List ℤ
final_values ends saved script = finals_from 0 ends saved script

-- ---- endpoint by endpoint

-- what an endpoint starts with, where all have a value
abbrev pub start_in : HostEnd → Option Range → List Saved → ℤ
start_in end None saved = pos 0
start_in end (Some range) saved = start_of end range saved

-- each setting replaces the value of its endpoint
abbrev pub after_settings : List Setting → List ℤ → List ℤ
after_settings [] now = now
after_settings (setting ∷ settings) now = after_settings settings (slice_set now setting.endpoint (scalar_in setting.value))

-- the value of an endpoint that is a parameter
abbrev pub kept_of : Option Range → ℤ → List ℤ
kept_of None z = []
kept_of (Some range) z = z ∷ []

-- those of the endpoints that are parameters
abbrev pub kept_in : List HostEnd → List ℤ → List ℤ
kept_in [] now = []
kept_in (end ∷ ends) [] = []
kept_in (end ∷ ends) (z ∷ now) = kept_of end.parameter z ++ kept_in ends now
