-- What saved parameters mean for the endpoints of a host, and what of them is written: docs/COMMANDS.md, "State file".
use Rattle.std.specs.Prelude.{ℕ, ◌≡◌, List, [], ◌∷◌, ◌++◌, drop, is_some, if◌then◌else◌, Option, Some, None, option_to_list, ℤ, ◌≤ℤ◌}
use Rattle.std.specs.List.{AllByRecursion}
use Rattle.cm_base.specs.declared.host.Range.{Range}
use Rattle.cm_base.specs.declared.host.HostEnd.{HostEnd}
use Rattle.cm_base.specs.declared.play.Saved.{Saved}
use Rattle.cm_base.specs.declared.play.Snapshot.{Snapshot}
use Rattle.cm_base.specs.Parts.{start_of}
use Rattle.cm_number.specs.Conversion.{nearest}
use Rattle.saved_state.specs.declared.state.Version2.{Version2}
use Rattle.saved_state.specs.Version2.{IsCounted}

-- the value of a parameter: the first that is saved under its name, else the one it starts with, held in its range
abbrev pub value_of : HostEnd → Option Range → List Saved → Option ℤ
value_of end None saved = None
value_of end (Some range) saved = Some (nearest range.min range.max (start_of end range saved))

-- the values of the parameters, in declaration order
abbrev pub values_of : List HostEnd → List Saved → List ℤ
values_of [] saved = []
values_of (end ∷ ends) saved = option_to_list (value_of end end.parameter saved) ++ values_of ends saved

-- the first value is in the range of the parameter, if it is one
abbrev pub IsValueOf : Option Range → List ℤ → Type 0
IsValueOf None values = Unit {0}
IsValueOf (Some range) [] = ⊥
IsValueOf (Some range) (z ∷ values) = (range.min ≤ℤ z) × (z ≤ℤ range.max)

-- the values behind the one of this endpoint, if it is a parameter
abbrev pub after_value : HostEnd → List ℤ → List ℤ
after_value end values = if is_some end.parameter then drop 1 values else values

-- one value in range for each parameter, in declaration order
abbrev pub AreValues : List HostEnd → List ℤ → Type 0
AreValues [] values = values ≡ []
AreValues (end ∷ ends) values = IsValueOf end.parameter values × AreValues ends (after_value end values)

-- the first value under this name
abbrev pub named : List ℕ → List ℤ → List Saved
named name [] = []
named name (z ∷ values) = record { name = name; value = z } ∷ []

-- the endpoint with its value, if it is a parameter
abbrev pub parameter_with : HostEnd → List ℤ → List Saved
parameter_with end values = if is_some end.parameter then named end.name values else []

-- the parameters with their values, in declaration order
abbrev pub saved_with : List HostEnd → List ℤ → List Saved
saved_with [] values = []
saved_with (end ∷ ends) values = parameter_with end values ++ saved_with ends (after_value end values)

-- the parameters with the values that they begin with, as a run takes them
abbrev pub restored : List HostEnd → List Saved → List Saved
restored ends saved = saved_with ends (values_of ends saved)

abbrev pub state_with : List HostEnd → List ℤ → List ℕ → Snapshot → Version2
state_with ends values module_bytes snapshot = record { saved = saved_with ends values; module_bytes = module_bytes; snapshot = snapshot }

-- names and counts have 4 bytes
pub record AreShort (ends : List HostEnd) (code : List ℕ) (snapshot : Snapshot) : Type 0 where
  pub names : AllByRecursion (λ end. IsCounted end.name) ends
  pub module_bytes : IsCounted code
  pub memory : IsCounted snapshot.memory
  pub globals : IsCounted snapshot.globals
  pub current : IsCounted snapshot.current
