-- State files, and what reading one answers: docs/COMMANDS.md, "State file".
use Rattle.std.specs.Prelude.{ℕ, ◌≡◌, List, Bool, IsTrue, IsFalse, if◌then◌else◌, take, Ok, Err}
use Rattle.std.specs.Str.{bytes_eq}
use Rattle.cm_base.specs.declared.play.Saved.{Saved}
use Rattle.cm_base.specs.declared.forms.FormFault.{FormFault}
use Rattle.cm_base.specs.declared.forms.FormRule.TheVariants.{Shape}
use Rattle.cm_base.specs.declared.forms.FormPart.TheVariants.{Whole}
use Rattle.cm_base.specs.declared.forms.FormFail.{FormFail}
use Rattle.cm_base.specs.declared.forms.FormFail.TheVariants as fail
use Rattle.saved_state.specs.declared.state.State.{State}
use Rattle.saved_state.specs.declared.state.State.TheVariants as states
use Rattle.saved_state.specs.declared.state.Version2.{Version2}
use Rattle.json_value.specs.Form.{fault}
use Rattle.saved_state.specs.Version1.{version_1}
use Rattle.saved_state.specs.Version2.{mark, IsVersion2}

-- the file begins with the mark of version 2
abbrev pub is_version_2 : List ℕ → Bool
is_version_2 bytes = bytes_eq (take 4 bytes) mark

-- how many bytes a file may have when it is read, by its version
abbrev pub limit_of : List ℕ → ℕ
limit_of bytes = if is_version_2 bytes then 67108864 else 1048576

-- the parameters that a state has
abbrev pub parameters_in : State → List Saved
parameters_in (states.Version1 saved) = saved
parameters_in (states.Version2 state) = state.saved

-- the state that a file has
pub data IsState (bytes : List ℕ) : State → Type 0 where
  of_version_1 : (saved : List Saved) → IsFalse (is_version_2 bytes) → version_1 bytes ≡ Ok saved → IsState bytes (states.Version1 saved)
  of_version_2 : (state : Version2) → IsTrue (is_version_2 bytes) → IsVersion2 bytes state → IsState bytes (states.Version2 state)

-- the rule that a file fails
pub data IsStateFault (bytes : List ℕ) : FormFault → Type 0 where
  in_version_1 : (found : FormFault) → IsFalse (is_version_2 bytes) → version_1 bytes ≡ Err found → IsStateFault bytes found
  in_version_2 : IsTrue (is_version_2 bytes) → ((state : Version2) → ¬ IsVersion2 bytes state) → IsStateFault bytes (fault Shape Whole 0)

-- a file of version 2 isn't read where it has no state
abbrev pub IsVersion2Fail : List ℕ → FormFail → Type 0
IsVersion2Fail bytes (fail.Refused found) = (found ≡ fault Shape Whole 0) × ((state : Version2) → ¬ IsVersion2 bytes state)
IsVersion2Fail bytes fail.NoMemory = Unit {0}

-- why a file isn't read; want of memory may come at any time
abbrev pub IsStateFail : List ℕ → FormFail → Type 0
IsStateFail bytes (fail.Refused fault) = IsStateFault bytes fault
IsStateFail bytes fail.NoMemory = Unit {0}
