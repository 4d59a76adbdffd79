-- When a script and saved parameters can belong to host endpoints: docs/COMMANDS.md, "Input script" and "State file".
use Rattle.std.specs.Prelude.{ℕ, ◌≡◌, ◌<◌, ◌≤◌, List, [], ◌∷◌, length, filter, slice_get, Option, Some, None, ◌==◌, ℤ, pos, ◌≤ℤ◌, ◌<ℤ◌, FitsSigned}
use Rattle.std.specs.Int.{w32, w64}
use Rattle.std.specs.List.{AllByRecursion, flat_map}
use Rattle.std.specs.Bool.{OnTrue, OnFalse}
use Rattle.cm_base.specs.declared.host.Scalar.{Scalar}
use Rattle.cm_base.specs.declared.host.Scalar.TheVariants.{Int32, Int64, Bool as Truth, Wrap, Clamp}
use Rattle.cm_base.specs.declared.host.Flow.TheVariants.{Input}
use Rattle.cm_base.specs.declared.host.Kind.{Kind}
use Rattle.cm_base.specs.declared.host.Kind.TheVariants as kinds
use Rattle.cm_base.specs.declared.host.Range.{Range}
use Rattle.cm_base.specs.declared.host.HostEnd.{HostEnd}
use Rattle.cm_base.specs.declared.play.Saved.{Saved}
use Rattle.cm_base.specs.declared.play.Setting.{Setting}
use Rattle.cm_base.specs.declared.play.Script.{Script}
use Rattle.cm_base.specs.Parts.{is_stream_input, start_of}

-- ---- scalars

-- from 0 and below the count
abbrev pub IsBelow : ℕ → ℤ → Type 0
IsBelow n z = (pos 0 ≤ℤ z) × (z <ℤ pos n)

-- the number is a value of the kind
abbrev pub IsOfKind : Scalar → ℤ → Type 0
IsOfKind Int32 z = FitsSigned w32 z
IsOfKind Int64 z = FitsSigned w64 z
IsOfKind Truth z = IsBelow 2 z
IsOfKind (Wrap n) z = IsBelow n z
IsOfKind (Clamp n) z = IsBelow n z

-- as many scalars as the shape has, each of its kind
abbrev pub HasShape : List Scalar → List ℤ → Type 0
HasShape [] [] = Unit {0}
HasShape [] (z ∷ zs) = ⊥
HasShape (kind ∷ kinds) [] = ⊥
HasShape (kind ∷ kinds) (z ∷ zs) = IsOfKind kind z × HasShape kinds zs

-- one value of the shape after another, so many of them
pub record AreShaped (shape : List Scalar) (count : ℕ) (scalars : List ℤ) : Type 0 where
  pub values : List (List ℤ)
  pub many : length values ≡ count
  pub whole : scalars ≡ flat_map (λ value. value) values
  pub each : AllByRecursion (HasShape shape) values

-- ---- scripts

-- at most so many frames are given
pub record IsGiven (frames : ℕ) (end : HostEnd) (scalars : List ℤ) : Type 0 where
  pub given : ℕ
  pub few : given ≤ frames
  pub shaped : AreShaped end.shape given scalars

-- the streams of the endpoints: a stream input's frames, and nothing for another endpoint
abbrev pub AreStreams : ℕ → List HostEnd → List (List ℤ) → Type 0
AreStreams frames [] streams = streams ≡ []
AreStreams frames (end ∷ ends) [] = ⊥
AreStreams frames (end ∷ ends) (scalars ∷ streams) =
    OnTrue (is_stream_input end) (IsGiven frames end scalars) × OnFalse (is_stream_input end) (scalars ≡ []) × AreStreams frames ends streams

-- a parameter is set to values in its range
abbrev pub IsInRange : Option Range → List ℤ → Type 0
IsInRange None value = Unit {0}
IsInRange (Some range) value = AllByRecursion (λ z. (range.min ≤ℤ z) × (z ≤ℤ range.max)) value

-- an input of the kind takes the value
pub record Takes (kind : Kind) (end : HostEnd) (value : List ℤ) : Type 0 where
  pub flow : end.flow ≡ Input
  pub right_kind : end.kind ≡ kind
  pub shape : HasShape end.shape value
  pub range : IsInRange end.parameter value

-- what is set or sent: at a frame of the script, to an input of the kind that takes the value
pub record IsSetting (kind : Kind) (frames : ℕ) (ends : List HostEnd) (setting : Setting) : Type 0 where
  pub frame : setting.frame < frames
  pub end : HostEnd
  pub found : slice_get ends setting.endpoint ≡ Some end
  pub takes : Takes kind end setting.value

-- frames don't fall from one setting to the next
abbrev pub AreFrom : ℕ → List Setting → Type 0
AreFrom frame [] = Unit {0}
AreFrom frame (setting ∷ settings) = (frame ≤ setting.frame) × AreFrom setting.frame settings

-- at most 1,024 events in a frame
abbrev pub IsWithinEvents : List Setting → Type 0
IsWithinEvents events = (frame : ℕ) → length (filter (λ event. event.frame == frame) events) ≤ 1024

-- a script for these endpoints, of any length
pub record IsScriptFor (ends : List HostEnd) (script : Script) : Type 0 where
  pub streams : AreStreams script.frames ends script.streams
  pub values : AllByRecursion (IsSetting kinds.Value script.frames ends) script.values
  pub values_rise : AreFrom 0 script.values
  pub events : AllByRecursion (IsSetting kinds.Event script.frames ends) script.events
  pub events_rise : AreFrom 0 script.events

-- how long the script of a file may be
pub record IsWithinLimits (script : Script) : Type 0 where
  pub frames : script.frames ≤ 1048576
  pub events : IsWithinEvents script.events

-- a script that a file may hold for these endpoints
pub record IsScript (ends : List HostEnd) (script : Script) : Type 0 where
  pub belongs : IsScriptFor ends script
  pub limits : IsWithinLimits script

-- ---- saved parameters

-- the value that is saved for a parameter is in its range
abbrev pub IsSavedIn : HostEnd → Option Range → List Saved → Type 0
IsSavedIn end None saved = Unit {0}
IsSavedIn end (Some range) saved = (range.min ≤ℤ start_of end range saved) × (start_of end range saved ≤ℤ range.max)

-- each saved value of a parameter is in its range
abbrev pub AreSaved : List HostEnd → List Saved → Type 0
AreSaved ends saved = AllByRecursion (λ end. IsSavedIn end end.parameter saved) ends
