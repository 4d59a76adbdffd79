-- What the tasks of a run hold, where its script and saved parameters belong to the endpoints: docs/MODULE.md,
-- "How a run goes".
use Rattle.std.specs.Prelude.{ℕ, ◌≡◌, List, [], ◌∷◌, slice_get, Some, ℤ}
use Rattle.std.specs.Bool.{OnTrue, OnFalse}
use Rattle.std.specs.List.{AllByRecursion}
use Rattle.cm_base.specs.declared.host.Kind.{Kind}
use Rattle.cm_base.specs.declared.host.Kind.TheVariants as kinds
use Rattle.cm_base.specs.declared.host.HostEnd.{HostEnd}
use Rattle.cm_base.specs.declared.play.Saved.{Saved}
use Rattle.cm_base.specs.declared.play.Script.{Script}
use Rattle.cm_base.specs.HostEnds.{IsLawful}
use Rattle.cm_base.specs.Parts.{Inputs, Part, Init, Send, Frame, Task, Set, Begin, is_stream_input, tasks_after_init}
use Rattle.cm_base.specs.Scripts.{HasShape, Takes, IsScriptFor, AreSaved}

-- the streams of a frame: scalars of the shape for a stream input, and nothing for another endpoint
abbrev pub AreInputs : List HostEnd → Inputs → Type 0
AreInputs [] inputs = inputs ≡ []
AreInputs (end ∷ ends) [] = ⊥
AreInputs (end ∷ ends) (scalars ∷ inputs) =
    OnTrue (is_stream_input end) (HasShape end.shape scalars) × OnFalse (is_stream_input end) (scalars ≡ []) × AreInputs ends inputs

-- the endpoint of this number is an input of the kind that takes the value
pub record IsTaken (kind : Kind) (ends : List HostEnd) (endpoint : ℕ) (value : List ℤ) : Type 0 where
  pub end : HostEnd
  pub found : slice_get ends endpoint ≡ Some end
  pub takes : Takes kind end value

-- a part after the inits
abbrev pub IsPart : List HostEnd → Part → Type 0
IsPart ends Init = ⊥
IsPart ends (Send frame endpoint value inputs) = IsTaken kinds.Event ends endpoint value × AreInputs ends inputs
IsPart ends (Frame frame inputs) = AreInputs ends inputs

-- a task after the inits
abbrev pub IsTask : List HostEnd → Task → Type 0
IsTask ends (Set endpoint value) = IsTaken kinds.Value ends endpoint value
IsTask ends (Begin part) = IsPart ends part

-- what the frames carry that come next with nothing between, where a part begins
abbrev pub ahead : Part → List Inputs → List Inputs
ahead Init coming = []
ahead (Send frame endpoint value inputs) coming = []
ahead (Frame frame inputs) coming = inputs ∷ coming

-- the tasks after the inits are so, for endpoints that can belong to a patch and what belongs to them
abbrev pub TasksFit : Type 0
TasksFit = (ends : List HostEnd) (saved : List Saved) (script : Script) (frames : ℕ) → IsLawful ends → AreSaved ends saved → IsScriptFor ends script →
    AllByRecursion (IsTask ends) (tasks_after_init ends saved script frames)
