-- The tasks of a run, which a patch and its module have in common: docs/MODULE.md, "How a run goes".
-- A run is a list of tasks: values are set, and parts are begun, each with a budget of its own. `Players` says
-- what comes of it. Here a part is a part of a run, a frame is the last part of a frame of the script, and an
-- endpoint is given by its number among all endpoints of the host.
use Rattle.std.specs.Prelude.{ℕ, zero, suc, ◌+◌, ◌*◌, ◌==◌, List, [], ◌∷◌, ◌++◌, length, take, drop, replicate, filter, map, Bool, true, false, ◌&&◌, if◌then◌else◌, Option, Some, None, unwrap_or, ℤ, pos}
use Rattle.cm_base.specs.declared.host.Flow.{Flow}
use Rattle.cm_base.specs.declared.host.Flow.TheVariants.{Input, Output}
use Rattle.cm_base.specs.declared.host.Kind.{Kind}
use Rattle.cm_base.specs.declared.host.Kind.TheVariants as kinds
use Rattle.cm_base.specs.declared.host.Range.{Range}
use Rattle.cm_base.specs.declared.host.HostEnd.{HostEnd}
use Rattle.cm_base.specs.declared.play.Saved.{Saved}
use Rattle.cm_base.specs.declared.play.Setting.{Setting}
use Rattle.cm_base.specs.declared.play.Script.{Script}

-- what the stream inputs of the host carry in one frame: the scalars of each endpoint, none for an
-- endpoint that is no stream input
abbrev pub Inputs : Type 0
Inputs = List (List ℤ)

-- the inits of all leaves; an event that the host sends, at a frame; the rest of a frame
pub data Part : Type 0 where
  Init : Part
  Send : (frame endpoint : ℕ) → (value : List ℤ) → (inputs : Inputs) → Part
  Frame : (frame : ℕ) → (inputs : Inputs) → Part

pub data Task : Type 0 where
  Set : (endpoint : ℕ) → (value : List ℤ) → Task
  Begin : (part : Part) → Task

-- ---- what happens in a frame

abbrev pub is_input : Flow → Bool
is_input Input = true
is_input Output = false

abbrev pub is_stream : Kind → Bool
is_stream kinds.Stream = true
is_stream kinds.Value = false
is_stream kinds.Event = false

abbrev pub is_value : Kind → Bool
is_value kinds.Stream = false
is_value kinds.Value = true
is_value kinds.Event = false

abbrev pub is_event : Kind → Bool
is_event kinds.Stream = false
is_event kinds.Value = false
is_event kinds.Event = true

abbrev pub is_stream_input : HostEnd → Bool
is_stream_input end = is_input end.flow && is_stream end.kind

-- this many scalars from the place on, 0 where none are given
abbrev pub given_at : ℕ → ℕ → List ℤ → List ℤ
given_at place count given = take count (drop place given ++ replicate count (pos 0))

abbrev pub input_of : HostEnd → List ℤ → ℕ → List ℤ
input_of end given frame = if is_stream_input end then given_at (frame * length end.shape) (length end.shape) given else []

abbrev pub first_of : List (List ℤ) → List ℤ
first_of [] = []
first_of (given ∷ others) = given

-- what the streams have at a frame
abbrev pub inputs_at : List HostEnd → List (List ℤ) → ℕ → Inputs
inputs_at [] streams frame = []
inputs_at (end ∷ ends) streams frame = input_of end (first_of streams) frame ∷ inputs_at ends (drop 1 streams) frame

abbrev pub settings_at : ℕ → List Setting → List Setting
settings_at frame settings = filter (λ setting. setting.frame == frame) settings

abbrev pub set_task : Setting → Task
set_task setting = Set setting.endpoint setting.value

abbrev pub send_task : ℕ → Inputs → Setting → Task
send_task frame inputs setting = Begin (Send frame setting.endpoint setting.value inputs)

-- first the values are set, then the events are delivered, each in the order of the script, and last comes the frame
abbrev pub frame_tasks : List HostEnd → Script → ℕ → List Task
frame_tasks ends script frame =
    map set_task (settings_at frame script.values)
    ++ (map (send_task frame (inputs_at ends script.streams frame)) (settings_at frame script.events)
    ++ Begin (Frame frame (inputs_at ends script.streams frame)) ∷ [])

-- this many frames from one on
abbrev pub frames_from : List HostEnd → Script → ℕ → ℕ → List Task
frames_from ends script frame zero = []
frames_from ends script frame (suc count) = frame_tasks ends script frame ++ frames_from ends script (frame + 1) count

-- ---- starting values

abbrev pub is_name : List ℕ → List ℕ → Bool
is_name [] [] = true
is_name (x ∷ xs) (y ∷ ys) = if x == y then is_name xs ys else false
is_name _ _ = false

-- the first value that is saved under the name
abbrev pub saved_value : List ℕ → List Saved → Option ℤ
saved_value name [] = None
saved_value name (entry ∷ saved) = if is_name entry.name name then Some entry.value else saved_value name saved

-- the saved value of a parameter, or else the one that it starts with
abbrev pub start_of : HostEnd → Range → List Saved → ℤ
start_of end range saved = unwrap_or (saved_value end.name saved) range.init

-- a parameter that is a value is set, and one that is an event is delivered in frame 0
abbrev pub start_task : HostEnd → ℕ → ℤ → Inputs → Task
start_task end number value inputs =
    if is_event end.kind then Begin (Send 0 number (value ∷ []) inputs) else Set number (value ∷ [])

abbrev pub start_tasks_of : HostEnd → ℕ → Option Range → List Saved → Inputs → List Task
start_tasks_of end number None saved inputs = []
start_tasks_of end number (Some range) saved inputs = start_task end number (start_of end range saved) inputs ∷ []

-- each parameter takes its starting value, in declaration order, from the endpoint of this number on
abbrev pub start_tasks : List HostEnd → ℕ → List Saved → Inputs → List Task
start_tasks [] number saved inputs = []
start_tasks (end ∷ ends) number saved inputs =
    start_tasks_of end number end.parameter saved inputs ++ start_tasks ends (number + 1) saved inputs

-- ---- whole runs

-- the starting values over streams that are 0, and so many frames
abbrev pub tasks_after_init : List HostEnd → List Saved → Script → ℕ → List Task
tasks_after_init ends saved script frames = start_tasks ends 0 saved (inputs_at ends [] 0) ++ frames_from ends script 0 frames

-- the inits come first
abbrev pub tasks_of : List HostEnd → List Saved → Script → ℕ → List Task
tasks_of ends saved script frames = Begin Init ∷ tasks_after_init ends saved script frames

-- the inputs of the frames that come next, with nothing set and no event between
abbrev pub following : List Task → List Inputs
following (Begin (Frame frame inputs) ∷ tasks) = inputs ∷ following tasks
following _ = []

-- ---- parts by number and by name

-- the part of this number, counted from 0
abbrev pub part_at : ℕ → List Task → Option Part
part_at number [] = None
part_at number (Set endpoint value ∷ tasks) = part_at number tasks
part_at zero (Begin part ∷ tasks) = Some part
part_at (suc number) (Begin part ∷ tasks) = part_at number tasks

-- what a status names of a run that stops early: the inits, or a frame (docs/COMMANDS.md, "Statuses")
pub data At : Type 0 where
  InInit : At
  InFrame : (frame : ℕ) → At

-- a delivery belongs to its frame, and one of a starting value to frame 0
abbrev pub at_of : Part → At
at_of Init = InInit
at_of (Send frame endpoint value inputs) = InFrame frame
at_of (Frame frame inputs) = InFrame frame
