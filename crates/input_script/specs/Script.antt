-- The script that a file has for the endpoints of a host: docs/COMMANDS.md, "Input script". The rules are judged in
-- the order in which they stand here, and the first that fails is named.
use Rattle.std.specs.Prelude.{⊤, ℕ, ◌≡◌, ◌+◌, ◌-◌, ◌==◌, nat_lt, nat_le, List, [], ◌∷◌, length, replicate, slice_get, slice_set, codes, Bool, true, false, ◌&&◌, ◌||◌, if◌then◌else◌, Option, Some, None, option_map, option_and_then, unwrap_or, Result, Ok, Err, ℤ, pos, ◌≤ℤ◌}
use Rattle.std.specs.List.{position_from}
use Rattle.std.specs.Option.{option_or}
use Rattle.std.specs.Str.{bytes_eq}
use Rattle.serde_json.specs.Data.{Data, Items, no_items, item, Members, no_members, member}
use Rattle.serde_json.specs.Events.{items_len}
use Rattle.serde_json.specs.Find.{get, as_bool, as_number, as_u64, as_str, as_array, as_object}
use Rattle.cm_base.specs.declared.forms.FormFault.{FormFault}
use Rattle.cm_base.specs.declared.forms.FormRule.{FormRule}
use Rattle.cm_base.specs.declared.forms.FormRule.TheVariants as rule
use Rattle.cm_base.specs.declared.forms.FormPart.{FormPart}
use Rattle.cm_base.specs.declared.forms.FormPart.TheVariants as part
use Rattle.cm_base.specs.declared.forms.FormFail.{FormFail}
use Rattle.cm_base.specs.declared.forms.FormFail.TheVariants as fail
use Rattle.cm_base.specs.declared.host.Scalar.{Scalar}
use Rattle.cm_base.specs.declared.host.Scalar.TheVariants.{Int32, Int64, Bool as Truth, Wrap, Clamp}
use Rattle.cm_base.specs.declared.host.Kind.{Kind}
use Rattle.cm_base.specs.declared.host.Kind.TheVariants as kinds
use Rattle.cm_base.specs.declared.host.Range.{Range}
use Rattle.cm_base.specs.declared.host.HostEnd.{HostEnd}
use Rattle.cm_base.specs.declared.play.Setting.{Setting}
use Rattle.cm_base.specs.declared.play.Script.{Script}
use Rattle.cm_base.specs.Parts.{is_input, is_stream, is_value, is_event}
use Rattle.cm_number.specs.Conversion.{nearest}
use Rattle.cm_scalar.specs.Scalars.{converted}
use Rattle.json_value.specs.Form.{fault, or_fault, after, followed, joined, with_front, integer_of, told}
use Rattle.json_value.specs.Value.{value_of}
use Rattle.input_script.specs.declared.at.At.{At}
use Rattle.input_script.specs.declared.streams.Given.{Given}

-- the member of the script in which a rule fails, and the entry or the name in it
abbrev pub fails : At → FormRule → FormFault
fails at rule = fault rule at.part at.index

abbrev pub at_entry : FormPart → ℕ → At
at_entry part index = record { part = part; index = told index }

-- ---- lists

-- what code adds to a list is what is read, unless memory runs out
abbrev pub Adds : {X : Type 0} → List X → List X → Result ⊤ FormFail → Result (List X) FormFault → Type 0
Adds old new (Ok _) read = with_front old read ≡ Ok new
Adds old new (Err (fail.Refused fault)) read = read ≡ Err fault
Adds old new (Err fail.NoMemory) read = Unit {0}

-- ---- values

abbrev pub number_of_truth : Bool → ℤ
number_of_truth true = pos 1
number_of_truth false = pos 0

-- only a `bool` is given by a truth value
abbrev pub truth_of : Scalar → Data → Option ℤ
truth_of Int32 value = None
truth_of Int64 value = None
truth_of Truth value = option_map number_of_truth (as_bool value)
truth_of (Wrap n) value = None
truth_of (Clamp n) value = None

-- the number that is given for a scalar of the kind
abbrev pub number_of : Scalar → Data → Option ℤ
number_of kind value = option_or (truth_of kind value) (integer_of value)

-- what is sent to a parameter is held in its range
abbrev pub held : Option Range → ℤ → ℤ
held None z = z
held (Some range) z = nearest range.min range.max z

-- such a range isn't empty
abbrev pub IsRange : Option Range → Type 0
IsRange None = Unit {0}
IsRange (Some range) = range.min ≤ℤ range.max

-- a scalar of the kind, for an input whose parameter has this range
abbrev pub scalar_of : At → Option Range → Scalar → Data → Result ℤ FormFault
scalar_of at range kind value =
    after (or_fault (fails at rule.Scalar) (number_of kind value)) (λ z. Ok (held range (converted kind z)))

-- scalars of these kinds, one for each item
abbrev pub scalars_of : At → Option Range → List Scalar → Items → Result (List ℤ) FormFault
scalars_of at range [] items = Ok []
scalars_of at range (kind ∷ kinds) no_items = Ok []
scalars_of at range (kind ∷ kinds) (item value items) = followed (scalar_of at range kind value) (scalars_of at range kinds items)

-- an array of as many scalars as the shape has
abbrev pub array_of : At → Option Range → List Scalar → Data → Result (List ℤ) FormFault
array_of at range shape value =
    after (or_fault (fails at rule.Shape) (as_array value)) (λ items.
    if items_len items == length shape then scalars_of at range shape items else Err (fails at rule.Count))

-- one scalar where the shape has one, else an array
abbrev pub shaped : At → Option Range → List Scalar → Data → Result (List ℤ) FormFault
shaped at range [] value = array_of at range [] value
shaped at range (kind ∷ []) value = after (scalar_of at range kind value) (λ z. Ok (z ∷ []))
shaped at range (kind ∷ other ∷ kinds) value = array_of at range (kind ∷ other ∷ kinds) value

abbrev pub value_for : At → HostEnd → Data → Result (List ℤ) FormFault
value_for at end value = shaped at end.parameter end.shape value

-- ---- inputs

abbrev pub is_kind : Kind → Kind → Bool
is_kind kinds.Stream other = is_stream other
is_kind kinds.Value other = is_value other
is_kind kinds.Event other = is_event other

abbrev pub is_input_of : Kind → HostEnd → Bool
is_input_of kind end = is_input end.flow && is_kind kind end.kind

-- an input and its number among all endpoints
pub record Numbered : Type 0 where
  pub number : ℕ
  pub end : HostEnd

-- the number of the endpoint of this name
abbrev pub number_named : List HostEnd → List ℕ → Option ℕ
number_named ends name = position_from (λ end. bytes_eq end.name name) 0 ends

abbrev pub input_at : Kind → List HostEnd → ℕ → Option Numbered
input_at kind ends number =
    option_and_then (λ end. if is_input_of kind end then Some (record { number = number; end = end }) else None) (slice_get ends number)

-- the input of this kind and name
abbrev pub input_named : Kind → List HostEnd → List ℕ → Option Numbered
input_named kind ends name = option_and_then (input_at kind ends) (number_named ends name)

-- ---- streams

-- the values of a stream, one for each frame from 0
abbrev pub frames_of : At → HostEnd → Items → Result (List ℤ) FormFault
frames_of at end no_items = Ok []
frames_of at end (item value items) = joined (value_for at end value) (frames_of at end items)

-- at most one value for each frame
abbrev pub stream_of : At → ℕ → HostEnd → Data → Result (List ℤ) FormFault
stream_of at frames end value =
    after (or_fault (fails at rule.Shape) (as_array value)) (λ items.
    if nat_le (items_len items) frames then frames_of at end items else Err (fails at rule.Count))

-- the member of this index among those of `streams`
abbrev pub given_by : List HostEnd → ℕ → ℕ → List ℕ → Data → Result Given FormFault
given_by ends frames index name value =
    after (or_fault (fails (at_entry part.Streams index) rule.Endpoint) (input_named kinds.Stream ends name)) (λ found.
    after (stream_of (at_entry part.Streams index) frames found.end value) (λ scalars.
    Ok (record { number = found.number; scalars = scalars })))

-- the members of `streams`, in the order of their names, the first of which has this index
abbrev pub given_from : List HostEnd → ℕ → ℕ → Members → Result (List Given) FormFault
given_from ends frames index no_members = Ok []
given_from ends frames index (member name value members) =
    followed (given_by ends frames index name value) (given_from ends frames (index + 1) members)

-- each stream that is given, at the number of its endpoint
abbrev pub placed : List (List ℤ) → List Given → List (List ℤ)
placed streams [] = streams
placed streams (given ∷ others) = placed (slice_set streams given.number given.scalars) others

abbrev pub placed_in : List (List ℤ) → Result (List Given) FormFault → Result (List (List ℤ)) FormFault
placed_in streams read = after read (λ given. Ok (placed streams given))

-- what code places is what is read, unless memory runs out
abbrev pub Places : List (List ℤ) → List (List ℤ) → Result ⊤ FormFail → Result (List Given) FormFault → Type 0
Places old new (Ok _) read = placed_in old read ≡ Ok new
Places old new (Err (fail.Refused fault)) read = read ≡ Err fault
Places old new (Err fail.NoMemory) read = Unit {0}

-- the streams of endpoints, of which none are given
abbrev pub no_streams : List HostEnd → List (List ℤ)
no_streams ends = replicate (length ends) []

abbrev pub streams_of : List HostEnd → ℕ → Option Data → Result (List (List ℤ)) FormFault
streams_of ends frames None = Ok (no_streams ends)
streams_of ends frames (Some value) =
    after (or_fault (fault rule.Shape part.Streams 0) (as_object value)) (λ members. placed_in (no_streams ends) (given_from ends frames 0 members))

-- ---- values and events

abbrev pub part_of : Kind → FormPart
part_of kinds.Stream = part.Streams
part_of kinds.Value = part.Values
part_of kinds.Event = part.Events

-- an array of a frame, a name and a value
pub record Entry : Type 0 where
  pub frame : Data
  pub name : Data
  pub value : Data

abbrev pub entry_of_items : Items → Option Entry
entry_of_items no_items = None
entry_of_items (item frame no_items) = None
entry_of_items (item frame (item name no_items)) = None
entry_of_items (item frame (item name (item value no_items))) = Some (record { frame = frame; name = name; value = value })
entry_of_items (item frame (item name (item value (item more items)))) = None

abbrev pub entry_of : Data → Option Entry
entry_of value = option_and_then entry_of_items (as_array value)

-- an integer that isn't below the first frame and is below the end
abbrev pub frame_within : ℕ → ℕ → ℕ → Option ℕ
frame_within first end frame = if nat_le first frame && nat_lt frame end then Some frame else None

abbrev pub frame_of : ℕ → ℕ → Data → Option ℕ
frame_of first end value = option_and_then (frame_within first end) (option_and_then as_u64 (as_number value))

-- one entry, whose frame isn't below `first`
abbrev pub setting_of : Kind → List HostEnd → ℕ → At → ℕ → Data → Result Setting FormFault
setting_of kind ends frames at first value =
    after (or_fault (fails at rule.Shape) (entry_of value)) (λ entry.
    after (or_fault (fails at rule.Shape) (as_str entry.name)) (λ name.
    after (or_fault (fails at rule.Endpoint) (input_named kind ends name)) (λ found.
    after (or_fault (fails at rule.Frame) (frame_of first frames entry.frame)) (λ frame.
    after (value_for at found.end entry.value) (λ zs.
    Ok (record { frame = frame; endpoint = found.number; value = zs }))))))

-- no more than 1,024 events for one frame: this many come before in the frame
abbrev pub is_past : Kind → ℕ → Bool
is_past kinds.Stream before = false
is_past kinds.Value before = false
is_past kinds.Event before = nat_le 1024 before

-- the index of the first entry for the frame of this setting, where the entries before it ended at this frame with
-- this first index
abbrev pub first_index : ℕ → ℕ → ℕ → ℕ → ℕ
first_index index frame first now = if now == frame then first else index

-- the entries from this index on; the one before has this frame, whose first entry has the index `first`
abbrev pub settings_from : Kind → List HostEnd → ℕ → ℕ → ℕ → ℕ → Items → Result (List Setting) FormFault
settings_from kind ends frames index frame first no_items = Ok []
settings_from kind ends frames index frame first (item value items) =
    after (setting_of kind ends frames (at_entry (part_of kind) index) frame value) (λ setting.
    if is_past kind (index - first_index index frame first setting.frame) then Err (fails (at_entry (part_of kind) index) rule.EventLimit) else
    followed (Ok setting) (settings_from kind ends frames (index + 1) setting.frame (first_index index frame first setting.frame) items))

abbrev pub settings_of : Kind → List HostEnd → ℕ → Option Data → Result (List Setting) FormFault
settings_of kind ends frames None = Ok []
settings_of kind ends frames (Some value) =
    after (or_fault (fault rule.Shape (part_of kind) 0) (as_array value)) (settings_from kind ends frames 0 0 0)

-- ---- scripts

abbrev pub is_member : List ℕ → Bool
is_member name =
    bytes_eq name (codes "frames") || bytes_eq name (codes "streams") || bytes_eq name (codes "values") || bytes_eq name (codes "events")

abbrev pub are_members : Members → Bool
are_members no_members = true
are_members (member name value members) = is_member name && are_members members

-- at most 1,048,576 frames
abbrev pub few_frames : ℕ → Option ℕ
few_frames count = if nat_le count 1048576 then Some count else None

abbrev pub count_of : Data → Option ℕ
count_of value = option_and_then few_frames (option_and_then as_u64 (as_number value))

-- an object with no other members than these
abbrev pub has_members : Data → Bool
has_members value = unwrap_or (option_map are_members (as_object value)) false

-- the members over so many frames
abbrev pub script_over : List HostEnd → Data → ℕ → Result Script FormFault
script_over ends value frames =
    after (streams_of ends frames (get (codes "streams") value)) (λ streams.
    after (settings_of kinds.Value ends frames (get (codes "values") value)) (λ values.
    after (settings_of kinds.Event ends frames (get (codes "events") value)) (λ events.
    Ok (record { frames = frames; streams = streams; values = values; events = events }))))

abbrev pub counted : List HostEnd → Data → Result Script FormFault
counted ends value =
    after (or_fault (fault rule.Shape part.Whole 0) (get (codes "frames") value)) (λ count.
    after (or_fault (fault rule.Frames part.Frames 0) (count_of count)) (script_over ends value))

abbrev pub script_of : List HostEnd → Data → Result Script FormFault
script_of ends value = if has_members value then counted ends value else Err (fault rule.Shape part.Whole 0)

-- the script of the file, or the rule that fails
abbrev pub script_in : List HostEnd → List ℕ → Result Script FormFault
script_in ends bytes = after (or_fault (fault rule.Json part.Whole 0) (value_of bytes)) (script_of ends)
