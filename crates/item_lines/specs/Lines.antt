-- The line of an item of a trace: docs/COMMANDS.md, "Lines of a run".
use Rattle.std.specs.Prelude.{ℕ, List, [], ◌∷◌, ◌++◌, length, take, drop, slice_get, Bool, not, ◌&&◌, ◌==◌, if◌then◌else◌, Option, Some, None, ℤ, codes}
use Rattle.std.specs.Fmt.{decimal, signed_decimal}
use Rattle.std.specs.List.{flat_map}
use Rattle.cm_base.specs.declared.host.Scalar.{Scalar}
use Rattle.cm_base.specs.declared.host.HostEnd.{HostEnd}
use Rattle.cm_base.specs.declared.play.Item.{Item}
use Rattle.cm_base.specs.declared.play.Item.TheVariants as item
use Rattle.cm_base.specs.Parts.{is_input, is_event}

-- a scalar behind others
abbrev pub next_scalar : ℤ → List ℕ
next_scalar z = codes "," ++ signed_decimal z

abbrev pub next_scalars : List ℤ → List ℕ
next_scalars zs = flat_map next_scalar zs

-- scalars in decimal, joined by commas
abbrev pub scalars_text : List ℤ → List ℕ
scalars_text [] = []
scalars_text (z ∷ zs) = signed_decimal z ++ next_scalars zs

-- one scalar stands alone, and any other number of them in brackets
abbrev pub value_text : List Scalar → List ℤ → List ℕ
value_text shape value = if length shape == 1 then scalars_text value else codes "[" ++ (scalars_text value ++ codes "]")

-- a space, the endpoint's name and its value
abbrev pub named_text : HostEnd → List ℤ → List ℕ
named_text end value = codes " " ++ (end.name ++ (codes "=" ++ value_text end.shape value))

-- a frame tells the stream and the value outputs
abbrev pub is_in_frame : HostEnd → Bool
is_in_frame end = not (is_input end.flow) && not (is_event end.kind)

-- how many scalars of a frame are those of the endpoint
abbrev pub told_of : HostEnd → ℕ
told_of end = if is_in_frame end then length end.shape else 0

abbrev pub output_text : HostEnd → List ℤ → List ℕ
output_text end values = if is_in_frame end then named_text end (take (told_of end) values) else []

-- the outputs of a frame: each has as many of the scalars as its shape says
abbrev pub outputs_text : List HostEnd → List ℤ → List ℕ
outputs_text [] values = []
outputs_text (end ∷ ends) values = output_text end values ++ outputs_text ends (drop (told_of end) values)

abbrev pub event_text : Option HostEnd → List ℤ → List ℕ
event_text None value = []
event_text (Some end) value = named_text end value

abbrev pub event_line : List HostEnd → (frame endpoint : ℕ) → List ℤ → List ℕ
event_line ends frame endpoint value = (codes "event " ++ decimal frame) ++ (event_text (slice_get ends endpoint) value ++ codes "\n")

abbrev pub frame_line : List HostEnd → (frame : ℕ) → List ℤ → List ℕ
frame_line ends frame values = (codes "frame " ++ decimal frame) ++ (outputs_text ends values ++ codes "\n")

-- the line of an item over these endpoints
abbrev pub item_line : List HostEnd → Item → List ℕ
item_line ends (item.Event frame endpoint value) = event_line ends frame endpoint value
item_line ends (item.Frame frame values) = frame_line ends frame values

-- the lines of a trace
abbrev pub lines_of : List HostEnd → List Item → List ℕ
lines_of ends items = flat_map (item_line ends) items
