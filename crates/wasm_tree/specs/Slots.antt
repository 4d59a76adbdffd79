-- What stands in the slots of endpoints, and how a host writes and reads them: docs/MODULE.md, "Slots" and
-- "How a run goes".
use Rattle.std.specs.Prelude.{ℕ, zero, suc, ◌+◌, ◌*◌, ◌&&◌, List, [], ◌∷◌, ◌++◌, take, drop, slice_get, Bool, not, if◌then◌else◌, Option, Some, None, ℤ, codes}
use Rattle.std.specs.Option.{option_map_or}
use Rattle.std.specs.Fmt.{decimal}
use Rattle.std.specs.Int.{w32, w64, cast_signed, cast_unsigned, to_le_bytes, from_le_bytes}
use Rattle.cm_base.specs.declared.host.Scalar.{Scalar}
use Rattle.cm_base.specs.declared.host.Scalar.TheVariants as scalar
use Rattle.cm_base.specs.declared.host.HostEnd.{HostEnd}
use Rattle.cm_base.specs.Parts.{Inputs, first_of, is_input, is_stream, is_value, is_event, is_stream_input}
use Rattle.cm_scalar.specs.Scalars.{converted}
use Rattle.wasm_tree.specs.Reduce.{write_bytes}
use Rattle.wasm_tree.specs.Section.{Slot, scalar_size, shape_size}

-- ---- scalars in memory

-- a scalar in memory: eight bytes for an int64, and else four, low byte first
abbrev pub scalar_bytes : Scalar → ℤ → List ℕ
scalar_bytes scalar.Int32 z = to_le_bytes w32 (cast_unsigned w32 z)
scalar_bytes scalar.Int64 z = to_le_bytes w64 (cast_unsigned w64 z)
scalar_bytes scalar.Bool z = to_le_bytes w32 (cast_unsigned w32 z)
scalar_bytes (scalar.Wrap n) z = to_le_bytes w32 (cast_unsigned w32 z)
scalar_bytes (scalar.Clamp n) z = to_le_bytes w32 (cast_unsigned w32 z)

-- the signed number in memory
abbrev pub word_of : Scalar → List ℕ → ℤ
word_of scalar.Int32 bytes = cast_signed w32 (from_le_bytes w32 bytes)
word_of scalar.Int64 bytes = cast_signed w64 (from_le_bytes w64 bytes)
word_of scalar.Bool bytes = cast_signed w32 (from_le_bytes w32 bytes)
word_of (scalar.Wrap n) bytes = cast_signed w32 (from_le_bytes w32 bytes)
word_of (scalar.Clamp n) bytes = cast_signed w32 (from_le_bytes w32 bytes)

-- a stored number outside its kind is read as the scalar that it is converted to
abbrev pub scalar_of : Scalar → List ℕ → ℤ
scalar_of kind bytes = converted kind (word_of kind bytes)

-- scalars one after another, without gaps
abbrev pub scalars_bytes : List Scalar → List ℤ → List ℕ
scalars_bytes [] values = []
scalars_bytes (kind ∷ kinds) [] = []
scalars_bytes (kind ∷ kinds) (value ∷ values) = scalar_bytes kind value ++ scalars_bytes kinds values

abbrev pub scalars_of : List Scalar → List ℕ → List ℤ
scalars_of [] bytes = []
scalars_of (kind ∷ kinds) bytes = scalar_of kind (take (scalar_size kind) bytes) ∷ scalars_of kinds (drop (scalar_size kind) bytes)

-- ---- entries

abbrev pub entry_address : Slot → ℕ → ℕ
entry_address slot entry = slot.address + entry * shape_size slot.end.shape

abbrev pub read_slot : Slot → ℕ → List ℕ → List ℤ
read_slot slot entry memory = scalars_of slot.end.shape (drop (entry_address slot entry) memory)

abbrev pub write_slot : Slot → ℕ → List ℤ → List ℕ → List ℕ
write_slot slot entry values memory = write_bytes memory (entry_address slot entry) (scalars_bytes slot.end.shape values)

-- ---- what a host writes

-- the other elements
abbrev pub others_of : {A : Type 0} → List A → List A
others_of [] = []
others_of (x ∷ xs) = xs

-- the slots of the stream inputs, in declaration order, at an entry
abbrev pub write_streams : List Slot → ℕ → Inputs → List ℕ → List ℕ
write_streams [] entry inputs memory = memory
write_streams (slot ∷ slots) entry inputs memory =
    write_streams slots entry (others_of inputs)
    (if is_stream_input slot.end then write_slot slot entry (first_of inputs) memory else memory)

abbrev pub is_value_input : HostEnd → Bool
is_value_input end = is_input end.flow && is_value end.kind

-- the slots of the value inputs, in declaration order, with the current values
abbrev pub write_values : List Slot → List (List ℤ) → List ℕ → List ℕ
write_values [] current memory = memory
write_values (slot ∷ slots) current memory =
    write_values slots (others_of current) (if is_value_input slot.end then write_slot slot 0 (first_of current) memory else memory)

-- the slots of the stream and value inputs, in declaration order
abbrev pub write_inputs : List Slot → Inputs → List (List ℤ) → List ℕ → List ℕ
write_inputs [] inputs current memory = memory
write_inputs (slot ∷ slots) inputs current memory =
    write_inputs slots (others_of inputs) (others_of current)
    (if is_stream_input slot.end then write_slot slot 0 (first_of inputs) memory
    else (if is_value_input slot.end then write_slot slot 0 (first_of current) memory else memory))

-- the stream inputs of several frames, the first at this entry
abbrev pub write_block : List Slot → ℕ → List Inputs → List ℕ → List ℕ
write_block slots entry [] memory = memory
write_block slots entry (inputs ∷ more) memory = write_block slots (entry + 1) more (write_streams slots entry inputs memory)

-- ---- what a host reads

abbrev pub is_told : HostEnd → Bool
is_told end = not (is_input end.flow) && not (is_event end.kind)

-- the stream outputs at an entry, and the value outputs, in declaration order
abbrev pub outputs_at : List Slot → ℕ → List ℕ → List ℤ
outputs_at [] entry memory = []
outputs_at (slot ∷ slots) entry memory =
    (if is_told slot.end then read_slot slot (if is_stream slot.end.kind then entry else 0) memory else []) ++ outputs_at slots entry memory

-- ---- events

abbrev pub is_event_output : HostEnd → Bool
is_event_output end = not (is_input end.flow) && is_event end.kind

-- the slot of an output event endpoint of this number
abbrev pub event_slot : List Slot → ℕ → Option Slot
event_slot slots number = option_map_or (λ slot. if is_event_output slot.end then Some slot else None) (slice_get slots number) None

-- how many event inputs stand before the endpoint
abbrev pub event_number : List Slot → ℕ → ℕ
event_number slots zero = 0
event_number [] (suc n) = 0
event_number (slot ∷ slots) (suc n) = (if is_input slot.end.flow && is_event slot.end.kind then 1 else 0) + event_number slots n

abbrev pub event_name : List Slot → ℕ → List ℕ
event_name slots endpoint = codes "e" ++ decimal (event_number slots endpoint)

abbrev pub write_event : List Slot → ℕ → List ℤ → List ℕ → List ℕ
write_event slots endpoint value memory = option_map_or (λ slot. write_slot slot 0 value memory) (slice_get slots endpoint) memory
