-- The parts of the section `cmajor` are spelled as docs/MODULE.md says, and how many bytes they take at most.
use Rattle.std.proofs.Common.{◌≡◌, ℕ, zero, suc, ◌+◌, ◌*◌, ◌<◌, ◌≤◌, ◌^◌, List, [], ◌∷◌, ◌++◌, length, get_or, take, Option, Some, None, refl, sym, ap, ◌∙◌, arith, append_assoc}
use Rattle.std.specs.List.{flat_map, sum_by}
use Rattle.std.proofs.lemmas.List.{length-append, take_all}
use Rattle.std.proofs.lemmas.List.Sums.{sum_by-cons}
use Rattle.cm_base.specs.declared.host.Range.{Range}
use Rattle.cm_base.specs.declared.host.HostEnd.{HostEnd}
use Rattle.cm_base.specs.declared.host.Scalar.{Scalar}
use Rattle.cm_base.specs.declared.host.Scalar.TheVariants.{Int32, Int64, Bool as Truth, Wrap, Clamp}
use Rattle.wasm_tree.specs.declared.interface.Interface.{Interface}
use Rattle.wasm_tree.specs.declared.interface.Interface.TheVariants.{Single, Blocks}
use Rattle.wasm_tree.specs.Spelled.{Joined, Each, Index, Signed, Vector, Utf8Text}
use Rattle.wasm_tree.specs.Section.{Slot, slots_of, flow_byte, kind_byte, Runs, Parameter, Spelled_slot, Spelled_interface, Spelled_section}
use Rattle.wasm_writer.specs.declared.description.ScalarRun.{ScalarRun}
use Rattle.wasm_writer.specs.Spelling.{unsigned_bytes, signed_bytes, vector_bytes, text_bytes}
use Rattle.wasm_writer.specs.Description.{runs_of, scalar_bytes, run_bytes, shape_bytes, parameter_bytes, slot_bytes, interface_bytes, section_contents, most_bytes}
use Rattle.wasm_writer.proofs.Numbers.{index_spelled}
use Rattle.wasm_writer.proofs.Parts.{joined, begins}
use Rattle.wasm_writer.proofs.Runs.{runs_length}
use Rattle.wasm_writer.proofs.Sizes.{unsigned_few, signed_few}

pub range_spelled : (range : Range) → Signed 32 range.min (signed_bytes range.min) → Signed 32 range.max (signed_bytes range.max) → Signed 32 range.init (signed_bytes range.init) → Parameter (Some range) (parameter_bytes (Some range))
range_spelled range min max init =
    begins 1 (Joined (Signed 32 range.min) (Joined (Signed 32 range.max) (Signed 32 range.init))) (signed_bytes range.min ++ (signed_bytes range.max ++ signed_bytes range.init))
    (joined (Signed 32 range.min) (Joined (Signed 32 range.max) (Signed 32 range.init)) (signed_bytes range.min) (signed_bytes range.max ++ signed_bytes range.init) min
    (joined (Signed 32 range.max) (Signed 32 range.init) (signed_bytes range.max) (signed_bytes range.init) max init))

pub slot_spelled : (slot : Slot) → Utf8Text slot.end.name (text_bytes slot.end.name) → Index slot.address (unsigned_bytes slot.address) → Runs slot.end.shape (shape_bytes slot.end.shape) → Parameter slot.end.parameter (parameter_bytes slot.end.parameter) → Spelled_slot slot (slot_bytes slot)
slot_spelled slot name address shape parameter =
    let rest = shape_bytes slot.end.shape ++ parameter_bytes slot.end.parameter in
    let Rest = Joined (Runs slot.end.shape) (Parameter slot.end.parameter) in
    begins (flow_byte slot.end.flow) _ _ (begins (kind_byte slot.end.kind) _ _
    (joined (Utf8Text slot.end.name) (Joined (Index slot.address) Rest) (text_bytes slot.end.name) (unsigned_bytes slot.address ++ rest) name
    (joined (Index slot.address) Rest (unsigned_bytes slot.address) rest address
    (joined (Runs slot.end.shape) (Parameter slot.end.parameter) (shape_bytes slot.end.shape) (parameter_bytes slot.end.parameter) shape parameter))))

-- ---- slots

pub slots_length : (ends : List HostEnd) (addresses : List ℕ) → length addresses ≡ length ends → length (slots_of ends addresses) ≡ length ends
slots_length [] addresses e = refl
slots_length (end ∷ ends) [] e = absurd (omega arith)
slots_length (end ∷ ends) (address ∷ addresses) e = ap suc (slots_length ends addresses (omega arith))

slots_at : (ends : List HostEnd) (addresses : List ℕ) (i : ℕ) (d : Slot) (other : HostEnd) → length addresses ≡ length ends → i < length ends → get_or (slots_of ends addresses) i d ≡ record { end = get_or ends i other; address = get_or addresses i 0 }
slots_at [] addresses i d other e lt = absurd (omega arith)
slots_at (end ∷ ends) [] i d other e lt = absurd (omega arith)
slots_at (end ∷ ends) (address ∷ addresses) zero d other e lt = refl
slots_at (end ∷ ends) (address ∷ addresses) (suc i) d other e lt = slots_at ends addresses i d other (omega arith) (omega arith)

pub slot_at : (ends : List HostEnd) (addresses : List ℕ) (i : ℕ) (end : HostEnd) → length addresses ≡ length ends → i < length ends → end ≡ get_or ends i end → record { end = end; address = get_or addresses i 0 } ≡ get_or (slots_of ends addresses) i (record { end = end; address = get_or addresses i 0 })
slot_at ends addresses i end e lt is =
    ap (λ (x : HostEnd). (record { end = x; address = get_or addresses i 0 })) is ∙ sym (slots_at ends addresses i (record { end = end; address = get_or addresses i 0 }) end e lt)

-- a loop's end: each slot is written
pub written_slots : (ends : List HostEnd) (addresses : List ℕ) (i : ℕ) (new start : List ℕ) → length addresses ≡ length ends → length ends ≤ i → new ≡ start ++ flat_map slot_bytes (take i (slots_of ends addresses)) → new ≡ start ++ flat_map slot_bytes (slots_of ends addresses)
written_slots ends addresses i new start paired over e =
    let all = take_all i (slots_of ends addresses) (omega (arith, slots_length ends addresses paired)) in
    e ∙ ap (λ (slots : List Slot). start ++ flat_map slot_bytes slots) all

-- ---- the whole

pub contents_at : (interface : Interface) (latency : ℕ) (slots : List Slot) (count : ℕ) (none first second third : List ℕ) → none ≡ [] → first ≡ none ++ interface_bytes interface latency → second ≡ first ++ unsigned_bytes count → third ≡ second ++ flat_map slot_bytes slots → length slots ≡ count → third ≡ section_contents interface latency slots
unfolding section_contents
contents_at interface latency slots count none first second third e f g h counted =
    rw (h, g, f, e, counted) (append_assoc (interface_bytes interface latency) (unsigned_bytes count) (flat_map slot_bytes slots))

pub section_spelled : (interface : Interface) (latency : ℕ) (slots : List Slot) → Spelled_interface interface latency (interface_bytes interface latency) → length slots < 2 ^ 32 → Each Spelled_slot slots (flat_map slot_bytes slots) → Spelled_section (record { interface = interface; latency = latency; slots = slots }) (section_contents interface latency slots)
unfolding section_contents
section_spelled interface latency slots first short each =
    joined (Spelled_interface interface latency) (Vector Spelled_slot slots) (interface_bytes interface latency) (vector_bytes slot_bytes slots) first
    (joined (Index (length slots)) (Each Spelled_slot slots) (unsigned_bytes (length slots)) (flat_map slot_bytes slots) (index_spelled (length slots) short) each)

-- ---- sizes

scalar_size : (kind : Scalar) → length (scalar_bytes kind) ≤ 6
scalar_size Int32 = omega arith
scalar_size Int64 = omega arith
scalar_size Truth = omega arith
scalar_size (Wrap n) = omega (arith, unsigned_few n)
scalar_size (Clamp n) = omega (arith, unsigned_few n)

run_size : (run : ScalarRun) → length (run_bytes run) ≤ 11
run_size run = omega (arith, length-append (unsigned_bytes run.count) (scalar_bytes run.kind), unsigned_few run.count, scalar_size run.kind)

runs_size : (runs : List ScalarRun) → length (flat_map run_bytes runs) ≤ 11 * length runs
runs_size [] = omega arith
runs_size (run ∷ runs) = omega (arith, length-append (run_bytes run) (flat_map run_bytes runs), run_size run, runs_size runs)

shape_size : (shape : List Scalar) → length (shape_bytes shape) ≤ 5 + 11 * length shape
shape_size shape =
    let runs = runs_of shape in
    omega (arith, length-append (unsigned_bytes (length runs)) (flat_map run_bytes runs), unsigned_few (length runs), runs_size runs, runs_length shape)

parameter_size : (parameter : Option Range) → length (parameter_bytes parameter) ≤ 31
parameter_size None = omega arith
parameter_size (Some range) =
    omega (arith, length-append (signed_bytes range.min) (signed_bytes range.max ++ signed_bytes range.init), length-append (signed_bytes range.max) (signed_bytes range.init), signed_few range.min, signed_few range.max, signed_few range.init)

slot_size : (slot : Slot) → length (slot_bytes slot) ≤ most_bytes slot.end
slot_size slot =
    let name = slot.end.name in
    let shape = shape_bytes slot.end.shape in
    let parameter = parameter_bytes slot.end.parameter in
    let address = unsigned_bytes slot.address in
    omega (arith, length-append (text_bytes name) (address ++ (shape ++ parameter)), length-append (unsigned_bytes (length name)) name, length-append address (shape ++ parameter), length-append shape parameter, unsigned_few (length name), unsigned_few slot.address, shape_size slot.end.shape, parameter_size slot.end.parameter)

slots_size : (ends : List HostEnd) (addresses : List ℕ) → length (flat_map slot_bytes (slots_of ends addresses)) ≤ sum_by most_bytes ends
slots_size [] addresses = omega arith
slots_size (end ∷ ends) [] = omega arith
slots_size (end ∷ ends) (address ∷ addresses) =
    let slot : Slot = record { end = end; address = address } in
    omega (arith, length-append (slot_bytes slot) (flat_map slot_bytes (slots_of ends addresses)), slot_size slot, slots_size ends addresses, sum_by-cons most_bytes end ends)

interface_size : (interface : Interface) (latency : ℕ) → length (interface_bytes interface latency) ≤ 11
interface_size Single latency = omega (arith, unsigned_few latency)
interface_size (Blocks block) latency = omega (arith, length-append (unsigned_bytes latency) (unsigned_bytes block), unsigned_few latency, unsigned_few block)

-- the section takes no more bytes than this
pub section_bound : (interface : Interface) (latency : ℕ) (ends : List HostEnd) (addresses : List ℕ) → length (section_contents interface latency (slots_of ends addresses)) ≤ 16 + sum_by most_bytes ends
unfolding section_contents
section_bound interface latency ends addresses =
    let slots = slots_of ends addresses in
    omega (arith, length-append (interface_bytes interface latency) (vector_bytes slot_bytes slots), length-append (unsigned_bytes (length slots)) (flat_map slot_bytes slots), interface_size interface latency, unsigned_few (length slots), slots_size ends addresses)
