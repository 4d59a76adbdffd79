-- What the section says, from its endpoints with runs of scalars: docs/MODULE.md, "The section".
use Rattle.std.specs.Prelude.{ℕ, ◌≡◌, ◌≤◌, List, [], ◌∷◌, length, map, replicate, sum_by, Option, Some, None}
use Rattle.std.specs.List.{AllByRecursion, flat_map}
use Rattle.cm_base.specs.declared.host.Scalar.{Scalar}
use Rattle.cm_base.specs.declared.host.Range.{Range}
use Rattle.cm_base.specs.declared.host.HostEnd.{HostEnd}
use Rattle.wasm_tree.specs.Spelled.{Is, Joined, Vector, Index, Signed, Utf8Text}
use Rattle.wasm_tree.specs.Section.{Slot, CmajorSection, slots_of, flow_byte, kind_byte, Scalar_kind, Parameter, Spelled_interface, Spelled_section}
use Rattle.section_reader.specs.declared.raw.ScalarRun.{ScalarRun}
use Rattle.section_reader.specs.declared.raw.RawSlot.{RawSlot}
use Rattle.section_reader.specs.declared.raw.Head.{Head}
use Rattle.section_reader.specs.declared.section.Section.{Section}

-- a run has one scalar at least
abbrev pub IsRun : ScalarRun → Type 0
IsRun run = 1 ≤ run.count

-- the scalars of some runs, one after another
abbrev pub shape_of : List ScalarRun → List Scalar
shape_of runs = flat_map (λ run. replicate run.count run.kind) runs

-- how many there are
abbrev pub scalars_in : List ScalarRun → ℕ
scalars_in runs = sum_by (λ run. run.count) runs

abbrev pub scalars_of : List RawSlot → ℕ
scalars_of slots = sum_by (λ slot. scalars_in slot.runs) slots

-- ---- its bytes

abbrev pub Run : ScalarRun → List ℕ → Type 0
Run run = Joined (Index run.count) (Scalar_kind run.kind)

abbrev pub RangeIs : Range → List ℕ → Type 0
RangeIs range = Joined (Signed 32 range.min) (Joined (Signed 32 range.max) (Signed 32 range.init))

abbrev pub SpelledSlot : RawSlot → List ℕ → Type 0
SpelledSlot raw =
    Joined (Is (flow_byte raw.flow ∷ [])) (Joined (Is (kind_byte raw.kind ∷ []))
    (Joined (Utf8Text raw.name) (Joined (Index raw.address) (Joined (Vector Run raw.runs) (Parameter raw.parameter)))))

abbrev pub SpelledHead : Head → List ℕ → Type 0
SpelledHead head = Spelled_interface head.interface head.latency

abbrev pub SpelledParts : Head × List RawSlot → List ℕ → Type 0
SpelledParts parts = Joined (SpelledHead parts.0) (Vector SpelledSlot parts.1)

-- ---- endpoints

-- each run of each endpoint has a scalar
abbrev pub HaveRuns : List RawSlot → Type 0
HaveRuns slots = AllByRecursion (λ slot. AllByRecursion IsRun slot.runs) slots

abbrev pub end_of : RawSlot → HostEnd
end_of raw = record { flow = raw.flow; kind = raw.kind; name = raw.name; shape = shape_of raw.runs; parameter = raw.parameter }

abbrev pub slot_of : RawSlot → Slot
slot_of raw = record { end = end_of raw; address = raw.address }

abbrev pub section_of : Head → List RawSlot → CmajorSection
section_of head raws = record { interface = head.interface; latency = head.latency; slots = map slot_of raws }

-- ---- what is read

-- what contracts see of a section that was read
abbrev pub said : Section → CmajorSection
said s = record { interface = s.interface; latency = s.latency; slots = slots_of s.host s.addresses }

-- all endpoints together have at most 1,048,576 scalars
abbrev pub AreFew : CmajorSection → Type 0
AreFew section = sum_by (λ slot. length slot.end.shape) section.slots ≤ 1048576

-- the bytes say what was read
pub record IsSaid (s : Section) (bytes : List ℕ) : Type 0 where
  pub spelled : Spelled_section (said s) bytes
  pub few : AreFew (said s)
  pub paired : length s.host ≡ length s.addresses

-- the section that was read is this one
abbrev pub IsRead : CmajorSection → Option Section → Type 0
IsRead section None = ⊥
IsRead section (Some s) = said s ≡ section
