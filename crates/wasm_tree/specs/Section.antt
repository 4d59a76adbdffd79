-- The custom section `cmajor`, which tells a host of the endpoints: docs/MODULE.md, "The section".
use Rattle.std.specs.Prelude.{ℕ, ◌≡◌, ◌+◌, ◌*◌, ◌<◌, ◌≤◌, List, [], ◌∷◌, length, map, replicate, sum_by, filter, Option, Some, None, if◌then◌else◌}
use Rattle.std.specs.List.{AllByRecursion, flat_map}
use Rattle.cm_base.specs.declared.host.Flow.{Flow}
use Rattle.cm_base.specs.declared.host.Flow.TheVariants.{Input, Output}
use Rattle.cm_base.specs.declared.host.Kind.{Kind}
use Rattle.cm_base.specs.declared.host.Kind.TheVariants as kinds
use Rattle.cm_base.specs.declared.host.Scalar.{Scalar}
use Rattle.cm_base.specs.declared.host.Scalar.TheVariants as scalar
use Rattle.cm_base.specs.declared.host.Range.{Range}
use Rattle.cm_base.specs.declared.host.HostEnd.{HostEnd}
use Rattle.cm_base.specs.HostEnds.{IsLawful}
use Rattle.cm_base.specs.Parts.{is_stream}
use Rattle.wasm_tree.specs.declared.interface.Interface.{Interface}
use Rattle.wasm_tree.specs.declared.interface.Interface.TheVariants.{Single, Blocks}
use Rattle.wasm_tree.specs.declared.module.Module.{Module}
use Rattle.wasm_tree.specs.declared.module.Custom.{Custom}
use Rattle.wasm_tree.specs.Spelled.{Joined, Is, Begins, Index, Signed, Vector, Utf8Text, is_cmajor}

-- an endpoint and the address of its slot
pub record Slot : Type 0 where
  pub end : HostEnd
  pub address : ℕ

-- what the section says: the interface, the latency in frames, and the endpoints with their slots
pub record CmajorSection : Type 0 where
  pub interface : Interface
  pub latency : ℕ
  pub slots : List Slot

-- how many frames a call takes at most
abbrev pub block_length : Interface → ℕ
block_length Single = 1
block_length (Blocks block) = block

abbrev pub ends_of : CmajorSection → List HostEnd
ends_of section = map (λ slot. slot.end) section.slots

-- slots from endpoints and addresses in the same order
abbrev pub slots_of : List HostEnd → List ℕ → List Slot
slots_of [] addresses = []
slots_of (end ∷ ends) [] = []
slots_of (end ∷ ends) (address ∷ addresses) = record { end = end; address = address } ∷ slots_of ends addresses

-- ---- its bytes

abbrev pub flow_byte : Flow → ℕ
flow_byte Input = 0
flow_byte Output = 1

abbrev pub kind_byte : Kind → ℕ
kind_byte kinds.Stream = 0
kind_byte kinds.Value = 1
kind_byte kinds.Event = 2

abbrev pub Scalar_kind : Scalar → List ℕ → Type 0
Scalar_kind scalar.Int32 = Is (0 ∷ [])
Scalar_kind scalar.Int64 = Is (1 ∷ [])
Scalar_kind scalar.Bool = Is (2 ∷ [])
Scalar_kind (scalar.Wrap n) = Begins 3 (Index n)
Scalar_kind (scalar.Clamp n) = Begins 4 (Index n)

-- scalars of one kind that follow one another
pub record KindRun : Type 0 where
  pub count : ℕ
  pub kind : Scalar
  pub some : 1 ≤ count

abbrev pub Spelled_run : KindRun → List ℕ → Type 0
Spelled_run run = Joined (Index run.count) (Scalar_kind run.kind)

-- a shape in runs, which may be as long as they can be or shorter
pub record Runs (shape : List Scalar) (bytes : List ℕ) : Type 0 where
  pub runs : List KindRun
  pub spelled : Vector Spelled_run runs bytes
  pub whole : shape ≡ flat_map (λ run. replicate run.count run.kind) runs

abbrev pub Parameter : Option Range → List ℕ → Type 0
Parameter None = Is (0 ∷ [])
Parameter (Some range) = Begins 1 (Joined (Signed 32 range.min) (Joined (Signed 32 range.max) (Signed 32 range.init)))

abbrev pub Spelled_slot : Slot → List ℕ → Type 0
Spelled_slot slot =
    Begins (flow_byte slot.end.flow) (Begins (kind_byte slot.end.kind)
    (Joined (Utf8Text slot.end.name) (Joined (Index slot.address) (Joined (Runs slot.end.shape) (Parameter slot.end.parameter)))))

-- the interface and the latency
abbrev pub Spelled_interface : Interface → ℕ → List ℕ → Type 0
Spelled_interface Single latency = Begins 1 (Index latency)
Spelled_interface (Blocks block) latency = Begins 2 (Joined (Index latency) (Index block))

abbrev pub Spelled_section : CmajorSection → List ℕ → Type 0
Spelled_section section = Joined (Spelled_interface section.interface section.latency) (Vector Spelled_slot section.slots)

-- a block has 1 to 256 frames
abbrev pub IsBlockLength : ℕ → Type 0
IsBlockLength block = (1 ≤ block) × (block ≤ 256)

-- ---- slots in memory

abbrev pub scalar_size : Scalar → ℕ
scalar_size scalar.Int32 = 4
scalar_size scalar.Int64 = 8
scalar_size scalar.Bool = 4
scalar_size (scalar.Wrap n) = 4
scalar_size (scalar.Clamp n) = 4

abbrev pub shape_size : List Scalar → ℕ
shape_size shape = sum_by scalar_size shape

-- a stream's slot has an entry for each frame of a block, another slot has one
abbrev pub entries : CmajorSection → HostEnd → ℕ
entries section end = if is_stream end.kind then block_length section.interface else 1

abbrev pub slot_size : CmajorSection → HostEnd → ℕ
slot_size section end = entries section end * shape_size end.shape

-- a slot lies in so many bytes; one without scalars has nothing that must
abbrev pub IsWithin : ℕ → CmajorSection → Slot → Type 0
IsWithin bytes section slot = 0 < slot_size section slot.end → slot.address + slot_size section slot.end ≤ bytes

-- the slots lie in the memory's minimum size
abbrev pub AreWithin : ℕ → CmajorSection → Type 0
AreWithin bytes section = AllByRecursion (IsWithin bytes section) section.slots

-- ---- the section of a module

abbrev pub named_cmajor : List Custom → List Custom
named_cmajor customs = filter (λ custom. is_cmajor custom.name) customs

-- the module has just one such section, and it says this
pub record IsSection (m : Module) (section : CmajorSection) : Type 0 where
  pub custom : Custom
  pub only : named_cmajor m.customs ≡ custom ∷ []
  pub spelled : Spelled_section section custom.bytes
  pub block : IsBlockLength (block_length section.interface)
  pub lawful : IsLawful (ends_of section)
  pub few : sum_by (λ slot. length slot.end.shape) section.slots ≤ 1048576
