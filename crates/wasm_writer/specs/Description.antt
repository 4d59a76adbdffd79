-- The contents of the custom section `cmajor` in their shortest spelling: shortest numbers, and runs as long as
-- they can be. docs/MODULE.md, "The section".
use Rattle.std.specs.Prelude.{ℕ, ◌+◌, ◌*◌, ◌<◌, ◌^◌, Bool, true, false, ◌==◌, List, [], ◌∷◌, ◌++◌, length, All, Option, Some, None, if◌then◌else◌}
use Rattle.cm_base.specs.declared.host.Scalar.{Scalar}
use Rattle.cm_base.specs.declared.host.Scalar.TheVariants as scalar
use Rattle.cm_base.specs.declared.host.Range.{Range}
use Rattle.cm_base.specs.declared.host.HostEnd.{HostEnd}
use Rattle.wasm_tree.specs.declared.interface.Interface.{Interface}
use Rattle.wasm_tree.specs.declared.interface.Interface.TheVariants.{Single, Blocks}
use Rattle.wasm_tree.specs.Section.{Slot, flow_byte, kind_byte, Scalar_kind}
use Rattle.wasm_tree.specs.Spelled.{Joined, Index}
use Rattle.wasm_writer.specs.declared.description.ScalarRun.{ScalarRun}
use Rattle.wasm_writer.specs.Spelling.{unsigned_bytes, signed_bytes, vector_bytes, text_bytes}

-- ---- runs

abbrev pub is_same_kind : Scalar → Scalar → Bool
is_same_kind scalar.Int32 scalar.Int32 = true
is_same_kind scalar.Int64 scalar.Int64 = true
is_same_kind scalar.Bool scalar.Bool = true
is_same_kind (scalar.Wrap n) (scalar.Wrap m) = n == m
is_same_kind (scalar.Clamp n) (scalar.Clamp m) = n == m
is_same_kind _ _ = false

-- a scalar before runs: it joins the first of them where that is of its kind, and else is a run of its own
abbrev pub with_scalar : Scalar → List ScalarRun → List ScalarRun
with_scalar kind [] = record { count = 1; kind = kind } ∷ []
with_scalar kind (run ∷ runs) =
    if is_same_kind kind run.kind then record { count = run.count + 1; kind = run.kind } ∷ runs else record { count = 1; kind = kind } ∷ run ∷ runs

-- the runs of a shape, each as long as it can be: two that follow one another differ in kind
abbrev pub runs_of : List Scalar → List ScalarRun
runs_of [] = []
runs_of (kind ∷ shape) = with_scalar kind (runs_of shape)

-- ---- bytes

abbrev pub scalar_bytes : Scalar → List ℕ
scalar_bytes scalar.Int32 = 0 ∷ []
scalar_bytes scalar.Int64 = 1 ∷ []
scalar_bytes scalar.Bool = 2 ∷ []
scalar_bytes (scalar.Wrap n) = 3 ∷ unsigned_bytes n
scalar_bytes (scalar.Clamp n) = 4 ∷ unsigned_bytes n

abbrev pub run_bytes : ScalarRun → List ℕ
run_bytes run = unsigned_bytes run.count ++ scalar_bytes run.kind

-- a count, and the kind of as many scalars
abbrev pub Spelled_scalar_run : ScalarRun → List ℕ → Type 0
Spelled_scalar_run run = Joined (Index run.count) (Scalar_kind run.kind)

abbrev pub shape_bytes : List Scalar → List ℕ
shape_bytes shape = vector_bytes run_bytes (runs_of shape)

abbrev pub parameter_bytes : Option Range → List ℕ
parameter_bytes None = 0 ∷ []
parameter_bytes (Some range) = 1 ∷ (signed_bytes range.min ++ (signed_bytes range.max ++ signed_bytes range.init))

abbrev pub slot_bytes : Slot → List ℕ
slot_bytes slot =
    flow_byte slot.end.flow ∷ kind_byte slot.end.kind
    ∷ (text_bytes slot.end.name ++ (unsigned_bytes slot.address ++ (shape_bytes slot.end.shape ++ parameter_bytes slot.end.parameter)))

abbrev pub interface_bytes : Interface → ℕ → List ℕ
interface_bytes Single latency = 1 ∷ unsigned_bytes latency
interface_bytes (Blocks block) latency = 2 ∷ (unsigned_bytes latency ++ unsigned_bytes block)

-- the section without its id, size and name
unfoldable pub section_contents : Interface → ℕ → List Slot → List ℕ
section_contents interface latency slots = interface_bytes interface latency ++ vector_bytes slot_bytes slots

-- ---- sizes

-- endpoints whose counts are numbers of 32 bits
pub record IsDescribable (ends : List HostEnd) : Type 0 where
  pub count : length ends < 2 ^ 32
  pub names : All (λ end. length end.name < 2 ^ 32) ends
  pub shapes : All (λ end. length end.shape < 2 ^ 32) ends

-- an endpoint takes no more bytes than this
abbrev pub most_bytes : HostEnd → ℕ
most_bytes end = 48 + length end.name + 11 * length end.shape
