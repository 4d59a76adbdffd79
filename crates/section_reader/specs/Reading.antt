-- Reading the contents of the section `cmajor` from left to right, as they are spelled.
use Rattle.std.specs.Prelude.{ℕ, List, length, Option, Some, None, Result, Ok, Err, [], ◌∷◌}
use Rattle.cm_base.specs.declared.host.Flow.{Flow}
use Rattle.cm_base.specs.declared.host.Flow.TheVariants.{Input, Output}
use Rattle.cm_base.specs.declared.host.Kind.{Kind}
use Rattle.cm_base.specs.declared.host.Kind.TheVariants as kinds
use Rattle.cm_base.specs.declared.host.Scalar.{Scalar}
use Rattle.cm_base.specs.declared.host.Scalar.TheVariants as scalar
use Rattle.cm_base.specs.declared.host.Range.{Range}
use Rattle.wasm_tree.specs.declared.interface.Interface.TheVariants.{Single, Blocks}
use Rattle.wasm_reader.specs.Reading.{◌>>=◌, at, Reader, index_at, signed_at, fixed_at, name_at, each_at, vector_at, behind_id, choice}
use Rattle.wasm_tree.specs.declared.failure.ModuleRule.TheVariants as rule
use Rattle.wasm_reader.specs.declared.fault.Fault.{Fault}
use Rattle.section_reader.specs.declared.raw.ScalarRun.{ScalarRun}
use Rattle.section_reader.specs.declared.raw.RawSlot.{RawSlot}
use Rattle.section_reader.specs.declared.raw.Head.{Head}

-- what stands behind this byte where it is the next one, and else what `others` reads
abbrev pub if_next : {A : Type 0} → ℕ → Reader A → Reader A → Reader A
if_next byte f others bytes = choice (behind_id byte bytes) (others bytes) f

abbrev pub only : {A : Type 0} → A → Reader A
only x bytes = Ok (x, bytes)

-- behind this byte, which is due
abbrev pub due : {A : Type 0} → ℕ → Reader A → Reader A
due byte f bytes = fixed_at byte bytes >>= f

unfoldable pub flow_at : Reader Flow
flow_at = if_next 0 (only Input) (due 1 (only Output))

unfoldable pub kind_at : Reader Kind
kind_at = if_next 0 (only kinds.Stream) (if_next 1 (only kinds.Value) (due 2 (only kinds.Event)))

abbrev pub counted : {A : Type 0} → (ℕ → A) → Reader A
counted kind bytes = index_at bytes >>= λ n. Ok (kind n.0, n.1)

unfoldable pub scalar_at : Reader Scalar
scalar_at =
    if_next 0 (only scalar.Int32) (if_next 1 (only scalar.Int64) (if_next 2 (only scalar.Bool)
    (if_next 3 (counted scalar.Wrap) (due 4 (counted scalar.Clamp)))))

unfoldable pub run_at : Reader ScalarRun
run_at bytes = do
  count ← index_at bytes
  kind ← scalar_at count.1
  Ok (record { count = count.0; kind = kind.0 }, kind.1)

unfoldable pub range_at : Reader Range
range_at bytes = do
  min ← signed_at 32 bytes
  max ← signed_at 32 min.1
  init ← signed_at 32 max.1
  Ok (record { min = min.0; max = max.0; init = init.0 }, init.1)

unfoldable pub parameter_at : Reader (Option Range)
parameter_at = if_next 0 (only None) (due 1 (λ bytes. range_at bytes >>= λ range. Ok (Some range.0, range.1)))

unfoldable pub slot_at : Reader RawSlot
slot_at bytes = do
  flow ← flow_at bytes
  kind ← kind_at flow.1
  name ← name_at kind.1
  address ← index_at name.1
  runs ← vector_at run_at address.1
  parameter ← parameter_at runs.1
  Ok (record { flow = flow.0; kind = kind.0; name = name.0; address = address.0; runs = runs.0; parameter = parameter.0 }, parameter.1)

unfoldable pub head_at : Reader Head
head_at =
    if_next 1 (λ bytes. index_at bytes >>= λ latency. Ok (record { interface = Single; latency = latency.0 }, latency.1))
    (due 2 (λ bytes. index_at bytes >>= λ latency. index_at latency.1 >>= λ block. Ok (record { interface = Blocks block.0; latency = latency.0 }, block.1)))

unfoldable pub slots_at : Reader (List RawSlot)
slots_at bytes = do
  count ← index_at bytes
  each_at slot_at count.0 count.1

abbrev pub section_at : Reader (Head × List RawSlot)
section_at bytes = do
  head ← head_at bytes
  slots ← slots_at head.1
  Ok ((head.0, slots.0), slots.1)

-- all of the bytes
abbrev pub ended : {A : Type 0} → A × List ℕ → Result A Fault
ended (x, []) = Ok x
ended (x, b ∷ bytes) = Err (at rule.Size (length (b ∷ bytes)))

unfoldable pub whole_at : List ℕ → Result (Head × List RawSlot) Fault
whole_at bytes = section_at bytes >>= ended
