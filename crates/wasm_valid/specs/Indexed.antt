-- What the numbers in code stand for, as it is tested: there is one memory, and the open sequences are counted.
use Rattle.std.specs.Prelude.{ℕ, ◌≡◌, ◌+◌, ◌-◌, slice_get, Some}
use Rattle.wasm_tree.specs.declared.module.FuncBody.{FuncBody}
use Rattle.wasm_tree.specs.declared.module.Module.{Module}
use Rattle.wasm_tree.specs.declared.instr.Instr.{Instr}
use Rattle.wasm_tree.specs.declared.instr.Instr.TheVariants as instr
use Rattle.wasm_tree.specs.Numbers.{Counts, type_at}
use Rattle.wasm_tree.specs.Valid.{IsIndexed}
use Rattle.wasm_valid.specs.declared.index.Space.{Space}

abbrev pub counts_of : Space → ℕ → Counts
counts_of space open_sequences =
    record { functions = space.functions; locals = space.locals; globals = space.globals; memories = 1; labels = open_sequences }

-- how many sequences are open after an instruction
abbrev pub open_after : ℕ → Instr → ℕ
open_after count (instr.Block result) = count + 1
open_after count (instr.Loop result) = count + 1
open_after count (instr.If result) = count + 1
open_after count instr.End = count - 1
open_after count _ = count

-- the function with this place among the module's own names what is there
abbrev pub IsIndexedAt : Module → ℕ → Type 0
IsIndexedAt m at = (type : ℕ) (body : FuncBody) → slice_get m.functions at ≡ Some type → slice_get m.codes at ≡ Some body → IsIndexed m (type_at m type) body
