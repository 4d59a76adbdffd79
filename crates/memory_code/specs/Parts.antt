-- Memory that is copied part by part.
use Rattle.std.specs.Prelude.{ℕ, zero, suc, ◌*◌, ◌/◌, ◌%◌, ◌==◌, Bool, true, false, List, [], ◌++◌}
use Rattle.wasm_tree.specs.declared.module.ValType.{ValType}
use Rattle.wasm_tree.specs.declared.module.ValType.TheVariants.{I32, I64}
use Rattle.wasm_tree.specs.declared.op.LoadOp.{LoadOp}
use Rattle.wasm_tree.specs.declared.op.LoadOp.TheVariants as load
use Rattle.wasm_tree.specs.declared.op.StoreOp.{StoreOp}
use Rattle.wasm_tree.specs.declared.op.StoreOp.TheVariants as store
use Rattle.wasm_tree.specs.declared.instr.Instr.{Instr}

-- what is copied goes by parts of 8 bytes where its width is a multiple of 8, and else of 4
abbrev pub is_wide : ℕ → Bool
is_wide width = width % 8 == 0

abbrev pub load_of : Bool → LoadOp
load_of true = load.I64
load_of false = load.I32

abbrev pub store_of : Bool → StoreOp
store_of true = store.I64
store_of false = store.I32

abbrev pub part_type : Bool → ValType
part_type true = I64
part_type false = I32

abbrev pub part_size : Bool → ℕ
part_size true = 8
part_size false = 4

abbrev pub parts_in : ℕ → ℕ
parts_in width = width / part_size (is_wide width)

-- so many parts of a size
abbrev pub parts : (ℕ → List Instr) → ℕ → ℕ → List Instr
parts part size zero = []
parts part size (suc count) = parts part size count ++ part (count * size)
