-- How many cells a machine holds where a run stands, if it keeps operands and locals in one array: Core
-- Specification 1.0, 4.2. A constant is a value already and costs no reduction, so the constants that come next are
-- held before the next reduction.
use Rattle.std.specs.Prelude.{ℕ, zero, suc, ◌+◌, List, length, sum_by}
use Rattle.wasm_tree.specs.declared.instr.Instr.TheVariants as instr
use Rattle.wasm_tree.specs.Reduce.{Seq, Plain, Label, CallFrame, Config}

-- how many constants come next
abbrev pub next_constants : Seq → ℕ
next_constants (Plain (instr.I32Const value) s) = suc (next_constants s)
next_constants (Plain (instr.I64Const value) s) = suc (next_constants s)
next_constants _ = zero

-- the operands below open blocks
abbrev pub cells_below : List Label → ℕ
cells_below labels = sum_by (λ label. length label.below) labels

-- the locals and operands of a caller that waits
abbrev pub cells_of_frame : CallFrame → ℕ
cells_of_frame frame = length frame.locals + length frame.values + cells_below frame.labels

-- the locals and operands of the function that runs, those of its callers, and the constants that come next
abbrev pub cells_of : Config → ℕ
cells_of c =
    length c.state.locals + length c.state.values + cells_below c.labels + sum_by cells_of_frame c.frames + next_constants c.code
