-- The ends that are still ahead of a place of flat code, innermost first: a jump is found from them.
use Rattle.std.specs.Prelude.{◌≡◌, ◌+◌, ◌-◌, ◌≤◌, ℕ, List, [], ◌∷◌, true, false, if◌then◌else◌, Some, length, drop, slice_get}
use Rattle.wasm_tree.specs.declared.instr.Instr.{Instr}
use Rattle.wasm_tree.specs.declared.instr.Instr.TheVariants as instr
use Rattle.wasm_runner.specs.declared.jump.Jump.{Jump}
use Rattle.wasm_runner.specs.declared.jump.Ending.{Ending}

abbrev pub cut_block : List Ending → List Ending
cut_block [] = []
cut_block (e ∷ es) = if e.arm then [] else es

abbrev pub cut_if : List Ending → List Ending
cut_if [] = []
cut_if (e ∷ es) = if e.arm then cut_block es else es

abbrev pub after_of : List Ending → ℕ → ℕ
after_of [] nowhere = nowhere
after_of (e ∷ es) nowhere = e.after

abbrev pub jump_if : List Ending → ℕ → Jump
jump_if [] nowhere = record { other = nowhere; after = nowhere }
jump_if (e ∷ es) nowhere = if e.arm then record { other = e.after; after = after_of es nowhere } else record { other = e.after - 1; after = e.after }

abbrev pub jump_of : Instr → List Ending → ℕ → Jump
jump_of (instr.If result) es nowhere = jump_if es nowhere
jump_of _ es nowhere = record { other = nowhere; after = after_of es nowhere }

abbrev pub ends_step : ℕ → Instr → List Ending → List Ending
ends_step at (instr.Block result) es = cut_block es
ends_step at (instr.Loop result) es = cut_block es
ends_step at (instr.If result) es = cut_if es
ends_step at instr.Else es = record { after = at + 1; arm = true } ∷ es
ends_step at instr.End es = record { after = at + 1; arm = false } ∷ es
ends_step at _ es = es

abbrev pub ends_at : ℕ → List Instr → List Ending
ends_at at [] = []
ends_at at (i ∷ code) = ends_step at i (ends_at (at + 1) code)

-- the jumps from a place on are made
abbrev pub AreMade : List Instr → List Jump → ℕ → Type 0
AreMade code jumps from =
    (at : ℕ) (i : Instr) (jump : Jump) → from ≤ at → slice_get code at ≡ Some i → slice_get jumps at ≡ Some jump →
    jump ≡ jump_of i (ends_at (at + 1) (drop (at + 1) code)) (length code)
