-- Blocks, loops, calls and tables, with their exact number of reductions.
use Rattle.std.proofs.Common.{◌≡◌, ℕ, ◌+◌, List, [], ◌∷◌, refl, subst, arith, pos}
use Rattle.wasm_tree.specs.declared.instr.Instr.{Instr}
use Rattle.wasm_tree.specs.declared.instr.Instr.TheVariants as instr
use Rattle.wasm_tree.specs.Reduce.{Func, Trapped, Done, Out, pieces, plain, act, exec}
use Rattle.wasm_examples.specs.Runs.{run_of, EndsIn, block_code, loop_code, next_function, call_code, table_code}

-- one reduction less than the number that is enough
pub ends_in : (fewer : ℕ) (funcs : List Func) (code : List Instr) (locals globals memory globals_after memory_after : List ℕ) →
    run_of funcs code locals globals memory (fewer + 1) ≡ Done globals_after memory_after → run_of funcs code locals globals memory fewer ≡ Out →
    EndsIn (fewer + 1) funcs code locals globals memory globals_after memory_after
ends_in fewer funcs code locals globals memory globals_after memory_after ends spends =
    record {
      ends = ends;
      spends = λ n e.
          let same : fewer ≡ n = omega arith in
          subst (λ (m : ℕ). run_of funcs code locals globals memory m ≡ Out) same spends;
    }

-- the block, the assignment, the branch and the function's end
pub block_ends : EndsIn 4 [] block_code [] (0 ∷ []) [] (7 ∷ []) []
unfolding pieces plain act exec
block_ends = ends_in 3 [] block_code [] (0 ∷ []) [] (7 ∷ []) [] refl refl

-- eight reductions a turn, the loop's end and the function's
pub loop_ends : EndsIn 26 [] loop_code (3 ∷ []) (0 ∷ []) [] (3 ∷ []) []
unfolding pieces plain act exec
loop_ends = ends_in 25 [] loop_code (3 ∷ []) (0 ∷ []) [] (3 ∷ []) [] refl refl

-- the call, the parameter, the sum, the end of the called function, the assignment and the end
pub call_ends : EndsIn 6 (next_function ∷ []) call_code [] (0 ∷ []) [] (42 ∷ []) []
unfolding pieces plain act exec
call_ends = ends_in 5 (next_function ∷ []) call_code [] (0 ∷ []) [] (42 ∷ []) [] refl refl

-- both blocks, the branch to the inner one, the assignment, the end of the outer one and of the function
pub first_label_ends : EndsIn 6 [] (table_code (pos 0)) [] (4 ∷ []) [] (9 ∷ []) []
unfolding pieces plain act exec
first_label_ends = ends_in 5 [] (table_code (pos 0)) [] (4 ∷ []) [] (9 ∷ []) [] refl refl

-- both blocks, the branch past the outer one, and the end of the function
pub last_label_ends : EndsIn 4 [] (table_code (pos 5)) [] (4 ∷ []) [] (4 ∷ []) []
unfolding pieces plain act exec
last_label_ends = ends_in 3 [] (table_code (pos 5)) [] (4 ∷ []) [] (4 ∷ []) [] refl refl

-- the first reduction traps
pub unreachable_traps : run_of [] (instr.Unreachable ∷ instr.End ∷ []) [] [] [] 1 ≡ Trapped
unfolding pieces plain act exec
unreachable_traps = refl
