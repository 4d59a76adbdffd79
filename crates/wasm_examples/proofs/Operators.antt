-- Operators that trap and that don't, and memory.
use Rattle.std.proofs.Common.{◌≡◌, [], ◌∷◌, refl, pos, negsuc}
use Rattle.wasm_tree.specs.declared.op.BinaryOp.TheVariants as binary
use Rattle.wasm_tree.specs.Reduce.{Trapped, pieces, plain, act, exec}
use Rattle.wasm_examples.specs.Runs.{run_of, EndsIn, binary_code, least, memory_code, load_code}
use Rattle.wasm_examples.proofs.Control.{ends_in}

-- 7 / 0
pub by_zero : run_of [] (binary_code binary.DivSigned (pos 7) (pos 0)) [] (5 ∷ []) [] 1 ≡ Trapped
unfolding pieces plain act exec
by_zero = refl

-- -2^31 / -1 would be 2^31
pub overflow : run_of [] (binary_code binary.DivSigned least (negsuc 0)) [] (5 ∷ []) [] 1 ≡ Trapped
unfolding pieces plain act exec
overflow = refl

-- its remainder is 0
pub no_remainder : EndsIn 3 [] (binary_code binary.RemSigned least (negsuc 0)) [] (5 ∷ []) [] (0 ∷ []) []
unfolding pieces plain act exec
no_remainder = ends_in 2 [] (binary_code binary.RemSigned least (negsuc 0)) [] (5 ∷ []) [] (0 ∷ []) [] refl refl

-- -7 / 2 is -3, whose bits are 2^32 - 3
pub toward_zero : EndsIn 3 [] (binary_code binary.DivSigned (negsuc 6) (pos 2)) [] (5 ∷ []) [] (0xFFFFFFFD ∷ []) []
unfolding pieces plain act exec
toward_zero = ends_in 2 [] (binary_code binary.DivSigned (negsuc 6) (pos 2)) [] (5 ∷ []) [] (0xFFFFFFFD ∷ []) [] refl refl

-- the low byte comes first, and the byte 81 is negative
pub memory_ends : EndsIn 6 [] memory_code [] (0 ∷ 0 ∷ []) (1 ∷ 1 ∷ 1 ∷ 1 ∷ 1 ∷ 1 ∷ 1 ∷ 1 ∷ []) (0x81828384 ∷ 0xFFFFFF81 ∷ []) (1 ∷ 1 ∷ 0x84 ∷ 0x83 ∷ 0x82 ∷ 0x81 ∷ 1 ∷ 1 ∷ [])
unfolding pieces plain act exec
memory_ends =
    ends_in 5 [] memory_code [] (0 ∷ 0 ∷ []) (1 ∷ 1 ∷ 1 ∷ 1 ∷ 1 ∷ 1 ∷ 1 ∷ 1 ∷ []) (0x81828384 ∷ 0xFFFFFF81 ∷ []) (1 ∷ 1 ∷ 0x84 ∷ 0x83 ∷ 0x82 ∷ 0x81 ∷ 1 ∷ 1 ∷ []) refl refl

-- four bytes from address 1 on aren't there
pub past_the_end : run_of [] (load_code (pos 1)) [] (5 ∷ []) (1 ∷ 2 ∷ 3 ∷ 4 ∷ []) 1 ≡ Trapped
unfolding pieces plain act exec
past_the_end = refl
