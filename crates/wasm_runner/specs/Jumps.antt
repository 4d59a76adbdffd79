-- What stands at a place of flat code, and where control goes from there: Core Specification 1.0, 4.4.6. The pieces of
-- the code from a place on (`pieces` of wasm_tree) are what is left of the sequences that are open there.
use Rattle.std.specs.Prelude.{◌≡◌, ◌+◌, ℕ, List, [], ◌∷◌, Bool, false, if◌then◌else◌, Some, length, drop, slice_get}
use Rattle.wasm_tree.specs.declared.instr.Instr.{Instr}
use Rattle.wasm_tree.specs.declared.instr.Instr.TheVariants as instr
use Rattle.wasm_tree.specs.Reduce.{Seq, Nil, Piece, Label, pieces}
use Rattle.wasm_runner.specs.declared.jump.Jump.{Jump}

-- what follows the end of a sequence: the first arm of an `if` is followed by the second, which control skips
abbrev pub past_arm : Piece → List Piece → List Piece
past_arm piece others = if piece.arm then drop 1 others else others

-- a function's own sequence is no first arm
abbrev pub IsLastWhole : List Seq → Bool → Type 0
IsLastWhole [] arm = arm ≡ false
IsLastWhole (s ∷ ss) arm = Unit {0}

-- the sequence that is left, and what follows each block around it
abbrev pub Stands : List Seq → List Piece → Type 0
Stands [] pieces = Unit {0}
Stands (s ∷ ss) [] = ⊥
Stands (s ∷ ss) (piece ∷ others) = (piece.rest ≡ s) × (IsLastWhole ss piece.arm × Stands ss (past_arm piece others))

-- what follows the ends of open blocks
abbrev pub rests : List Label → List Seq
rests [] = []
rests (label ∷ labels) = label.rest ∷ rests labels

-- the pieces past the end of an `if`, from its first arm
abbrev pub beyond : List Piece → List Piece
beyond [] = []
beyond (piece ∷ others) = past_arm piece others

-- the pieces of the arm that an `if` takes at 0, from its first arm: the second, or an empty one
abbrev pub otherwise : List Piece → List Piece
otherwise [] = []
otherwise (piece ∷ others) = if piece.arm then others else record { arm = false; rest = Nil } ∷ others

-- a jump leads past the end of its block, and that of an `if` also to the second arm
abbrev pub IsJump : List Instr → ℕ → Instr → Jump → Type 0
IsJump code at (instr.Block result) jump = pieces (drop jump.after code) ≡ drop 1 (pieces (drop (at + 1) code))
IsJump code at (instr.If result) jump =
    (pieces (drop jump.after code) ≡ beyond (pieces (drop (at + 1) code))) × (pieces (drop jump.other code) ≡ otherwise (pieces (drop (at + 1) code)))
IsJump code at instr.Else jump = pieces (drop jump.after code) ≡ drop 1 (pieces (drop (at + 1) code))
IsJump code at _ jump = Unit {0}

-- a jump for each instruction
pub record AreJumps (code : List Instr) (jumps : List Jump) : Type 0 where
  pub long : length jumps ≡ length code
  pub each : (at : ℕ) (i : Instr) (jump : Jump) → slice_get code at ≡ Some i → slice_get jumps at ≡ Some jump → IsJump code at i jump
