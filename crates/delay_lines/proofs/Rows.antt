-- Worked rows of the definitions.
use Rattle.std.proofs.Common.{◌≡◌, ℕ, List, [], ◌∷◌, refl}
use Rattle.wasm_tree.specs.Reduce.{State, Done, at, exec, plain, act}
use Rattle.delay_lines.specs.declared.ring.RingPlace.{RingPlace}
use Rattle.delay_lines.specs.Rings.{line_of, oldest_of}
use Rattle.straight_code.specs.Straight.{plains}
use Rattle.delay_lines.specs.Code.{oldest_instrs, push_instrs}

-- a cursor and three entries, behind a word that is no part of the ring
abbrev ring : RingPlace
ring = record { cursor = 4; first = 8; length = 3; width = 4 }

-- the word, the number of the oldest entry, and the entries
abbrev memory : ℕ → ℕ → ℕ → ℕ → ℕ → List ℕ
memory word cursor a b c = word ∷ 0 ∷ 0 ∷ 0 ∷ cursor ∷ 0 ∷ 0 ∷ 0 ∷ a ∷ 0 ∷ 0 ∷ 0 ∷ b ∷ 0 ∷ 0 ∷ 0 ∷ c ∷ 0 ∷ 0 ∷ 0 ∷ []

abbrev entry : ℕ → List ℕ
entry x = x ∷ 0 ∷ 0 ∷ 0 ∷ []

line_from_1 : line_of ring (memory 9 1 10 20 30) ≡ entry 20 ∷ entry 30 ∷ entry 10 ∷ []
line_from_1 = refl

oldest_at_2 : oldest_of ring (memory 9 2 10 20 30) ≡ entry 30
oldest_at_2 = refl

abbrev state : List ℕ → State
state bytes = record { values = []; locals = []; globals = []; memory = bytes }

-- the oldest entry to the word: four reductions and the function's end
oldest_runs : exec [] 5 (at (plains (oldest_instrs ring 0)) (state (memory 9 1 10 20 30)) [] []) ≡ Done [] (memory 20 1 10 20 30)
unfolding exec act plain
oldest_runs = refl

-- the word becomes the newest entry: ten reductions and the function's end
push_runs : exec [] 11 (at (plains (push_instrs ring 0)) (state (memory 9 1 10 20 30)) [] []) ≡ Done [] (memory 9 2 10 9 30)
unfolding exec act plain
push_runs = refl

-- behind the last entry comes the first
push_wraps : exec [] 11 (at (plains (push_instrs ring 0)) (state (memory 9 2 10 20 30)) [] []) ≡ Done [] (memory 9 0 10 20 9)
unfolding exec act plain
push_wraps = refl
