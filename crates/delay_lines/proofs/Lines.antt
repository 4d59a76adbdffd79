-- The line that a ring in memory stands for, and how a write at its cursor changes it.
use Rattle.std.proofs.Common.{◌≡◌, ℕ, zero, suc, ◌+◌, ◌*◌, ◌<◌, ◌≤◌, List, [], ◌∷◌, ◌++◌, length, get_or, set, take, drop, refl, sym, ap, ◌∙◌, arith, append_assoc, drop-cons, add-one}
use Rattle.std.proofs.lemmas.List.{take_more_set}
use Rattle.std.proofs.Math.Nat.{mul-le-mul_left}
use Rattle.std.proofs.lemmas.Grind.{common_steps}
use Rattle.wasm_tree.specs.Reduce.{write_bytes}
use Rattle.wasm_steps.specs.Windows.{window, Apart, Below, Above}
use Rattle.wasm_steps.proofs.Windows.{window_written, window_below, window_above}
use Rattle.delay_lines.specs.Rings.{ring_of, entries_from}

-- ---- lists

-- the entry at the cursor is the first
pub ring_head : {X : Type 0} (xs : List X) (c : ℕ) (d : X) → c < length xs → get_or (ring_of xs c) 0 d ≡ get_or xs c d
ring_head xs c d lt = ap (λ l. get_or (l ++ take c xs) 0 d) (drop-cons xs c d lt)

-- the oldest goes, the new one comes last
pub ring_step : {X : Type 0} (xs : List X) (c : ℕ) (v : X) → c < length xs → ring_of (set xs c v) (c + 1) ≡ drop 1 (ring_of xs c) ++ v ∷ []
ring_step xs c v lt =
    let a : drop (c + 1) (set xs c v) ≡ drop (c + 1) xs = grind (arith, common_steps) in
    let b : take (c + 1) (set xs c v) ≡ take c xs ++ v ∷ [] = take_more_set xs c v lt in
    let d : drop c xs ≡ get_or xs c v ∷ drop (c + 1) xs = rw (add-one, drop-cons xs c v) refl in
    rw (a, b, d) (sym (append_assoc (drop (c + 1) xs) (take c xs) (v ∷ [])))

-- a cursor at the end is one at the start
pub ring_wrap : {X : Type 0} (xs : List X) (c : ℕ) → c ≡ length xs → ring_of xs 0 ≡ ring_of xs c
ring_wrap xs c e = grind (arith, common_steps)

-- ---- entries in memory

-- an entry ends where the entries end, or before
pub inside : (i count width : ℕ) → i < count → i * width + width ≤ count * width
inside i count width lt =
    let le : i + 1 ≤ count = omega arith in
    omega (arith, mul-le-mul_left width le)

pub length-entries : (memory : List ℕ) (first width count : ℕ) → length (entries_from memory first width count) ≡ count
length-entries memory first width zero = refl
length-entries memory first width (suc count) = ap (λ (n : ℕ). suc n) (length-entries memory (first + width) width count)

pub entry_at : (memory : List ℕ) (first width count i : ℕ) (d : List ℕ) → i < count → get_or (entries_from memory first width count) i d ≡ window memory (first + i * width) width
entry_at memory first width zero i d lt = absurd (omega (arith, lt))
entry_at memory first width (suc count) zero d lt = let e : first ≡ first + zero * width = omega arith in ap (λ a. window memory a width) e
entry_at memory first width (suc count) (suc i) d lt =
    let e : first + width + i * width ≡ first + suc i * width = omega arith in
    entry_at memory (first + width) width count i d (omega arith) ∙ ap (λ a. window memory a width) e

-- a write that is apart from all entries changes none
pub entries_apart : (memory : List ℕ) (first width count address : ℕ) (bytes : List ℕ) → Apart first (count * width) address (length bytes) → address ≤ length memory →
    entries_from (write_bytes memory address bytes) first width count ≡ entries_from memory first width count
entries_apart memory first width zero address bytes a h = refl
entries_apart memory first width (suc count) address bytes (Below b) h =
    let here = window_below memory first width address bytes (omega arith) h in
    let rest = entries_apart memory (first + width) width count address bytes (Below (omega arith)) h in
    ap (λ e. e ∷ entries_from (write_bytes memory address bytes) (first + width) width count) here ∙ ap (λ es. window memory first width ∷ es) rest
entries_apart memory first width (suc count) address bytes (Above b) h =
    let here = window_above memory first width address bytes b h in
    let rest = entries_apart memory (first + width) width count address bytes (Above (omega arith)) h in
    ap (λ e. e ∷ entries_from (write_bytes memory address bytes) (first + width) width count) here ∙ ap (λ es. window memory first width ∷ es) rest

-- a write of one entry sets that entry
pub entries_set : (memory : List ℕ) (first width count i : ℕ) (entry : List ℕ) → i < count → length entry ≡ width → first + count * width ≤ length memory →
    entries_from (write_bytes memory (first + i * width) entry) first width count ≡ set (entries_from memory first width count) i entry
entries_set memory first width zero i entry lt e h = absurd (omega (arith, lt))
entries_set memory first width (suc count) zero entry lt e h =
    let at : first + zero * width ≡ first = omega arith in
    let here : window (write_bytes memory first entry) first width ≡ entry = window_written memory first width entry e (omega arith) in
    let rest : entries_from (write_bytes memory first entry) (first + width) width count ≡ entries_from memory (first + width) width count =
    entries_apart memory (first + width) width count first entry (Above (omega (arith, e))) (omega arith) in
    ap (λ a. entries_from (write_bytes memory a entry) first width (suc count)) at
    ∙ ap (λ x. x ∷ entries_from (write_bytes memory first entry) (first + width) width count) here
    ∙ ap (λ es. entry ∷ es) rest
entries_set memory first width (suc count) (suc i) entry lt e h =
    let at : first + suc i * width ≡ first + width + i * width = omega arith in
    let below : i * width + width ≤ count * width = inside i count width (omega arith) in
    let here : window (write_bytes memory (first + suc i * width) entry) first width ≡ window memory first width =
    window_below memory first width (first + suc i * width) entry (omega arith) (omega (arith, below)) in
    let rest : entries_from (write_bytes memory (first + width + i * width) entry) (first + width) width count ≡ set (entries_from memory (first + width) width count) i entry =
    entries_set memory (first + width) width count i entry (omega arith) e (omega arith) in
    ap (λ x. x ∷ entries_from (write_bytes memory (first + suc i * width) entry) (first + width) width count) here
    ∙ ap (λ a. window memory first width ∷ entries_from (write_bytes memory a entry) (first + width) width count) at
    ∙ ap (λ es. window memory first width ∷ es) rest
