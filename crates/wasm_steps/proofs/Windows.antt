-- Parts of memory: what a read finds after a write.
use Rattle.std.proofs.Common.{◌≡◌, ℕ, ◌+◌, ◌-◌, ◌≤◌, List, ◌++◌, length, take, drop, refl, sym, ap, ◌∙◌, arith, append_assoc, length-append, length-take, length-drop}
use Rattle.std.proofs.lemmas.List.{take_at, drop_at, take-take, take-append-le, drop-append-le, drop-drop, drop-take, length-take-le}
use Rattle.std.proofs.Math.Seq.{take-add, take-append-add, drop-append-add}
use Rattle.wasm_tree.specs.Reduce.{write_bytes}
use Rattle.wasm_steps.specs.Windows.{window, Apart, Below, Above}

-- a write within the memory keeps its length
pub length-write_bytes : (memory : List ℕ) (address : ℕ) (bytes : List ℕ) → address + length bytes ≤ length memory → length (write_bytes memory address bytes) ≡ length memory
length-write_bytes memory address bytes h = simp (length-append, length-take, length-drop) (omega arith)

-- a window within the memory has its length
pub length-window : (memory : List ℕ) (address size : ℕ) → address + size ≤ length memory → length (window memory address size) ≡ size
length-window memory address size h = simp (length-take, length-drop) (omega arith)

-- what was written is read
pub window_same : (memory : List ℕ) (address : ℕ) (bytes : List ℕ) → address + length bytes ≤ length memory → window (write_bytes memory address bytes) address (length bytes) ≡ bytes
window_same memory address bytes h =
    ap (take (length bytes)) (drop_at (take address memory) (bytes ++ drop (address + length bytes) memory) address (length-take-le address memory (omega arith)))
    ∙ take_at bytes (drop (address + length bytes) memory) (length bytes) refl

-- the same under another form of the size
pub window_written : (memory : List ℕ) (address size : ℕ) (bytes : List ℕ) → length bytes ≡ size → address + size ≤ length memory → window (write_bytes memory address bytes) address size ≡ bytes
window_written memory address size bytes e h = ap (window (write_bytes memory address bytes) address) (sym e) ∙ window_same memory address bytes (omega arith)

-- what lies below a write is as it was
pub window_below : (memory : List ℕ) (from size address : ℕ) (bytes : List ℕ) → from + size ≤ address → address ≤ length memory →
    window (write_bytes memory address bytes) from size ≡ window memory from size
window_below memory from size address bytes h in_range =
    let front : List ℕ = take address memory in
    let back : List ℕ = bytes ++ drop (address + length bytes) memory in
    let front_length : length front ≡ address = length-take-le address memory in_range in
    let split : address ≡ from + (address - from) = omega arith in
    ap (take size) (drop-append-le from front back (omega arith))
    ∙ take-append-le size (drop from front) back (omega (arith, length-drop from front))
    ∙ ap (λ n. take size (drop from (take n memory))) split
    ∙ ap (take size) (drop-take from (address - from) memory)
    ∙ take-take size (address - from) (drop from memory) (omega arith)

-- what lies above a write is as it was
pub window_above : (memory : List ℕ) (from size address : ℕ) (bytes : List ℕ) → address + length bytes ≤ from → address ≤ length memory →
    window (write_bytes memory address bytes) from size ≡ window memory from size
window_above memory from size address bytes h in_range =
    let front : List ℕ = take address memory in
    let back : List ℕ = drop (address + length bytes) memory in
    let more : ℕ = from - (address + length bytes) in
    let front_length : length front ≡ address = length-take-le address memory in_range in
    let past : from ≡ length (front ++ bytes) + more = omega (arith, length-append front bytes) in
    let reached : address + length bytes + more ≡ from = omega arith in
    ap (λ l. take size (drop from l)) (sym (append_assoc front bytes back))
    ∙ ap (λ n. take size (drop n ((front ++ bytes) ++ back))) past
    ∙ ap (take size) (drop-append-add (front ++ bytes) back more ∙ drop-drop more (address + length bytes) memory)
    ∙ ap (λ n. take size (drop n memory)) reached

-- what is apart from a write is as it was
pub window_apart : (memory : List ℕ) (from size address : ℕ) (bytes : List ℕ) → Apart from size address (length bytes) → address ≤ length memory →
    window (write_bytes memory address bytes) from size ≡ window memory from size
window_apart memory from size address bytes (Below h) in_range = window_below memory from size address bytes h in_range
window_apart memory from size address bytes (Above h) in_range = window_above memory from size address bytes h in_range

-- a window of a window
pub window_inside : (memory : List ℕ) (from size inner length_inner : ℕ) → inner + length_inner ≤ size → window (window memory from size) inner length_inner ≡ window memory (from + inner) length_inner
window_inside memory from size inner length_inner h =
    let split : size ≡ inner + (size - inner) = omega arith in
    ap (λ n. take length_inner (drop inner (take n (drop from memory)))) split
    ∙ ap (take length_inner) (drop-take inner (size - inner) (drop from memory))
    ∙ take-take length_inner (size - inner) (drop inner (drop from memory)) (omega arith)
    ∙ ap (take length_inner) (drop-drop inner from memory)

-- a window and the one that follows it
pub window_append : (memory : List ℕ) (from first second : ℕ) → window memory from (first + second) ≡ window memory from first ++ window memory (from + first) second
window_append memory from first second =
    take-add first second (drop from memory)
    ∙ ap (λ l. take first (drop from memory) ++ take second l) (drop-drop first from memory)

-- the rest of memory after a write into it
pub drop-write_bytes : (memory : List ℕ) (from inner : ℕ) (bytes : List ℕ) → from + inner ≤ length memory →
    drop from (write_bytes memory (from + inner) bytes) ≡ write_bytes (drop from memory) inner bytes
drop-write_bytes memory from inner bytes h =
    let front : List ℕ = take (from + inner) memory in
    let back : List ℕ = bytes ++ drop (from + inner + length bytes) memory in
    let front_length : length front ≡ from + inner = length-take-le (from + inner) memory h in
    let at_once : from + inner + length bytes ≡ from + (inner + length bytes) = omega arith in
    drop-append-le from front back (omega arith)
    ∙ ap (λ l. l ++ back) (drop-take from inner memory)
    ∙ ap (λ n. take inner (drop from memory) ++ (bytes ++ drop n memory)) at_once
    ∙ ap (λ l. take inner (drop from memory) ++ (bytes ++ l)) (sym (drop-drop (inner + length bytes) from memory))

-- a first part of memory after a write into it
pub take-write_bytes : (memory : List ℕ) (size inner : ℕ) (bytes : List ℕ) → inner + length bytes ≤ size → inner ≤ length memory →
    take size (write_bytes memory inner bytes) ≡ write_bytes (take size memory) inner bytes
take-write_bytes memory size inner bytes h in_range =
    let front : List ℕ = take inner memory in
    let more : ℕ = size - (inner + length bytes) in
    let back : List ℕ = drop (inner + length bytes) memory in
    let front_length : length front ≡ inner = length-take-le inner memory in_range in
    let past : size ≡ length (front ++ bytes) + more = omega (arith, length-append front bytes) in
    let reached : size ≡ inner + length bytes + more = omega arith in
    let front_same : front ≡ take inner (take size memory) = sym (take-take inner size memory (omega arith)) in
    let back_same : take more back ≡ drop (inner + length bytes) (take size memory) =
    sym (ap (λ n. drop (inner + length bytes) (take n memory)) reached ∙ drop-take (inner + length bytes) more memory) in
    ap (take size) (sym (append_assoc front bytes back))
    ∙ ap (λ n. take n ((front ++ bytes) ++ back)) past
    ∙ take-append-add (front ++ bytes) back more
    ∙ append_assoc front bytes (take more back)
    ∙ ap (λ l. l ++ (bytes ++ take more back)) front_same
    ∙ ap (λ l. take inner (take size memory) ++ (bytes ++ l)) back_same

-- a write inside a window is a write of the window
pub window_write_inside : (memory : List ℕ) (from size inner : ℕ) (bytes : List ℕ) → inner + length bytes ≤ size → from + size ≤ length memory →
    window (write_bytes memory (from + inner) bytes) from size ≡ write_bytes (window memory from size) inner bytes
window_write_inside memory from size inner bytes h in_range =
    ap (take size) (drop-write_bytes memory from inner bytes (omega arith))
    ∙ take-write_bytes (drop from memory) size inner bytes h (omega (arith, length-drop from memory))

-- a second write to the same place replaces the first
pub write_bytes-write_bytes : (memory : List ℕ) (address : ℕ) (first second : List ℕ) → length first ≡ length second → address + length first ≤ length memory →
    write_bytes (write_bytes memory address first) address second ≡ write_bytes memory address second
write_bytes-write_bytes memory address first second e h =
    let front : List ℕ = take address memory in
    let back : List ℕ = drop (address + length first) memory in
    let front_length : length front ≡ address = length-take-le address memory (omega arith) in
    ap (λ l. l ++ (second ++ drop (address + length second) (front ++ (first ++ back)))) (take_at front (first ++ back) address front_length)
    ∙ ap (λ l. front ++ (second ++ drop (address + length second) l)) (sym (append_assoc front first back))
    ∙ ap (λ l. front ++ (second ++ l)) (drop_at (front ++ first) back (address + length second) (omega (arith, length-append front first)))
    ∙ ap (λ n. front ++ (second ++ drop (address + n) memory)) e
