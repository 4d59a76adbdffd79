-- Bytes that are loaded and stored again, and memory whose bytes are bytes.
use Rattle.std.proofs.Common.{◌≡◌, ℕ, ◌+◌, ◌%◌, ◌/◌, ◌^◌, ◌<◌, ◌≤◌, Bool, true, false, List, [], ◌∷◌, ◌++◌, length, get_or, take, drop, refl, ap, ◌∙◌, arith, ⊎_elim}
use Rattle.std.specs.Int.{w32, w64, from_le_bytes, to_le_bytes}
use Rattle.std.proofs.Math.Nat.{mod-eq_of_lt, mod-lt}
use Rattle.std.proofs.lemmas.Nat.{le_bytes_4, le_bytes_8}
use Rattle.std.proofs.lemmas.Bool.{cases_lt}
use Rattle.std.proofs.lemmas.Grind.{common_steps}
use Rattle.std.proofs.lemmas.List.{take-append-drop}
use Rattle.std.proofs.lemmas.List.Elements.{All-nil, All-cons, All-append, All-take, All-drop, All-get_or}
use Rattle.wasm_tree.specs.Meaning.{loaded, stored}
use Rattle.wasm_tree.specs.Reduce.{write_bytes}
use Rattle.wasm_steps.specs.Windows.{window}
use Rattle.memory_code.specs.Parts.{load_of, store_of, part_size}
use Rattle.memory_code.specs.Copies.{AreBytes}

byte_small : (bytes : List ℕ) → AreBytes bytes → (i : ℕ) → get_or bytes i 0 < 256
byte_small bytes h i = ⊎_elim
    (λ (lt : i < length bytes). All-get_or (λ (b : ℕ). b < 256) bytes i 0 lt h)
    (λ (ge : length bytes ≤ i). let z : get_or bytes i 0 ≡ 0 = grind (arith, common_steps) in omega (arith, z))
    (cases_lt i (length bytes))

word_small : (bytes : List ℕ) → AreBytes bytes → from_le_bytes w32 bytes < 2 ^ 32
word_small bytes h =
    let a = byte_small bytes h 0 in
    let b = byte_small bytes h 1 in
    let c = byte_small bytes h 2 in
    let d = byte_small bytes h 3 in
    omega (arith, a, b, c, d)

long_small : (bytes : List ℕ) → AreBytes bytes → from_le_bytes w64 bytes < 2 ^ 64
long_small bytes h =
    let a = byte_small bytes h 0 in
    let b = byte_small bytes h 1 in
    let c = byte_small bytes h 2 in
    let d = byte_small bytes h 3 in
    let e = byte_small bytes h 4 in
    let f = byte_small bytes h 5 in
    let g = byte_small bytes h 6 in
    let i = byte_small bytes h 7 in
    omega (arith, a, b, c, d, e, f, g, i)

-- what is loaded and stored again is the same bytes
pub restored : (wide : Bool) (bytes : List ℕ) → length bytes ≡ part_size wide → AreBytes bytes → stored (store_of wide) (loaded (load_of wide) bytes) ≡ bytes
restored true bytes e h =
    ap (to_le_bytes w64) (mod-eq_of_lt (long_small bytes h)) ∙ le_bytes_8 bytes (from_le_bytes w64 bytes) e (byte_small bytes h) refl
restored false bytes e h =
    ap (to_le_bytes w32) (mod-eq_of_lt (word_small bytes h)) ∙ le_bytes_4 bytes (from_le_bytes w32 bytes) e (byte_small bytes h) refl

pub bytes_window : (memory : List ℕ) (address size : ℕ) → AreBytes memory → AreBytes (window memory address size)
bytes_window memory address size h = All-take (λ (b : ℕ). b < 256) size (drop address memory) (All-drop (λ (b : ℕ). b < 256) address memory h)

pub bytes_write : (memory : List ℕ) (address : ℕ) (bytes : List ℕ) → AreBytes memory → AreBytes bytes → AreBytes (write_bytes memory address bytes)
bytes_write memory address bytes h k =
    All-append (λ (b : ℕ). b < 256) (take address memory) (bytes ++ drop (address + length bytes) memory)
    (All-take (λ (b : ℕ). b < 256) address memory h)
    (All-append (λ (b : ℕ). b < 256) bytes (drop (address + length bytes) memory) k (All-drop (λ (b : ℕ). b < 256) (address + length bytes) memory h))

byte_below : (n : ℕ) → n % 256 < 256
byte_below n = mod-lt n (omega arith)

pub bytes_word : (n : ℕ) → AreBytes (to_le_bytes w32 n)
bytes_word n =
    let P : ℕ → Type 0 = λ b. b < 256 in
    let second : ℕ = n / 256 % 256 in
    let third : ℕ = n / 65536 % 256 in
    let fourth : ℕ = n / 16777216 % 256 in
    All-cons P (n % 256) (second ∷ third ∷ fourth ∷ []) (byte_below n)
    (All-cons P second (third ∷ fourth ∷ []) (byte_below (n / 256))
    (All-cons P third (fourth ∷ []) (byte_below (n / 65536))
    (All-cons P fourth [] (byte_below (n / 16777216)) (All-nil P))))

-- writing nothing changes nothing
pub write_nothing : (memory : List ℕ) (address : ℕ) → write_bytes memory address [] ≡ memory
write_nothing memory address =
    let e : address + 0 ≡ address = omega arith in
    ap (λ n. take address memory ++ drop n memory) e ∙ take-append-drop address memory
