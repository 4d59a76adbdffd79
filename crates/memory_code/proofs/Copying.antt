-- Parts that are copied one after the other copy the whole.
use Rattle.std.proofs.Common.{◌≡◌, ℕ, zero, suc, ◌+◌, ◌*◌, ◌≤◌, List, [], ◌++◌, length, take, drop, refl, sym, ap, ◌∙◌, arith, append_assoc, replicate, subst, length-append}
use Rattle.std.proofs.lemmas.List.{take_at, take-append-drop, drop-drop, length-take-le}
use Rattle.std.proofs.Math.Seq.{drop-append-add}
use Rattle.std.proofs.lemmas.List.{length-replicate, replicate-append-replicate}
use Rattle.wasm_tree.specs.declared.instr.Instr.{Instr}
use Rattle.wasm_tree.specs.Reduce.{Func, State, write_bytes}
use Rattle.wasm_steps.specs.Steps.{Does, quiet}
use Rattle.wasm_steps.specs.Windows.{window, Apart, Below, Above}
use Rattle.wasm_steps.proofs.Compose.{both_quiet, does_nothing, recode, recount_does, restate}
use Rattle.wasm_steps.proofs.Windows.{length-window, length-write_bytes, window_append, window_apart}
use Rattle.memory_code.specs.Parts.{parts}
use Rattle.straight_code.specs.Straight.{plains}
use Rattle.straight_code.proofs.Straight.{plains_append}
use Rattle.memory_code.specs.Copies.{with_memory, AreBytes}
use Rattle.memory_code.proofs.Bytes.{bytes_window, bytes_write, write_nothing}

-- one write directly behind another
pub write_behind : (memory : List ℕ) (address next : ℕ) (first second : List ℕ) → next ≡ address + length first → address + length first ≤ length memory →
    write_bytes (write_bytes memory address first) next second ≡ write_bytes memory address (first ++ second)
write_behind memory address next first second e h =
    let front : List ℕ = take address memory in
    let back : List ℕ = drop (address + length first) memory in
    let front_length : length front ≡ address = length-take-le address memory (omega arith) in
    let both_length : length (front ++ first) ≡ next = omega (arith, length-append front first, front_length, e) in
    let assoc : front ++ (first ++ back) ≡ (front ++ first) ++ back = sym (append_assoc front first back) in
    let taken : take next (front ++ (first ++ back)) ≡ front ++ first = ap (take next) assoc ∙ take_at (front ++ first) back next both_length in
    let past : next + length second ≡ length (front ++ first) + length second = omega (arith, both_length) in
    let reached : address + length first + length second ≡ address + length (first ++ second) = omega (arith, length-append first second) in
    let dropped : drop (next + length second) (front ++ (first ++ back)) ≡ drop (address + length (first ++ second)) memory =
    ap (drop (next + length second)) assoc ∙ ap (λ n. drop n ((front ++ first) ++ back)) past ∙ drop-append-add (front ++ first) back (length second)
    ∙ drop-drop (length second) (address + length first) memory ∙ ap (λ n. drop n memory) reached in
    ap (λ l. l ++ (second ++ drop (next + length second) (front ++ (first ++ back)))) taken
    ∙ ap (λ l. (front ++ first) ++ (second ++ l)) dropped
    ∙ append_assoc front first (second ++ drop (address + length (first ++ second)) memory)
    ∙ ap (λ l. front ++ l) (sym (append_assoc first second (drop (address + length (first ++ second)) memory)))

-- a part of one region is apart from the parts of another before it
pub parts_apart : (dst src width at size copied : ℕ) → Apart dst width src width → at + size ≤ width → copied ≤ width → Apart (src + at) size dst copied
parts_apart dst src width at size copied (Below h) a c = Above (omega arith)
parts_apart dst src width at size copied (Above h) a c = Below (omega arith)

pub apart_inside : (from from_size at size inner inner_size : ℕ) → Apart at size from from_size → from ≤ inner → inner + inner_size ≤ from + from_size → Apart at size inner inner_size
apart_inside from from_size at size inner inner_size (Below h) a b = Below (omega arith)
apart_inside from from_size at size inner inner_size (Above h) a b = Above (omega arith)

pub apart_less : (at size to to_size less : ℕ) → Apart at size to to_size → less ≤ to_size → Apart at size to less
apart_less at size to to_size less (Below h) le = Below h
apart_less at size to to_size less (Above h) le = Above (omega arith)

pub apart_back : (a n b m : ℕ) → Apart a n b m → Apart b m a n
apart_back a n b m (Below h) = Above h
apart_back a n b m (Above h) = Below h

-- a memory that differs from the first only where parts were copied to
abbrev pub IsSameOutside : (before after : List ℕ) → (dst width : ℕ) → Type 0
IsSameOutside before after dst width = (a n : ℕ) → Apart a n dst width → window after a n ≡ window before a n

-- a piece of code copies a part, in so many reductions, from any such memory
abbrev pub CopiesPart : List Func → State → (part : ℕ → List Instr) → (count dst src width size : ℕ) → Type 0
CopiesPart funcs st part count dst src width size = (at : ℕ) (memory : List ℕ) → at + size ≤ width → length memory ≡ length st.memory
    → IsSameOutside st.memory memory dst width → AreBytes memory
    → Does funcs (plains (part at)) count quiet (with_memory st memory) (with_memory st (write_bytes memory (dst + at) (window memory (src + at) size)))

-- the memory after so many bytes
abbrev pub copied : State → (dst src n : ℕ) → List ℕ
copied st dst src n = write_bytes st.memory dst (window st.memory src n)

pub length-copied : (st : State) (dst src n : ℕ) → dst + n ≤ length st.memory → src + n ≤ length st.memory → length (copied st dst src n) ≡ length st.memory
length-copied st dst src n h k =
    let e = length-window st.memory src n k in
    length-write_bytes st.memory dst (window st.memory src n) (omega (arith, e))

apart_written : (memory : List ℕ) (from size dst src n : ℕ) → Apart from size dst n → src + n ≤ length memory → dst ≤ length memory →
    window (write_bytes memory dst (window memory src n)) from size ≡ window memory from size
apart_written memory from size dst src n a h k =
    let e = length-window memory src n h in
    let P : ℕ → Type 0 = λ k. Apart from size dst k in
    window_apart memory from size dst (window memory src n) (subst P (sym e) a) k

-- one part more
copied_more : (st : State) (dst src width size n : ℕ) → dst + width ≤ length st.memory → src + width ≤ length st.memory → Apart dst width src width → n * size + size ≤ width →
    write_bytes (copied st dst src (n * size)) (dst + n * size) (window (copied st dst src (n * size)) (src + n * size) size) ≡ copied st dst src (suc n * size)
copied_more st dst src width size n h k a le =
    let m = st.memory in
    let e : length (window m src (n * size)) ≡ n * size = length-window m src (n * size) (omega arith) in
    let same : window (copied st dst src (n * size)) (src + n * size) size ≡ window m (src + n * size) size =
    apart_written m (src + n * size) size dst src (n * size) (parts_apart dst src width (n * size) size (n * size) a le (omega arith)) (omega arith) (omega arith) in
    let next : dst + n * size ≡ dst + length (window m src (n * size)) = omega (arith, e) in
    let total : n * size + size ≡ suc n * size = omega arith in
    ap (write_bytes (copied st dst src (n * size)) (dst + n * size)) same
    ∙ write_behind m dst (dst + n * size) (window m src (n * size)) (window m (src + n * size) size) next (omega (arith, e))
    ∙ ap (write_bytes m dst) (sym (window_append m src (n * size) size))
    ∙ ap (λ s. write_bytes m dst (window m src s)) total

-- all parts
pub copies : {funcs : List Func} (st : State) (part : ℕ → List Instr) (count dst src width size : ℕ) → CopiesPart funcs st part count dst src width size →
    AreBytes st.memory → dst + width ≤ length st.memory → src + width ≤ length st.memory → Apart dst width src width →
    (n : ℕ) → n * size ≤ width → Does funcs (plains (parts part size n)) (n * count) quiet st (with_memory st (copied st dst src (n * size)))
copies st part count dst src width size each bytes h k a zero le =
    let none : write_bytes st.memory dst [] ≡ st.memory = write_nothing st.memory dst in
    let zero_bytes : 0 ≡ zero * size = omega arith in
    recount_does (omega arith) (restate (ap (with_memory st) (sym none ∙ ap (λ s. copied st dst src s) zero_bytes)) (does_nothing st))
copies {funcs} st part count dst src width size each bytes h k a (suc n) le =
    let so_far : n * size + size ≤ width = omega arith in
    let e : length (window st.memory src (n * size)) ≡ n * size = length-window st.memory src (n * size) (omega arith) in
    let first : Does funcs (plains (parts part size n)) (n * count) quiet st (with_memory st (copied st dst src (n * size))) =
    copies st part count dst src width size each bytes h k a n (omega arith) in
    let outside : IsSameOutside st.memory (copied st dst src (n * size)) dst width =
    λ from m b. apart_written st.memory from m dst src (n * size) (apart_less from m dst width (n * size) b (omega arith)) (omega arith) (omega arith) in
    let second = each (n * size) (copied st dst src (n * size)) so_far (length-copied st dst src (n * size) (omega arith) (omega arith)) outside
    (bytes_write st.memory dst (window st.memory src (n * size)) bytes (bytes_window st.memory src (n * size) bytes)) in
    let total : n * count + count ≡ suc n * count = omega arith in
    recode (plains_append (parts part size n) (part (n * size)))
    (recount_does total
    (restate (ap (with_memory st) (copied_more st dst src width size n h k a so_far))
    (both_quiet first second)))

-- ---- zeros

abbrev pub zeroed : State → (dst n : ℕ) → List ℕ
zeroed st dst n = write_bytes st.memory dst (replicate n 0)

-- a piece of code zeroes a part, in so many reductions
abbrev pub ZeroesPart : List Func → State → (part : ℕ → List Instr) → (count dst width size : ℕ) → Type 0
ZeroesPart funcs st part count dst width size = (at : ℕ) (memory : List ℕ) → at + size ≤ width → length memory ≡ length st.memory
    → Does funcs (plains (part at)) count quiet (with_memory st memory) (with_memory st (write_bytes memory (dst + at) (replicate size 0)))

zeroed_more : (st : State) (dst width size n : ℕ) → dst + width ≤ length st.memory → n * size + size ≤ width →
    write_bytes (zeroed st dst (n * size)) (dst + n * size) (replicate size 0) ≡ zeroed st dst (suc n * size)
zeroed_more st dst width size n h le =
    let e : length {A = ℕ} (replicate (n * size) 0) ≡ n * size = length-replicate (n * size) 0 in
    let total : n * size + size ≡ suc n * size = omega arith in
    write_behind st.memory dst (dst + n * size) (replicate (n * size) 0) (replicate size 0) (omega (arith, e)) (omega (arith, e, h, le))
    ∙ ap (write_bytes st.memory dst) (replicate-append-replicate (n * size) size 0)
    ∙ ap (zeroed st dst) total

pub zeroes : {funcs : List Func} (st : State) (part : ℕ → List Instr) (count dst width size : ℕ) → ZeroesPart funcs st part count dst width size →
    dst + width ≤ length st.memory → (n : ℕ) → n * size ≤ width → Does funcs (plains (parts part size n)) (n * count) quiet st (with_memory st (zeroed st dst (n * size)))
zeroes st part count dst width size each h zero le =
    let none : write_bytes st.memory dst [] ≡ st.memory = write_nothing st.memory dst in
    let zero_bytes : 0 ≡ zero * size = omega arith in
    recount_does (omega arith) (restate (ap (with_memory st) (sym none ∙ ap (zeroed st dst) zero_bytes)) (does_nothing st))
zeroes {funcs} st part count dst width size each h (suc n) le =
    let so_far : n * size + size ≤ width = omega arith in
    let e : length {A = ℕ} (replicate (n * size) 0) ≡ n * size = length-replicate (n * size) 0 in
    let first : Does funcs (plains (parts part size n)) (n * count) quiet st (with_memory st (zeroed st dst (n * size))) = zeroes st part count dst width size each h n (omega arith) in
    let second = each (n * size) (zeroed st dst (n * size)) so_far (length-write_bytes st.memory dst (replicate (n * size) 0) (omega (arith, e, h, le))) in
    let total : n * count + count ≡ suc n * count = omega arith in
    recode (plains_append (parts part size n) (part (n * size)))
    (recount_does total
    (restate (ap (with_memory st) (zeroed_more st dst width size n h so_far))
    (both_quiet first second)))

-- ---- a place that is copied to itself

write_own : (memory : List ℕ) (at n : ℕ) → at + n ≤ length memory → write_bytes memory at (window memory at n) ≡ memory
write_own memory at n h =
    let e : length (window memory at n) ≡ n = length-window memory at n h in
    let rest : drop (at + length (window memory at n)) memory ≡ drop n (drop at memory) = ap (λ k. drop (at + k) memory) e ∙ sym (drop-drop n at memory) in
    ap (λ l. take at memory ++ (window memory at n ++ l)) rest
    ∙ ap (λ l. take at memory ++ l) (take-append-drop n (drop at memory)) ∙ take-append-drop at memory

pub stays : {funcs : List Func} (st : State) (part : ℕ → List Instr) (count at width size : ℕ) → CopiesPart funcs st part count at at width size →
    AreBytes st.memory → at + width ≤ length st.memory → (n : ℕ) → n * size ≤ width → Does funcs (plains (parts part size n)) (n * count) quiet st st
stays st part count at width size each bytes h zero le = recount_does (omega arith) (does_nothing st)
stays {funcs} st part count at width size each bytes h (suc n) le =
    let so_far : n * size + size ≤ width = omega arith in
    let total : n * count + count ≡ suc n * count = omega arith in
    let again = write_own st.memory (at + n * size) size (omega (arith, h, so_far)) in
    recode (plains_append (parts part size n) (part (n * size)))
    (recount_does total
    (restate (ap (with_memory st) again)
    (both_quiet (stays st part count at width size each bytes h n (omega arith)) (each (n * size) st.memory so_far refl (λ a m b. refl) bytes))))

pub own_window : (memory : List ℕ) (at n : ℕ) → at + n ≤ length memory → memory ≡ write_bytes memory at (window memory at n)
own_window memory at n h = sym (write_own memory at n h)
