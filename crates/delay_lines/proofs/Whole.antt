-- The code of rings as a whole.
use Rattle.std.proofs.Common.{◌≡◌, ℕ, ◌+◌, ◌*◌, ◌^◌, ◌<◌, ◌≤◌, List, [], ◌∷◌, ◌++◌, length, set, drop, refl, sym, ap, ◌∙◌, arith, subst, ⊎_elim}
use Rattle.std.specs.Int.{w32, from_le_bytes, to_le_bytes}
use Rattle.std.proofs.lemmas.Bool.{cases_eq}
use Rattle.std.proofs.lemmas.Nat.{from_le_bytes-to_le_bytes_4}
use Rattle.std.proofs.lemmas.Grind.{common_steps}
use Rattle.wasm_tree.specs.Reduce.{State, write_bytes}
use Rattle.wasm_steps.specs.Steps.{Does, quiet}
use Rattle.wasm_steps.specs.Windows.{window, Apart}
use Rattle.wasm_steps.proofs.Compose.{both_quiet, recode, restate}
use Rattle.wasm_steps.proofs.Windows.{length-window, length-write_bytes, window_apart, window_written}
use Rattle.delay_lines.specs.declared.ring.RingPlace.{RingPlace}
use Rattle.delay_lines.specs.Rings.{ring_of, entries_from, size_of, cursor_of, line_of, oldest_of, IsPlace, IsOutside, Stands}
use Rattle.straight_code.specs.Straight.{plains}
use Rattle.straight_code.proofs.Straight.{plains_append}
use Rattle.memory_code.specs.Parts.{is_wide, part_size, parts_in, parts}
use Rattle.memory_code.specs.Copies.{with_memory}
use Rattle.memory_code.proofs.Whole.{parts_whole}
use Rattle.delay_lines.specs.Code.{oldest_part, push_part, turn_code, oldest_instrs, push_instrs}
use Rattle.delay_lines.specs.Promises.{CopiesOldest, IsPushed, Pushes}
use Rattle.memory_code.proofs.Bytes.{bytes_window, bytes_write, bytes_word}
use Rattle.memory_code.proofs.Copying.{apart_inside, apart_back, CopiesPart, copied, length-copied, copies}
use Rattle.delay_lines.proofs.Lines.{inside, ring_head, ring_step, ring_wrap, length-entries, entry_at, entries_apart, entries_set}
use Rattle.delay_lines.proofs.Reductions.{oldest_part_does, push_part_does, turned, turned_last, turned_on, turned_below, turn_does}

oldest_is : (ring : RingPlace) (memory : List ℕ) → Stands ring memory → oldest_of ring memory ≡ window memory (ring.first + cursor_of ring memory * ring.width) ring.width
oldest_is ring memory stands =
    let n = length-entries memory ring.first ring.width ring.length in
    let lt : cursor_of ring memory < length (entries_from memory ring.first ring.width ring.length) = (let h = stands.cursor in omega (arith, n, h)) in
    ring_head (entries_from memory ring.first ring.width ring.length) (cursor_of ring memory) [] lt
    ∙ entry_at memory ring.first ring.width ring.length (cursor_of ring memory) [] stands.cursor

-- the oldest entry is copied
pub oldest_does : (ring : RingPlace) (to : ℕ) → IsPlace ring → CopiesOldest ring to (oldest_instrs ring to)
oldest_does ring to place funcs st stands out =
    let m = st.memory in
    let c = cursor_of ring m in
    let w = ring.width in
    let size = part_size (is_wide w) in
    let n = parts_in w in
    let src = ring.first + c * w in
    let whole : n * size ≡ w = parts_whole w place.words in
    let ends : c * w + w ≤ size_of ring = inside c ring.length w stands.cursor in
    let below : ring.first + size_of ring < 2 ^ 31 = place.entries in
    let room : ring.first + size_of ring ≤ length m = stands.room in
    let cursor_room : ring.cursor + 4 ≤ length m = stands.cursor_room in
    let into : to + w ≤ length m = out.room in
    let small : c * w < 2 ^ 32 = omega (arith, ends, below) in
    let apart_src : Apart to w src w = apart_inside ring.first (size_of ring) to w src w out.entries (omega arith) (omega (arith, ends)) in
    let each : CopiesPart funcs st (oldest_part ring to) 4 to src w size = λ at memory le len outside bytes.
    oldest_part_does ring to (with_memory st memory) c at (ap (from_le_bytes w32) (outside ring.cursor 4 (apart_back to w ring.cursor 4 out.cursor))) (omega (arith, len, cursor_room)) small bytes
    (omega (arith, len, le, into)) (omega (arith, len, le, ends, room)) in
    let all : Does funcs (plains (oldest_instrs ring to)) (n * 4) quiet st (with_memory st (copied st to src (n * size))) =
    copies st (oldest_part ring to) 4 to src w size each stands.bytes into (omega (arith, ends, room)) apart_src n (omega (arith, whole)) in
    restate (ap (λ s. with_memory st (copied st to src s)) whole ∙ ap (λ e. with_memory st (write_bytes m to e)) (sym (oldest_is ring m stands))) all

-- the cursor after a write of a number that fits
cursor_written : (ring : RingPlace) (memory : List ℕ) (x : ℕ) → x < 2 ^ 32 → ring.cursor + 4 ≤ length memory → cursor_of ring (write_bytes memory ring.cursor (to_le_bytes w32 x)) ≡ x
cursor_written ring memory x fits room =
    ap (from_le_bytes w32) (window_written memory ring.cursor 4 (to_le_bytes w32 x) refl room) ∙ from_le_bytes-to_le_bytes_4 x fits

-- the next number, round the end
turned_line : (xs : List (List ℕ)) (c : ℕ) (v : List ℕ) → c < length xs → ring_of (set xs c v) (turned c (length xs)) ≡ drop 1 (ring_of xs c) ++ v ∷ []
turned_line xs c v lt = ⊎_elim
    (λ (e : c + 1 ≡ length xs).
    let n : length (set xs c v) ≡ length xs = grind (arith, common_steps) in
    let at : c + 1 ≡ length (set xs c v) = e ∙ sym n in
    ap (ring_of (set xs c v)) (turned_last c (length xs) e) ∙ ring_wrap (set xs c v) (c + 1) at ∙ ring_step xs c v lt)
    (λ (ne : c + 1 ≡ length xs → ⊥).
    ap (ring_of (set xs c v)) (turned_on c (length xs) (omega arith)) ∙ ring_step xs c v lt)
    (cases_eq (c + 1) (length xs))

-- the memory after the entry is copied and the cursor has moved on
abbrev pushed_memory : RingPlace → (from : ℕ) → State → List ℕ
pushed_memory ring from st =
    write_bytes (copied st (ring.first + cursor_of ring st.memory * ring.width) from ring.width) ring.cursor (to_le_bytes w32 (turned (cursor_of ring st.memory) ring.length))

entry_length : (ring : RingPlace) (from : ℕ) (st : State) → IsOutside ring st.memory from ring.width → length (window st.memory from ring.width) ≡ ring.width
entry_length ring from st out = length-window st.memory from ring.width out.room

line_is : (ring : RingPlace) (from : ℕ) (st : State) → IsPlace ring → Stands ring st.memory → IsOutside ring st.memory from ring.width →
    line_of ring (pushed_memory ring from st) ≡ drop 1 (line_of ring st.memory) ++ window st.memory from ring.width ∷ []
line_is ring from st place stands out =
    let m = st.memory in
    let c = cursor_of ring m in
    let w = ring.width in
    let v = window m from w in
    let es = entries_from m ring.first w ring.length in
    let dst = ring.first + c * w in
    let m1 = copied st dst from w in
    let word = to_le_bytes w32 (turned c ring.length) in
    let e : length v ≡ w = entry_length ring from st out in
    let ends : c * w + w ≤ size_of ring = inside c ring.length w stands.cursor in
    let room : ring.first + size_of ring ≤ length m = stands.room in
    let below : ring.first + size_of ring < 2 ^ 31 = place.entries in
    let n : length es ≡ ring.length = length-entries m ring.first w ring.length in
    let len1 : length m1 ≡ length m = length-copied st dst from w (omega (arith, ends, room)) out.room in
    let cursor_room : ring.cursor + 4 ≤ length m = stands.cursor_room in
    let less : turned c ring.length < ring.length = turned_below c ring.length stands.cursor in
    let count : ring.length < 2 ^ 31 = place.few in
    let few : ring.length < 2 ^ 32 = omega (arith, count) in
    let moved : cursor_of ring (write_bytes m1 ring.cursor word) ≡ turned c ring.length = cursor_written ring m1 (turned c ring.length) (omega (arith, less, few)) (omega (arith, len1, cursor_room)) in
    let kept : entries_from (write_bytes m1 ring.cursor word) ring.first w ring.length ≡ entries_from m1 ring.first w ring.length =
    entries_apart m1 ring.first w ring.length ring.cursor word (apart_back ring.cursor 4 ring.first (size_of ring) stands.apart) (omega (arith, len1, cursor_room)) in
    let written : entries_from m1 ring.first w ring.length ≡ set es c v = entries_set m ring.first w ring.length c v stands.cursor e room in
    let lt : c < length es = (let h = stands.cursor in omega (arith, n, h)) in
    ap (λ k. ring_of (entries_from (write_bytes m1 ring.cursor word) ring.first w ring.length) k) moved
    ∙ ap (λ xs. ring_of xs (turned c ring.length)) (kept ∙ written)
    ∙ ap (λ k. ring_of (set es c v) (turned c k)) (sym n)
    ∙ turned_line es c v lt

window_kept : (ring : RingPlace) (from : ℕ) (st : State) → Stands ring st.memory → IsOutside ring st.memory from ring.width → (address size : ℕ) → IsOutside ring st.memory address size →
    window (pushed_memory ring from st) address size ≡ window st.memory address size
window_kept ring from st stands out address size o =
    let m = st.memory in
    let c = cursor_of ring m in
    let w = ring.width in
    let v = window m from w in
    let dst = ring.first + c * w in
    let m1 = copied st dst from w in
    let e : length v ≡ w = entry_length ring from st out in
    let ends : c * w + w ≤ size_of ring = inside c ring.length w stands.cursor in
    let room : ring.first + size_of ring ≤ length m = stands.room in
    let len1 : length m1 ≡ length m = length-copied st dst from w (omega (arith, ends, room)) out.room in
    let cursor_room : ring.cursor + 4 ≤ length m = stands.cursor_room in
    let P : ℕ → Type 0 = λ k. Apart address size dst k in
    let apart : Apart address size dst w = apart_inside ring.first (size_of ring) address size dst w o.entries (omega arith) (omega (arith, ends)) in
    window_apart m1 address size ring.cursor (to_le_bytes w32 (turned c ring.length)) o.cursor (omega (arith, len1, cursor_room))
    ∙ window_apart m address size dst v (subst P (sym e) apart) (omega (arith, ends, room))

is_pushed : (ring : RingPlace) (from : ℕ) (st : State) → IsPlace ring → Stands ring st.memory → IsOutside ring st.memory from ring.width →
    IsPushed ring (window st.memory from ring.width) st.memory (pushed_memory ring from st)
is_pushed ring from st place stands out =
    let m = st.memory in
    let c = cursor_of ring m in
    let w = ring.width in
    let dst = ring.first + c * w in
    let m1 = copied st dst from w in
    let ends : c * w + w ≤ size_of ring = inside c ring.length w stands.cursor in
    let room : ring.first + size_of ring ≤ length m = stands.room in
    let cursor_room : ring.cursor + 4 ≤ length m = stands.cursor_room in
    let len1 : length m1 ≡ length m = length-copied st dst from w (omega (arith, ends, room)) out.room in
    let len2 : length (pushed_memory ring from st) ≡ length m1 = length-write_bytes m1 ring.cursor (to_le_bytes w32 (turned c ring.length)) (omega (arith, len1, cursor_room)) in
    let less : turned c ring.length < ring.length = turned_below c ring.length stands.cursor in
    let count : ring.length < 2 ^ 31 = place.few in
    let few : ring.length < 2 ^ 32 = omega (arith, count) in
    let moved : cursor_of ring (pushed_memory ring from st) ≡ turned c ring.length = cursor_written ring m1 (turned c ring.length) (omega (arith, less, few)) (omega (arith, len1, cursor_room)) in
    record {
      stands = record {
        bytes = bytes_write m1 ring.cursor (to_le_bytes w32 (turned c ring.length)) (bytes_write m dst (window m from w) stands.bytes (bytes_window m from w stands.bytes)) (bytes_word (turned c ring.length));
        cursor = omega (arith, moved, less);
        cursor_room = omega (arith, len1, len2, cursor_room);
        room = omega (arith, len1, len2, room);
        apart = stands.apart;
      };
      line = line_is ring from st place stands out;
      count = len2 ∙ len1;
      outside = window_kept ring from st stands out;
    }

-- the entry is appended
pub push_does : (ring : RingPlace) (from : ℕ) → IsPlace ring → Pushes ring from (push_instrs ring from)
push_does ring from place funcs st stands out =
    let m = st.memory in
    let c = cursor_of ring m in
    let w = ring.width in
    let size = part_size (is_wide w) in
    let n = parts_in w in
    let dst = ring.first + c * w in
    let m1 = copied st dst from w in
    let whole : n * size ≡ w = parts_whole w place.words in
    let ends : c * w + w ≤ size_of ring = inside c ring.length w stands.cursor in
    let below : ring.first + size_of ring < 2 ^ 31 = place.entries in
    let room : ring.first + size_of ring ≤ length m = stands.room in
    let cursor_room : ring.cursor + 4 ≤ length m = stands.cursor_room in
    let source : from + w ≤ length m = out.room in
    let into : dst + w ≤ length m = omega (arith, ends, room) in
    let small : c * w < 2 ^ 32 = omega (arith, ends, below) in
    let count : ring.length < 2 ^ 31 = place.few in
    let at : c < ring.length = stands.cursor in
    let few : c + 1 < 2 ^ 32 = omega (arith, count, at) in
    let apart_src : Apart from w dst w = apart_inside ring.first (size_of ring) from w dst w out.entries (omega arith) (omega (arith, ends)) in
    let apart_cursor : Apart ring.cursor 4 dst w = apart_inside ring.first (size_of ring) ring.cursor 4 dst w stands.apart (omega arith) (omega (arith, ends)) in
    let each : CopiesPart funcs st (push_part ring from) 4 dst from w size = λ at memory le len outside bytes.
    push_part_does ring from (with_memory st memory) c at (ap (from_le_bytes w32) (outside ring.cursor 4 apart_cursor)) (omega (arith, len, cursor_room)) small bytes
    (omega (arith, len, le, into)) (omega (arith, len, le, source)) in
    let all : Does funcs (plains (parts (push_part ring from) size n)) (n * 4) quiet st (with_memory st (copied st dst from (n * size))) =
    copies st (push_part ring from) 4 dst from w size each stands.bytes into source (apart_back from w dst w apart_src) n (omega (arith, whole)) in
    let first : Does funcs (plains (parts (push_part ring from) size n)) (n * 4) quiet st (with_memory st m1) = restate (ap (λ s. with_memory st (copied st dst from s)) whole) all in
    let e : length (window m from w) ≡ w = entry_length ring from st out in
    let P : ℕ → Type 0 = λ k. Apart ring.cursor 4 dst k in
    let cursor_same : cursor_of ring m1 ≡ c = ap (from_le_bytes w32) (window_apart m ring.cursor 4 dst (window m from w) (subst P (sym e) apart_cursor) (omega (arith, ends, room))) in
    let len1 : length m1 ≡ length m = length-copied st dst from w into source in
    let second : Does funcs (plains (turn_code ring)) 6 quiet (with_memory st m1) (with_memory st (pushed_memory ring from st)) =
    turn_does ring (with_memory st m1) c cursor_same (omega (arith, len1, cursor_room)) few in (
      pushed_memory ring from st,
      recode (plains_append (parts (push_part ring from) size n) (turn_code ring)) (both_quiet first second),
      is_pushed ring from st place stands out,
    )
