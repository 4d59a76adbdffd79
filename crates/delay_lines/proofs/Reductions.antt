-- What the code of rings does.
use Rattle.std.proofs.Common.{◌≡◌, ℕ, ◌+◌, ◌-◌, ◌*◌, ◌%◌, ◌^◌, ◌<◌, ◌≤◌, Bool, true, false, not, pos, List, length, take, drop, refl, ap, ◌∙◌, arith, Some, ⊎_elim}
use Rattle.std.specs.Prelude.{◌==◌}
use Rattle.std.specs.Int.{w32, from_bool, from_le_bytes, to_le_bytes}
use Rattle.std.proofs.Math.Nat.{mod-eq_of_lt}
use Rattle.std.proofs.lemmas.Bool.{cases_eq}
use Rattle.std.proofs.lemmas.Grind.{common_steps}
use Rattle.wasm_tree.specs.declared.module.ValType.TheVariants.{I32}
use Rattle.wasm_tree.specs.declared.op.LoadOp.TheVariants as load
use Rattle.wasm_tree.specs.declared.op.StoreOp.TheVariants as store
use Rattle.wasm_tree.specs.declared.op.CompareOp.TheVariants as compare
use Rattle.wasm_tree.specs.declared.op.BinaryOp.TheVariants as binary
use Rattle.wasm_tree.specs.declared.instr.Instr.TheVariants as instr
use Rattle.wasm_tree.specs.Meaning.{load_size, store_size, binary_of}
use Rattle.wasm_tree.specs.Reduce.{Nil, Plain, Func, State, push, write_bytes}
use Rattle.wasm_steps.specs.Steps.{Does, quiet}
use Rattle.wasm_steps.specs.Windows.{window}
use Rattle.wasm_steps.proofs.Compose.{both, restate}
use Rattle.wasm_steps.proofs.Instructions as each
use Rattle.delay_lines.specs.declared.ring.RingPlace.{RingPlace}
use Rattle.delay_lines.specs.Rings.{cursor_of}
use Rattle.straight_code.specs.Straight.{plains}
use Rattle.delay_lines.specs.Code.{offset_code, oldest_part, push_part, turn_code}
use Rattle.memory_code.specs.Copies.{with_memory, AreBytes}
use Rattle.memory_code.specs.Parts.{is_wide, load_of, store_of, part_size}
use Rattle.memory_code.proofs.Whole.{load_size_of, store_size_of, moved}

-- the cursor is loaded
cursor_load : {funcs : List Func} (ring : RingPlace) (st : State) (c : ℕ) → cursor_of ring st.memory ≡ c → ring.cursor + 4 ≤ length st.memory →
    Does funcs (Plain (instr.Load load.I32 record { align = 0; offset = 0 }) Nil) 1 quiet (push ring.cursor st) (push c st)
cursor_load ring st c e room =
    let at : ring.cursor + 0 ≡ ring.cursor = omega arith in
    restate (ap (λ a. push (from_le_bytes w32 (take 4 (drop a st.memory))) st) at ∙ ap (λ v. push v st) e)
    (each.load st load.I32 record { align = 0; offset = 0 } ring.cursor (omega arith))

product : (x y : ℕ) → x * y < 2 ^ 32 → binary_of w32 binary.Mul x y ≡ Some (x * y)
product x y h = ap (λ n. Some n) (mod-eq_of_lt h)

next_number : (x : ℕ) → x + 1 < 2 ^ 32 → binary_of w32 binary.Add x 1 ≡ Some (x + 1)
next_number x h = ap (λ n. Some n) (mod-eq_of_lt h)

-- how far the entry at the cursor is from the first
offset_does : {funcs : List Func} (ring : RingPlace) (st : State) (c : ℕ) → cursor_of ring st.memory ≡ c → ring.cursor + 4 ≤ length st.memory → c * ring.width < 2 ^ 32 →
    Does funcs (plains (offset_code ring)) 2 quiet st (push (c * ring.width) st)
offset_does ring st c e room small =
    both (each.i32_const st (pos ring.cursor))
    (both (cursor_load ring st c e room)
    (both (each.i32_const (push c st) (pos ring.width))
    (each.binary st I32 binary.Mul c ring.width (c * ring.width) (product c ring.width small))))

-- one part of the oldest entry is copied to an address
pub oldest_part_does : {funcs : List Func} (ring : RingPlace) (to : ℕ) (st : State) (c at : ℕ) → cursor_of ring st.memory ≡ c → ring.cursor + 4 ≤ length st.memory → c * ring.width < 2 ^ 32 →
    AreBytes st.memory → to + at + part_size (is_wide ring.width) ≤ length st.memory → ring.first + c * ring.width + at + part_size (is_wide ring.width) ≤ length st.memory →
    Does funcs (plains (oldest_part ring to at)) 4 quiet st (with_memory st (write_bytes st.memory (to + at) (window st.memory (ring.first + c * ring.width + at) (part_size (is_wide ring.width)))))
oldest_part_does ring to st c at e room small bytes into out =
    let wide = is_wide ring.width in
    let from : c * ring.width + (ring.first + at) ≡ ring.first + c * ring.width + at = omega arith in
    let ls : load_size (load_of wide) ≡ part_size wide = load_size_of wide in
    let ss : store_size (store_of wide) ≡ part_size wide = store_size_of wide in
    both (each.i32_const st (pos to))
    (both (offset_does ring (push to st) c e room small)
    (both (each.load (push to st) (load_of wide) record { align = 0; offset = ring.first + at } (c * ring.width) (omega (arith, ls, from, out)))
    (restate (ap (λ bs. with_memory st (write_bytes st.memory (to + at) bs)) (moved wide st.memory _ (ring.first + c * ring.width + at) from out bytes))
    (each.store st (store_of wide) record { align = 0; offset = at } to _ (omega (arith, ss, into))))))

-- one part of an entry is copied from an address into the entry at the cursor
pub push_part_does : {funcs : List Func} (ring : RingPlace) (from : ℕ) (st : State) (c at : ℕ) → cursor_of ring st.memory ≡ c → ring.cursor + 4 ≤ length st.memory → c * ring.width < 2 ^ 32 →
    AreBytes st.memory → ring.first + c * ring.width + at + part_size (is_wide ring.width) ≤ length st.memory → from + at + part_size (is_wide ring.width) ≤ length st.memory →
    Does funcs (plains (push_part ring from at)) 4 quiet st (with_memory st (write_bytes st.memory (ring.first + c * ring.width + at) (window st.memory (from + at) (part_size (is_wide ring.width)))))
push_part_does ring from st c at e room small bytes into out =
    let wide = is_wide ring.width in
    let to : c * ring.width + (ring.first + at) ≡ ring.first + c * ring.width + at = omega arith in
    let ls : load_size (load_of wide) ≡ part_size wide = load_size_of wide in
    let ss : store_size (store_of wide) ≡ part_size wide = store_size_of wide in
    both (offset_does ring st c e room small)
    (both (each.i32_const (push (c * ring.width) st) (pos from))
    (both (each.load (push (c * ring.width) st) (load_of wide) record { align = 0; offset = at } from (omega (arith, ls, out)))
    (restate (ap (λ bs. with_memory st (write_bytes st.memory (c * ring.width + (ring.first + at)) bs)) (moved wide st.memory _ (from + at) refl out bytes)
    ∙ ap (λ a. with_memory st (write_bytes st.memory a (window st.memory (from + at) (part_size wide)))) to)
    (each.store st (store_of wide) record { align = 0; offset = ring.first + at } (c * ring.width) _ (omega (arith, ss, to, into))))))

-- ---- the cursor

-- the next number, or 0 at the last
abbrev pub turned : ℕ → ℕ → ℕ
turned c count = (c + 1) * from_bool (not (c == (count - 1)))

turned_by : (b : Bool) (x : ℕ) → x * from_bool b ≤ x
turned_by true x = omega arith
turned_by false x = omega arith

pub turned_last : (c count : ℕ) → c + 1 ≡ count → turned c count ≡ 0
turned_last c count e =
    let t : (c == (count - 1)) ≡ true = grind (arith, common_steps) in
    let z : (c + 1) * 0 ≡ 0 = omega arith in
    ap (λ b. (c + 1) * from_bool (not b)) t ∙ z

pub turned_on : (c count : ℕ) → c + 1 < count → turned c count ≡ c + 1
turned_on c count lt =
    let f : (c == (count - 1)) ≡ false = grind (arith, common_steps) in
    let o : (c + 1) * 1 ≡ c + 1 = omega arith in
    ap (λ b. (c + 1) * from_bool (not b)) f ∙ o

pub turned_below : (c count : ℕ) → c < count → turned c count < count
turned_below c count lt = ⊎_elim
    (λ (e : c + 1 ≡ count). let z = turned_last c count e in omega (arith, z, lt))
    (λ (ne : c + 1 ≡ count → ⊥). let o = turned_on c count (omega arith) in omega (arith, o, lt))
    (cases_eq (c + 1) count)

-- the cursor moves on
pub turn_does : {funcs : List Func} (ring : RingPlace) (st : State) (c : ℕ) → cursor_of ring st.memory ≡ c → ring.cursor + 4 ≤ length st.memory → c + 1 < 2 ^ 32 →
    Does funcs (plains (turn_code ring)) 6 quiet st (with_memory st (write_bytes st.memory ring.cursor (to_le_bytes w32 (turned c ring.length))))
turn_does ring st c e room small =
    let s1 : State = push ring.cursor st in
    let s2 : State = push (c + 1) s1 in
    let le : turned c ring.length ≤ c + 1 = turned_by (not (c == (ring.length - 1))) (c + 1) in
    let fits : turned c ring.length < 2 ^ 32 = omega (arith, le, small) in
    let at : ring.cursor + 0 ≡ ring.cursor = omega arith in
    both (each.i32_const st (pos ring.cursor))
    (both (each.i32_const s1 (pos ring.cursor))
    (both (cursor_load ring s1 c e room)
    (both (each.i32_const (push c s1) (pos 1))
    (both (each.binary s1 I32 binary.Add c 1 (c + 1) (next_number c small))
    (both (each.i32_const s2 (pos ring.cursor))
    (both (cursor_load ring s2 c e room)
    (both (each.i32_const (push c s2) (pos (ring.length - 1)))
    (both (each.compare s2 I32 compare.NotEqual c (ring.length - 1))
    (both (each.binary s1 I32 binary.Mul (c + 1) (from_bool (not (c == (ring.length - 1)))) (turned c ring.length) (product (c + 1) (from_bool (not (c == (ring.length - 1)))) fits))
    (restate (ap (λ a. with_memory st (write_bytes st.memory a (to_le_bytes w32 (turned c ring.length % 2 ^ 32)))) at
    ∙ ap (λ n. with_memory st (write_bytes st.memory ring.cursor (to_le_bytes w32 n))) (mod-eq_of_lt fits))
    (each.store st store.I32 record { align = 0; offset = 0 } ring.cursor (turned c ring.length) (omega arith))))))))))))
