-- The worked example: what the loop does, in how many reductions, and that it is out with fewer.
use Rattle.std.proofs.Common.{◌≡◌, ℕ, zero, suc, ◌+◌, ◌-◌, ◌*◌, ◌%◌, ◌^◌, ◌<◌, ◌≤◌, pos, List, [], ◌∷◌, ◌++◌, length, take, drop, replicate, refl, sym, ap, ◌∙◌, arith, Some, None, Bool, true, false, ltb}
use Rattle.std.proofs.Math.Nat.{mod-eq_of_lt}
use Rattle.std.proofs.Math.Seq.{drop-append-add}
use Rattle.std.proofs.lemmas.List.{take_at, drop-drop, replicate_more, length-replicate, length-append, length-drop, append_assoc}
use Rattle.std.proofs.lemmas.Bool.{lt-ltb, le-ltb}
use Rattle.std.specs.Int.{w32, from_bool}
use Rattle.wasm_tree.specs.declared.module.ValType.TheVariants.{I32}
use Rattle.wasm_tree.specs.declared.op.StoreOp.TheVariants as store
use Rattle.wasm_tree.specs.declared.op.CompareOp.TheVariants as compare
use Rattle.wasm_tree.specs.declared.op.BinaryOp.TheVariants as binary
use Rattle.wasm_tree.specs.declared.instr.Instr.TheVariants as instr
use Rattle.wasm_tree.specs.Meaning.{binary_of, stored}
use Rattle.wasm_tree.specs.Reduce.{Nil, Plain, Func, State, push, write_bytes}
use Rattle.wasm_steps.specs.Steps.{Does, quiet, join, Finishes}
use Rattle.wasm_steps.specs.Example.{fill_byte, fill_next, fill, filled, FillRuns}
use Rattle.wasm_steps.proofs.Compose.{both, both_meets, recount_does, restate}
use Rattle.wasm_steps.proofs.Instructions as each
use Rattle.wasm_steps.proofs.Control.{br_if_taken, br_if_passed, in_loop, again}
use Rattle.wasm_steps.proofs.Calls.{finishes_end, finishes_done}
use Rattle.wasm_steps.proofs.Budgets.{spent_quiet}

-- one more byte is written
pub write-filled : (memory : List ℕ) (value done : ℕ) → done < length memory →
    write_bytes (replicate done value ++ drop done memory) (done + 0) (value ∷ []) ≡ replicate (suc done) value ++ drop (suc done) memory
write-filled memory value done h =
    let front : List ℕ = replicate done value in
    let back : List ℕ = drop done memory in
    let front_length : length front ≡ done = length-replicate done value in
    let here : done + 0 ≡ done = omega arith in
    let next : done + 1 ≡ suc done = omega arith in
    let past : done + 1 ≡ length front + 1 = omega arith in
    ap (λ n. take n (front ++ back) ++ value ∷ drop (n + 1) (front ++ back)) here
    ∙ ap (λ l. l ++ value ∷ drop (done + 1) (front ++ back)) (take_at front back done front_length)
    ∙ ap (λ n. front ++ value ∷ drop n (front ++ back)) past
    ∙ ap (λ l. front ++ value ∷ l) (drop-append-add front back 1 ∙ drop-drop 1 done memory)
    ∙ sym (append_assoc front (value ∷ []) (drop (done + 1) memory))
    ∙ ap (λ l. l ++ drop (done + 1) memory) (replicate_more done value)
    ∙ ap (λ n. replicate n value ++ drop n memory) next

-- a byte as it is stored
pub stored_byte : (value : ℕ) → value < 2 ^ 8 → stored store.I32Low8 value ≡ value ∷ []
stored_byte value h =
    let small : value % 256 ≡ value = mod-eq_of_lt h in
    ap (λ v. v ∷ []) (ap (λ v. v % 256) small ∙ small)

-- what a turn does before it is known whether there is another
pub turn_does : {funcs : List Func} (globals memory : List ℕ) (count value done : ℕ) → value < 2 ^ 8 → done < length memory → suc done < 2 ^ 32 →
    Does funcs (join fill_byte fill_next) 6 quiet (filled globals memory count value done) (push (suc done) (filled globals memory count value (suc done)))
turn_does {funcs} globals memory count value done fits room small =
    let st : State = filled globals memory count value done in
    let st1 : State = record st { memory = replicate (suc done) value ++ drop (suc done) memory } in
    let room_here : done + 0 + 1 ≤ length (replicate done value ++ drop done memory) = simp (length-append, length-replicate, length-drop) (omega arith) in
    let written : write_bytes st.memory (done + 0) (stored store.I32Low8 value) ≡ st1.memory =
    ap (write_bytes st.memory (done + 0)) (stored_byte value fits) ∙ write-filled memory value done room in
    let stores : Does funcs (Plain (instr.Store store.I32Low8 record { align = 0; offset = 0 }) Nil) 1 quiet (push value (push done st)) st1 =
    restate (ap (λ m. record st { memory = m }) written) (each.store st store.I32Low8 record { align = 0; offset = 0 } done value room_here) in
    let sum : binary_of w32 binary.Add done 1 ≡ Some (suc done) =
    let next : done + 1 ≡ suc done = omega arith in
    ap (λ n. Some (n % 2 ^ 32)) next ∙ ap (λ n. Some n) (mod-eq_of_lt small) in
    both (each.local_get st 0 done refl)
    (both (each.local_get (push done st) 2 value refl)
    (both stores
    (both (each.local_get st1 0 done refl)
    (both (each.i32_const (push done st1) (pos 1))
    (both (each.binary st1 I32 binary.Add done 1 (suc done) sum)
    (each.local_tee st1 0 (suc done) (omega arith)))))))

-- the test at the end of a turn
pub test_does : {funcs : List Func} (globals memory : List ℕ) (count value done : ℕ) (another : Bool) → ltb done count ≡ another →
    Does funcs (Plain (instr.LocalGet 1) (Plain (instr.Compare I32 compare.LessUnsigned) Nil)) 2 quiet
    (push done (filled globals memory count value done)) (push (from_bool another) (filled globals memory count value done))
test_does globals memory count value done another e =
    let st : State = filled globals memory count value done in
    both (each.local_get (push done st) 1 count refl)
    (restate (ap (λ b. push (from_bool b) st) e) (each.compare st I32 compare.LessUnsigned done count))

-- the loop with one turn more than `left` to come
pub fill_does : {funcs : List Func} (globals memory : List ℕ) (count value left done : ℕ) → value < 2 ^ 8 → count ≤ length memory → count < 2 ^ 32 → done + suc left ≡ count →
    Does funcs fill (10 * suc left + 1) quiet (filled globals memory count value done) (filled globals memory count value count)
fill_does globals memory count value zero done fits room small e =
    let last : suc done ≡ count = omega arith in
    let st : State = filled globals memory count value (suc done) in
    restate (ap (λ n. filled globals memory count value n) last)
    (in_loop None
    (both (turn_does globals memory count value done fits (omega arith) (omega arith))
    (both (test_does globals memory count value (suc done) false (le-ltb (suc done) count (omega arith)))
    (br_if_passed st 0 0 refl))))
fill_does globals memory count value (suc left) done fits room small e =
    let st : State = filled globals memory count value (suc done) in
    recount_does (let total : 8 + 2 + (10 * suc left + 1) ≡ 10 * suc (suc left) + 1 = omega arith in total)
    (again None
    (both_meets (turn_does globals memory count value done fits (omega arith) (omega arith))
    (both_meets (test_does globals memory count value (suc done) true (lt-ltb (suc done) count (omega arith)))
    (br_if_taken st 0 1 refl)))
    (fill_does globals memory count value left (suc done) fits room small (omega arith)))

-- the loop as the body of a function that is called from outside: its end, and that it is out with fewer reductions
pub fill_runs : (funcs : List Func) (globals memory : List ℕ) (count value m : ℕ) → 0 < count → value < 2 ^ 8 → count ≤ length memory → count < 2 ^ 32 →
    FillRuns funcs globals memory count value m
fill_runs funcs globals memory count value m some fits room small =
    let body : Does funcs fill (10 * suc (count - 1) + 1) quiet (filled globals memory count value 0) (filled globals memory count value count) =
    fill_does globals memory count value (count - 1) 0 fits room small (omega arith) in
    let finishes : Finishes funcs fill (10 * suc (count - 1) + 1) (λ fs. []) (filled globals memory count value 0) (filled globals memory count value count) = finishes_end body in
    let total : 10 * suc (count - 1) + 1 ≡ 10 * count + 1 = omega arith in
    record {
      ends = λ h. finishes_done m finishes (omega arith);
      spends = λ h. spent_quiet m (finishes.leads []) (omega arith);
    }
