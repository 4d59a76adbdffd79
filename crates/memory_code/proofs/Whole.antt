-- What the code does.
use Rattle.std.proofs.Common.{◌≡◌, ℕ, ◌+◌, ◌*◌, ◌/◌, ◌%◌, ◌≤◌, Bool, true, false, pos, List, length, drop, replicate, take, refl, sym, ap, ◌∙◌, arith, subst, inl, inr}
use Rattle.std.specs.Prelude.{◌==◌}
use Rattle.std.proofs.lemmas.Grind.{common_steps}
use Rattle.wasm_tree.specs.Meaning.{loaded, load_size, stored, store_size}
use Rattle.wasm_tree.specs.Reduce.{Nil, Plain, Func, State, push, write_bytes}
use Rattle.wasm_steps.specs.Steps.{Does, quiet}
use Rattle.wasm_steps.specs.Windows.{window}
use Rattle.wasm_steps.proofs.Compose.{both_quiet, recount_does, restate}
use Rattle.wasm_steps.proofs.Instructions as each
use Rattle.wasm_steps.proofs.Windows.{length-window}
use Rattle.straight_code.specs.Straight.{step_of}
use Rattle.memory_code.specs.declared.address.Address.{Address}
use Rattle.memory_code.specs.declared.address.Address.TheVariants as a
use Rattle.memory_code.specs.Parts.{is_wide, load_of, store_of, part_size, part_type, parts_in}
use Rattle.memory_code.specs.Copies.{base_code, offset_of, copy_part, copy_code, zero_number, zero_part, zero_code, with_memory, AreBytes, IsAt, Copies, Zeroes}
use Rattle.memory_code.proofs.Bytes.{restored, bytes_window}
use Rattle.memory_code.proofs.Copying.{CopiesPart, ZeroesPart, copied, copies, zeroed, zeroes, stays, own_window}

parts_by : (wide : Bool) (width : ℕ) → (width % 8 == 0) ≡ wide → width % 4 ≡ 0 → width / part_size wide * part_size wide ≡ width
parts_by true width e h = let z : width % 8 ≡ 0 = grind (arith, common_steps) in omega (arith, z)
parts_by false width e h = omega (arith, h)

-- the parts are the whole
pub parts_whole : (width : ℕ) → width % 4 ≡ 0 → parts_in width * part_size (is_wide width) ≡ width
parts_whole width h = parts_by (is_wide width) width refl h

pub load_size_of : (wide : Bool) → load_size (load_of wide) ≡ part_size wide
load_size_of true = refl
load_size_of false = refl

pub store_size_of : (wide : Bool) → store_size (store_of wide) ≡ part_size wide
store_size_of true = refl
store_size_of false = refl

-- what is stored of what was loaded from a part
pub moved : (wide : Bool) (memory : List ℕ) (loaded_from from : ℕ) → loaded_from ≡ from → from + part_size wide ≤ length memory → AreBytes memory →
    stored (store_of wide) (loaded (load_of wide) (take (load_size (load_of wide)) (drop loaded_from memory))) ≡ window memory from (part_size wide)
moved wide memory loaded_from from e room bytes =
    ap (λ s. stored (store_of wide) (loaded (load_of wide) (take s (drop loaded_from memory)))) (load_size_of wide)
    ∙ ap (λ a. stored (store_of wide) (loaded (load_of wide) (take (part_size wide) (drop a memory)))) e
    ∙ restored wide (window memory from (part_size wide)) (length-window memory from (part_size wide) room) (bytes_window memory from (part_size wide) bytes)

-- what is pushed for an address
base_does : {funcs : List Func} (address : Address) (st : State) (at : ℕ) → IsAt address st.locals at → (base : ℕ) × (at ≡ base + offset_of address) × Does funcs (Plain (base_code address) Nil) (step_of (base_code address)) quiet st (push base st)
base_does (a.Behind local offset) st at h = (h.0, h.2, each.local_get st local h.0 h.1)
base_does (a.Fixed address) st at h = (address, omega (arith, h), each.i32_const st (pos address))

copy_part_does : (funcs : List Func) (st : State) (to from : Address) (width at by : ℕ) → IsAt to st.locals at → IsAt from st.locals by → at + width ≤ length st.memory → by + width ≤ length st.memory →
    CopiesPart funcs st (copy_part to from width) (step_of (base_code to) + step_of (base_code from) + 2) at by width (part_size (is_wide width))
copy_part_does funcs st to from width at by h k into source byte memory le len outside bytes =
    let wide = is_wide width in
    let size = part_size wide in
    let st1 : State = with_memory st memory in
    let first = base_does {funcs = funcs} to st1 at h in
    let second = base_does {funcs = funcs} from (push first.0 st1) by k in
    let ls : load_size (load_of wide) ≡ size = load_size_of wide in
    let ss : store_size (store_of wide) ≡ size = store_size_of wide in
    let from_at : second.0 + (offset_of from + byte) ≡ by + byte = (let e = second.1 in omega (arith, e)) in
    let to_at : first.0 + (offset_of to + byte) ≡ at + byte = (let e = first.1 in omega (arith, e)) in
    let total : step_of (base_code to) + (step_of (base_code from) + (1 + 1)) ≡ step_of (base_code to) + step_of (base_code from) + 2 = omega arith in
    recount_does total
    (both_quiet first.2
    (both_quiet second.2
    (both_quiet (each.load (push first.0 st1) (load_of wide) record { align = 0; offset = offset_of from + byte } second.0 (omega (arith, ls, from_at, le, len, source)))
    (restate (ap (λ bs. with_memory st (write_bytes memory (first.0 + (offset_of to + byte)) bs)) (moved wide memory (second.0 + (offset_of from + byte)) (by + byte) from_at (omega (arith, le, len, source)) bytes)
    ∙ ap (λ a. with_memory st (write_bytes memory a (window memory (by + byte) size))) to_at)
    (each.store st1 (store_of wide) record { align = 0; offset = offset_of to + byte } first.0 _ (omega (arith, ss, to_at, le, len, into)))))))

pub copy_does : (to from : Address) (width : ℕ) → Copies to from width (copy_code to from width)
copy_does to from width funcs st at by h k into source (inl apart) bytes =
    let whole = parts_whole width into.words in
    restate (ap (λ n. with_memory st (copied st at by n)) whole)
    (copies st (copy_part to from width) (step_of (base_code to) + step_of (base_code from) + 2) at by width (part_size (is_wide width)) (copy_part_does funcs st to from width at by h k into.inside source.inside)
    bytes into.inside source.inside apart (parts_in width) (omega (arith, whole)))
copy_does to from width funcs st at by h k into source (inr same) bytes =
    let whole = parts_whole width into.words in
    let P : ℕ → Type 0 = λ b. IsAt from st.locals b in
    let there : IsAt from st.locals at = subst P (sym same) k in
    restate (ap (with_memory st) (own_window st.memory at width into.inside ∙ ap (λ b. write_bytes st.memory at (window st.memory b width)) same))
    (stays st (copy_part to from width) (step_of (base_code to) + step_of (base_code from) + 2) at width (part_size (is_wide width)) (copy_part_does funcs st to from width at at h there into.inside into.inside)
    bytes into.inside (parts_in width) (omega (arith, whole)))

zeros : (wide : Bool) → stored (store_of wide) 0 ≡ replicate (part_size wide) 0
zeros true = refl
zeros false = refl

number_does : {funcs : List Func} (wide : Bool) (st : State) → Does funcs (Plain (zero_number (part_type wide)) Nil) (step_of (zero_number (part_type wide))) quiet st (push 0 st)
number_does true st = each.i64_const st (pos 0)
number_does false st = each.i32_const st (pos 0)

number_step : (wide : Bool) → step_of (zero_number (part_type wide)) ≡ 0
number_step true = refl
number_step false = refl

zero_part_does : (funcs : List Func) (st : State) (to : Address) (width at : ℕ) → IsAt to st.locals at → at + width ≤ length st.memory →
    ZeroesPart funcs st (zero_part to width) (step_of (base_code to) + 1) at width (part_size (is_wide width))
zero_part_does funcs st to width at h into byte memory le len =
    let wide = is_wide width in
    let size = part_size wide in
    let st1 : State = with_memory st memory in
    let first = base_does {funcs = funcs} to st1 at h in
    let ss : store_size (store_of wide) ≡ size = store_size_of wide in
    let to_at : first.0 + (offset_of to + byte) ≡ at + byte = (let e = first.1 in omega (arith, e)) in
    let total : step_of (base_code to) + (step_of (zero_number (part_type wide)) + 1) ≡ step_of (base_code to) + 1 = omega (arith, number_step wide) in
    recount_does total
    (both_quiet first.2
    (both_quiet (number_does wide (push first.0 st1))
    (restate (ap (λ bs. with_memory st (write_bytes memory (first.0 + (offset_of to + byte)) bs)) (zeros wide) ∙ ap (λ a. with_memory st (write_bytes memory a (replicate size 0))) to_at)
    (each.store st1 (store_of wide) record { align = 0; offset = offset_of to + byte } first.0 0 (omega (arith, ss, to_at, le, len, into))))))

pub zero_does : (to : Address) (width : ℕ) → Zeroes to width (zero_code to width)
zero_does to width funcs st at h into =
    let whole = parts_whole width into.words in
    restate (ap (λ n. with_memory st (zeroed st at n)) whole)
    (zeroes st (zero_part to width) (step_of (base_code to) + 1) at width (part_size (is_wide width)) (zero_part_does funcs st to width at h into.inside) into.inside (parts_in width) (omega (arith, whole)))
