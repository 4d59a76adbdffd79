-- One lemma for each instruction that goes on with what follows it: operands, variables, numbers, memory.
use Rattle.std.proofs.Common.{◌≡◌, ℕ, zero, suc, ◌+◌, ◌/◌, ◌<◌, ◌≤◌, ℤ, List, length, take, drop, refl, sym, ap, ◌∙◌, zero-add, Some, None, eqb, cond}
use Rattle.std.specs.Prelude.{slice_get, slice_set, slice_index}
use Rattle.std.specs.Int.{w32, w64, cast_unsigned}
use Rattle.std.proofs.lemmas.Bool.{lt-ltb, le-leb, lt-leb}
use Rattle.std.proofs.lemmas.Option.{slice_get-get_or}
use Rattle.wasm_tree.specs.declared.module.ValType.{ValType}
use Rattle.wasm_tree.specs.declared.op.LoadOp.{LoadOp}
use Rattle.wasm_tree.specs.declared.op.StoreOp.{StoreOp}
use Rattle.wasm_tree.specs.declared.op.CompareOp.{CompareOp}
use Rattle.wasm_tree.specs.declared.op.UnaryOp.{UnaryOp}
use Rattle.wasm_tree.specs.declared.op.BinaryOp.{BinaryOp}
use Rattle.wasm_tree.specs.declared.op.ConvertOp.{ConvertOp}
use Rattle.wasm_tree.specs.declared.instr.MemArg.{MemArg}
use Rattle.wasm_tree.specs.declared.instr.Instr.{Instr}
use Rattle.wasm_tree.specs.declared.instr.Instr.TheVariants as instr
use Rattle.wasm_tree.specs.Meaning.{width, test_of, compare_of, unary_of, binary_of, convert_of, loaded, load_size, stored, store_size}
use Rattle.wasm_tree.specs.Reduce.{Seq, Nil, Plain, Func, State, Label, CallFrame, Config, To, Traps, Sticks, at, push, if_there, write_bytes, page_size, plain, act, exec, follow}
use Rattle.wasm_steps.specs.Steps.{reduce, quiet, trapping, Does, Meets}
use Rattle.wasm_steps.proofs.Compose.{one, stay, exec-zero, exec-suc}

-- ---- how one instruction stands for a sequence

-- an instruction that goes on with what follows it
pub plainly : {funcs : List Func} {i : Instr} {st st' : State} →
    ((s : Seq) (ls : List Label) (fs : List CallFrame) → reduce funcs (at (Plain i s) st ls fs) ≡ To (at s st' ls fs)) → Does funcs (Plain i Nil) 1 quiet st st'
plainly h = record { here = λ p. one (h p.rest p.labels p.frames) }

-- two configurations with the same next reduction run alike
pub exec-same : (funcs : List Func) (c d : Config) → reduce funcs c ≡ reduce funcs d → (k : ℕ) → exec funcs k c ≡ exec funcs k d
exec-same funcs c d h zero = exec-zero funcs c ∙ sym (exec-zero funcs d)
exec-same funcs c d h (suc k) = exec-suc funcs k c ∙ ap (λ s. follow s (exec funcs k)) h ∙ sym (exec-suc funcs k d)

-- a constant is a value already: it takes no reduction
pub absorbed : {funcs : List Func} {i : Instr} {st st' : State} →
    ((s : Seq) (ls : List Label) (fs : List CallFrame) → reduce funcs (at (Plain i s) st ls fs) ≡ reduce funcs (at s st' ls fs)) → Does funcs (Plain i Nil) 0 quiet st st'
absorbed {funcs} h = record { here = λ p. record { by = λ k. ap (λ j. exec funcs j _) (zero-add k) ∙ exec-same funcs _ _ (h p.rest p.labels p.frames) k } }

-- an instruction that traps
pub traps : {funcs : List Func} {i : Instr} {st : State} →
    ((s : Seq) (ls : List Label) (fs : List CallFrame) → reduce funcs (at (Plain i s) st ls fs) ≡ Traps) → Meets funcs (Plain i Nil) 0 quiet st trapping
traps {i = i} {st} h = record { last = λ p. at (Plain i p.rest) st p.labels p.frames; leads = λ p. stay _; reduces = λ p. h p.rest p.labels p.frames }

-- ---- constants (4.4.1)

-- `i32.const`
pub i32_const : {funcs : List Func} (st : State) (value : ℤ) → Does funcs (Plain (instr.I32Const value) Nil) 0 quiet st (push (cast_unsigned w32 value) st)
unfolding act plain
i32_const st value = absorbed (λ s ls fs. refl)

-- `i64.const`
pub i64_const : {funcs : List Func} (st : State) (value : ℤ) → Does funcs (Plain (instr.I64Const value) Nil) 0 quiet st (push (cast_unsigned w64 value) st)
unfolding act plain
i64_const st value = absorbed (λ s ls fs. refl)

-- ---- operands and nothing (4.4.2, 4.4.5)

-- `nop`
pub nop : {funcs : List Func} (st : State) → Does funcs (Plain instr.Nop Nil) 1 quiet st st
unfolding act plain
nop st = plainly (λ s ls fs. refl)

-- `drop`
pub drop_value : {funcs : List Func} (st : State) (x : ℕ) → Does funcs (Plain instr.Drop Nil) 1 quiet (push x st) st
unfolding act plain
drop_value st x = plainly (λ s ls fs. refl)

-- the first of two operands, or the second where the third is 0
pub select : {funcs : List Func} (st : State) (x y c : ℕ) → Does funcs (Plain instr.Select Nil) 1 quiet (push c (push y (push x st))) (push (cond (eqb c 0) y x) st)
unfolding act plain
select st x y c = plainly (λ s ls fs. refl)

-- ---- variables (4.4.3)

-- `local.get` of a local whose value is known
pub local_get : {funcs : List Func} (st : State) (local x : ℕ) → slice_get st.locals local ≡ Some x → Does funcs (Plain (instr.LocalGet local) Nil) 1 quiet st (push x st)
unfolding act plain
local_get st local x e = plainly (λ s ls fs. ap (λ found. if_there found Sticks (λ y. To (at s (push y st) ls fs))) e)

-- `local.get` of a local that is there
pub local_get_at : {funcs : List Func} (st : State) (local : ℕ) → local < length st.locals → Does funcs (Plain (instr.LocalGet local) Nil) 1 quiet st (push (slice_index st.locals local) st)
local_get_at st local h = local_get st local (slice_index st.locals local) (slice_get-get_or st.locals local 0 h)

-- `local.set`
pub local_set : {funcs : List Func} (st : State) (local x : ℕ) → local < length st.locals →
    Does funcs (Plain (instr.LocalSet local) Nil) 1 quiet (push x st) (record st { locals = slice_set st.locals local x })
unfolding act plain
local_set st local x h = plainly (λ s ls fs. ap (λ b. cond b (To (at s (record st { locals = slice_set st.locals local x }) ls fs)) Sticks) (lt-ltb local (length st.locals) h))

-- `local.tee`
pub local_tee : {funcs : List Func} (st : State) (local x : ℕ) → local < length st.locals →
    Does funcs (Plain (instr.LocalTee local) Nil) 1 quiet (push x st) (push x (record st { locals = slice_set st.locals local x }))
unfolding act plain
local_tee st local x h = plainly (λ s ls fs. ap (λ b. cond b (To (at s (push x (record st { locals = slice_set st.locals local x })) ls fs)) Sticks) (lt-ltb local (length st.locals) h))

-- `global.get` of a global whose value is known
pub global_get : {funcs : List Func} (st : State) (global x : ℕ) → slice_get st.globals global ≡ Some x → Does funcs (Plain (instr.GlobalGet global) Nil) 1 quiet st (push x st)
unfolding act plain
global_get st global x e = plainly (λ s ls fs. ap (λ found. if_there found Sticks (λ y. To (at s (push y st) ls fs))) e)

-- `global.get` of a global that is there
pub global_get_at : {funcs : List Func} (st : State) (global : ℕ) → global < length st.globals → Does funcs (Plain (instr.GlobalGet global) Nil) 1 quiet st (push (slice_index st.globals global) st)
global_get_at st global h = global_get st global (slice_index st.globals global) (slice_get-get_or st.globals global 0 h)

-- `global.set`
pub global_set : {funcs : List Func} (st : State) (global x : ℕ) → global < length st.globals →
    Does funcs (Plain (instr.GlobalSet global) Nil) 1 quiet (push x st) (record st { globals = slice_set st.globals global x })
unfolding act plain
global_set st global x h = plainly (λ s ls fs. ap (λ b. cond b (To (at s (record st { globals = slice_set st.globals global x }) ls fs)) Sticks) (lt-ltb global (length st.globals) h))

-- ---- numbers (4.4.1)

-- `eqz`
pub test : {funcs : List Func} (st : State) (type : ValType) (x : ℕ) → Does funcs (Plain (instr.Test type) Nil) 1 quiet (push x st) (push (test_of x) st)
unfolding act plain
test st type x = plainly (λ s ls fs. refl)

-- a comparison
pub compare : {funcs : List Func} (st : State) (type : ValType) (op : CompareOp) (x y : ℕ) →
    Does funcs (Plain (instr.Compare type op) Nil) 1 quiet (push y (push x st)) (push (compare_of (width type) op x y) st)
unfolding act plain
compare st type op x y = plainly (λ s ls fs. refl)

-- an operator of one number
pub unary : {funcs : List Func} (st : State) (type : ValType) (op : UnaryOp) (x : ℕ) →
    Does funcs (Plain (instr.Unary type op) Nil) 1 quiet (push x st) (push (unary_of (width type) op x) st)
unfolding act plain
unary st type op x = plainly (λ s ls fs. refl)

-- an operator of two numbers that has an answer
pub binary : {funcs : List Func} (st : State) (type : ValType) (op : BinaryOp) (x y z : ℕ) → binary_of (width type) op x y ≡ Some z →
    Does funcs (Plain (instr.Binary type op) Nil) 1 quiet (push y (push x st)) (push z st)
unfolding act plain
binary st type op x y z e = plainly (λ s ls fs. ap (λ found. if_there found Traps (λ v. To (at s (push v st) ls fs))) e)

-- a division that has no answer
pub binary_traps : {funcs : List Func} (st : State) (type : ValType) (op : BinaryOp) (x y : ℕ) → binary_of (width type) op x y ≡ None →
    Meets funcs (Plain (instr.Binary type op) Nil) 0 quiet (push y (push x st)) trapping
unfolding act plain
binary_traps st type op x y e = traps (λ s ls fs. ap (λ found. if_there found Traps (λ v. To (at s (push v st) ls fs))) e)

-- a conversion
pub convert : {funcs : List Func} (st : State) (op : ConvertOp) (x : ℕ) → Does funcs (Plain (instr.Convert op) Nil) 1 quiet (push x st) (push (convert_of op x) st)
unfolding act plain
convert st op x = plainly (λ s ls fs. refl)

-- ---- memory (4.4.4)

-- `memory.size`, in pages
pub memory_size : {funcs : List Func} (st : State) → Does funcs (Plain instr.MemorySize Nil) 1 quiet st (push (length st.memory / page_size) st)
unfolding act plain
memory_size st = plainly (λ s ls fs. refl)

-- a load within the memory
pub load : {funcs : List Func} (st : State) (op : LoadOp) (place : MemArg) (x : ℕ) → x + place.offset + load_size op ≤ length st.memory →
    Does funcs (Plain (instr.Load op place) Nil) 1 quiet (push x st) (push (loaded op (take (load_size op) (drop (x + place.offset) st.memory))) st)
unfolding act plain
load st op place x h = plainly (λ s ls fs. ap (λ b. cond b (To (at s (push (loaded op (take (load_size op) (drop (x + place.offset) st.memory))) st) ls fs)) Traps) (le-leb _ _ h))

-- a load past the end
pub load_traps : {funcs : List Func} (st : State) (op : LoadOp) (place : MemArg) (x : ℕ) → length st.memory < x + place.offset + load_size op →
    Meets funcs (Plain (instr.Load op place) Nil) 0 quiet (push x st) trapping
unfolding act plain
load_traps st op place x h = traps (λ s ls fs. ap (λ b. cond b (To (at s (push (loaded op (take (load_size op) (drop (x + place.offset) st.memory))) st) ls fs)) Traps) (lt-leb _ _ h))

-- a store within the memory
pub store : {funcs : List Func} (st : State) (op : StoreOp) (place : MemArg) (x y : ℕ) → x + place.offset + store_size op ≤ length st.memory →
    Does funcs (Plain (instr.Store op place) Nil) 1 quiet (push y (push x st)) (record st { memory = write_bytes st.memory (x + place.offset) (stored op y) })
unfolding act plain
store st op place x y h = plainly (λ s ls fs. ap (λ b. cond b (To (at s (record st { memory = write_bytes st.memory (x + place.offset) (stored op y) }) ls fs)) Traps) (le-leb _ _ h))

-- a store past the end
pub store_traps : {funcs : List Func} (st : State) (op : StoreOp) (place : MemArg) (x y : ℕ) → length st.memory < x + place.offset + store_size op →
    Meets funcs (Plain (instr.Store op place) Nil) 0 quiet (push y (push x st)) trapping
unfolding act plain
store_traps st op place x y h = traps (λ s ls fs. ap (λ b. cond b (To (at s (record st { memory = write_bytes st.memory (x + place.offset) (stored op y) }) ls fs)) Traps) (lt-leb _ _ h))

-- ---- traps (4.4.5)

-- `unreachable`
pub unreachable : {funcs : List Func} (st : State) → Meets funcs (Plain instr.Unreachable Nil) 0 quiet st trapping
unfolding act plain
unreachable st = traps (λ s ls fs. refl)
