-- The statements that the crate's laws prove. A number that stands as `extra` is what a construct costs on
-- top of what runs inside it, in reductions.
use Rattle.std.specs.Prelude.{◌≡◌, ℕ, suc, ◌+◌, ◌%◌, ◌^◌, ◌<◌, ◌≤◌, List, [], ◌∷◌, ◌++◌, length, take, true, Option, Some, slice_get, unwrap_or, ◌==◌, if◌then◌else◌}
use mir.Val.{bits}
use Rattle.wasm_tree.specs.declared.module.ValType.{ValType}
use Rattle.wasm_tree.specs.declared.op.LoadOp.{LoadOp}
use Rattle.wasm_tree.specs.declared.op.StoreOp.{StoreOp}
use Rattle.wasm_tree.specs.declared.instr.LabelTable.{LabelTable}
use Rattle.wasm_tree.specs.declared.instr.Instr.TheVariants as instr
use Rattle.wasm_tree.specs.Meaning.{loaded, load_size, load_width, extended, stored, store_size, store_width}
use Rattle.wasm_tree.specs.Reduce.{Seq, Nil, Plain, InBlock, InLoop, InIf, Func, State, Label, CallFrame, Config, Step, Done, Trapped, Out, at, with_values, push, arity_of, write_bytes, exec}
use Rattle.wasm_steps.specs.Steps.{Emission, emitting, Leads, is_over, Upto, join, Place, Does, Meets, branching, returning, trapping, before, in_block_of, in_loop_of, bottom, Finishes, entry, given_back, waiting, emission_of, nest, within}
use Rattle.wasm_steps.specs.Windows.{window, Apart}
use Rattle.wasm_steps.specs.Example.{FillRuns}

-- ---- structured code

-- a sequence and then one that comes to another step
abbrev pub SequencesToSteps : Type 0
SequencesToSteps = (funcs : List Func) (a b : Seq) (n m : ℕ) (es fs : Place → List Emission) (st st1 : State) (step : Place → Step) →
    Does funcs a n es st st1 → Meets funcs b m fs st1 step → Meets funcs (join a b) (n + m) (λ p. es (before b p) ++ fs p) st step

-- a block whose body reaches its end
abbrev pub Blocks : (extra : ℕ) → Type 0
Blocks extra = (funcs : List Func) (result : Option ValType) (body : Seq) (n : ℕ) (es : Place → List Emission) (st st' : State) →
    Does funcs body n es (with_values st []) st' →
    Does funcs (InBlock result body Nil) (n + extra) (λ p. es (in_block_of result st.values p)) st (with_values st' (st'.values ++ st.values))

-- a block whose body branches to its end
abbrev pub BlocksLeft : (extra : ℕ) → Type 0
BlocksLeft extra = (funcs : List Func) (result : Option ValType) (body : Seq) (n : ℕ) (es : Place → List Emission) (st st' : State) →
    Meets funcs body n es (with_values st []) (branching 0 st') →
    Does funcs (InBlock result body Nil) (n + extra) (λ p. es (in_block_of result st.values p)) st (with_values st' (take (arity_of result) st'.values ++ st.values))

-- an `if`: its first arm unless the operand is 0, and else its second
abbrev pub Arms : (extra : ℕ) → Type 0
Arms extra = (funcs : List Func) (result : Option ValType) (first second : Seq) (x n : ℕ) (es : Place → List Emission) (st st' : State) →
    Does funcs (if x == 0 then second else first) n es (with_values st []) st' →
    Does funcs (InIf result first second Nil) (n + extra) (λ p. es (in_block_of result st.values p)) (push x st) (with_values st' (st'.values ++ st.values))

-- a loop that turns once more, and then what it does
abbrev pub LoopsTurn : (extra : ℕ) → Type 0
LoopsTurn extra = (funcs : List Func) (result : Option ValType) (body : Seq) (n m : ℕ) (es fs : Place → List Emission) (st st' st2 : State) →
    Meets funcs body n es (with_values st []) (branching 0 st') →
    Does funcs (InLoop result body Nil) m fs (with_values st' st.values) st2 →
    Does funcs (InLoop result body Nil) (n + extra + m) (λ p. es (in_loop_of result body st.values p) ++ fs p) st st2

-- a loop whose body reaches its end
abbrev pub LoopsEnd : (extra : ℕ) → Type 0
LoopsEnd extra = (funcs : List Func) (result : Option ValType) (body : Seq) (n : ℕ) (es : Place → List Emission) (st st' : State) →
    Does funcs body n es (with_values st []) st' →
    Does funcs (InLoop result body Nil) (n + extra) (λ p. es (in_loop_of result body st.values p)) st (with_values st' (st'.values ++ st.values))

-- ---- calls

-- a call of a function of the module, of which the first has number 1
abbrev pub Calls : (extra : ℕ) → Type 0
Calls extra = (funcs : List Func) (f : Func) (index n : ℕ) (arguments : List ℕ) (es : List CallFrame → List Emission) (st st' : State) →
    slice_get funcs index ≡ Some f → length arguments ≡ f.params → Finishes funcs f.body n es (entry f arguments st) st' →
    Does funcs (Plain (instr.Call (suc index)) Nil) (n + extra) (λ p. es (waiting f st p ∷ p.frames)) (with_values st (arguments ++ st.values)) (given_back f st st')

-- a body finishes at its end, by a return, or by a branch past all its labels
abbrev pub FinishesAtEnd : Type 0
FinishesAtEnd = (funcs : List Func) (body : Seq) (n : ℕ) (es : Place → List Emission) (st st' : State) →
    Does funcs body n es st st' → Finishes funcs body n (λ fs. es (bottom fs)) st st'

abbrev pub FinishesByReturn : Type 0
FinishesByReturn = (funcs : List Func) (body : Seq) (n : ℕ) (es : Place → List Emission) (st st' : State) →
    Meets funcs body n es st (returning st') → Finishes funcs body n (λ fs. es (bottom fs)) st st'

-- a call of the host, and its number and memory
abbrev pub HostCalls : (cost : ℕ) → Type 0
HostCalls cost = (funcs : List Func) (st : State) (x : ℕ) → Does funcs (Plain (instr.Call 0) Nil) cost (λ p. emission_of x st p ∷ []) (push x st) st

-- a local selects what follows nested blocks
abbrev pub Dispatches : (extra : ℕ) → Type 0
Dispatches extra = (funcs : List Func) (front : List Seq) (code : Seq) (back : List Seq) (table : LabelTable) (local x : ℕ) (st : State) (labels : List Label) (frames : List CallFrame) →
    slice_get st.locals local ≡ Some x → unwrap_or (slice_get table.labels x) table.other ≡ length front →
    Leads funcs (length (front ++ code ∷ back) + extra) []
    (at (nest (front ++ code ∷ back) (Plain (instr.LocalGet local) (Plain (instr.BrTable table) Nil))) (with_values st []) labels frames)
    (at code (with_values st []) (within back labels) frames)

-- ---- budgets

-- with more reductions a run is the same until it is out
abbrev pub GoesOn : Type 0
GoesOn = (funcs : List Func) (k n : ℕ) (c : Config) → k ≤ n → Upto (exec funcs k c) (exec funcs n c)

-- and if it is over it stays the same
abbrev pub StaysOver : Type 0
StaysOver = (funcs : List Func) (k n : ℕ) (c : Config) → k ≤ n → is_over (exec funcs k c) ≡ true → exec funcs n c ≡ exec funcs k c

-- a run that is over, from a configuration that leads on, had at least that many reductions and one more
abbrev pub GoesBackward : Type 0
GoesBackward = (funcs : List Func) (n m : ℕ) (es : List Emission) (c d : Config) → Leads funcs n es c d → is_over (exec funcs m c) ≡ true →
    (j : ℕ) × (m ≡ n + suc j) × (exec funcs m c ≡ emitting es (exec funcs (suc j) d))

-- with no more reductions than lead on a run is out, after a first part of the calls of the host
abbrev pub IsSpent : Type 0
IsSpent = (funcs : List Func) (n m : ℕ) (es : List Emission) (c d : Config) → Leads funcs n es c d → m ≤ n →
    (j : ℕ) × (j ≤ length es) × (exec funcs m c ≡ emitting (take j es) Out)

-- a call from outside ends with every number of reductions past those that lead to its last one
abbrev pub CallsFromOutsideEnd : Type 0
CallsFromOutsideEnd = (funcs : List Func) (body : Seq) (n m : ℕ) (es : List CallFrame → List Emission) (st st' : State) → Finishes funcs body n es st st' → n < m →
    exec funcs m (at body st [] []) ≡ emitting (es []) (Done st'.globals st'.memory)

-- or traps with them
abbrev pub CallsFromOutsideTrap : Type 0
CallsFromOutsideTrap = (funcs : List Func) (body : Seq) (n m : ℕ) (es : Place → List Emission) (st : State) → Meets funcs body n es st trapping → n < m →
    exec funcs m (at body st [] []) ≡ emitting (es (bottom [])) Trapped

-- ---- memory

-- a load finds the low bits that a store of the same width wrote
abbrev pub LoadsStored : Type 0
LoadsStored = (op : LoadOp) (by : StoreOp) (memory : List ℕ) (address y : ℕ) → load_width op ≡ store_width by → address + store_size by ≤ length memory →
    loaded op (window (write_bytes memory address (stored by y)) address (load_size op)) ≡ extended op (y % 2 ^ bits (store_width by))

-- what is apart from a write is as it was
abbrev pub KeepsApart : Type 0
KeepsApart = (memory : List ℕ) (from size address : ℕ) (bytes : List ℕ) → Apart from size address (length bytes) → address ≤ length memory →
    window (write_bytes memory address bytes) from size ≡ window memory from size

-- ---- the example

abbrev pub Fills : Type 0
Fills = (funcs : List Func) (globals memory : List ℕ) (count value m : ℕ) → 0 < count → value < 2 ^ 8 → count ≤ length memory → count < 2 ^ 32 → FillRuns funcs globals memory count value m
