-- Calls of the host without the configurations that follow them, which depend on where code stands.
use Rattle.std.proofs.Common.{◌≡◌, ℕ, suc, ◌+◌, length, take, Option, Some, List, [], ◌∷◌, ◌++◌, refl, ap, ◌∙◌}
use Rattle.std.specs.Prelude.{slice_get}
use Rattle.std.specs.Int.{w32, cast_signed}
use Rattle.wasm_tree.specs.declared.module.ValType.{ValType}
use Rattle.wasm_tree.specs.declared.instr.Instr.TheVariants as instr
use Rattle.wasm_tree.specs.Reduce.{Seq, Nil, Plain, InLoop, Func, State, Label, Step, with_values, push, arity_of}
use Rattle.wasm_steps.specs.Steps.{Emission, HostCall, host_calls, Tells, DoesTelling, MeetsTelling, FinishesTelling, Place, quiet, join, Does, before, inside, block_label, in_block_of, in_loop_of, branching, returning, Enters, bottom, entry, given_back, waiting, emission_of}
use Rattle.wasm_steps.proofs.Compose.{both, both_meets}
use Rattle.wasm_steps.proofs.Control.{arm_does, arm_left, within_meets, in_loop, again}
use Rattle.wasm_steps.proofs.Calls.{call_host, call_function, finishes_end, finishes_return}

-- what the host is called with, in two parts
pub host_calls-append : (es fs : List Emission) → host_calls (es ++ fs) ≡ host_calls es ++ host_calls fs
host_calls-append [] fs = refl
host_calls-append (e ∷ es) fs = ap (λ rest. record { number = e.number; memory = e.memory } ∷ rest) (host_calls-append es fs)

-- a fact whose calls of the host are known
pub tells : {X : Type 0} (D : (X → List Emission) → Type 0) (es : X → List Emission) (calls : List HostCall) → ((x : X) → host_calls (es x) ≡ calls) → D es → Tells D calls
tells D es calls e does = record { es = es; does = does; same_calls = e }

-- a fact that another one tells, with the same calls from another place: a block, an arm, a loop, a call
pub tells_within : {X Y : Type 0} {D : (X → List Emission) → Type 0} {E : (Y → List Emission) → Type 0} {calls : List HostCall} →
    (place : Y → X) → ((es : X → List Emission) → D es → E (λ y. es (place y))) → Tells D calls → Tells E calls
tells_within place lead t = record { es = λ y. t.es (place y); does = lead t.es t.does; same_calls = λ y. t.same_calls (place y) }

-- a fact that two others tell, one after the other: sequences, and a turn of a loop before the rest
pub tells_both : {X Y : Type 0} {D : (X → List Emission) → Type 0} {E F : (Y → List Emission) → Type 0} (first second : List HostCall) →
    (place : Y → X) → ((es : X → List Emission) (fs : Y → List Emission) → D es → E fs → F (λ y. es (place y) ++ fs y)) → Tells D first → Tells E second → Tells F (first ++ second)
tells_both first second place lead t u = record {
  es = λ y. t.es (place y) ++ u.es y;
  does = lead t.es u.es t.does u.does;
  same_calls = λ y. host_calls-append (t.es (place y)) (u.es y) ∙ ap (λ l. l ++ host_calls (u.es y)) (t.same_calls (place y)) ∙ ap (λ l. first ++ l) (u.same_calls y);
}

-- ---- the same for the constructs that have calls of the host inside

-- a call of the host
pub call_host_telling : {funcs : List Func} (st : State) (x : ℕ) →
    DoesTelling funcs (Plain (instr.Call 0) Nil) 1 (record { number = cast_signed w32 x; memory = st.memory } ∷ []) (push x st) st
call_host_telling {funcs} st x = tells (λ es. Does funcs (Plain (instr.Call 0) Nil) 1 es (push x st) st) (λ p. emission_of x st p ∷ []) _ (λ p. refl) (call_host st x)

-- what doesn't call the host
pub quietly : {funcs : List Func} {code : Seq} {n : ℕ} {st st' : State} → Does funcs code n quiet st st' → DoesTelling funcs code n [] st st'
quietly {funcs} {code} {n} {st} {st'} does = tells (λ es. Does funcs code n es st st') quiet [] (λ p. refl) does

-- one sequence and then another
pub both_telling : {funcs : List Func} {a b : Seq} {n m : ℕ} {first second : List HostCall} {st st1 st2 : State} →
    DoesTelling funcs a n first st st1 → DoesTelling funcs b m second st1 st2 → DoesTelling funcs (join a b) (n + m) (first ++ second) st st2
both_telling {b = b} {first = first} {second} = tells_both first second (before b) (λ es fs. both)

-- one sequence and then one that comes to another step
pub both_meets_telling : {funcs : List Func} {a b : Seq} {n m : ℕ} {first second : List HostCall} {st st1 : State} {step : Place → Step} →
    DoesTelling funcs a n first st st1 → MeetsTelling funcs b m second st1 step → MeetsTelling funcs (join a b) (n + m) (first ++ second) st step
both_meets_telling {b = b} {first = first} {second} = tells_both first second (before b) (λ es fs. both_meets)

-- a block, or the arm of an `if` that is entered, whose body reaches its end
pub arm_does_telling : {funcs : List Func} {code body : Seq} {st inner st' : State} {n : ℕ} {calls : List HostCall} (result : Option ValType) (below : List ℕ) →
    Enters funcs code body st inner (λ p. block_label result below p.rest) → DoesTelling funcs body n calls inner st' →
    DoesTelling funcs code (n + 2) calls st (with_values st' (st'.values ++ below))
arm_does_telling result below enters = tells_within (in_block_of result below) (λ es. arm_does result below enters)

-- the same where the body branches to the end
pub arm_left_telling : {funcs : List Func} {code body : Seq} {st inner st' : State} {n : ℕ} {calls : List HostCall} (result : Option ValType) (below : List ℕ) →
    Enters funcs code body st inner (λ p. block_label result below p.rest) → MeetsTelling funcs body n calls inner (branching 0 st') →
    DoesTelling funcs code (n + 2) calls st (with_values st' (take (arity_of result) st'.values ++ below))
arm_left_telling result below enters = tells_within (in_block_of result below) (λ es. arm_left result below enters)

-- what is entered comes to a step that leads out of it
pub within_meets_telling : {funcs : List Func} {code body : Seq} {st inner : State} {label : Place → Label} {n : ℕ} {calls : List HostCall} {step : Place → Step} →
    Enters funcs code body st inner label → MeetsTelling funcs body n calls inner step → MeetsTelling funcs code (n + 1) calls st (λ p. step (inside (label p) p))
within_meets_telling {label = label} enters = tells_within (λ p. inside (label p) p) (λ es. within_meets enters)

-- a loop whose body reaches its end
pub in_loop_telling : {funcs : List Func} {body : Seq} {n : ℕ} {calls : List HostCall} {st st' : State} (result : Option ValType) →
    DoesTelling funcs body n calls (with_values st []) st' → DoesTelling funcs (InLoop result body Nil) (n + 2) calls st (with_values st' (st'.values ++ st.values))
in_loop_telling {body = body} {st = st} result = tells_within (in_loop_of result body st.values) (λ es. in_loop result)

-- one turn of a loop, and then what the loop does
pub again_telling : {funcs : List Func} {body : Seq} {n m : ℕ} {first second : List HostCall} {st st' st2 : State} (result : Option ValType) →
    MeetsTelling funcs body n first (with_values st []) (branching 0 st') → DoesTelling funcs (InLoop result body Nil) m second (with_values st' st.values) st2 →
    DoesTelling funcs (InLoop result body Nil) (n + 2 + m) (first ++ second) st st2
again_telling {body = body} {first = first} {second} {st} result = tells_both first second (in_loop_of result body st.values) (λ es fs. again result)

-- a body that reaches its end
pub finishes_end_telling : {funcs : List Func} {body : Seq} {n : ℕ} {calls : List HostCall} {st st' : State} → DoesTelling funcs body n calls st st' → FinishesTelling funcs body n calls st st'
finishes_end_telling = tells_within bottom (λ es. finishes_end)

-- a body that returns
pub finishes_return_telling : {funcs : List Func} {body : Seq} {n : ℕ} {calls : List HostCall} {st : State} (st' : State) → MeetsTelling funcs body n calls st (returning st') → FinishesTelling funcs body n calls st st'
finishes_return_telling st' = tells_within bottom (λ es. finishes_return)

-- a call of a function of the module
pub call_function_telling : {funcs : List Func} {f : Func} {n : ℕ} {calls : List HostCall} {st' : State} (st : State) (index : ℕ) (arguments : List ℕ) →
    slice_get funcs index ≡ Some f → length arguments ≡ f.params → FinishesTelling funcs f.body n calls (entry f arguments st) st' →
    DoesTelling funcs (Plain (instr.Call (suc index)) Nil) (n + 2) calls (with_values st (arguments ++ st.values)) (given_back f st st')
call_function_telling {f = f} st index arguments found size =
    tells_within (λ p. waiting f st p ∷ p.frames) (λ es. call_function st index arguments found size)
