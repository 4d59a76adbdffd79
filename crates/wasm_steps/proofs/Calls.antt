-- Calls of functions and of the host, and the end of a function's run.
use Rattle.std.proofs.Common.{◌≡◌, ℕ, suc, ◌+◌, ◌-◌, ◌<◌, ◌≤◌, List, [], ◌∷◌, ◌++◌, length, take, refl, ap, ◌∙◌, arith, Some, true}
use Rattle.std.specs.Prelude.{slice_get}
use Rattle.std.specs.Int.{w32, cast_signed}
use Rattle.std.proofs.lemmas.Bool.{le-ltb}
use Rattle.std.proofs.lemmas.List.{take_at, drop_at, length-append}
use Rattle.wasm_tree.specs.declared.instr.Instr.TheVariants as instr
use Rattle.wasm_tree.specs.Reduce.{Seq, Nil, Plain, Func, State, CallFrame, Config, Step, To, Sticks, Done, Trapped, Out, Emits, at, with_values, push, if_there, enter_function, plain, act, exec, follow}
use Rattle.wasm_steps.specs.Steps.{Emission, emitting, reduce, Leads, is_over, Place, start, finish, quiet, branching, returning, trapping, asking, Does, Meets, bottom, Finishes, entry, given_back, waiting, emission_of}
use Rattle.wasm_steps.proofs.Compose.{one, stay, asks, exec-suc, andthen, take_step, recount, does_last, meets_last}
use Rattle.wasm_steps.proofs.Budgets.{backward, spent}

-- ---- the last reduction of a run

-- a run and then one reduction whatever it is
pub last_step : {funcs : List Func} {n : ℕ} {es : List Emission} {c d : Config} {step : Step} → Leads funcs n es c d → reduce funcs d ≡ step →
    (k : ℕ) → exec funcs (n + suc k) c ≡ emitting es (follow step (exec funcs k))
last_step {funcs} {es = es} {d = d} leads e k = leads.by (suc k) ∙ ap (emitting es) (exec-suc funcs k d ∙ ap (λ s. follow s (exec funcs k)) e)

-- a run that comes to a step, with more reductions than lead to it
pub runs_to : {funcs : List Func} {n : ℕ} {es : List Emission} {c d : Config} {step : Step} (m : ℕ) → Leads funcs n es c d → reduce funcs d ≡ step → n < m →
    exec funcs m c ≡ emitting es (follow step (exec funcs (m - suc n)))
runs_to {funcs} {n} {c = c} m leads e h = let more : m ≡ n + suc (m - suc n) = omega arith in ap (λ j. exec funcs j c) more ∙ last_step leads e (m - suc n)

-- a sequence that comes to a trap, with more reductions than lead to it
pub runs_to_trap : {funcs : List Func} {code : Seq} {n : ℕ} {es : Place → List Emission} {st : State} (m : ℕ) → Meets funcs code n es st trapping → n < m →
    (p : Place) → exec funcs m (start code st p) ≡ emitting (es p) Trapped
runs_to_trap m meets h p = runs_to m (meets.leads p) (meets.reduces p) h

-- ---- functions

-- a body that reaches its end
pub finishes_end : {funcs : List Func} {body : Seq} {n : ℕ} {es : Place → List Emission} {st st' : State} → Does funcs body n es st st' →
    Finishes funcs body n (λ fs. es (bottom fs)) st st'
unfolding act
finishes_end {st' = st'} does = record { last = λ fs. at Nil st' [] fs; leads = λ fs. does_last does [] fs; reduces = λ fs. refl }

-- a body that returns
pub finishes_return : {funcs : List Func} {body : Seq} {n : ℕ} {es : Place → List Emission} {st st' : State} → Meets funcs body n es st (returning st') →
    Finishes funcs body n (λ fs. es (bottom fs)) st st'
finishes_return meets = record { last = λ fs. meets.last (bottom fs); leads = λ fs. meets_last meets [] fs; reduces = λ fs. meets.reduces (bottom fs) }

-- a body that branches past all its labels
pub finishes_branch : {funcs : List Func} {body : Seq} {n : ℕ} {es : Place → List Emission} {st st' : State} (depth : ℕ) → Meets funcs body n es st (branching depth st') →
    Finishes funcs body (n + 1) (λ fs. es (bottom fs)) st st'
unfolding act
finishes_branch {st' = st'} depth meets = record {
  last = λ fs. at Nil st' [] fs;
  leads = λ fs. take_step (meets_last meets [] fs) (meets.reduces (bottom fs));
  reduces = λ fs. refl;
}

-- a call from outside ends with every greater number of reductions
pub finishes_done : {funcs : List Func} {body : Seq} {n : ℕ} {es : List CallFrame → List Emission} {st st' : State} (m : ℕ) → Finishes funcs body n es st st' → n < m →
    exec funcs m (at body st [] []) ≡ emitting (es []) (Done st'.globals st'.memory)
finishes_done m finishes h = runs_to m (finishes.leads []) (finishes.reduces []) h

-- and is out with every other, after a first part of the calls of the host
pub finishes_spent : {funcs : List Func} {body : Seq} {n : ℕ} {es : List CallFrame → List Emission} {st st' : State} (m : ℕ) → Finishes funcs body n es st st' → m ≤ n →
    (j : ℕ) × (j ≤ length (es [])) × (exec funcs m (at body st [] []) ≡ emitting (take j (es [])) Out)
finishes_spent m finishes h = spent m (finishes.leads []) h

-- a call from outside that is over had more reductions than lead to its last one
pub finishes_over : {funcs : List Func} {body : Seq} {n : ℕ} {es : List CallFrame → List Emission} {st st' : State} (m : ℕ) → Finishes funcs body n es st st' →
    is_over (exec funcs m (at body st [] [])) ≡ true → (n < m) × (exec funcs m (at body st [] []) ≡ emitting (es []) (Done st'.globals st'.memory))
finishes_over {n = n} m finishes over =
    let found : (j : ℕ) × (m ≡ n + suc j) × _ = backward m (finishes.leads []) over in
    let more : m ≡ n + suc found.0 = found.1 in
    let h : n < m = omega arith in
    (h, finishes_done m finishes h)

-- a call from outside whose body comes to a trap
pub finishes_trapped : {funcs : List Func} {body : Seq} {n : ℕ} {es : Place → List Emission} {st : State} (m : ℕ) → Meets funcs body n es st trapping → n < m →
    exec funcs m (at body st [] []) ≡ emitting (es (bottom [])) Trapped
finishes_trapped m meets h = runs_to m (meets_last meets [] []) (meets.reduces (bottom [])) h

-- ---- calls (4.4.7, 4.4.8)

-- entering a function with its arguments on the stack
pub enters_function : (f : Func) (arguments : List ℕ) (st : State) (p : Place) → length arguments ≡ f.params →
    enter_function f p.rest (with_values st (arguments ++ st.values)) p.labels p.frames ≡ To (at f.body (entry f arguments st) [] (waiting f st p ∷ p.frames))
enters_function f arguments st p e =
    let enough : f.params ≤ length (arguments ++ st.values) = omega (arith, length-append arguments st.values) in
    rw (le-ltb (length (arguments ++ st.values)) f.params enough, take_at arguments st.values f.params e, drop_at arguments st.values f.params e)

-- A call of a function of the module: the body's reductions, the call and the end. Number 0 is the host's
-- function, and the module's own are counted from 1.
pub call_function : {funcs : List Func} {f : Func} {n : ℕ} {es : List CallFrame → List Emission} {st' : State} (st : State) (index : ℕ) (arguments : List ℕ) →
    slice_get funcs index ≡ Some f → length arguments ≡ f.params → Finishes funcs f.body n es (entry f arguments st) st' →
    Does funcs (Plain (instr.Call (suc index)) Nil) (n + 2) (λ p. es (waiting f st p ∷ p.frames)) (with_values st (arguments ++ st.values)) (given_back f st st')
unfolding act plain
call_function {funcs} {f} {n} {es} {st'} st index arguments found size finishes = record {
  here = λ p.
      recount (let e : 1 + n + 1 ≡ n + 2 = omega arith in e)
      (take_step (andthen
      (one (ap (λ o. if_there o Sticks (λ g. enter_function g p.rest (with_values st (arguments ++ st.values)) p.labels p.frames)) found ∙ enters_function f arguments st p size))
      (finishes.leads (waiting f st p ∷ p.frames))) (finishes.reduces (waiting f st p ∷ p.frames)));
}

-- a call of a function that traps
pub call_traps : {funcs : List Func} {f : Func} {n : ℕ} {es : Place → List Emission} (st : State) (index : ℕ) (arguments : List ℕ) →
    slice_get funcs index ≡ Some f → length arguments ≡ f.params → Meets funcs f.body n es (entry f arguments st) trapping →
    Meets funcs (Plain (instr.Call (suc index)) Nil) (n + 1) (λ p. es (bottom (waiting f st p ∷ p.frames))) (with_values st (arguments ++ st.values)) trapping
unfolding act plain
call_traps {funcs} {f} {n} {es} st index arguments found size meets = record {
  last = λ p. meets.last (bottom (waiting f st p ∷ p.frames));
  leads = λ p. recount (let e : 1 + n ≡ n + 1 = omega arith in e)
      (andthen
      (one (ap (λ o. if_there o Sticks (λ g. enter_function g p.rest (with_values st (arguments ++ st.values)) p.labels p.frames)) found ∙ enters_function f arguments st p size))
      (meets_last meets [] (waiting f st p ∷ p.frames)));
  reduces = λ p. meets.reduces (bottom (waiting f st p ∷ p.frames));
}

-- a call of the host
pub call_host : {funcs : List Func} (st : State) (x : ℕ) → Does funcs (Plain (instr.Call 0) Nil) 1 (λ p. emission_of x st p ∷ []) (push x st) st
unfolding act plain
call_host st x = record { here = λ p. asks (emission_of x st p) refl }

-- the same as the last reduction of a piece of code, where a host may begin to count again
pub call_host_meets : {funcs : List Func} (st : State) (x : ℕ) → Meets funcs (Plain (instr.Call 0) Nil) 0 quiet (push x st) (asking x st)
unfolding act plain
call_host_meets st x = record { last = start (Plain (instr.Call 0) Nil) (push x st); leads = λ p. stay _; reduces = λ p. refl }

-- a sequence that comes to a call of the host, with more reductions than lead to it
pub runs_to_host : {funcs : List Func} {code : Seq} {n : ℕ} {es : Place → List Emission} {st : State} (st' : State) (x m : ℕ) → Meets funcs code n es st (asking x st') → n < m →
    (p : Place) → exec funcs m (start code st p) ≡ emitting (es p) (Emits (cast_signed w32 x) st'.memory (finish st' p) (exec funcs (m - suc n) (finish st' p)))
runs_to_host st' x m meets h p = runs_to m (meets.leads p) (meets.reduces p) h
