-- Branches, blocks, loops and arms: how what runs inside them tells what they do.
use Rattle.std.proofs.Common.{◌≡◌, inl, inr, ℕ, zero, suc, ◌+◌, ◌<◌, List, [], ◌∷◌, ◌++◌, length, take, refl, ap, arith, Option, true, false, eqb, cond, unwrap_or}
use Rattle.std.specs.Prelude.{slice_get}
use Rattle.wasm_tree.specs.declared.module.ValType.{ValType}
use Rattle.wasm_tree.specs.declared.instr.LabelTable.{LabelTable}
use Rattle.wasm_tree.specs.declared.instr.Instr.TheVariants as instr
use Rattle.wasm_tree.specs.Reduce.{Seq, Nil, Plain, InBlock, InLoop, InIf, Func, State, Label, CallFrame, Step, To, at, with_values, push, enter, arity_of, branch, plain, act}
use Rattle.wasm_steps.specs.Steps.{Emission, Leads, Place, start, quiet, branching, returning, Does, Meets, inside, block_label, loop_label, in_block_of, in_loop_of, Enters}
use Rattle.wasm_steps.proofs.Compose.{stay, one, andthen, take_step, recount, does_last, meets_last, recode}
use Rattle.std.proofs.lemmas.Bool.{cases_Bool}

-- ---- branches (4.4.6)

-- a branch, wherever it leads
pub br : {funcs : List Func} (st : State) (depth : ℕ) → Meets funcs (Plain (instr.Br depth) Nil) 0 quiet st (branching depth st)
unfolding act plain
br st depth = record { last = start (Plain (instr.Br depth) Nil) st; leads = λ p. stay _; reduces = λ p. refl }

-- a branch that is taken unless the operand is 0
pub br_if_taken : {funcs : List Func} (st : State) (depth x : ℕ) → eqb x 0 ≡ false → Meets funcs (Plain (instr.BrIf depth) Nil) 0 quiet (push x st) (branching depth st)
unfolding act plain
br_if_taken st depth x e = record {
  last = start (Plain (instr.BrIf depth) Nil) (push x st);
  leads = λ p. stay _;
  reduces = λ p. ap (λ b. cond b (To (at p.rest st p.labels p.frames)) (branch depth st p.labels p.frames)) e;
}

-- the same branch passed
pub br_if_passed : {funcs : List Func} (st : State) (depth x : ℕ) → eqb x 0 ≡ true → Does funcs (Plain (instr.BrIf depth) Nil) 1 quiet (push x st) st
unfolding act plain
br_if_passed st depth x e = record { here = λ p. one (ap (λ b. cond b (To (at p.rest st p.labels p.frames)) (branch depth st p.labels p.frames)) e) }

-- a branch by a table
pub br_table : {funcs : List Func} (st : State) (table : LabelTable) (x depth : ℕ) → unwrap_or (slice_get table.labels x) table.other ≡ depth →
    Meets funcs (Plain (instr.BrTable table) Nil) 0 quiet (push x st) (branching depth st)
unfolding act plain
br_table st table x depth e = record {
  last = start (Plain (instr.BrTable table) Nil) (push x st);
  leads = λ p. stay _;
  reduces = λ p. ap (λ n. branch n st p.labels p.frames) e;
}

-- a return
pub return : {funcs : List Func} (st : State) → Meets funcs (Plain instr.Return Nil) 0 quiet st (returning st)
unfolding act plain
return st = record { last = start (Plain instr.Return Nil) st; leads = λ p. stay _; reduces = λ p. refl }

-- where a branch leads past these labels
pub branch-append : (front : List Label) (label : Label) (labels : List Label) (frames : List CallFrame) (st : State) →
    branch (length front) st (front ++ label ∷ labels) frames ≡ To (at label.target (with_values st (take label.arity st.values ++ label.below)) labels frames)
branch-append [] label labels frames st = refl
branch-append (l ∷ front) label labels frames st = branch-append front label labels frames st

-- a branch past all labels leads to the function's end
pub branch_past : (labels : List Label) (depth : ℕ) (frames : List CallFrame) (st : State) → length labels < suc depth → branch depth st labels frames ≡ To (at Nil st [] frames)
branch_past [] depth frames st h = refl
branch_past (l ∷ labels) zero frames st h = absurd (omega arith)
branch_past (l ∷ labels) (suc depth) frames st h = branch_past labels depth frames st (omega arith)

-- ---- ends of sequences (4.4.6)

-- the end of a block, a loop or an arm
pub leaves : {funcs : List Func} (st : State) (label : Label) (labels : List Label) (frames : List CallFrame) →
    Leads funcs 1 [] (at Nil st (label ∷ labels) frames) (at label.rest (with_values st (st.values ++ label.below)) labels frames)
unfolding act
leaves st label labels frames = one refl

-- ---- sequences under a label

-- a block (4.4.5)
pub enters_block : {funcs : List Func} (result : Option ValType) (body : Seq) (st : State) →
    Enters funcs (InBlock result body Nil) body st (with_values st []) (λ p. block_label result st.values p.rest)
unfolding act
enters_block result body st = record { enters = λ p. refl }

-- a loop
pub enters_loop : {funcs : List Func} (result : Option ValType) (body : Seq) (st : State) →
    Enters funcs (InLoop result body Nil) body st (with_values st []) (λ p. loop_label result body st.values p.rest)
unfolding act
enters_loop result body st = record { enters = λ p. refl }

-- the first arm of an `if`, unless the operand is 0
pub enters_first : {funcs : List Func} (result : Option ValType) (first second : Seq) (st : State) (x : ℕ) → eqb x 0 ≡ false →
    Enters funcs (InIf result first second Nil) first (push x st) (with_values st []) (λ p. block_label result st.values p.rest)
unfolding act
enters_first result first second st x e = record {
  enters = λ p. ap (λ b. cond b
      (enter (arity_of result) p.rest second p.rest (push x st) st.values p.labels p.frames)
      (enter (arity_of result) p.rest first p.rest (push x st) st.values p.labels p.frames)) e;
}

-- the second arm of an `if`, where the operand is 0
pub enters_second : {funcs : List Func} (result : Option ValType) (first second : Seq) (st : State) (x : ℕ) → eqb x 0 ≡ true →
    Enters funcs (InIf result first second Nil) second (push x st) (with_values st []) (λ p. block_label result st.values p.rest)
unfolding act
enters_second result first second st x e = record {
  enters = λ p. ap (λ b. cond b
      (enter (arity_of result) p.rest second p.rest (push x st) st.values p.labels p.frames)
      (enter (arity_of result) p.rest first p.rest (push x st) st.values p.labels p.frames)) e;
}

-- what is entered reaches its end and is left: two reductions more
pub within_does : {funcs : List Func} {code body : Seq} {st inner st' : State} {label : Place → Label} {n : ℕ} {es : Place → List Emission} →
    Enters funcs code body st inner label → Does funcs body n es inner st' → (p : Place) →
    Leads funcs (n + 2) (es (inside (label p) p)) (start code st p) (at (label p).rest (with_values st' (st'.values ++ (label p).below)) p.labels p.frames)
unfolding act
within_does {label = label} {n} enters does p =
    recount (let e : 1 + n + 1 ≡ n + 2 = omega arith in e)
    (take_step (andthen (one (enters.enters p)) (does_last does (label p ∷ p.labels) p.frames)) refl)

-- what is entered branches to its own label: two reductions more
pub within_left : {funcs : List Func} {code body : Seq} {st inner st' : State} {label : Place → Label} {n : ℕ} {es : Place → List Emission} →
    Enters funcs code body st inner label → Meets funcs body n es inner (branching 0 st') → (p : Place) →
    Leads funcs (n + 2) (es (inside (label p) p)) (start code st p) (at (label p).target (with_values st' (take (label p).arity st'.values ++ (label p).below)) p.labels p.frames)
within_left {label = label} {n} enters meets p =
    recount (let e : 1 + n + 1 ≡ n + 2 = omega arith in e)
    (take_step (andthen (one (enters.enters p)) (meets_last meets (label p ∷ p.labels) p.frames)) (meets.reduces (inside (label p) p)))

-- What is entered comes to a step that leads out of it: one reduction more. A branch to a label has a
-- number less outside; a return or a trap is the same.
pub within_meets : {funcs : List Func} {code body : Seq} {st inner : State} {label : Place → Label} {n : ℕ} {es : Place → List Emission} {step : Place → Step} →
    Enters funcs code body st inner label → Meets funcs body n es inner step →
    Meets funcs code (n + 1) (λ p. es (inside (label p) p)) st (λ p. step (inside (label p) p))
within_meets {label = label} {n} enters meets = record {
  last = λ p. meets.last (inside (label p) p);
  leads = λ p. recount (let e : 1 + n ≡ n + 1 = omega arith in e) (andthen (one (enters.enters p)) (meets_last meets (label p ∷ p.labels) p.frames));
  reduces = λ p. meets.reduces (inside (label p) p);
}

-- ---- blocks and arms

-- a block, or the arm of an `if` that is entered, whose body reaches its end
pub arm_does : {funcs : List Func} {code body : Seq} {st inner st' : State} {n : ℕ} {es : Place → List Emission} (result : Option ValType) (below : List ℕ) →
    Enters funcs code body st inner (λ p. block_label result below p.rest) → Does funcs body n es inner st' →
    Does funcs code (n + 2) (λ p. es (in_block_of result below p)) st (with_values st' (st'.values ++ below))
arm_does result below enters does = record { here = within_does enters does }

-- the same where the body branches to the end
pub arm_left : {funcs : List Func} {code body : Seq} {st inner st' : State} {n : ℕ} {es : Place → List Emission} (result : Option ValType) (below : List ℕ) →
    Enters funcs code body st inner (λ p. block_label result below p.rest) → Meets funcs body n es inner (branching 0 st') →
    Does funcs code (n + 2) (λ p. es (in_block_of result below p)) st (with_values st' (take (arity_of result) st'.values ++ below))
arm_left result below enters meets = record { here = within_left enters meets }

-- a block whose body reaches its end
pub in_block : {funcs : List Func} {body : Seq} {n : ℕ} {es : Place → List Emission} {st st' : State} (result : Option ValType) →
    Does funcs body n es (with_values st []) st' →
    Does funcs (InBlock result body Nil) (n + 2) (λ p. es (in_block_of result st.values p)) st (with_values st' (st'.values ++ st.values))
in_block {body = body} {st = st} result does = arm_does result st.values (enters_block result body st) does

-- a block whose body branches to its end
pub block_left : {funcs : List Func} {body : Seq} {n : ℕ} {es : Place → List Emission} {st st' : State} (result : Option ValType) →
    Meets funcs body n es (with_values st []) (branching 0 st') →
    Does funcs (InBlock result body Nil) (n + 2) (λ p. es (in_block_of result st.values p)) st (with_values st' (take (arity_of result) st'.values ++ st.values))
block_left {body = body} {st = st} result meets = arm_left result st.values (enters_block result body st) meets

-- the first arm of an `if` reaches its end
pub in_if_first : {funcs : List Func} {first : Seq} {n : ℕ} {es : Place → List Emission} {st st' : State} (result : Option ValType) (second : Seq) (x : ℕ) → eqb x 0 ≡ false →
    Does funcs first n es (with_values st []) st' →
    Does funcs (InIf result first second Nil) (n + 2) (λ p. es (in_block_of result st.values p)) (push x st) (with_values st' (st'.values ++ st.values))
in_if_first {first = first} {st = st} result second x e does = arm_does result st.values (enters_first result first second st x e) does

-- the second arm of an `if` reaches its end
pub in_if_second : {funcs : List Func} {second : Seq} {n : ℕ} {es : Place → List Emission} {st st' : State} (result : Option ValType) (first : Seq) (x : ℕ) → eqb x 0 ≡ true →
    Does funcs second n es (with_values st []) st' →
    Does funcs (InIf result first second Nil) (n + 2) (λ p. es (in_block_of result st.values p)) (push x st) (with_values st' (st'.values ++ st.values))
in_if_second {second = second} {st = st} result first x e does = arm_does result st.values (enters_second result first second st x e) does

-- the first arm of an `if` branches to the end
pub if_first_left : {funcs : List Func} {first : Seq} {n : ℕ} {es : Place → List Emission} {st st' : State} (result : Option ValType) (second : Seq) (x : ℕ) → eqb x 0 ≡ false →
    Meets funcs first n es (with_values st []) (branching 0 st') →
    Does funcs (InIf result first second Nil) (n + 2) (λ p. es (in_block_of result st.values p)) (push x st) (with_values st' (take (arity_of result) st'.values ++ st.values))
if_first_left {first = first} {st = st} result second x e meets = arm_left result st.values (enters_first result first second st x e) meets

-- the second arm of an `if` branches to the end
pub if_second_left : {funcs : List Func} {second : Seq} {n : ℕ} {es : Place → List Emission} {st st' : State} (result : Option ValType) (first : Seq) (x : ℕ) → eqb x 0 ≡ true →
    Meets funcs second n es (with_values st []) (branching 0 st') →
    Does funcs (InIf result first second Nil) (n + 2) (λ p. es (in_block_of result st.values p)) (push x st) (with_values st' (take (arity_of result) st'.values ++ st.values))
if_second_left {second = second} {st = st} result first x e meets = arm_left result st.values (enters_second result first second st x e) meets

-- A block, an arm or a loop that is left by a branch further out, a return or a trap: one reduction more.
-- Outside, `branching (suc depth) st'` is `branching depth st'`, and the others are the same.
pub block_meets : {funcs : List Func} {body : Seq} {n : ℕ} {es : Place → List Emission} {st : State} {step : Place → Step} (result : Option ValType) →
    Meets funcs body n es (with_values st []) step →
    Meets funcs (InBlock result body Nil) (n + 1) (λ p. es (in_block_of result st.values p)) st (λ p. step (in_block_of result st.values p))
block_meets {body = body} {st = st} result meets = within_meets (enters_block result body st) meets

-- the same for the first arm of an `if`
pub if_first_meets : {funcs : List Func} {first : Seq} {n : ℕ} {es : Place → List Emission} {st : State} {step : Place → Step} (result : Option ValType) (second : Seq) (x : ℕ) → eqb x 0 ≡ false →
    Meets funcs first n es (with_values st []) step →
    Meets funcs (InIf result first second Nil) (n + 1) (λ p. es (in_block_of result st.values p)) (push x st) (λ p. step (in_block_of result st.values p))
if_first_meets {first = first} {st = st} result second x e meets = within_meets (enters_first result first second st x e) meets

-- the same for the second arm of an `if`
pub if_second_meets : {funcs : List Func} {second : Seq} {n : ℕ} {es : Place → List Emission} {st : State} {step : Place → Step} (result : Option ValType) (first : Seq) (x : ℕ) → eqb x 0 ≡ true →
    Meets funcs second n es (with_values st []) step →
    Meets funcs (InIf result first second Nil) (n + 1) (λ p. es (in_block_of result st.values p)) (push x st) (λ p. step (in_block_of result st.values p))
if_second_meets {second = second} {st = st} result first x e meets = within_meets (enters_second result first second st x e) meets

-- the same for a loop
pub loop_meets : {funcs : List Func} {body : Seq} {n : ℕ} {es : Place → List Emission} {st : State} {step : Place → Step} (result : Option ValType) →
    Meets funcs body n es (with_values st []) step →
    Meets funcs (InLoop result body Nil) (n + 1) (λ p. es (in_loop_of result body st.values p)) st (λ p. step (in_loop_of result body st.values p))
loop_meets {body = body} {st = st} result meets = within_meets (enters_loop result body st) meets

-- a branch out of a block to a label around it
pub block_branches : {funcs : List Func} {body : Seq} {n : ℕ} {es : Place → List Emission} {st st' : State} (result : Option ValType) (depth : ℕ) →
    Meets funcs body n es (with_values st []) (branching (suc depth) st') →
    Meets funcs (InBlock result body Nil) (n + 1) (λ p. es (in_block_of result st.values p)) st (branching depth st')
block_branches result depth meets = block_meets result meets

-- a `return` out of a block
pub block_returns : {funcs : List Func} {body : Seq} {n : ℕ} {es : Place → List Emission} {st : State} (result : Option ValType) (st' : State) →
    Meets funcs body n es (with_values st []) (returning st') →
    Meets funcs (InBlock result body Nil) (n + 1) (λ p. es (in_block_of result st.values p)) st (returning st')
block_returns result st' meets = block_meets result meets

-- the arm that the operand selects
pub in_if : {funcs : List Func} {n : ℕ} {es : Place → List Emission} {st st' : State} (result : Option ValType) (first second : Seq) (x : ℕ) →
    Does funcs (cond (eqb x 0) second first) n es (with_values st []) st' →
    Does funcs (InIf result first second Nil) (n + 2) (λ p. es (in_block_of result st.values p)) (push x st) (with_values st' (st'.values ++ st.values))
in_if result first second x does = elim (cases_Bool (eqb x 0)) [
  | inl e ↦ in_if_second result first x e (recode (ap (λ b. cond b second first) e) does)
  | inr e ↦ in_if_first result second x e (recode (ap (λ b. cond b second first) e) does)
]

-- ---- loops

-- a loop whose body reaches its end
pub in_loop : {funcs : List Func} {body : Seq} {n : ℕ} {es : Place → List Emission} {st st' : State} (result : Option ValType) →
    Does funcs body n es (with_values st []) st' →
    Does funcs (InLoop result body Nil) (n + 2) (λ p. es (in_loop_of result body st.values p)) st (with_values st' (st'.values ++ st.values))
in_loop {body = body} {st = st} result does = record { here = within_does (enters_loop result body st) does }

-- one turn: the `loop` that is entered and the branch back to it are one reduction each
pub turn : {funcs : List Func} {body : Seq} {n : ℕ} {es : Place → List Emission} {st st' : State} (result : Option ValType) →
    Meets funcs body n es (with_values st []) (branching 0 st') → (p : Place) →
    Leads funcs (n + 2) (es (in_loop_of result body st.values p)) (start (InLoop result body Nil) st p) (start (InLoop result body Nil) (with_values st' st.values) p)
turn {body = body} {st = st} result meets p = within_left (enters_loop result body st) meets p

-- one turn, and then what the loop does
pub again : {funcs : List Func} {body : Seq} {n m : ℕ} {es fs : Place → List Emission} {st st' st2 : State} (result : Option ValType) →
    Meets funcs body n es (with_values st []) (branching 0 st') → Does funcs (InLoop result body Nil) m fs (with_values st' st.values) st2 →
    Does funcs (InLoop result body Nil) (n + 2 + m) (λ p. es (in_loop_of result body st.values p) ++ fs p) st st2
again result meets does = record { here = λ p. andthen (turn result meets p) (does.here p) }

-- one turn, and then the step that the loop comes to
pub again_meets : {funcs : List Func} {body : Seq} {n m : ℕ} {es fs : Place → List Emission} {st st' : State} {step : Place → Step} (result : Option ValType) →
    Meets funcs body n es (with_values st []) (branching 0 st') → Meets funcs (InLoop result body Nil) m fs (with_values st' st.values) step →
    Meets funcs (InLoop result body Nil) (n + 2 + m) (λ p. es (in_loop_of result body st.values p) ++ fs p) st step
again_meets result turns meets = record { last = meets.last; leads = λ p. andthen (turn result turns p) (meets.leads p); reduces = meets.reduces }
