-- Runs put one after another.
use Rattle.std.proofs.Common.{◌≡◌, ℕ, suc, ◌+◌, List, [], ◌∷◌, ◌++◌, refl, sym, ap, ◌∙◌, subst, add_assoc, zero-add, arith, append-nil}
use Rattle.wasm_tree.specs.Reduce.{Seq, Nil, Plain, InBlock, InLoop, InIf, Func, State, Label, CallFrame, Config, Step, To, Asks, Run, Emits, Out, exec, follow, at}
use Rattle.wasm_steps.specs.Steps.{Emission, emitting, reduce, Leads, join, Place, quiet, Does, Meets, before}

-- emissions one after another
pub emitting-append : (es fs : List Emission) (run : Run) → emitting (es ++ fs) run ≡ emitting es (emitting fs run)
emitting-append [] fs run = refl
emitting-append (e ∷ es) fs run = ap (λ r. Emits e.number e.memory e.after r) (emitting-append es fs run)

-- what follows nothing is itself
pub join-nil : (code : Seq) → join code Nil ≡ code
join-nil Nil = refl
join-nil (Plain i s) = ap (Plain i) (join-nil s)
join-nil (InBlock result body s) = ap (InBlock result body) (join-nil s)
join-nil (InLoop result body s) = ap (InLoop result body) (join-nil s)
join-nil (InIf result first second s) = ap (InIf result first second) (join-nil s)

-- sequences are put together in either order
pub join_assoc : (a b c : Seq) → join (join a b) c ≡ join a (join b c)
join_assoc Nil b c = refl
join_assoc (Plain i s) b c = ap (Plain i) (join_assoc s b c)
join_assoc (InBlock result body s) b c = ap (InBlock result body) (join_assoc s b c)
join_assoc (InLoop result body s) b c = ap (InLoop result body) (join_assoc s b c)
join_assoc (InIf result first second s) b c = ap (InIf result first second) (join_assoc s b c)

-- without a reduction a run is out
pub exec-zero : (funcs : List Func) (c : Config) → exec funcs 0 c ≡ Out
unfolding exec
exec-zero funcs c = refl

-- one reduction, and then the rest
pub exec-suc : (funcs : List Func) (k : ℕ) (c : Config) → exec funcs (suc k) c ≡ follow (reduce funcs c) (exec funcs k)
unfolding exec
exec-suc funcs k c = refl

-- nothing is done in no reductions
pub stay : {funcs : List Func} (c : Config) → Leads funcs 0 [] c c
stay c = record { by = λ k. ap (λ j. exec _ j c) (zero-add k) }

-- a reduction that goes on
pub one : {funcs : List Func} {c d : Config} → reduce funcs c ≡ To d → Leads funcs 1 [] c d
one {funcs} {c} {d} e = record {
  by = λ k.
      ap (λ j. exec funcs j c) (let h : 1 + k ≡ suc k = omega arith in h) ∙ exec-suc funcs k c ∙ ap (λ s. follow s (exec funcs k)) e;
}

-- a call of the host
pub asks : {funcs : List Func} {c : Config} (e : Emission) → reduce funcs c ≡ Asks e.number e.memory e.after → Leads funcs 1 (e ∷ []) c e.after
asks {funcs} {c} e h = record {
  by = λ k.
      ap (λ j. exec funcs j c) (let one_more : 1 + k ≡ suc k = omega arith in one_more) ∙ exec-suc funcs k c ∙ ap (λ s. follow s (exec funcs k)) h;
}

-- one run and then another
pub andthen : {funcs : List Func} {n m : ℕ} {es fs : List Emission} {c d e : Config} →
    Leads funcs n es c d → Leads funcs m fs d e → Leads funcs (n + m) (es ++ fs) c e
andthen {funcs} {n} {m} {es} {fs} {c} {d} {e} first second = record {
  by = λ k.
      ap (λ j. exec funcs j c) (add_assoc n m k) ∙ first.by (m + k) ∙ ap (emitting es) (second.by k) ∙ sym (emitting-append es fs (exec funcs k e));
}

-- the same run under another form of its count
pub recount : {funcs : List Func} {n m : ℕ} {es : List Emission} {c d : Config} → n ≡ m → Leads funcs n es c d → Leads funcs m es c d
recount {funcs} {n} {m} {es} {c} {d} e run = let P : ℕ → Type 0 = λ i. Leads funcs i es c d in subst P e run

-- the same run under another form of its calls of the host
pub retell : {funcs : List Func} {n : ℕ} {es fs : List Emission} {c d : Config} → es ≡ fs → Leads funcs n es c d → Leads funcs n fs c d
retell {funcs} {n} {es} {fs} {c} {d} e run = let P : List Emission → Type 0 = λ i. Leads funcs n i c d in subst P e run

-- the same run to another form of its last configuration
pub reach : {funcs : List Func} {n : ℕ} {es : List Emission} {c d d' : Config} → d ≡ d' → Leads funcs n es c d → Leads funcs n es c d'
reach {funcs} {n} {es} {c} e run = let P : Config → Type 0 = λ i. Leads funcs n es c i in subst P e run

-- the same run from another form of its first configuration
pub leave_from : {funcs : List Func} {n : ℕ} {es : List Emission} {c c' d : Config} → c ≡ c' → Leads funcs n es c d → Leads funcs n es c' d
leave_from {funcs} {n} {es} {d = d} e run = let P : Config → Type 0 = λ i. Leads funcs n es i d in subst P e run

-- one sequence and then another
pub both : {funcs : List Func} {a b : Seq} {n m : ℕ} {es fs : Place → List Emission} {st st1 st2 : State} →
    Does funcs a n es st st1 → Does funcs b m fs st1 st2 → Does funcs (join a b) (n + m) (λ p. es (before b p) ++ fs p) st st2
both {a = a} {b} {st = st} first second = record {
  here = λ p.
      leave_from (ap (λ code. at code st p.labels p.frames) (sym (join_assoc a b p.rest))) (andthen (first.here (before b p)) (second.here p));
}

-- two sequences neither of which calls the host
pub both_quiet : {funcs : List Func} {a b : Seq} {n m : ℕ} {st st1 st2 : State} →
    Does funcs a n quiet st st1 → Does funcs b m quiet st1 st2 → Does funcs (join a b) (n + m) quiet st st2
both_quiet {a = a} {b} {n} {m} {st = st} {st2 = st2} first second = both first second

-- an empty sequence
pub does_nothing : {funcs : List Func} (st : State) → Does funcs Nil 0 quiet st st
does_nothing st = record { here = λ p. stay _ }

-- the same sequence under another form of its count
pub recount_does : {funcs : List Func} {code : Seq} {n m : ℕ} {es : Place → List Emission} {st st' : State} → n ≡ m → Does funcs code n es st st' → Does funcs code m es st st'
recount_does e does = record { here = λ p. recount e (does.here p) }

-- the same sequence under another form of its calls of the host
pub retell_does : {funcs : List Func} {code : Seq} {n : ℕ} {es fs : Place → List Emission} {st st' : State} → ((p : Place) → es p ≡ fs p) → Does funcs code n es st st' → Does funcs code n fs st st'
retell_does e does = record { here = λ p. retell (e p) (does.here p) }

-- another form of the sequence
pub recode : {funcs : List Func} {a b : Seq} {n : ℕ} {es : Place → List Emission} {st st' : State} → a ≡ b → Does funcs a n es st st' → Does funcs b n es st st'
recode {funcs} {n = n} {es} {st} {st'} e does = let P : Seq → Type 0 = λ i. Does funcs i n es st st' in subst P e does

-- another form of the state after a sequence
pub restate : {funcs : List Func} {code : Seq} {n : ℕ} {es : Place → List Emission} {st st1 st2 : State} → st1 ≡ st2 → Does funcs code n es st st1 → Does funcs code n es st st2
restate {funcs} {code} {n} {es} {st} e does = let P : State → Type 0 = λ i. Does funcs code n es st i in subst P e does

-- another form of the state before a sequence
pub restate_before : {funcs : List Func} {code : Seq} {n : ℕ} {es : Place → List Emission} {st1 st2 st : State} → st1 ≡ st2 → Does funcs code n es st1 st → Does funcs code n es st2 st
restate_before {funcs} {code} {n} {es} {st = st} e does = let P : State → Type 0 = λ i. Does funcs code n es i st in subst P e does

-- a sequence at the end of what it stands in
pub does_last : {funcs : List Func} {code : Seq} {n : ℕ} {es : Place → List Emission} {st st' : State} → Does funcs code n es st st' →
    (labels : List Label) (frames : List CallFrame) → Leads funcs n (es record { rest = Nil; labels = labels; frames = frames }) (at code st labels frames) (at Nil st' labels frames)
does_last {code = code} {st = st} does labels frames =
    leave_from (ap (λ a. at a st labels frames) (join-nil code)) (does.here record { rest = Nil; labels = labels; frames = frames })

-- the same for a sequence whose last reduction is another step
pub meets_last : {funcs : List Func} {code : Seq} {n : ℕ} {es : Place → List Emission} {st : State} {step : Place → Step} → (meets : Meets funcs code n es st step) →
    (labels : List Label) (frames : List CallFrame) →
    Leads funcs n (es record { rest = Nil; labels = labels; frames = frames }) (at code st labels frames) (meets.last record { rest = Nil; labels = labels; frames = frames })
meets_last {code = code} {st = st} meets labels frames =
    leave_from (ap (λ a. at a st labels frames) (join-nil code)) (meets.leads record { rest = Nil; labels = labels; frames = frames })

-- one sequence and then one whose last reduction is another step
pub both_meets : {funcs : List Func} {a b : Seq} {n m : ℕ} {es fs : Place → List Emission} {st st1 : State} {step : Place → Step} →
    Does funcs a n es st st1 → Meets funcs b m fs st1 step → Meets funcs (join a b) (n + m) (λ p. es (before b p) ++ fs p) st step
both_meets {a = a} {b} {st = st} first second = record {
  last = second.last;
  leads = λ p. leave_from (ap (λ code. at code st p.labels p.frames) (sym (join_assoc a b p.rest))) (andthen (first.here (before b p)) (second.leads p));
  reduces = second.reduces;
}

-- what follows a sequence that doesn't reach its end makes no difference, where the step doesn't speak of it
pub meets_join : {funcs : List Func} {a : Seq} (b : Seq) {n : ℕ} {es : Place → List Emission} {st : State} {step : Place → Step} →
    Meets funcs a n es st step → Meets funcs (join a b) n (λ p. es (before b p)) st (λ p. step (before b p))
meets_join {a = a} b {st = st} meets = record {
  last = λ p. meets.last (before b p);
  leads = λ p. leave_from (ap (λ code. at code st p.labels p.frames) (sym (join_assoc a b p.rest))) (meets.leads (before b p));
  reduces = λ p. meets.reduces (before b p);
}

-- the same under another form of its count
pub recount_meets : {funcs : List Func} {code : Seq} {n m : ℕ} {es : Place → List Emission} {st : State} {step : Place → Step} → n ≡ m → Meets funcs code n es st step → Meets funcs code m es st step
recount_meets e meets = record { last = meets.last; leads = λ p. recount e (meets.leads p); reduces = meets.reduces }

-- from a run to the configuration that follows its last reduction
pub take_step : {funcs : List Func} {n : ℕ} {es : List Emission} {c d e : Config} → Leads funcs n es c d → reduce funcs d ≡ To e → Leads funcs (n + 1) es c e
take_step {es = es} run h = retell (append-nil es) (andthen run (one h))
