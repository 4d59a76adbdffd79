-- Runs of one configuration with different numbers of reductions: a longer one goes on where a shorter one
-- is out, and one that is over stays as it is.
use Rattle.std.proofs.Common.{◌≡◌, ℕ, zero, suc, ◌+◌, ◌-◌, ◌≤◌, inl, inr, List, [], ◌∷◌, length, take, refl, sym, ap, ◌∙◌, subst, arith, true}
use Rattle.std.proofs.lemmas.Bool.{false≢true, cases_lt}
use Rattle.std.proofs.lemmas.List.{take_all}
use Rattle.std.proofs.Math.Seq.{take-nil}
use Rattle.wasm_tree.specs.Reduce.{Func, Config, Step, To, Asks, Ends, Traps, Sticks, Run, Done, Trapped, Out, Stuck, Emits, exec, follow}
use Rattle.wasm_steps.specs.Steps.{Emission, emitting, reduce, Leads, is_over, is_last, Upto, UptoOut, UptoSame, UptoEmits}
use Rattle.wasm_steps.proofs.Compose.{exec-zero, exec-suc}

-- ---- runs until they are out

-- emissions in front of two runs
pub Upto-emitting : (es : List Emission) {short long : Run} → Upto short long → Upto (emitting es short) (emitting es long)
Upto-emitting [] upto = upto
Upto-emitting (e ∷ es) upto = UptoEmits e.number e.memory e.after _ _ (Upto-emitting es upto)

-- a run that is over doesn't go on
pub Upto-over : {short long : Run} → Upto short long → is_over short ≡ true → long ≡ short
Upto-over (UptoOut run) over = absurd (false≢true over)
Upto-over (UptoSame run) over = refl
Upto-over (UptoEmits number memory next short long upto) over = ap (Emits number memory next) (Upto-over upto over)

-- one step and then two runs
pub Upto-follow : (step : Step) (short long : Config → Run) → ((c : Config) → Upto (short c) (long c)) → Upto (follow step short) (follow step long)
Upto-follow (To next) short long h = h next
Upto-follow (Asks number memory next) short long h = UptoEmits number memory next (short next) (long next) (h next)
Upto-follow (Ends globals memory) short long h = UptoSame (Done globals memory)
Upto-follow Traps short long h = UptoSame Trapped
Upto-follow Sticks short long h = UptoSame Stuck

-- with more reductions a run is the same until it is out
pub longer : (funcs : List Func) (k n : ℕ) (c : Config) → k ≤ n → Upto (exec funcs k c) (exec funcs n c)
longer funcs zero n c h = let P : Run → Type 0 = λ r. Upto r (exec funcs n c) in subst P (sym (exec-zero funcs c)) (UptoOut (exec funcs n c))
longer funcs (suc k) zero c h = absurd (omega arith)
longer funcs (suc k) (suc n) c h =
    let P : Run → Type 0 = λ r. Upto r (exec funcs (suc n) c) in
    let Q : Run → Type 0 = λ r. Upto (follow (reduce funcs c) (exec funcs k)) r in
    subst P (sym (exec-suc funcs k c)) (subst Q (sym (exec-suc funcs n c)) (Upto-follow (reduce funcs c) (exec funcs k) (exec funcs n) (λ d. longer funcs k n d (omega arith))))

-- ---- runs that are over

-- a run that is over is the same with more reductions
pub longer_over : (funcs : List Func) (k n : ℕ) (c : Config) → k ≤ n → is_over (exec funcs k c) ≡ true → exec funcs n c ≡ exec funcs k c
longer_over funcs k n c h over = Upto-over (longer funcs k n c h) over

-- two runs that are over are the same
pub over_same : (funcs : List Func) (k n : ℕ) (c : Config) → is_over (exec funcs k c) ≡ true → is_over (exec funcs n c) ≡ true → exec funcs k c ≡ exec funcs n c
over_same funcs k n c first second =
    elim (cases_lt k n) [ inl h ↦ sym (longer_over funcs k n c (omega arith) first) | inr h ↦ longer_over funcs n k c h second ]

-- emissions don't make a run over
pub is_over-emitting : (es : List Emission) (run : Run) → is_over (emitting es run) ≡ is_over run
is_over-emitting [] run = refl
is_over-emitting (e ∷ es) run = is_over-emitting es run

-- after n reductions that lead on the run isn't over yet
pub leads_out : {funcs : List Func} {n : ℕ} {es : List Emission} {c d : Config} → Leads funcs n es c d → exec funcs n c ≡ emitting es Out
leads_out {funcs} {n} {es} {c} {d} leads =
    let e : n ≡ n + 0 = omega arith in
    ap (λ j. exec funcs j c) e ∙ leads.by 0 ∙ ap (emitting es) (exec-zero funcs d)

-- Backward: a run that is over, from a configuration that leads on, had the reductions for that and at
-- least one more, and from there it is the rest of the run.
pub backward : {funcs : List Func} {n : ℕ} {es : List Emission} {c d : Config} (m : ℕ) → Leads funcs n es c d → is_over (exec funcs m c) ≡ true →
    (j : ℕ) × (m ≡ n + suc j) × (exec funcs m c ≡ emitting es (exec funcs (suc j) d))
backward {funcs} {n} {es} {c} {d} m leads over =
    elim (cases_lt n m) [
      | inl h ↦
          let e : m ≡ n + suc (m - suc n) = omega arith in
          (m - suc n, e, ap (λ j. exec funcs j c) e ∙ leads.by (suc (m - suc n)))
      | inr h ↦ absurd (false≢true (sym (is_over-emitting es Out) ∙ ap is_over (sym (leads_out leads)) ∙ ap is_over (longer_over funcs m n c h over) ∙ over))
    ]

-- ---- runs that are out

-- what is out after some of the emissions
pub Upto-out : {short long : Run} → Upto short long → (es : List Emission) → long ≡ emitting es Out → (j : ℕ) × (j ≤ length es) × (short ≡ emitting (take j es) Out)
Upto-out (UptoOut run) es e = (0, omega arith, refl)
Upto-out (UptoSame run) es e = (length es, omega arith, e ∙ ap (λ fs. emitting fs Out) (sym (take_all (length es) es (omega arith))))
Upto-out (UptoEmits number memory next short long upto) [] e = absurd (cc)
Upto-out (UptoEmits number memory next short long upto) (x ∷ es) e =
    let found : (j : ℕ) × (j ≤ length es) × (short ≡ emitting (take j es) Out) = Upto-out upto es (cc) in
    let same : short ≡ emitting (take found.0 es) Out = found.2 in
    let bound : found.0 ≤ length es = found.1 in
    (suc found.0, omega arith, (cc))

-- every number of reductions that is no greater than n is spent before the end, and the host has had a
-- first part of the calls
pub spent : {funcs : List Func} {n : ℕ} {es : List Emission} {c d : Config} (m : ℕ) → Leads funcs n es c d → m ≤ n →
    (j : ℕ) × (j ≤ length es) × (exec funcs m c ≡ emitting (take j es) Out)
spent {funcs} {n} {es} {c} {d} m leads h =
    Upto-out (longer funcs m n c h) es (leads_out leads)

-- the same where the host isn't called
pub spent_quiet : {funcs : List Func} {n : ℕ} {c d : Config} (m : ℕ) → Leads funcs n [] c d → m ≤ n → exec funcs m c ≡ Out
spent_quiet {funcs} {c = c} m leads h =
    let found : (j : ℕ) × (j ≤ 0) × (exec funcs m c ≡ emitting (take j []) Out) = spent m leads h in
    found.2 ∙ ap (λ es. emitting es Out) (take-nil found.0)

-- ---- what a run tells

-- a run that ends so is over
pub over_at : (es : List Emission) (run short : Run) → run ≡ emitting es short → is_over short ≡ true → is_over run ≡ true
over_at es run short e over = ap is_over e ∙ is_over-emitting es short ∙ over

-- calls of the host with the same parts
pub same_emissions : (x y : Emission) (es fs : List Emission) → x.number ≡ y.number → x.memory ≡ y.memory → x.after ≡ y.after → es ≡ fs → x ∷ es ≡ y ∷ fs
same_emissions x y es fs number memory after rest =
    ap (λ v. record x { number = v } ∷ es) number
    ∙ ap (λ v. record x { number = y.number; memory = v } ∷ es) memory
    ∙ ap (λ v. record y { after = v } ∷ es) after
    ∙ ap (λ l. y ∷ l) rest

-- two runs whose calls of the host are known and that agree have the same calls and the same end
pub emitting_same : (es fs : List Emission) (a b : Run) → is_last a ≡ true → is_last b ≡ true → emitting es a ≡ emitting fs b → (es ≡ fs) × (a ≡ b)
emitting_same [] [] a b first second e = (refl, e)
emitting_same [] (f ∷ fs) a b first second e = absurd (false≢true (ap is_last (sym e) ∙ first))
emitting_same (x ∷ es) [] a b first second e = absurd (false≢true (ap is_last e ∙ second))
emitting_same (x ∷ es) (f ∷ fs) a b first second e =
    let number_same : x.number ≡ f.number = cc in
    let memory_same : x.memory ≡ f.memory = cc in
    let after_same : x.after ≡ f.after = cc in
    let rest_same : emitting es a ≡ emitting fs b = cc in
    let found : (es ≡ fs) × (a ≡ b) = emitting_same es fs a b first second rest_same in
    let list_same : es ≡ fs = found.0 in
    (same_emissions x f es fs number_same memory_same after_same list_same, found.1)
