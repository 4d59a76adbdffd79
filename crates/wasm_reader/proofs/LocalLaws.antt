-- The locals of a function.
use Rattle.std.proofs.Common.{◌≡◌, ℕ, zero, suc, ◌+◌, ◌≤◌, ◌<◌, ltb, List, [], ◌∷◌, ◌++◌, length, Ok, refl, sym, ap, subst, ◌∙◌, arith, inl, inr}
use Rattle.std.proofs.lemmas.Bool.{ltb-true, ltb-false, le-ltb}
use Rattle.std.proofs.lemmas.List.Sums.{sum_by-cons}
use Rattle.wasm_tree.specs.declared.failure.ModuleRule.{ModuleRule}
use Rattle.wasm_tree.specs.declared.failure.ModuleRule.TheVariants as rule
use Rattle.wasm_tree.specs.declared.module.LocalRun.{LocalRun}
use Rattle.wasm_tree.specs.Spelled.{Joined, Each, Index, Locals, most_locals, count_of_locals, LocalRuns}
use Rattle.wasm_reader.specs.Fault.{InTurn, NoIndex, NoLocals, NoLocalRuns}
use Rattle.wasm_reader.specs.Reading.{at, index_at, type_at, locals_at, runs_from, local_runs_at}
use Rattle.wasm_reader.proofs.Ends.{with_value, with_fault, step, by_test}
use Rattle.wasm_reader.proofs.Readers.{Reads, ReadEnds, Taken, broken-as, assoc, behind, regrouped, ends-behind, then-reads, as-reads}
use Rattle.wasm_reader.proofs.NumberLaws.{index-reads}
use Rattle.wasm_reader.proofs.Records.{type-reads}

-- a run of locals that is within the limit, behind so many
abbrev FewLocals : ℕ → LocalRun → List ℕ → Type 0
FewLocals before run bytes = (before + run.count ≤ most_locals) × Locals run bytes

locals-reads : (before : ℕ) → Reads (FewLocals before) (NoLocals before) (locals_at before)
unfolding locals_at
locals-reads before = record {
  ends = λ bytes.
      step (index_at bytes) (index-reads.ends bytes) (λ x b. broken-as b (λ h. inr (inl h))) (λ y t.
      by_test (ltb most_locals (before + y.0))
      (λ p. with_fault (at rule.Limit (length bytes)) (record { fails = inl (refl, refl, y.0, t.front, y.1, t.whole, t.spelled, ltb-true most_locals (before + y.0) p); within = omega arith }))
      (λ p.
      let few = ltb-false most_locals (before + y.0) p in
      step (type_at y.1) (ends-behind t (type-reads.ends y.1)) (λ x b. broken-as b (λ j. inr (inr (y.0, behind j (few, j.second)))))
      (λ z u. with_value (record { count = y.0; ty = z.0 }, z.1) (record { front = u.front; whole = u.whole; spelled = (few, u.spelled) }))));
  again = λ run front rest h.
      let j = h.1 in
      let one : index_at (front ++ rest) ≡ Ok (run.count, j.back ++ rest) = ap index_at (regrouped j rest) ∙ index-reads.again run.count j.front (j.back ++ rest) j.first in
      rw (one, le-ltb _ _ h.0, type-reads.again run.ty j.back rest j.second) refl;
}

count-cons : (run : LocalRun) (runs : List LocalRun) → count_of_locals (run ∷ runs) ≡ run.count + count_of_locals runs
count-cons run runs = sum_by-cons (λ run. run.count) run runs

-- so many runs within the limit, behind so many locals
abbrev FewRuns : ℕ → ℕ → List LocalRun → List ℕ → Type 0
FewRuns n before runs bytes = (length runs ≡ n) × (before + count_of_locals runs ≤ most_locals) × Each Locals runs bytes

-- after fewer runs than these, one fails
abbrev FewerRuns : ℕ → ℕ → ModuleRule → ℕ → List ℕ → Type 0
FewerRuns n before r left bytes =
    (runs : List LocalRun) × (length runs < n) × (before + count_of_locals runs ≤ most_locals) × Joined (Each Locals runs) (NoLocals (before + count_of_locals runs) r left) bytes

runs-ends : (n before : ℕ) → before ≤ most_locals → (bytes : List ℕ) → ReadEnds (FewRuns n before) (FewerRuns n before) bytes (runs_from n before bytes)
unfolding runs_from
runs-ends zero before le bytes = with_value ([], bytes) (record { front = []; whole = refl; spelled = (refl, omega arith, refl) })
runs-ends (suc n) before le bytes =
    step (locals_at before bytes) ((locals-reads before).ends bytes)
    (λ x b. broken-as b (λ h.
    let none : before + count_of_locals [] ≡ before = omega arith in
    ([], omega arith, omega arith, record { front = []; back = bytes; whole = refl; first = refl; second = subst (λ (m : ℕ). NoLocals m x.rule x.left bytes) (sym none) h })))
    (λ y t.
    let run : Taken Locals bytes y.0 y.1 = record { front = t.front; whole = t.whole; spelled = t.spelled.1 } in
    step (runs_from n (before + y.0.count) y.1) (ends-behind run (runs-ends n (before + y.0.count) t.spelled.0 y.1))
    (λ x b. broken-as b (λ j.
    let so = j.second in
    let sum : (before + y.0.count) + count_of_locals so.0 ≡ before + count_of_locals (y.0 ∷ so.0) = omega (arith, count-cons y.0 so.0) in
    (y.0 ∷ so.0, omega (arith, so.1), omega (arith, so.2), assoc (behind j (behind so.3 (subst (λ (m : ℕ). NoLocals m x.rule x.left so.3.back) sum so.3.second))))))
    (λ z u. with_value (y.0 ∷ z.0, z.1) (record { front = u.front; whole = u.whole; spelled = (ap suc u.spelled.second.0, omega (arith, u.spelled.second.1, count-cons y.0 z.0), behind u.spelled u.spelled.second.2) })))

runs-again : (n before : ℕ) (runs : List LocalRun) (front rest : List ℕ) → FewRuns n before runs front → runs_from n before (front ++ rest) ≡ Ok (runs, rest)
unfolding runs_from
runs-again zero before [] front rest h = ap (λ (l : List ℕ). runs_from 0 before (l ++ rest)) h.2
runs-again zero before (run ∷ runs) front rest h = absurd (omega (arith, h.0))
runs-again (suc n) before [] front rest h = absurd (omega (arith, h.0))
runs-again (suc n) before (run ∷ runs) front rest h =
    let j = h.2 in
    let one : locals_at before (front ++ rest) ≡ Ok (run, j.back ++ rest) =
    ap (locals_at before) (regrouped j rest) ∙ (locals-reads before).again run j.front (j.back ++ rest) (omega (arith, h.1, count-cons run runs), j.first) in
    let two : runs_from n (before + run.count) (j.back ++ rest) ≡ Ok (runs, rest) = runs-again n (before + run.count) runs j.back rest (omega (arith, h.0), omega (arith, h.1, count-cons run runs), j.second) in
    rw (one, two) refl

pub local_runs-reads : Reads LocalRuns NoLocalRuns local_runs_at
unfolding local_runs_at
local_runs-reads =
    as-reads (then-reads index-reads (λ whole n. record { ends = runs-ends n 0 (omega arith); again = runs-again n 0 }))
    (λ runs bytes h. record { spelled = record { front = h.1.front; back = h.1.back; whole = h.1.whole; first = rw h.1.second.0 h.1.first; second = h.1.second.2 }; few = omega (arith, h.1.second.1) })
    (λ runs bytes h. (length runs, behind h.spelled (refl, omega (arith, h.few), h.spelled.second))) bad where
      bad : (r : ModuleRule) (left : ℕ) (bytes : List ℕ) → InTurn NoIndex Index (λ n. FewerRuns n 0) r left bytes → NoLocalRuns r left bytes
      bad r left bytes (inl h) = inl h
      bad r left bytes (inr (n, h)) =
          let f = h.second in
          let none : 0 + count_of_locals f.0 ≡ count_of_locals f.0 = omega arith in
          inr (n, behind h (f.0, f.1, omega (arith, f.2), behind f.3 (subst (λ (m : ℕ). NoLocals m r left f.3.back) none f.3.second)))
