-- A local by its number, in runs with their ends.
use Rattle.std.proofs.Common.{◌≡◌, ◌<◌, ◌≤◌, ◌+◌, ◌-◌, ℕ, zero, suc, List, [], ◌∷◌, ◌++◌, length, get_or, take, Some, None, refl, sym, ap, ◌∙◌, subst, arith}
use Rattle.std.specs.Prelude.{slice_get, replicate}
use Rattle.std.proofs.lemmas.List.{length-replicate, take_more}
use Rattle.std.proofs.lemmas.List.Sums.{sum_by-cons, sum_by_push, sum_by-take-drop}
use Rattle.wasm_tree.specs.Spelled.{count_of_locals}
use Rattle.std.proofs.lemmas.Option.{slice_get-get_or}
use Rattle.wasm_tree.specs.declared.module.ValType.{ValType}
use Rattle.wasm_tree.specs.declared.module.LocalRun.{LocalRun}
use Rattle.wasm_tree.specs.Numbers.{declared_locals}
use Rattle.wasm_valid.specs.Ends.{ends_of}

left : {A : Type 0} (xs ys : List A) (k : ℕ) → k < length xs → slice_get (xs ++ ys) k ≡ slice_get xs k
left [] ys k lt = absurd (omega (arith, lt))
left (x ∷ xs) ys zero lt = refl
left (x ∷ xs) ys (suc k) lt = left xs ys k (omega (arith, lt))

right : {A : Type 0} (xs ys : List A) (k : ℕ) → length xs ≤ k → slice_get (xs ++ ys) k ≡ slice_get ys (k - length xs)
right [] ys k le = ap (λ (n : ℕ). slice_get ys n) (omega arith)
right (x ∷ xs) ys zero le = absurd (omega (arith, le))
right (x ∷ xs) ys (suc k) le = right xs ys k (omega (arith, le)) ∙ ap (λ (n : ℕ). slice_get ys n) (omega arith)

of_run : (n k : ℕ) (t : ValType) → k < n → slice_get (replicate n t) k ≡ Some t
of_run zero k t lt = absurd (omega (arith, lt))
of_run (suc n) zero t lt = refl
of_run (suc n) (suc k) t lt = of_run n k t (omega (arith, lt))

same_ends : (before : ℕ) (runs : List LocalRun) → length (ends_of before runs) ≡ length runs
same_ends before [] = refl
same_ends before (run ∷ runs) = ap suc (same_ends (before + run.count) runs)

-- an end isn't below what stands before
ends_above : (before k : ℕ) (runs : List LocalRun) → k < length runs → before ≤ get_or (ends_of before runs) k 0
ends_above before k [] lt = absurd (omega (arith, lt))
ends_above before zero (run ∷ runs) lt = omega arith
ends_above before (suc k) (run ∷ runs) lt = let i = ends_above (before + run.count) k runs (omega (arith, lt)) in omega arith

-- where the run of a local is
in_run : (before x at : ℕ) (runs : List LocalRun) → at ≤ length runs → ((p : ℕ) → suc p ≡ at → get_or (ends_of before runs) p 0 ≤ before + x) → (at < length runs → before + x < get_or (ends_of before runs) at 0)
    → (run : LocalRun) → (at < length runs → slice_get (declared_locals runs) x ≡ Some (get_or runs at run).ty) × (length runs ≤ at → slice_get (declared_locals runs) x ≡ None)
in_run before x at [] le b f run = (λ lt. absurd (omega (arith, lt)), λ l. refl)
in_run before x zero (first ∷ runs) le b f run =
    let lt : before + x < before + first.count = f (omega arith) in
    (λ l. left (replicate first.count first.ty) (declared_locals runs) x (omega (arith, length-replicate first.count first.ty)) ∙ of_run first.count x first.ty (omega arith), λ l. absurd (omega (arith, l)))
in_run before x (suc at) (first ∷ runs) le b f run =
    let past : first.count ≤ x = at_past at (b at refl) (omega (arith, le)) in
    let n : before + first.count + (x - first.count) ≡ before + x = omega arith in
    let i = in_run (before + first.count) (x - first.count) at runs (omega (arith, le)) (λ p e. subst (λ (m : ℕ). get_or (ends_of (before + first.count) runs) p 0 ≤ m) (sym n) (b (suc p) (ap suc e)))
    (λ lt. subst (λ (m : ℕ). m < get_or (ends_of (before + first.count) runs) at 0) (sym n) (f (omega (arith, lt)))) run in
    let go : slice_get (declared_locals (first ∷ runs)) x ≡ slice_get (declared_locals runs) (x - first.count) =
    right (replicate first.count first.ty) (declared_locals runs) x (omega (arith, length-replicate first.count first.ty)) ∙ ap (λ (k : ℕ). slice_get (declared_locals runs) (x - k)) (length-replicate first.count first.ty) in
    (λ lt. go ∙ i.0 (omega (arith, lt)), λ l. go ∙ i.1 (omega (arith, l)))
  where
    at_past : (at : ℕ) → get_or (ends_of before (first ∷ runs)) at 0 ≤ before + x → at ≤ length runs → first.count ≤ x
    at_past zero b le = omega arith
    at_past (suc at) b le = let a = ends_above (before + first.count) at runs (omega (arith, le)) in let c : get_or (ends_of (before + first.count) runs) at 0 ≤ before + x = b in omega arith

earlier : (ends : List ℕ) (at m : ℕ) → (0 < at → get_or ends (at - 1) 0 ≤ m) → (p : ℕ) → suc p ≡ at → get_or ends p 0 ≤ m
earlier ends at m b p e = let k : at - 1 ≡ p = omega arith in subst (λ (n : ℕ). get_or ends n 0 ≤ m) k (b (omega arith))

pub parameter : (params : List ValType) (runs : List LocalRun) (local : ℕ) (d : ValType) → local < length params → Some (get_or params local d) ≡ slice_get (params ++ declared_locals runs) local
parameter params runs local d lt = sym (left params (declared_locals runs) local lt ∙ slice_get-get_or params local d lt)

pub declared : (params : List ValType) (runs : List LocalRun) (ends : List ℕ) (local at : ℕ) (d : LocalRun) → ends ≡ ends_of 0 runs → length params ≤ local → at < length runs → (0 < at → get_or ends (at - 1) 0 ≤ local - length params) → (at < length ends → local - length params < get_or ends at 0)
    → Some (get_or runs at d).ty ≡ slice_get (params ++ declared_locals runs) local
declared params runs ends local at d e le lt b f =
    let i = in_run 0 (local - length params) at runs (omega arith) (λ p q. subst (λ (l : List ℕ). get_or l p 0 ≤ 0 + (local - length params)) e (let g = earlier ends at (local - length params) b p q in omega arith))
    (λ l. subst (λ (l : List ℕ). 0 + (local - length params) < get_or l at 0) e (let g = f (omega (arith, l, same_ends 0 runs, ap (λ (l : List ℕ). length l) e)) in omega arith)) d in
    sym (right params (declared_locals runs) local le ∙ i.0 lt)

pub lacks : (params : List ValType) (runs : List LocalRun) (ends : List ℕ) (local at : ℕ) (d : LocalRun) → ends ≡ ends_of 0 runs → length params ≤ local → at ≤ length ends → length runs ≤ at → (0 < at → get_or ends (at - 1) 0 ≤ local - length params)
    → None ≡ slice_get (params ++ declared_locals runs) local
lacks params runs ends local at d e le within past b =
    let i = in_run 0 (local - length params) at runs (omega (arith, within, same_ends 0 runs, ap (λ (l : List ℕ). length l) e)) (λ p q. subst (λ (l : List ℕ). get_or l p 0 ≤ 0 + (local - length params)) e (let g = earlier ends at (local - length params) b p q in omega arith))
    (λ l. absurd (omega (arith, l, past))) d in
    sym (right params (declared_locals runs) local le ∙ i.1 past)

-- ---- putting the ends

ends_push : (before : ℕ) (runs : List LocalRun) (run : LocalRun) → ends_of before (runs ++ run ∷ []) ≡ ends_of before runs ++ (before + count_of_locals runs + run.count) ∷ []
ends_push before [] run = ap (λ (n : ℕ). n ∷ []) (omega arith)
ends_push before (first ∷ runs) run =
    ap (λ (l : List ℕ). (before + first.count) ∷ l) (ends_push (before + first.count) runs run
    ∙ ap (λ (n : ℕ). ends_of (before + first.count) runs ++ n ∷ []) (omega (arith, sum_by-cons (λ (run : LocalRun). run.count) first runs)))

pub count_pushed : (runs : List LocalRun) (k : ℕ) (d : LocalRun) → k < length runs → count_of_locals (take k runs) + (get_or runs k d).count ≡ count_of_locals (take (k + 1) runs)
count_pushed runs k d lt = sym (ap count_of_locals (take_more runs k d lt) ∙ sum_by_push (λ (run : LocalRun). run.count) (take k runs) (get_or runs k d))

pub ends_pushed : (runs : List LocalRun) (k : ℕ) (d : LocalRun) → k < length runs → ends_of 0 (take k runs) ++ (count_of_locals (take k runs) + (get_or runs k d).count) ∷ [] ≡ ends_of 0 (take (k + 1) runs)
ends_pushed runs k d lt =
    sym (ap (ends_of 0) (take_more runs k d lt) ∙ (ends_push 0 (take k runs) (get_or runs k d) ∙ ap (λ (n : ℕ). ends_of 0 (take k runs) ++ n ∷ []) (omega arith)))

pub count_below : (runs : List LocalRun) (k : ℕ) (d : LocalRun) → k < length runs → count_of_locals (take k runs) + (get_or runs k d).count ≤ count_of_locals runs
count_below runs k d lt = let a = count_pushed runs k d lt in let b = sum_by-take-drop (λ (run : LocalRun). run.count) runs (k + 1) in omega arith
