-- What is prepared of functions, one after another.
use Rattle.std.proofs.Common.{◌≡◌, ◌<◌, ◌≤◌, ◌+◌, ℕ, zero, suc, List, [], ◌∷◌, ◌++◌, length, get_or, take, Some, refl, sym, ap, ◌∙◌, subst, arith, inl, inr}
use Rattle.std.specs.Prelude.{slice_get, replicate}
use Rattle.std.specs.List.{AllByRecursion}
use Rattle.std.proofs.lemmas.Bool.{cases_lt}
use Rattle.std.proofs.lemmas.List.{length-replicate, take_more, length-append}
use Rattle.std.proofs.lemmas.List.Sums.{sum_by-cons, sum_by_push, sum_by-take-drop}
use Rattle.std.proofs.lemmas.Option.{slice_get_within, slice_get-get_or}
use Rattle.wasm_tree.specs.Spelled.{count_of_locals}
use Rattle.wasm_tree.specs.declared.module.LocalRun.{LocalRun}
use Rattle.wasm_tree.specs.declared.module.FuncBody.{FuncBody}
use Rattle.wasm_tree.specs.declared.module.Module.{Module}
use Rattle.wasm_tree.specs.Numbers.{declared_locals}
use Rattle.wasm_tree.specs.Section.{CmajorSection}
use Rattle.wasm_tree.specs.Valid.{Valid, IsBodyWithinLimits}
use Rattle.wasm_runner.specs.declared.function.Function.{Function}
use Rattle.wasm_runner.specs.Prepared.{IsFunctionOf, ArePrepared}
use Rattle.wasm_runner.proofs.Modules as M

-- ---- locals

pub count_more : (runs : List LocalRun) (i : ℕ) (run : LocalRun) → i < length runs → run ≡ get_or runs i run → count_of_locals (take (i + 1) runs) ≡ count_of_locals (take i runs) + run.count
count_more runs i run h e = ap count_of_locals (take_more runs i run h) ∙ ap (λ (x : LocalRun). count_of_locals (take i runs ++ x ∷ [])) (sym e) ∙ sum_by_push (λ (run : LocalRun). run.count) (take i runs) run

pub count_below : (runs : List LocalRun) (i : ℕ) → count_of_locals (take i runs) ≤ count_of_locals runs
count_below runs i = let s = sum_by-take-drop (λ (run : LocalRun). run.count) runs i in omega arith

count_is : (runs : List LocalRun) → count_of_locals runs ≡ length (declared_locals runs)
count_is [] = refl
count_is (run ∷ runs) =
    let s = sum_by-cons (λ (run : LocalRun). run.count) run runs in
    let r = count_is runs in
    let a = length-append (replicate run.count run.ty) (declared_locals runs) in
    let n = length-replicate run.count run.ty in
    omega arith

pub count_whole : (runs : List LocalRun) (i : ℕ) → length runs ≤ i → count_of_locals (take i runs) ≡ length (declared_locals runs)
count_whole runs i h = ap count_of_locals (Rattle.std.proofs.lemmas.List.take_all i runs h) ∙ count_is runs

-- ---- functions

pub all_here : {A : Type 0} (P : A → Type 0) (l : List A) (i : ℕ) (x : A) → AllByRecursion P l → slice_get l i ≡ Some x → P x
all_here P [] zero x h e = absurd (cc)
all_here P [] (suc i) x h e = absurd (cc)
all_here P (y ∷ ys) zero x h e = let same : y ≡ x = cc in subst P same h.0
all_here P (y ∷ ys) (suc i) x h e = all_here P ys i x h.1 e

first_part : {A : Type 0} (xs ys : List A) (k : ℕ) → k < length xs → slice_get (xs ++ ys) k ≡ slice_get xs k
first_part [] ys k lt = absurd (omega (arith, lt))
first_part (x ∷ xs) ys zero lt = refl
first_part (x ∷ xs) ys (suc k) lt = first_part xs ys k (omega (arith, lt))

at_seam : {A : Type 0} (xs : List A) (x : A) → slice_get (xs ++ x ∷ []) (length xs) ≡ Some x
at_seam [] x = refl
at_seam (y ∷ ys) x = at_seam ys x

-- the first of the module's own functions are prepared
pub record AreFirst (m : Module) (functions : List Function) (count : ℕ) : Type 0 where
  pub many : length functions ≡ count
  pub each : (n type : ℕ) (body : FuncBody) → n < count → slice_get m.functions n ≡ Some type → slice_get m.codes n ≡ Some body →
      (function : Function) × (slice_get functions n ≡ Some function) × IsFunctionOf m type body function

pub none_first : (m : Module) → AreFirst m [] 0
none_first m = record { many = refl; each = λ n type body h e g. absurd (omega arith) }

pub one_more : (m : Module) (functions : List Function) (count type : ℕ) (body : FuncBody) (function : Function) → AreFirst m functions count →
    slice_get m.functions count ≡ Some type → slice_get m.codes count ≡ Some body → IsFunctionOf m type body function → AreFirst m (functions ++ function ∷ []) (count + 1)
one_more m functions count type body function f e g is =
    let many = f.many in
    let one : length (function ∷ []) ≡ 1 = refl in
    let a = length-append functions (function ∷ []) in
    record { many = omega arith; each = each }
  where
    each : (n t : ℕ) (b : FuncBody) → n < count + 1 → slice_get m.functions n ≡ Some t → slice_get m.codes n ≡ Some b →
        (found : Function) × (slice_get (functions ++ function ∷ []) n ≡ Some found) × IsFunctionOf m t b found
    each n t b l h k = elim (cases_lt n count) [
      | inl w ↦
          let q = f.each n t b w h k in
          let many = f.many in
          (q.0, first_part functions (function ∷ []) n (omega arith) ∙ q.1, q.2)
      | inr w ↦
          let many = f.many in
          let same : n ≡ count = omega arith in
          let last : length functions ≡ n = omega arith in
          let t_is : type ≡ t = let x : Some type ≡ Some t = sym e ∙ sym (ap (slice_get m.functions) same) ∙ h in cc in
          let b_is : body ≡ b = let x : Some body ≡ Some b = sym g ∙ sym (ap (slice_get m.codes) same) ∙ k in cc in
          (function, sym (ap (slice_get (functions ++ function ∷ [])) last) ∙ at_seam functions function, subst (λ b. IsFunctionOf m t b function) b_is (subst (λ t. IsFunctionOf m t body function) t_is is))
    ]

pub all_prepared : (m : Module) (functions : List Function) (count : ℕ) → length m.functions ≤ count → AreFirst m functions count → ArePrepared m functions
all_prepared m functions count h f = λ n type body e g. let w = slice_get_within m.functions n type e in f.each n type body (omega arith) e g

module _ (m : Module) (section : CmajorSection) (v : Valid m section) where
  pub bodies_there : length m.codes ≡ length m.functions
  bodies_there = (M.as_many m m.functions m.codes v.typing.bodies).0

  pub type_there : (n : ℕ) (type : ℕ) → slice_get m.functions n ≡ Some type → type < length m.types
  type_there n type e = all_here (λ type. type < length m.types) m.functions n type v.index.functions e

  pub few_locals : (n : ℕ) (body : FuncBody) → slice_get m.codes n ≡ Some body → count_of_locals body.locals ≤ 65536
  few_locals n body e = (all_here IsBodyWithinLimits m.codes n body v.limit.bodies e).locals

-- ---- what is read

pub body_at : (bodies codes : List FuncBody) (i : ℕ) (r : FuncBody) → bodies ≡ codes → i < length codes → r ≡ get_or bodies i r → slice_get codes i ≡ Some r
body_at bodies codes i r e h g = slice_get-get_or codes i r h ∙ ap Some (ap (λ l. get_or l i r) (sym e) ∙ sym g)

pub type_at_place : (types numbers : List ℕ) (i : ℕ) → types ≡ numbers → i < length types → slice_get numbers i ≡ Some (get_or types i 0)
type_at_place types numbers i e h = ap (λ l. slice_get l i) (sym e) ∙ slice_get-get_or types i 0 h
