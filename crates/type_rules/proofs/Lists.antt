-- Blocks of scalars and lists of values, step by step.
use Rattle.std.specs.Prelude.{◌≡◌, refl, ℕ, zero, suc, ◌-◌, ◌<◌, List, [], ◌∷◌, ◌++◌, length}
use Rattle.std.proofs.Common.{ap, ◌∙◌, arith}
use Rattle.std.proofs.lemmas.List.{append_assoc, append-nil}
use Rattle.cm_meaning.specs.Types.{times, Value, Then, NoValues, copies}

pub times-nil : {A : Type 0} (n : ℕ) (xs : List A) → length xs ≡ 0 → times n xs ≡ []
unfolding times
times-nil zero xs h = refl
times-nil (suc n) [] h = times-nil n [] h
times-nil (suc n) (x ∷ xs) h = absurd (omega (arith, h))

pub times-none : {A : Type 0} (n : ℕ) (xs : List A) → n ≡ 0 → times n xs ≡ []
unfolding times
times-none zero xs h = refl
times-none (suc n) xs h = absurd (omega (arith, h))

pub times-step : {A : Type 0} (n : ℕ) (xs : List A) → 0 < n → times n xs ≡ xs ++ times (n - 1) xs
unfolding times
times-step zero xs h = absurd (omega (arith, h))
times-step (suc n) xs h = let e : suc n - 1 ≡ n = omega arith in rw e refl

pub copies-none : (n : ℕ) (v : Value) → n ≡ 0 → copies n v ≡ NoValues
unfolding copies
copies-none zero v h = refl
copies-none (suc n) v h = absurd (omega (arith, h))

pub copies-step : (n : ℕ) (v : Value) → 0 < n → copies n v ≡ Then v (copies (n - 1) v)
unfolding copies
copies-step zero v h = absurd (omega (arith, h))
copies-step (suc n) v h = let e : suc n - 1 ≡ n = omega arith in rw e refl

pub ruleset blocks = (append_assoc, append-nil, times-nil, times-none, times-step)

pub ruleset joined = (append_assoc, append-nil)

pub ruleset counted_copies = (copies-none, copies-step)
