-- The value of digits only grows with further digits.
use Rattle.std.proofs.Common.{◌≡◌, ℕ, zero, suc, ◌+◌, ◌*◌, ◌^◌, ◌≤◌, ◌<◌, ◌⊎◌, inl, inr, List, [], ◌∷◌, length, drop, get_or, refl, ap, sym, subst, ◌∙◌, arith, drop-cons, add-one}
use Rattle.std.proofs.lemmas.Bool.{cases_lt}
use Rattle.std.proofs.lemmas.List.{drop_all}
use Rattle.std.proofs.Math.Nat.{mul-suc}
use Rattle.std.specs.Char.{digit_value}
use Rattle.std.specs.Str.Parse.{digits_value_after}
use Rattle.cm_tree.specs.Pieces.{Text}

times_more : (n radix : ℕ) → 1 ≤ radix → n ≤ n * radix
times_more n zero some = absurd (omega arith)
times_more n (suc radix) some = rw (mul-suc n radix) (omega arith)

grows : (radix n : ℕ) (digits : Text) → 1 ≤ radix → n ≤ digits_value_after radix n digits
grows radix n [] some = omega arith
grows radix n (digit ∷ digits) some = let more = grows radix (n * radix + digit_value digit) digits some in omega (arith, more, times_more n radix some)

pub at_least : (m n : ℕ) → ¬ (m < n) → n ≤ m
at_least m n not_below = by_cases (cases_lt m n) where
  by_cases : (m < n) ⊎ (n ≤ m) → n ≤ m
  by_cases (inl below) = absurd (not_below below)
  by_cases (inr le) = le

-- one digit more
pub value_step : (radix n at : ℕ) (digits : Text) → at < length digits → digits_value_after radix n (drop at digits) ≡ digits_value_after radix (n * radix + digit_value (get_or digits at 0)) (drop (at + 1) digits)
value_step radix n at digits within = let rest : drop at digits ≡ get_or digits at 0 ∷ drop (at + 1) digits = rw add-one (drop-cons digits at 0 within) in rw rest refl

pub value_large : (radix n at most : ℕ) (digits : Text) → 1 ≤ radix → at < length digits → most ≤ n * radix + digit_value (get_or digits at 0) → most ≤ digits_value_after radix n (drop at digits)
value_large radix n at most digits some within large = rw (value_step radix n at digits within) (let more = grows radix (n * radix + digit_value (get_or digits at 0)) (drop (at + 1) digits) some in omega arith)

pub value_end : (radix n at : ℕ) (digits : Text) → length digits ≤ at → digits_value_after radix n (drop at digits) ≡ n
value_end radix n at digits le = rw (drop_all at digits le) refl
