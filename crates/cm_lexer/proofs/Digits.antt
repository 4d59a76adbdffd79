-- Numbers: digits, prefixes, suffixes, and what makes a floating-point number.
use Rattle.std.proofs.Common.{◌≡◌, ℕ, zero, suc, ◌+◌, ◌≤◌, ◌<◌, ◌&&◌, ◌||◌, ◌==◌, ◌⊎◌, inl, inr, Bool, true, false, not, cond, List, [], ◌∷◌, ◌++◌, length, take, drop, Option, Some, None, refl, ap, sym, subst, ◌∙◌, arith, slice_index, length-append, append_assoc, codes, nat_lt}
use Rattle.std.specs.Char.{is_ascii_digit, digit_value}
use Rattle.std.specs.List.{prefix_len, list_all}
use Rattle.std.specs.Str.{bytes_eq}
use Rattle.std.specs.Str.Parse.{IsNumeral, AllDigits}
use Rattle.std.proofs.lemmas.Bool.{eqb-true, lt-ltb, ltb-true}
use Rattle.std.proofs.lemmas.Bool.Decides.{nat_tests}
use Rattle.cm_tree.specs.Pieces.{Text, Passes, entry, is_space, is_letter, is_word_byte, prefixes, suffixes, Suffix, IsFloatTail, point, exponent, signed_exponent, letter, spaced_letter}
use Rattle.cm_lexer.specs.Scan.{is_digit, tail_len}
use Rattle.cm_lexer.proofs.Runs.{both, same_bytes, entry_passes, passes_all, is_not}

-- ---- digits

pub digit_word_byte : (byte : ℕ) → is_digit 16 byte ≡ true → is_word_byte byte ≡ true
digit_word_byte byte is = grind (arith, nat_tests)

pub digit_ascii : (byte : ℕ) → is_digit 10 byte ≡ true → is_ascii_digit byte ≡ true
digit_ascii byte is = grind (arith, nat_tests)

pub ascii_digit : (byte : ℕ) → is_ascii_digit byte ≡ true → is_digit 10 byte ≡ true
ascii_digit byte is = grind (arith, nat_tests)

pub more_digits : (radix : ℕ) → radix ≤ 16 → (byte : ℕ) → is_digit radix byte ≡ true → is_digit 16 byte ≡ true
more_digits radix le byte is = let low : digit_value byte < radix = ltb-true (digit_value byte) radix is in lt-ltb (digit_value byte) 16 (omega arith)

pub passes_digits : (radix : ℕ) (digits : Text) → AllDigits radix digits → Passes (is_digit radix) digits
passes_digits radix [] all = tt
passes_digits radix (byte ∷ digits) all = (lt-ltb (digit_value byte) radix all.0, passes_digits radix digits all.1)

pub digits_passes : (radix : ℕ) (digits : Text) → Passes (is_digit radix) digits → AllDigits radix digits
digits_passes radix [] passes = tt
digits_passes radix (byte ∷ digits) passes = (ltb-true (digit_value byte) radix passes.0, digits_passes radix digits passes.1)

-- ---- prefixes

pub prefix_cases : (before : Text) (radix : ℕ) → entry prefixes before ≡ Some radix
    → ((before ≡ []) × (radix ≡ 10)) ⊎ (((before ≡ (48 ∷ 120 ∷ [])) × (radix ≡ 16)) ⊎ ((before ≡ (48 ∷ 98 ∷ [])) × (radix ≡ 2)))
unfolding prefixes
prefix_cases before radix is = by_test (bytes_eq [] before) refl (bytes_eq (48 ∷ 120 ∷ []) before) refl (bytes_eq (48 ∷ 98 ∷ []) before) refl is where
  by_test : (a : Bool) → bytes_eq [] before ≡ a → (b : Bool) → bytes_eq (48 ∷ 120 ∷ []) before ≡ b → (c : Bool) → bytes_eq (48 ∷ 98 ∷ []) before ≡ c
      → cond a (Some 10) (cond b (Some 16) (cond c (Some 2) None)) ≡ Some radix
      → ((before ≡ []) × (radix ≡ 10)) ⊎ (((before ≡ (48 ∷ 120 ∷ [])) × (radix ≡ 16)) ⊎ ((before ≡ (48 ∷ 98 ∷ [])) × (radix ≡ 2)))
  by_test true first b second c third found = inl (sym (same_bytes [] before first), cc)
  by_test false first true second c third found = inr (inl (sym (same_bytes (48 ∷ 120 ∷ []) before second), cc))
  by_test false first false second true third found = inr (inr (sym (same_bytes (48 ∷ 98 ∷ []) before third), cc))
  by_test false first false second false third found = absurd (cc)

-- ---- suffixes

-- what a suffix is none of: it doesn't begin with a digit or with what ends a prefix, and makes no floating-point number
abbrev is_suffix_text : Text → Bool
is_suffix_text text = not (is_digit 16 (slice_index text 0)) && (not (slice_index text 0 == 120) && ((tail_len text == 0) && list_all is_word_byte text))

suffixes_are : list_all (λ e. is_suffix_text e.0) suffixes ≡ true
unfolding suffixes tail_len
suffixes_are = refl

pub record IsSuffixText (text : Text) : Type 0 where
  pub no_digit : is_digit 16 (slice_index text 0) ≡ false
  pub no_x : (slice_index text 0 == 120) ≡ false
  pub no_tail : tail_len text ≡ 0
  pub word : Passes is_word_byte text

pub suffix_is : (text : Text) (suffix : Suffix) → entry suffixes text ≡ Some suffix → IsSuffixText text
suffix_is text suffix is =
    let all = entry_passes (λ e. is_suffix_text e.0) suffixes text suffix suffixes_are is in
    let first = both (not (is_digit 16 (slice_index text 0))) _ all in
    let second = both (not (slice_index text 0 == 120)) _ first.1 in
    let third = both (tail_len text == 0) (list_all is_word_byte text) second.1 in
    record {
      no_digit = is_not _ first.0;
      no_x = is_not _ second.0;
      no_tail = eqb-true (tail_len text) 0 third.0;
      word = passes_all is_word_byte text third.1;
    }

pub no_run : (radix : ℕ) → radix ≤ 16 → (text : Text) → is_digit 16 (slice_index text 0) ≡ false → prefix_len (is_digit radix) text ≡ 0
no_run radix le [] no_digit = refl
no_run radix le (byte ∷ text) no_digit = by_test (is_digit radix byte) refl where
  by_test : (b : Bool) → is_digit radix byte ≡ b → prefix_len (is_digit radix) (byte ∷ text) ≡ 0
  by_test true is = let more = more_digits radix le byte is in absurd (cc)
  by_test false is = rw is refl

-- ---- floating point

tail_point : (digit : ℕ) (left : Text) → is_ascii_digit digit ≡ true → tail_len (46 ∷ digit ∷ left) ≡ 2
unfolding tail_len
tail_point digit left is = rw is refl

tail_exponent : (e digit : ℕ) (left : Text) → (e ≡ 101) ⊎ (e ≡ 69) → is_ascii_digit digit ≡ true → tail_len (e ∷ digit ∷ left) ≡ 2
unfolding tail_len
tail_exponent e digit left (inl small) is = rw (small, is) refl
tail_exponent e digit left (inr capital) is = rw (capital, is) refl

tail_signed : (e sign digit : ℕ) (left : Text) → (e ≡ 101) ⊎ (e ≡ 69) → (sign ≡ 43) ⊎ (sign ≡ 45) → is_ascii_digit digit ≡ true → tail_len (e ∷ sign ∷ digit ∷ left) ≡ 3
unfolding tail_len
tail_signed e sign digit left (inl small) (inl plus) is = rw (small, plus, is) refl
tail_signed e sign digit left (inl small) (inr minus) is = rw (small, minus, is) refl
tail_signed e sign digit left (inr capital) (inl plus) is = rw (capital, plus, is) refl
tail_signed e sign digit left (inr capital) (inr minus) is = rw (capital, minus, is) refl

pub tail_reads : {tail : Text} → IsFloatTail tail → (left : Text) → tail_len (tail ++ left) ≡ length tail
unfolding tail_len
tail_reads (point digit is) left = tail_point digit left is
tail_reads (exponent e digit which is) left = tail_exponent e digit left which is
tail_reads (signed_exponent e sign digit which plus is) left = tail_signed e sign digit left which plus is
tail_reads letter left = refl
tail_reads spaced_letter left = refl

pub tail_some : {tail : Text} → IsFloatTail tail → 1 ≤ length tail
tail_some (point digit is) = omega arith
tail_some (exponent e digit which is) = omega arith
tail_some (signed_exponent e sign digit which plus is) = omega arith
tail_some letter = omega arith
tail_some spaced_letter = omega arith

letter_e : (e : ℕ) → (e ≡ 101) ⊎ (e ≡ 69) → is_digit 10 e ≡ false
letter_e e (inl small) = rw small refl
letter_e e (inr capital) = rw capital refl

-- no digit stands at the front of a tail
pub tail_ends : {tail : Text} → IsFloatTail tail → (left : Text) → prefix_len (is_digit 10) (tail ++ left) ≡ 0
tail_ends (point digit is) left = refl
tail_ends (exponent e digit which is) left = rw (letter_e e which) refl
tail_ends (signed_exponent e sign digit which plus is) left = rw (letter_e e which) refl
tail_ends letter left = refl
tail_ends spaced_letter left = refl

-- ---- the tail that is read

pub long_enough : (text : Text) (n : ℕ) → 0 < slice_index text n → n + 1 ≤ length text
long_enough [] n some = absurd (omega arith)
long_enough (byte ∷ text) zero some = omega arith
long_enough (byte ∷ text) (suc n) some = let h = long_enough text n some in omega (arith, h)

take_one : (text : Text) → 1 ≤ length text → take 1 text ≡ slice_index text 0 ∷ []
take_one [] long = absurd (omega arith)
take_one (a ∷ text) long = refl

take_two : (text : Text) → 2 ≤ length text → take 2 text ≡ slice_index text 0 ∷ slice_index text 1 ∷ []
take_two [] long = absurd (omega arith)
take_two (a ∷ []) long = absurd (omega arith)
take_two (a ∷ b ∷ text) long = refl

take_three : (text : Text) → 3 ≤ length text → take 3 text ≡ slice_index text 0 ∷ slice_index text 1 ∷ slice_index text 2 ∷ []
take_three [] long = absurd (omega arith)
take_three (a ∷ []) long = absurd (omega arith)
take_three (a ∷ b ∷ []) long = absurd (omega arith)
take_three (a ∷ b ∷ c ∷ text) long = refl

digit_some : (byte : ℕ) → is_ascii_digit byte ≡ true → 0 < byte
digit_some byte is = grind arith

is_e : (byte : ℕ) → (byte == 101 || byte == 69) ≡ true → (byte ≡ 101) ⊎ (byte ≡ 69)
is_e byte is = grind arith

is_plus : (byte : ℕ) → (byte == 43 || byte == 45) ≡ true → (byte ≡ 43) ⊎ (byte ≡ 45)
is_plus byte is = grind arith

-- a tail of this length stands at the front
pub record HasTail (text : Text) (n : ℕ) : Type 0 where
  pub within : n ≤ length text
  pub floats : IsFloatTail (take n text)

abbrev NoTailOr : Text → ℕ → Type 0
NoTailOr text n = (n ≡ 0) ⊎ HasTail text n

pub tail_is : (text : Text) → (tail_len text ≡ 0) ⊎ HasTail text (tail_len text)
unfolding tail_len
tail_is text = by_point (first == 46 && is_ascii_digit second) refl where
  first : ℕ
  first = slice_index text 0

  second : ℕ
  second = slice_index text 1

  third : ℕ
  third = slice_index text 2

  by_spaced : (b : Bool) → (slice_index text 0 == 95 && slice_index text 1 == 102) ≡ b → NoTailOr text (cond b 2 0)
  by_spaced true is =
      let parts = both (slice_index text 0 == 95) (slice_index text 1 == 102) is in
      let long : 2 ≤ length text = long_enough text 1 (omega (arith, eqb-true _ 102 parts.1)) in
      let all : take 2 text ≡ 95 ∷ 102 ∷ [] = rw (take_two text long, eqb-true _ 95 parts.0, eqb-true _ 102 parts.1) refl in
      inr (record { within = long; floats = rw all spaced_letter })
  by_spaced false is = inl refl

  by_letter : (b : Bool) → (slice_index text 0 == 102) ≡ b → NoTailOr text (cond b 1 (cond (slice_index text 0 == 95 && slice_index text 1 == 102) 2 0))
  by_letter true is =
      let long : 1 ≤ length text = long_enough text 0 (omega (arith, eqb-true _ 102 is)) in
      let all : take 1 text ≡ 102 ∷ [] = rw (take_one text long, eqb-true _ 102 is) refl in
      inr (record { within = long; floats = rw all letter })
  by_letter false is = by_spaced (slice_index text 0 == 95 && slice_index text 1 == 102) refl

  by_signed : (b : Bool) → (((slice_index text 0 == 101 || slice_index text 0 == 69) && (slice_index text 1 == 43 || slice_index text 1 == 45)) && is_ascii_digit (slice_index text 2)) ≡ b
      → NoTailOr text (cond b 3 (cond (slice_index text 0 == 102) 1 (cond (slice_index text 0 == 95 && slice_index text 1 == 102) 2 0)))
  by_signed true is =
      let parts = both ((slice_index text 0 == 101 || slice_index text 0 == 69) && (slice_index text 1 == 43 || slice_index text 1 == 45)) (is_ascii_digit (slice_index text 2)) is in
      let signs = both (slice_index text 0 == 101 || slice_index text 0 == 69) (slice_index text 1 == 43 || slice_index text 1 == 45) parts.0 in
      let long : 3 ≤ length text = long_enough text 2 (digit_some _ parts.1) in
      inr (record { within = long; floats = rw (take_three text long) (signed_exponent (slice_index text 0) (slice_index text 1) (slice_index text 2) (is_e _ signs.0) (is_plus _ signs.1) parts.1) })
  by_signed false is = by_letter (slice_index text 0 == 102) refl

  by_exponent : (b : Bool) → ((slice_index text 0 == 101 || slice_index text 0 == 69) && is_ascii_digit (slice_index text 1)) ≡ b
      → NoTailOr text (cond b 2 (cond (((slice_index text 0 == 101 || slice_index text 0 == 69) && (slice_index text 1 == 43 || slice_index text 1 == 45)) && is_ascii_digit (slice_index text 2)) 3
      (cond (slice_index text 0 == 102) 1 (cond (slice_index text 0 == 95 && slice_index text 1 == 102) 2 0))))
  by_exponent true is =
      let parts = both (slice_index text 0 == 101 || slice_index text 0 == 69) (is_ascii_digit (slice_index text 1)) is in
      let long : 2 ≤ length text = long_enough text 1 (digit_some _ parts.1) in
      inr (record { within = long; floats = rw (take_two text long) (exponent (slice_index text 0) (slice_index text 1) (is_e _ parts.0) parts.1) })
  by_exponent false is = by_signed (((slice_index text 0 == 101 || slice_index text 0 == 69) && (slice_index text 1 == 43 || slice_index text 1 == 45)) && is_ascii_digit (slice_index text 2)) refl

  by_point : (b : Bool) → (slice_index text 0 == 46 && is_ascii_digit (slice_index text 1)) ≡ b
      → NoTailOr text (cond b 2 (cond ((slice_index text 0 == 101 || slice_index text 0 == 69) && is_ascii_digit (slice_index text 1)) 2
      (cond (((slice_index text 0 == 101 || slice_index text 0 == 69) && (slice_index text 1 == 43 || slice_index text 1 == 45)) && is_ascii_digit (slice_index text 2)) 3
      (cond (slice_index text 0 == 102) 1 (cond (slice_index text 0 == 95 && slice_index text 1 == 102) 2 0)))))
  by_point true is =
      let parts = both (slice_index text 0 == 46) (is_ascii_digit (slice_index text 1)) is in
      let long : 2 ≤ length text = long_enough text 1 (digit_some _ parts.1) in
      let all : take 2 text ≡ 46 ∷ slice_index text 1 ∷ [] = rw (take_two text long, eqb-true _ 46 parts.0) refl in
      inr (record { within = long; floats = rw all (point (slice_index text 1) parts.1) })
  by_point false is = by_exponent ((slice_index text 0 == 101 || slice_index text 0 == 69) && is_ascii_digit (slice_index text 1)) refl
