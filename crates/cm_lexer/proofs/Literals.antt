-- Numbers: what is read of letters, digits and `_` behind a digit is the number that they write.
use Rattle.std.proofs.Common.{◌≡◌, ℕ, zero, suc, ◌+◌, ◌≤◌, ◌<◌, ◌&&◌, ◌||◌, ◌==◌, ◌⊎◌, inl, inr, Bool, true, false, not, cond, List, [], ◌∷◌, ◌++◌, length, take, drop, Option, Some, None, refl, ap, sym, subst, ◌∙◌, arith, slice_index, length-append, append_assoc, nat_lt, le_refl}
use Rattle.std.specs.Char.{is_ascii_digit, digit_value}
use Rattle.std.specs.List.{prefix_len}
use Rattle.std.specs.Str.Parse.{IsNumeral, AllDigits, digits_value}
use Rattle.std.proofs.lemmas.Bool.{eqb-true, eqb-false, lt-ltb, le-ltb, ltb-true, ltb-false}
use Rattle.std.proofs.lemmas.List.{take_at, drop_at, take-append-drop, length-take-le, take_all}
use Rattle.cm_base.specs.declared.cause.Cause.TheVariants.{BadLiteral, LiteralSize}
use Rattle.cm_tree.specs.declared.token.TokenKind.{TokenKind}
use Rattle.cm_tree.specs.Pieces.{Text, Passes, entry, is_word_byte, prefixes, suffixes, Suffix, Unmarked, Literal, IsLiteral, limit, number_of, BeginsWithDigit, IsPiece, number_literal, large_literal, Piece, Token, Fault}
use Rattle.cm_lexer.specs.Scan.{is_digit, sized, by_size, by_suffix, literal_piece, word_literal, tail_len}
use Rattle.cm_lexer.proofs.Runs.{both, run_append, run_passes, run_within, passes_append, passes_weaker, not_true}
use Rattle.cm_lexer.proofs.Closing.{first_of}
use Rattle.cm_lexer.proofs.Digits.{digit_word_byte, digit_ascii, more_digits, passes_digits, digits_passes, prefix_cases, IsSuffixText, suffix_is, no_run, long_enough}

-- ---- digits and a suffix are read

pub some_length : (n : ℕ) → 1 ≤ n → (n == 0) ≡ false
some_length n some = not_true (n == 0) (λ e. absurd (omega (arith, eqb-true n 0 e)))

piece_reads : (radix : ℕ) (digits after : Text) (suffix : Suffix) → radix ≤ 16 → IsNumeral radix digits → entry suffixes after ≡ Some suffix
    → literal_piece radix (digits ++ after) ≡ by_size (sized (record { radix = radix; value = digits_value radix digits; suffix = suffix }))
unfolding literal_piece
piece_reads radix digits after suffix le numeral is =
    let run : prefix_len (is_digit radix) (digits ++ after) ≡ length digits =
    omega (arith, run_append (is_digit radix) digits after (passes_digits radix digits numeral.1), no_run radix le after (suffix_is after suffix is).no_digit) in
    rw (run, some_length (length digits) numeral.0, take_at digits after (length digits) refl, drop_at digits after (length digits) refl, is) refl

hex_reads : (text : Text) → word_literal (48 ∷ 120 ∷ text) ≡ literal_piece 16 text
unfolding word_literal
hex_reads text = refl

binary_reads : (text : Text) → word_literal (48 ∷ 98 ∷ text) ≡ literal_piece 2 text
unfolding word_literal
binary_reads text = refl

and_false : (a b : Bool) → b ≡ false → (a && b) ≡ false
and_false true b is = is
and_false false b is = refl

decimal_reads : (text : Text) → (slice_index text 1 == 120) ≡ false → (slice_index text 1 == 98) ≡ false → word_literal text ≡ literal_piece 10 text
unfolding word_literal
decimal_reads text no_x no_b = rw (and_false (slice_index text 0 == 48) (slice_index text 1 == 120) no_x, and_false (slice_index text 0 == 48) (slice_index text 1 == 98) no_b) refl

digit_no_x : (byte : ℕ) → is_digit 10 byte ≡ true → ((byte == 120) ≡ false) × ((byte == 98) ≡ false)
digit_no_x byte is = let ascii = digit_ascii byte is in (grind arith, grind arith)

-- no prefix goes on behind decimal digits
second_of : (digits after : Text) → IsNumeral 10 digits → IsSuffixText after → ((slice_index (digits ++ after) 1 == 120) ≡ false) × ((slice_index (digits ++ after) 1 == 98) ≡ false)
second_of [] after numeral is = absurd (omega (arith, numeral.0))
second_of (first ∷ []) after numeral is = (is.no_x, not_true _ (λ e. let b : slice_index after 0 ≡ 98 = eqb-true (slice_index after 0) 98 e in let digit : is_digit 16 98 ≡ false = subst (λ (n : ℕ). is_digit 16 n ≡ false) b is.no_digit in absurd (cc)))
second_of (first ∷ next ∷ digits) after numeral is = digit_no_x next (passes_digits 10 (first ∷ next ∷ digits) numeral.1).1.0

pub literal_reads : (text : Text) (l : Literal) → IsLiteral l text → word_literal text ≡ by_size (sized l)
literal_reads text l is = by_prefix (prefix_cases is.before l.radix is.marked) where
  same : (radix : ℕ) → l.radix ≡ radix → IsNumeral radix is.digits × (by_size (sized (record { radix = radix; value = digits_value radix is.digits; suffix = l.suffix })) ≡ by_size (sized l))
  same radix e = (
    subst (λ (r : ℕ). IsNumeral r is.digits) e is.numeral,
    ap (λ (x : Literal). by_size (sized x)) (subst (λ (r : ℕ). ◌≡◌ {A = Literal} (record { radix = r; value = digits_value r is.digits; suffix = l.suffix }) l) e (ap (λ (v : ℕ). record { radix = l.radix; value = v; suffix = l.suffix }) (sym is.value))),
  )

  by_prefix : ((is.before ≡ []) × (l.radix ≡ 10)) ⊎ (((is.before ≡ (48 ∷ 120 ∷ [])) × (l.radix ≡ 16)) ⊎ ((is.before ≡ (48 ∷ 98 ∷ [])) × (l.radix ≡ 2))) → word_literal text ≡ by_size (sized l)
  by_prefix (inl decimal) =
      let whole : text ≡ is.digits ++ is.after = is.is ∙ ap (λ (b : Text). b ++ (is.digits ++ is.after)) decimal.0 in
      let parts = same 10 decimal.1 in
      let second = second_of is.digits is.after parts.0 (suffix_is is.after l.suffix is.ends) in
      ap word_literal whole ∙ decimal_reads (is.digits ++ is.after) second.0 second.1 ∙ piece_reads 10 is.digits is.after l.suffix (omega arith) parts.0 is.ends ∙ parts.1
  by_prefix (inr (inl hex)) =
      let whole : text ≡ 48 ∷ 120 ∷ (is.digits ++ is.after) = is.is ∙ ap (λ (b : Text). b ++ (is.digits ++ is.after)) hex.0 in
      let parts = same 16 hex.1 in
      ap word_literal whole ∙ hex_reads (is.digits ++ is.after) ∙ piece_reads 16 is.digits is.after l.suffix (omega arith) parts.0 is.ends ∙ parts.1
  by_prefix (inr (inr binary)) =
      let whole : text ≡ 48 ∷ 98 ∷ (is.digits ++ is.after) = is.is ∙ ap (λ (b : Text). b ++ (is.digits ++ is.after)) binary.0 in
      let parts = same 2 binary.1 in
      ap word_literal whole ∙ binary_reads (is.digits ++ is.after) ∙ piece_reads 2 is.digits is.after l.suffix (omega arith) parts.0 is.ends ∙ parts.1

-- ---- what is read is a number

-- what is read is no number, or this one
pub record Reads (text : Text) (piece : Piece) : Type 0 where
  pub literal : Literal
  pub is : IsLiteral literal text
  pub reads : piece ≡ by_size (sized literal)

piece_is : (radix : ℕ) (before text : Text) → entry prefixes before ≡ Some radix → (literal_piece radix text ≡ Fault BadLiteral 0) ⊎ Reads (before ++ text) (literal_piece radix text)
unfolding literal_piece
piece_is radix before text marked = by_zero (prefix_len (is_digit radix) text == 0) refl (entry suffixes (drop (prefix_len (is_digit radix) text) text)) refl where
  by_zero : (b : Bool) → (prefix_len (is_digit radix) text == 0) ≡ b → (o : Option Suffix) → entry suffixes (drop (prefix_len (is_digit radix) text) text) ≡ o
      → (cond b (Fault BadLiteral 0) (by_suffix radix (digits_value radix (take (prefix_len (is_digit radix) text) text)) o) ≡ Fault BadLiteral 0)
      ⊎ Reads (before ++ text) (cond b (Fault BadLiteral 0) (by_suffix radix (digits_value radix (take (prefix_len (is_digit radix) text) text)) o))
  by_zero true none o is = inl refl
  by_zero false some None is = inl refl
  by_zero false some (Some suffix) is =
      let n = prefix_len (is_digit radix) text in
      inr (record {
        literal = record { radix = radix; value = digits_value radix (take n text); suffix = suffix };
        is = record {
          before = before;
          digits = take n text;
          after = drop n text;
          is = ap (λ (t : Text). before ++ t) (sym (take-append-drop n text));
          marked = marked;
          numeral = (omega (arith, eqb-false n 0 some, length-take-le n text (run_within (is_digit radix) text)), digits_passes radix (take n text) (run_passes (is_digit radix) text));
          value = refl;
          ends = is;
        };
        reads = refl;
      })

pub no_prefix : entry prefixes [] ≡ Some 10
unfolding prefixes
no_prefix = refl

pub no_suffix : entry suffixes [] ≡ Some Unmarked
unfolding suffixes
no_suffix = refl

hex_prefix : entry prefixes (48 ∷ 120 ∷ []) ≡ Some 16
unfolding prefixes
hex_prefix = refl

binary_prefix : entry prefixes (48 ∷ 98 ∷ []) ≡ Some 2
unfolding prefixes
binary_prefix = refl

two_of : (text : Text) (a b : ℕ) → slice_index text 0 ≡ suc a → slice_index text 1 ≡ suc b → text ≡ suc a ∷ suc b ∷ drop 2 text
two_of [] a b first second = absurd (omega arith)
two_of (x ∷ []) a b first second = absurd (omega arith)
two_of (x ∷ y ∷ text) a b first second = ap (λ (n : ℕ). n ∷ y ∷ text) first ∙ ap (λ (n : ℕ). suc a ∷ n ∷ text) second

pub word_literal_is : (text : Text) → (word_literal text ≡ Fault BadLiteral 0) ⊎ Reads text (word_literal text)
unfolding word_literal
word_literal_is text = by_hex (slice_index text 0 == 48 && slice_index text 1 == 120) refl (slice_index text 0 == 48 && slice_index text 1 == 98) refl where
  along : (before : Text) (radix : ℕ) (rest : Text) → text ≡ before ++ rest → entry prefixes before ≡ Some radix → (literal_piece radix rest ≡ Fault BadLiteral 0) ⊎ Reads text (literal_piece radix rest)
  along before radix rest e marked = subst (λ (t : Text). (literal_piece radix rest ≡ Fault BadLiteral 0) ⊎ Reads t (literal_piece radix rest)) (sym e) (piece_is radix before rest marked)

  by_hex : (b : Bool) → (slice_index text 0 == 48 && slice_index text 1 == 120) ≡ b → (c : Bool) → (slice_index text 0 == 48 && slice_index text 1 == 98) ≡ c
      → (cond b (literal_piece 16 (drop 2 text)) (cond c (literal_piece 2 (drop 2 text)) (literal_piece 10 text)) ≡ Fault BadLiteral 0)
      ⊎ Reads text (cond b (literal_piece 16 (drop 2 text)) (cond c (literal_piece 2 (drop 2 text)) (literal_piece 10 text)))
  by_hex true hex c binary =
      let parts = both (slice_index text 0 == 48) (slice_index text 1 == 120) hex in
      along (48 ∷ 120 ∷ []) 16 (drop 2 text) (two_of text 47 119 (eqb-true _ 48 parts.0) (eqb-true _ 120 parts.1)) hex_prefix
  by_hex false hex true binary =
      let parts = both (slice_index text 0 == 48) (slice_index text 1 == 98) binary in
      along (48 ∷ 98 ∷ []) 2 (drop 2 text) (two_of text 47 97 (eqb-true _ 48 parts.0) (eqb-true _ 98 parts.1)) binary_prefix
  by_hex false hex false binary = along [] 10 text refl no_prefix

-- ---- the piece of a number

pub sized_piece : (text : Text) (l : Literal) → IsLiteral l text → IsPiece (by_size (sized l)) text
sized_piece text l is = by_limit (nat_lt l.value (limit l.radix l.suffix)) refl where
  by_limit : (b : Bool) → nat_lt l.value (limit l.radix l.suffix) ≡ b → IsPiece (by_size (cond b (Some (number_of l)) None)) text
  by_limit true below = number_literal text l is (ltb-true l.value (limit l.radix l.suffix) below)
  by_limit false above = large_literal text l is (ltb-false l.value (limit l.radix l.suffix) above)

pub sized_below : (l : Literal) → l.value < limit l.radix l.suffix → by_size (sized l) ≡ Token (number_of l)
sized_below l below = rw (lt-ltb l.value (limit l.radix l.suffix) below) refl

pub sized_above : (l : Literal) → limit l.radix l.suffix ≤ l.value → by_size (sized l) ≡ Fault LiteralSize 0
sized_above l above = rw (le-ltb l.value (limit l.radix l.suffix) above) refl

pub sized_good : (l : Literal) → ¬ (by_size (sized l) ≡ Fault BadLiteral 0)
sized_good l = by_limit (nat_lt l.value (limit l.radix l.suffix)) where
  by_limit : (b : Bool) → ¬ (by_size (cond b (Some (number_of l)) None) ≡ Fault BadLiteral 0)
  by_limit true e = absurd (cc)
  by_limit false e = absurd (cc)

-- ---- a number begins with a digit, and makes no floating-point number

digits_word : (radix : ℕ) → radix ≤ 16 → (digits : Text) → AllDigits radix digits → Passes is_word_byte digits
digits_word radix le digits all = passes_weaker (is_digit radix) is_word_byte (λ byte is. digit_word_byte byte (more_digits radix le byte is)) digits (passes_digits radix digits all)

-- how long the tail behind the decimal digits is
abbrev pub tail_at : Text → ℕ
tail_at text = tail_len (drop (prefix_len (is_digit 10) text) text)

tail_hex : (text : Text) → tail_at (48 ∷ 120 ∷ text) ≡ 0
unfolding tail_len
tail_hex text = refl

tail_binary : (text : Text) → tail_at (48 ∷ 98 ∷ text) ≡ 0
unfolding tail_len
tail_binary text = refl

tail_decimal : (digits after : Text) → IsNumeral 10 digits → IsSuffixText after → tail_at (digits ++ after) ≡ 0
tail_decimal digits after numeral is =
    let run : prefix_len (is_digit 10) (digits ++ after) ≡ length digits = omega (arith, run_append (is_digit 10) digits after (passes_digits 10 digits numeral.1), no_run 10 (omega arith) after is.no_digit) in
    rw (run, drop_at digits after (length digits) refl) is.no_tail

begins : (digits after : Text) → IsNumeral 10 digits → Passes is_word_byte after → BeginsWithDigit (digits ++ after)
begins [] after numeral word = absurd (omega (arith, numeral.0))
begins (digit ∷ digits) after numeral word =
    let all = passes_digits 10 (digit ∷ digits) numeral.1 in
    (digit_ascii digit all.0, passes_append is_word_byte digits after (digits_word 10 (omega arith) digits numeral.1.1) word)

pub record IsPlainNumber (text : Text) : Type 0 where
  pub begins : BeginsWithDigit text
  pub no_tail : tail_at text ≡ 0

pub literal_plain : (text : Text) (l : Literal) → IsLiteral l text → IsPlainNumber text
literal_plain text l is = by_prefix (prefix_cases is.before l.radix is.marked) where
  suffix : IsSuffixText is.after
  suffix = suffix_is is.after l.suffix is.ends

  by_prefix : ((is.before ≡ []) × (l.radix ≡ 10)) ⊎ (((is.before ≡ (48 ∷ 120 ∷ [])) × (l.radix ≡ 16)) ⊎ ((is.before ≡ (48 ∷ 98 ∷ [])) × (l.radix ≡ 2))) → IsPlainNumber text
  by_prefix (inl decimal) =
      let whole : text ≡ is.digits ++ is.after = is.is ∙ ap (λ (b : Text). b ++ (is.digits ++ is.after)) decimal.0 in
      let numeral : IsNumeral 10 is.digits = subst (λ (r : ℕ). IsNumeral r is.digits) decimal.1 is.numeral in
      subst (λ (t : Text). IsPlainNumber t) (sym whole) (record { begins = begins is.digits is.after numeral suffix.word; no_tail = tail_decimal is.digits is.after numeral suffix })
  by_prefix (inr (inl hex)) =
      let whole : text ≡ 48 ∷ 120 ∷ (is.digits ++ is.after) = is.is ∙ ap (λ (b : Text). b ++ (is.digits ++ is.after)) hex.0 in
      let numeral : IsNumeral 16 is.digits = subst (λ (r : ℕ). IsNumeral r is.digits) hex.1 is.numeral in
      subst (λ (t : Text). IsPlainNumber t) (sym whole) (record { begins = (refl, (refl, passes_append is_word_byte is.digits is.after (digits_word 16 (omega arith) is.digits numeral.1) suffix.word)); no_tail = tail_hex (is.digits ++ is.after) })
  by_prefix (inr (inr binary)) =
      let whole : text ≡ 48 ∷ 98 ∷ (is.digits ++ is.after) = is.is ∙ ap (λ (b : Text). b ++ (is.digits ++ is.after)) binary.0 in
      let numeral : IsNumeral 2 is.digits = subst (λ (r : ℕ). IsNumeral r is.digits) binary.1 is.numeral in
      subst (λ (t : Text). IsPlainNumber t) (sym whole) (record { begins = (refl, (refl, passes_append is_word_byte is.digits is.after (digits_word 2 (omega arith) is.digits numeral.1) suffix.word)); no_tail = tail_binary (is.digits ++ is.after) })
