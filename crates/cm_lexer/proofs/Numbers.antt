-- Numbers: what is read at a digit is the longest piece there.
use Rattle.std.proofs.Common.{◌≡◌, ℕ, zero, suc, ◌+◌, ◌≤◌, ◌<◌, ◌&&◌, ◌||◌, ◌==◌, ◌⊎◌, inl, inr, Bool, true, false, not, cond, List, [], ◌∷◌, ◌++◌, length, take, drop, refl, ap, sym, subst, ◌∙◌, arith, slice_index, length-append, length-drop, append_assoc, append-nil}
use Rattle.std.specs.Char.{is_ascii_digit}
use Rattle.std.specs.List.{prefix_len}
use Rattle.std.specs.Str.Parse.{IsNumeral}
use Rattle.std.proofs.lemmas.Bool.{eqb-true, eqb-false, cases_lt}
use Rattle.std.proofs.lemmas.List.{take_at, drop_at, take-append-drop, take-append-le, drop-append-le, length-take-le, drop-drop}
use Rattle.std.proofs.Math.Seq.{take-add}
use Rattle.cm_base.specs.declared.cause.Cause.TheVariants.{BadLiteral, LiteralSize, Float}
use Rattle.cm_tree.specs.Pieces.{Text, Passes, is_space, is_letter, is_word_byte, Literal, IsLiteral, limit, number_of, IsFloatTail, IsFloat, BeginsWithDigit, IsBadLiteral, IsPiece, float, bad_literal, Piece, Token, Fault}
use Rattle.cm_lexer.specs.Scan.{Found, found, is_digit, sized, by_size, word_literal, tail_len, by_tail, scan, scan_number}
use Rattle.cm_lexer.proofs.Runs.{run_append, run_covers, run_passes, run_within, passes_append, passes_front, passes_rest, passes_weaker}
use Rattle.cm_lexer.proofs.Covering.{Covered, Stands, covered_longer}
use Rattle.cm_lexer.proofs.Digits.{digit_ascii, ascii_digit, digit_word_byte, more_digits, passes_digits, digits_passes, tail_reads, tail_some, tail_ends, HasTail, tail_is}
use Rattle.cm_lexer.proofs.Literals.{some_length, tail_at, literal_reads, Reads, word_literal_is, sized_piece, sized_below, sized_above, sized_good, IsPlainNumber, literal_plain}

digit_no_space : (byte : ℕ) → is_digit 10 byte ≡ true → is_space byte ≡ false
digit_no_space byte is = let ascii = digit_ascii byte is in grind arith

digit_no_slash : (byte : ℕ) → is_digit 10 byte ≡ true → (byte == 47) ≡ false
digit_no_slash byte is = let ascii = digit_ascii byte is in grind arith

digit_no_letter : (byte : ℕ) → is_digit 10 byte ≡ true → is_letter byte ≡ false
digit_no_letter byte is = let ascii = digit_ascii byte is in grind arith

pub scan_digit : (byte : ℕ) (text : Text) → is_digit 10 byte ≡ true → scan (byte ∷ text) ≡ scan_number (byte ∷ text)
unfolding scan
scan_digit byte text is = rw (digit_no_space byte is, digit_no_slash byte is, digit_no_letter byte is, is) refl

-- ---- floating-point numbers

pub float_tail : (text left : Text) → (is : IsFloat text) → (prefix_len (is_digit 10) (text ++ left) ≡ length is.digits) × (drop (length is.digits) (text ++ left) ≡ is.tail ++ (is.after ++ left))
float_tail text left is =
    let whole : text ++ left ≡ is.digits ++ (is.tail ++ (is.after ++ left)) =
    ap (λ (t : Text). t ++ left) is.is ∙ append_assoc is.digits (is.tail ++ is.after) left ∙ ap (λ (t : Text). is.digits ++ t) (append_assoc is.tail is.after left) in (
      ap (prefix_len (is_digit 10)) whole ∙ (let run = run_append (is_digit 10) is.digits (is.tail ++ (is.after ++ left)) (passes_digits 10 is.digits is.numeral.1) in omega (arith, run, tail_ends is.floats (is.after ++ left))),
      ap (drop (length is.digits)) whole ∙ drop_at is.digits (is.tail ++ (is.after ++ left)) (length is.digits) refl,
    )

pub float_tail_at : (text left : Text) → (is : IsFloat text) → tail_at (text ++ left) ≡ length is.tail
float_tail_at text left is =
    let parts = float_tail text left is in
    ap (λ (n : ℕ). tail_len (drop n (text ++ left))) parts.0 ∙ ap tail_len parts.1 ∙ tail_reads is.floats (is.after ++ left)

number_float : (text : Text) (digits tail : ℕ) → prefix_len (is_digit 10) text ≡ digits → tail_len (drop digits text) ≡ tail → (tail == 0) ≡ false
    → scan_number text ≡ found (Fault Float 0) (digits + tail + prefix_len is_word_byte (drop (digits + tail) text))
unfolding scan_number
number_float text digits tail run is some = rw (run, is, some) refl

number_plain : (text : Text) → tail_at text ≡ 0 → scan_number text ≡ found (word_literal (take (prefix_len is_word_byte text) text)) (prefix_len is_word_byte text)
unfolding scan_number
number_plain text none = rw none refl

first_digit : (digits rest : Text) → IsNumeral 10 digits → (byte : ℕ) → (more : Text) → digits ++ rest ≡ byte ∷ more → is_digit 10 byte ≡ true
first_digit [] rest numeral byte more e = absurd (omega (arith, numeral.0))
first_digit (digit ∷ digits) rest numeral byte more e = let same : digit ≡ byte = cc in subst (λ (b : ℕ). is_digit 10 b ≡ true) same (passes_digits 10 (digit ∷ digits) numeral.1).0

scan_number_at : (text left : Text) (digits rest : Text) → text ≡ digits ++ rest → IsNumeral 10 digits → scan (text ++ left) ≡ scan_number (text ++ left)
scan_number_at [] left digits rest e numeral = absurd (omega (arith, numeral.0, ap length e, length-append digits rest))
scan_number_at (byte ∷ text) left digits rest e numeral = scan_digit byte (text ++ left) (first_digit digits rest numeral byte text (sym e))

pub float_covers : (text left : Text) → IsFloat text → Covered (Fault Float 0) (length text) (scan (text ++ left))
float_covers text left is =
    let parts = float_tail text left is in
    let tail : tail_len (drop (length is.digits) (text ++ left)) ≡ length is.tail = ap tail_len parts.1 ∙ tail_reads is.floats (is.after ++ left) in
    let rest : drop (length is.digits + length is.tail) (text ++ left) ≡ is.after ++ left =
    sym (drop-drop (length is.tail) (length is.digits) (text ++ left)) ∙ ap (drop (length is.tail)) parts.1 ∙ drop_at is.tail (is.after ++ left) (length is.tail) refl in
    let len : length text ≡ length is.digits + (length is.tail + length is.after) = ap length is.is ∙ (omega (arith, length-append is.digits (is.tail ++ is.after), length-append is.tail is.after)) in
    let reads = number_float (text ++ left) (length is.digits) (length is.tail) parts.0 tail (some_length _ (tail_some is.floats)) in
    rw (scan_number_at text left is.digits (is.tail ++ is.after) is.is is.numeral, reads, rest) record { reach = omega (arith, len, run_covers is_word_byte is.after left is.word); same = λ _. refl }

-- ---- letters, digits and `_` behind a digit

digit_first : (text : Text) → BeginsWithDigit text → (left : Text) → scan (text ++ left) ≡ scan_number (text ++ left)
digit_first [] begins left = absurd begins
digit_first (byte ∷ text) begins left = scan_digit byte (text ++ left) (ascii_digit byte begins.0)

begins_word : (text : Text) → BeginsWithDigit text → Passes is_word_byte text
begins_word [] begins = absurd begins
begins_word (byte ∷ text) begins = (digit_word_byte byte (more_digits 10 (omega arith) byte (ascii_digit byte begins.0)), begins.1)

some_digits : (text : Text) → BeginsWithDigit text → (left : Text) → 1 ≤ prefix_len (is_digit 10) (text ++ left)
some_digits [] begins left = absurd begins
some_digits (byte ∷ text) begins left = rw (ascii_digit byte begins.0) (omega arith)

passes_drop : (n : ℕ) (x : Text) → Passes is_word_byte x → Passes is_word_byte (drop n x)
passes_drop n x passes = passes_rest is_word_byte (take n x) (drop n x) (subst (λ (y : Text). Passes is_word_byte y) (sym (take-append-drop n x)) passes)

-- such a text that isn't a floating-point number ends before the tail of one does
beyond : (text left : Text) → BeginsWithDigit text → ¬ IsFloat text → HasTail (drop (prefix_len (is_digit 10) (text ++ left)) (text ++ left)) (tail_at (text ++ left))
    → length text < prefix_len (is_digit 10) (text ++ left) + tail_at (text ++ left)
beyond text left begins no_float has = by_length (cases_lt (length text) (prefix_len (is_digit 10) (text ++ left) + tail_at (text ++ left))) where
  by_length : (length text < prefix_len (is_digit 10) (text ++ left) + tail_at (text ++ left)) ⊎ (prefix_len (is_digit 10) (text ++ left) + tail_at (text ++ left) ≤ length text)
      → length text < prefix_len (is_digit 10) (text ++ left) + tail_at (text ++ left)
  by_length (inl longer) = longer
  by_length (inr within) = absurd (no_float (record {
    digits = take (prefix_len (is_digit 10) (text ++ left)) text;
    tail = take (tail_at (text ++ left)) (drop (prefix_len (is_digit 10) (text ++ left)) text);
    after = drop (tail_at (text ++ left)) (drop (prefix_len (is_digit 10) (text ++ left)) text);
    is = sym (take-append-drop (prefix_len (is_digit 10) (text ++ left)) text) ∙ ap (λ (x : Text). take (prefix_len (is_digit 10) (text ++ left)) text ++ x) (sym (take-append-drop (tail_at (text ++ left)) (drop (prefix_len (is_digit 10) (text ++ left)) text)));
    numeral = (
      omega (arith, length-take-le (prefix_len (is_digit 10) (text ++ left)) text (omega arith), some_digits text begins left),
      subst (λ (x : Text). Rattle.std.specs.Str.Parse.AllDigits 10 x) (take-append-le (prefix_len (is_digit 10) (text ++ left)) text left (omega arith)) (digits_passes 10 _ (run_passes (is_digit 10) (text ++ left))),
    );
    floats = subst (λ (x : Text). IsFloatTail x)
        (ap (take (tail_at (text ++ left))) (drop-append-le (prefix_len (is_digit 10) (text ++ left)) text left (omega arith))
        ∙ take-append-le (tail_at (text ++ left)) (drop (prefix_len (is_digit 10) (text ++ left)) text) left (omega (arith, length-drop (prefix_len (is_digit 10) (text ++ left)) text))) has.floats;
    word = passes_drop (tail_at (text ++ left)) (drop (prefix_len (is_digit 10) (text ++ left)) text) (passes_drop (prefix_len (is_digit 10) (text ++ left)) text (begins_word text begins));
  }))

digits_covers : (text left : Text) (piece : Piece) → BeginsWithDigit text → ¬ IsFloat text → word_literal text ≡ piece → Covered piece (length text) (scan (text ++ left))
digits_covers text left piece begins no_float is = subst (λ (f : Found). Covered piece (length text) f) (sym (digit_first text begins left)) (by_tail_at (tail_is (drop (prefix_len (is_digit 10) (text ++ left)) (text ++ left)))) where
  by_tail_at : (tail_at (text ++ left) ≡ 0) ⊎ HasTail (drop (prefix_len (is_digit 10) (text ++ left)) (text ++ left)) (tail_at (text ++ left)) → Covered piece (length text) (scan_number (text ++ left))
  by_tail_at (inl none) = rw (number_plain (text ++ left) none) record {
    reach = run_covers is_word_byte text left (begins_word text begins);
    same = λ e. ap word_literal (take_at text left _ e) ∙ is;
  }
  by_tail_at (inr has) = rw (number_float (text ++ left) (prefix_len (is_digit 10) (text ++ left)) (tail_at (text ++ left)) refl refl (some_length _ (some_tail has)))
      (covered_longer piece (length text) _ (let h = beyond text left begins no_float has in omega (arith, h))) where
        some_tail : HasTail (drop (prefix_len (is_digit 10) (text ++ left)) (text ++ left)) (tail_at (text ++ left)) → 1 ≤ tail_at (text ++ left)
        some_tail has = omega (arith, tail_some has.floats, length-take-le (tail_at (text ++ left)) (drop (prefix_len (is_digit 10) (text ++ left)) (text ++ left)) has.within)

no_float_of : (text : Text) → tail_at text ≡ 0 → ¬ IsFloat text
no_float_of text none is =
    let tail : tail_at (text ++ []) ≡ length is.tail = float_tail_at text [] is in
    let same : tail_at (text ++ []) ≡ tail_at text = ap tail_at (append-nil text) in
    absurd (omega (arith, tail, same, none, tail_some is.floats))

pub number_covers : (text left : Text) (l : Literal) → IsLiteral l text → l.value < limit l.radix l.suffix → Covered (Token (number_of l)) (length text) (scan (text ++ left))
number_covers text left l is below =
    let plain = literal_plain text l is in
    digits_covers text left _ plain.begins (no_float_of text plain.no_tail) (literal_reads text l is ∙ sized_below l below)

pub large_covers : (text left : Text) (l : Literal) → IsLiteral l text → limit l.radix l.suffix ≤ l.value → Covered (Fault LiteralSize 0) (length text) (scan (text ++ left))
large_covers text left l is above =
    let plain = literal_plain text l is in
    digits_covers text left _ plain.begins (no_float_of text plain.no_tail) (literal_reads text l is ∙ sized_above l above)

bad_reads : (text : Text) → ((l : Literal) → ¬ IsLiteral l text) → word_literal text ≡ Fault BadLiteral 0
bad_reads text no_literal = by_reads (word_literal_is text) where
  by_reads : (word_literal text ≡ Fault BadLiteral 0) ⊎ Reads text (word_literal text) → word_literal text ≡ Fault BadLiteral 0
  by_reads (inl bad) = bad
  by_reads (inr good) = absurd (no_literal good.literal good.is)

pub bad_literal_covers : (text left : Text) → IsBadLiteral text → Covered (Fault BadLiteral 0) (length text) (scan (text ++ left))
bad_literal_covers text left is = digits_covers text left _ is.begins is.no_float (bad_reads text is.no_literal)

-- ---- what is read stands there

pub number_stands : (byte : ℕ) (text : Text) → is_digit 10 byte ≡ true → Stands (byte ∷ text) (scan (byte ∷ text))
number_stands byte rest is = subst (λ (f : Found). Stands (byte ∷ rest) f) (sym (scan_digit byte rest is)) (by_tail_at (tail_is (drop (prefix_len (is_digit 10) (byte ∷ rest)) (byte ∷ rest)))) where
  word_run : prefix_len is_word_byte (byte ∷ rest) ≡ suc (prefix_len is_word_byte rest)
  word_run = rw (digit_word_byte byte (more_digits 10 (omega arith) byte is)) (omega arith)

  digit_run : prefix_len (is_digit 10) (byte ∷ rest) ≡ suc (prefix_len (is_digit 10) rest)
  digit_run = rw is (omega arith)

  begins : BeginsWithDigit (take (prefix_len is_word_byte (byte ∷ rest)) (byte ∷ rest))
  begins = subst (λ (n : ℕ). BeginsWithDigit (take n (byte ∷ rest))) (sym word_run) (digit_ascii byte is, run_passes is_word_byte rest)

  word_piece : tail_at (byte ∷ rest) ≡ 0 → (word_literal (take (prefix_len is_word_byte (byte ∷ rest)) (byte ∷ rest)) ≡ Fault BadLiteral 0) ⊎ Reads (take (prefix_len is_word_byte (byte ∷ rest)) (byte ∷ rest)) (word_literal (take (prefix_len is_word_byte (byte ∷ rest)) (byte ∷ rest)))
      → IsPiece (word_literal (take (prefix_len is_word_byte (byte ∷ rest)) (byte ∷ rest))) (take (prefix_len is_word_byte (byte ∷ rest)) (byte ∷ rest))
  word_piece none (inr good) = subst (λ (p : Piece). IsPiece p (take (prefix_len is_word_byte (byte ∷ rest)) (byte ∷ rest))) (sym good.reads) (sized_piece _ good.literal good.is)
  word_piece none (inl bad) =
      let word = take (prefix_len is_word_byte (byte ∷ rest)) (byte ∷ rest) in
      subst (λ (p : Piece). IsPiece p (take (prefix_len is_word_byte (byte ∷ rest)) (byte ∷ rest))) (sym bad) (bad_literal word (record {
        begins = begins;
        no_float = λ f.
            let tail : tail_at (word ++ drop (prefix_len is_word_byte (byte ∷ rest)) (byte ∷ rest)) ≡ length f.tail = float_tail_at word (drop (prefix_len is_word_byte (byte ∷ rest)) (byte ∷ rest)) f in
            let same : tail_at (word ++ drop (prefix_len is_word_byte (byte ∷ rest)) (byte ∷ rest)) ≡ tail_at (byte ∷ rest) = ap tail_at (take-append-drop (prefix_len is_word_byte (byte ∷ rest)) (byte ∷ rest)) in
            absurd (omega (arith, tail, same, none, tail_some f.floats));
        no_literal = λ l i. sized_good l (sym (literal_reads word l i) ∙ bad);
      }))

  by_tail_at : (tail_at (byte ∷ rest) ≡ 0) ⊎ HasTail (drop (prefix_len (is_digit 10) (byte ∷ rest)) (byte ∷ rest)) (tail_at (byte ∷ rest)) → Stands (byte ∷ rest) (scan_number (byte ∷ rest))
  by_tail_at (inl none) = rw (number_plain (byte ∷ rest) none) record {
    some = omega (arith, word_run);
    within = run_within is_word_byte (byte ∷ rest);
    is = word_piece none (word_literal_is _);
  }
  by_tail_at (inr has) =
      let d = prefix_len (is_digit 10) (byte ∷ rest) in
      let t = tail_at (byte ∷ rest) in
      let r = prefix_len is_word_byte (drop (d + t) (byte ∷ rest)) in
      let some : 1 ≤ t = omega (arith, tail_some has.floats, length-take-le t (drop d (byte ∷ rest)) has.within) in
      let split : take (d + t + r) (byte ∷ rest) ≡ take d (byte ∷ rest) ++ (take t (drop d (byte ∷ rest)) ++ take r (drop (d + t) (byte ∷ rest))) =
      take-add (d + t) r (byte ∷ rest) ∙ ap (λ (x : Text). x ++ take r (drop (d + t) (byte ∷ rest))) (take-add d t (byte ∷ rest)) ∙ append_assoc (take d (byte ∷ rest)) (take t (drop d (byte ∷ rest))) (take r (drop (d + t) (byte ∷ rest))) in
      let floats : IsFloat (take (d + t + r) (byte ∷ rest)) = record {
        digits = take d (byte ∷ rest);
        tail = take t (drop d (byte ∷ rest));
        after = take r (drop (d + t) (byte ∷ rest));
        is = split;
        numeral = (omega (arith, length-take-le d (byte ∷ rest) (run_within (is_digit 10) (byte ∷ rest)), digit_run), digits_passes 10 _ (run_passes (is_digit 10) (byte ∷ rest)));
        floats = has.floats;
        word = run_passes is_word_byte (drop (d + t) (byte ∷ rest));
      } in
      rw (number_float (byte ∷ rest) d t refl refl (some_length t some)) record {
        some = omega (arith, some);
        within = omega (arith, has.within, length-drop d (byte ∷ rest), run_within is_word_byte (drop (d + t) (byte ∷ rest)), length-drop (d + t) (byte ∷ rest), run_within (is_digit 10) (byte ∷ rest));
        is = float (take (d + t + r) (byte ∷ rest)) floats;
      }
