-- Words: what is read at a letter is the longest word there.
use Rattle.std.proofs.Common.{◌≡◌, ℕ, zero, suc, ◌+◌, ◌≤◌, ◌<◌, ◌&&◌, ◌||◌, ◌==◌, Bool, true, false, not, cond, List, [], ◌∷◌, ◌++◌, length, take, drop, Option, Some, None, refl, ap, sym, subst, ◌∙◌, arith, slice_index}
use Rattle.std.specs.Option.{is_none}
use Rattle.std.specs.List.{prefix_len, list_all}
use Rattle.std.proofs.lemmas.List.{take_at}
use Rattle.cm_base.specs.declared.cause.Cause.{Cause}
use Rattle.cm_tree.specs.declared.reserved.Reserved.{Reserved}
use Rattle.cm_tree.specs.Pieces.{Text, Passes, entry, is_space, is_letter, is_word_byte, IsWord, IsName, reserved_words, refused_words, IsPiece, name, reserved_word, refused_word, Piece, Token, Fault}
use Rattle.cm_lexer.specs.Scan.{Found, found, by_reserved, by_refused, scan, scan_word}
use Rattle.cm_lexer.proofs.Runs.{both, run_covers, run_passes, run_within, passes_all, entry_passes}
use Rattle.cm_lexer.proofs.Covering.{Covered, Stands}

pub letter_no_space : (byte : ℕ) → is_letter byte ≡ true → is_space byte ≡ false
letter_no_space byte is = grind arith

pub letter_no_slash : (byte : ℕ) → is_letter byte ≡ true → (byte == 47) ≡ false
letter_no_slash byte is = grind arith

pub letter_word_byte : (byte : ℕ) → is_letter byte ≡ true → is_word_byte byte ≡ true
letter_word_byte byte is = rw is refl

pub word_passes : (text : Text) → IsWord text → Passes is_word_byte text
word_passes [] is = absurd is
word_passes (byte ∷ bytes) is = (letter_word_byte byte is.0, is.1)

pub scan_letter : (byte : ℕ) (text : Text) → is_letter byte ≡ true → scan (byte ∷ text) ≡ scan_word (byte ∷ text)
unfolding scan
scan_letter byte text is = rw (letter_no_space byte is, letter_no_slash byte is, is) refl

-- ---- the tables have words alone

abbrev is_word_text : Text → Bool
is_word_text [] = false
is_word_text (byte ∷ bytes) = is_letter byte && list_all is_word_byte bytes

word_text : (text : Text) → is_word_text text ≡ true → IsWord text
word_text [] is = absurd (cc)
word_text (byte ∷ bytes) is = let parts = both (is_letter byte) (list_all is_word_byte bytes) is in (parts.0, passes_all is_word_byte bytes parts.1)

reserved_are_words : list_all (λ e. is_word_text e.0) reserved_words ≡ true
unfolding reserved_words
reserved_are_words = refl

refused_are_words : list_all (λ e. is_word_text e.0) refused_words ≡ true
unfolding refused_words
refused_are_words = refl

-- no word is in both
tables_apart : list_all (λ e. is_none (entry reserved_words e.0)) refused_words ≡ true
unfolding reserved_words refused_words
tables_apart = refl

pub reserved_word_is : (text : Text) (word : Reserved) → entry reserved_words text ≡ Some word → IsWord text
reserved_word_is text word is = word_text text (entry_passes (λ e. is_word_text e.0) reserved_words text word reserved_are_words is)

pub refused_word_is : (text : Text) (cause : Cause) → entry refused_words text ≡ Some cause → IsWord text
refused_word_is text cause is = word_text text (entry_passes (λ e. is_word_text e.0) refused_words text cause refused_are_words is)

none_of : {A : Type 0} (o : Option A) → is_none o ≡ true → o ≡ None
none_of None is = refl
none_of (Some x) is = absurd (cc)

refused_free : (text : Text) (cause : Cause) → entry refused_words text ≡ Some cause → entry reserved_words text ≡ None
refused_free text cause is = none_of (entry reserved_words text) (entry_passes (λ e. is_none (entry reserved_words e.0)) refused_words text cause tables_apart is)

-- ---- no other piece goes further

word_covers : (text left : Text) → IsWord text → Covered (by_reserved text (entry reserved_words text)) (length text) (scan (text ++ left))
unfolding scan_word
word_covers [] left is = absurd is
word_covers (byte ∷ bytes) left is =
    rw (scan_letter byte (bytes ++ left) is.0) record {
      reach = run_covers is_word_byte (byte ∷ bytes) left (word_passes (byte ∷ bytes) is);
      same = λ e. ap (λ (w : Text). by_reserved w (entry reserved_words w)) (take_at (byte ∷ bytes) left _ e);
    }

covers_as : (text left : Text) (piece : Piece) → IsWord text → by_reserved text (entry reserved_words text) ≡ piece → Covered piece (length text) (scan (text ++ left))
covers_as text left piece is e = subst (λ (p : Piece). Covered p (length text) (scan (text ++ left))) e (word_covers text left is)

pub name_covers : (text left : Text) → IsName text → Covered (Token (Rattle.cm_tree.specs.declared.token.TokenKind.TheVariants.Word text)) (length text) (scan (text ++ left))
name_covers text left is = covers_as text left _ is.word (rw (is.free, is.allowed) refl)

pub reserved_covers : (text left : Text) (word : Reserved) → entry reserved_words text ≡ Some word → Covered (Token (Rattle.cm_tree.specs.declared.token.TokenKind.TheVariants.Reserved word)) (length text) (scan (text ++ left))
reserved_covers text left word is = covers_as text left _ (reserved_word_is text word is) (rw is refl)

pub refused_covers : (text left : Text) (cause : Cause) → entry refused_words text ≡ Some cause → Covered (Fault cause 0) (length text) (scan (text ++ left))
refused_covers text left cause is = covers_as text left _ (refused_word_is text cause is) (rw (refused_free text cause is, is) refl)

-- ---- what is read stands there

word_piece : (word : Text) → IsWord word → IsPiece (by_reserved word (entry reserved_words word)) word
word_piece word is = by_entry (entry reserved_words word) refl where
  by_cause : entry reserved_words word ≡ None → (o : Option Cause) → entry refused_words word ≡ o → IsPiece (by_refused word o) word
  by_cause free None allowed = name word (record { word = is; free = free; allowed = allowed })
  by_cause free (Some cause) refused = refused_word word cause refused

  by_entry : (o : Option Reserved) → entry reserved_words word ≡ o → IsPiece (by_reserved word o) word
  by_entry None free = by_cause free (entry refused_words word) refl
  by_entry (Some reserved) found = reserved_word word reserved found

run_head : (byte : ℕ) (text : Text) → is_word_byte byte ≡ true → prefix_len is_word_byte (byte ∷ text) ≡ suc (prefix_len is_word_byte text)
run_head byte text is = rw is (omega arith)

stands_word : (byte : ℕ) (text : Text) (n : ℕ) → is_letter byte ≡ true → n ≡ suc (prefix_len is_word_byte text)
    → Stands (byte ∷ text) (found (by_reserved (take n (byte ∷ text)) (entry reserved_words (take n (byte ∷ text)))) n)
stands_word byte text n is e =
    subst (λ (m : ℕ). Stands (byte ∷ text) (found (by_reserved (take m (byte ∷ text)) (entry reserved_words (take m (byte ∷ text)))) m)) (sym e) record {
      some = omega arith;
      within = omega (arith, run_within is_word_byte text);
      is = word_piece (byte ∷ take (prefix_len is_word_byte text) text) (is, run_passes is_word_byte text);
    }

pub word_stands : (byte : ℕ) (text : Text) → is_letter byte ≡ true → Stands (byte ∷ text) (scan (byte ∷ text))
unfolding scan_word
word_stands byte text is = rw (scan_letter byte text is) (stands_word byte text _ is (run_head byte text (letter_word_byte byte is)))
