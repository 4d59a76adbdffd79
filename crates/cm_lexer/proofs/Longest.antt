-- What is read at the front of a text is the longest piece there, and the only one.
use Rattle.std.proofs.Common.{◌≡◌, ℕ, zero, suc, ◌+◌, ◌≤◌, ◌<◌, ◌&&◌, ◌||◌, ◌==◌, ◌⊎◌, inl, inr, Bool, true, false, not, cond, List, [], ◌∷◌, ◌++◌, length, take, drop, Option, Some, None, refl, ap, sym, subst, ◌∙◌, arith, slice_index, length-append, append_assoc}
use Rattle.std.specs.Bool.{IsTrue, IsFalse}
use Rattle.std.specs.Option.{is_some}
use Rattle.std.specs.List.{prefix_len, list_all}
use Rattle.std.proofs.lemmas.Bool.{eqb-true, eqb-false, ltb-true}
use Rattle.std.specs.Char.{digit_value}
use Rattle.std.specs.Str.Parse.{digits_value}
use Rattle.std.proofs.lemmas.List.{take_at, drop_at, take-append-drop, length-take, length-take-le}
use Rattle.std.proofs.Math.Seq.{take-length}
use Rattle.cm_base.specs.declared.cause.Cause.{Cause}
use Rattle.cm_base.specs.declared.cause.Cause.TheVariants.{BadByte, OpenComment}
use Rattle.cm_tree.specs.declared.sign.Sign.{Sign}
use Rattle.cm_tree.specs.declared.sign.Sign.TheVariants.{Slash}
use Rattle.cm_tree.specs.declared.token.TokenKind.{TokenKind}
use Rattle.cm_tree.specs.declared.token.TokenKind.TheVariants as kind
use Rattle.cm_tree.specs.Pieces.{Text, Passes, entry, is_space, is_letter, is_in_line, Closes, IsGap, space, line_comment, block_comment, IsWord, IsName, IsLiteral, Literal, BeginsWithDigit, Unmarked, number_of, IsToken, name, reserved_word, number_literal, quoted, sign_token, IsFaulty, bad_byte, open_comment, open_string, bad_escape, bad_literal, large_literal, float, refused_word, empty, signs, reserved_words, refused_words, suffixes, prefixes, IsPiece, Piece, Gap, Token, Fault, IsLongest}
use Rattle.cm_lexer.specs.Scan.{Found, found, is_digit, begun_by, by_close, close_len, scan, scan_slash, scan_sign}
use Rattle.cm_lexer.proofs.Runs.{both, run_passes, run_within, entry_passes, entry_none, not_true, two_more}
use Rattle.cm_lexer.proofs.Covering.{Covered, Stands}
use Rattle.cm_lexer.proofs.Words.{name_covers, reserved_covers, refused_covers, word_stands, reserved_word_is, refused_word_is}
use Rattle.cm_lexer.proofs.Digits.{ascii_digit}
use Rattle.cm_lexer.proofs.Signs.{Begun, begun-entry, sign_begun}
use Rattle.cm_lexer.proofs.Closing.{ClosesAt, close_found, close_none}
use Rattle.cm_lexer.proofs.Comments.{scan_at_slash, slash_line, slash_block, slash_sign, slash_is, line_covers, block_covers, open_comment_covers, IsOther, scan_other, sign_covers, first_sign, sign_other, sign_not_empty}
use Rattle.cm_lexer.proofs.Quotes.{quoted_covers, open_covers, bad_escape_covers, quoted_stands}
use Rattle.cm_lexer.proofs.Numbers.{number_covers, large_covers, float_covers, bad_literal_covers, number_stands}
use Rattle.cm_lexer.proofs.Literals.{literal_plain, no_prefix, no_suffix}

-- ---- a space

scan_space : (byte : ℕ) (text : Text) → is_space byte ≡ true → scan (byte ∷ text) ≡ found Gap 1
unfolding scan
scan_space byte text is = rw is refl

space_covers : (byte : ℕ) (left : Text) → is_space byte ≡ true → Covered Gap 1 (scan (byte ∷ left))
space_covers byte left is = rw (scan_space byte left is) record { reach = omega arith; same = λ _. refl }

-- ---- a byte with which no token begins

-- a letter begins a name
one_letter : list_all (λ e. not (length e.0 == 1)) reserved_words ≡ true
unfolding reserved_words
one_letter = refl

one_letter_more : list_all (λ e. not (length e.0 == 1)) refused_words ≡ true
unfolding refused_words
one_letter_more = refl

letter_token : (byte : ℕ) → is_letter byte ≡ true → IsToken (kind.Word (byte ∷ [])) (byte ∷ [])
letter_token byte is = name (byte ∷ []) (record {
  word = (is, tt);
  free = entry_none (λ t. length t == 1) reserved_words (byte ∷ []) one_letter refl;
  allowed = entry_none (λ t. length t == 1) refused_words (byte ∷ []) one_letter_more refl;
})

-- ---- signs, and what begins none

sign_some : (text : Text) (sign : Sign) → entry signs text ≡ Some sign → 1 ≤ length text
sign_some [] sign is = absurd (sign_not_empty sign is)
sign_some (byte ∷ text) sign is = omega arith

sign_found : (text : Text) (e : Text × Sign) → begun_by signs text ≡ Some e → Stands text (scan_sign text)
unfolding scan_sign
sign_found text e is =
    let parts = begun-entry signs text e is in
    let len : length (take (length e.0) text) ≡ length e.0 = ap length parts.1 in
    let some : 1 ≤ length e.0 = sign_some e.0 e.1 parts.0 in
    rw is record {
      some = omega (arith, some);
      within = omega (arith, len, length-take (length e.0) text);
      is = subst (λ (t : Text). IsToken (kind.Sign e.1) t) (sym parts.1) (sign_token e.0 e.1 parts.0);
    }

-- how a token begins
abbrev BeginsToken : Text → Type 0
BeginsToken [] = ⊥
BeginsToken (byte ∷ text) = (is_letter byte ≡ true) ⊎ ((is_digit 10 byte ≡ true) ⊎ ((byte ≡ 34) ⊎ ((sign : Sign) × (entry signs (byte ∷ []) ≡ Some sign))))

word_begins : (text : Text) → IsWord text → BeginsToken text
word_begins [] is = absurd is
word_begins (byte ∷ text) is = inl is.0

digit_begins : (text : Text) → BeginsWithDigit text → BeginsToken text
digit_begins [] is = absurd is
digit_begins (byte ∷ text) is = inr (inl (ascii_digit byte is.0))

sign_begins : (text : Text) (sign : Sign) → entry signs text ≡ Some sign → BeginsToken text
sign_begins [] sign is = absurd (sign_not_empty sign is)
sign_begins (byte ∷ text) sign is = inr (inr (inr (first_sign byte text sign is)))

token_begins : {kind : TokenKind} → {text : Text} → IsToken kind text → BeginsToken text
token_begins (name text is) = word_begins text is.word
token_begins (reserved_word text word is) = word_begins text (reserved_word_is text word is)
token_begins (number_literal text l is below) = digit_begins text (literal_plain text l is).begins
token_begins (quoted body is) = inr (inr (inl refl))
token_begins (sign_token text sign is) = sign_begins text sign is

no_token : (byte : ℕ) (text : Text) → IsOther byte → begun_by signs (byte ∷ text) ≡ None → (kind : TokenKind) → (more : Text) → ¬ IsToken kind (byte ∷ more)
no_token byte text other none kind more is = by_first (token_begins is) where
  by_first : BeginsToken (byte ∷ more) → ⊥
  by_first (inl letter) = let not_letter = other.no_letter in absurd (cc)
  by_first (inr (inl digit)) = let not_digit = other.no_digit in absurd (cc)
  by_first (inr (inr (inl quote))) = let not_quote : (34 == 34) ≡ false = subst (λ (b : ℕ). (b == 34) ≡ false) quote other.no_quote in absurd (cc)
  by_first (inr (inr (inr found))) = let begun = (sign_begun (byte ∷ []) text found.0 found.1).is in absurd (cc)

bad_reads : (byte : ℕ) (text : Text) → begun_by signs (byte ∷ text) ≡ None → scan_sign (byte ∷ text) ≡ found (Fault BadByte 0) 1
unfolding scan_sign
bad_reads byte text none = rw none refl

sign_stands : (byte : ℕ) (text : Text) → IsOther byte → Stands (byte ∷ text) (scan_sign (byte ∷ text))
sign_stands byte text other = by_begun (begun_by signs (byte ∷ text)) refl where
  by_begun : (o : Option (Text × Sign)) → begun_by signs (byte ∷ text) ≡ o → Stands (byte ∷ text) (scan_sign (byte ∷ text))
  by_begun (Some e) is = sign_found (byte ∷ text) e is
  by_begun None none = rw (bad_reads byte text none) record { some = omega arith; within = omega arith; is = bad_byte byte other.no_space (no_token byte text other none) }

slash_other : IsOther 47
slash_other = sign_other 47 [] Slash slash_is

-- ---- comments

line_run : (text : Text) → prefix_len is_in_line (47 ∷ 47 ∷ text) ≡ suc (suc (prefix_len is_in_line text))
line_run text = omega arith

closed_stands : (text : Text) (n : ℕ) → ClosesAt text n → Stands (47 ∷ 42 ∷ text) (found Gap (n + 2))
closed_stands text n at =
    let front : take n text ≡ at.front ++ (42 ∷ 47 ∷ []) =
    ap (take n) (at.is ∙ sym (append_assoc at.front (42 ∷ 47 ∷ []) at.rest)) ∙ take_at (at.front ++ (42 ∷ 47 ∷ [])) at.rest n (omega (arith, at.len, length-append at.front (42 ∷ 47 ∷ []))) in
    let all : take (n + 2) (47 ∷ 42 ∷ text) ≡ 47 ∷ 42 ∷ (at.front ++ (42 ∷ 47 ∷ [])) = rw (two_more n) (ap (λ (t : Text). 47 ∷ 42 ∷ t) front) in
    record {
      some = omega arith;
      within = omega (arith, at.len, ap length at.is, length-append at.front (42 ∷ 47 ∷ at.rest));
      is = rw all (block_comment at.front at.first);
    }

slash_stands : (text : Text) → Stands (47 ∷ text) (scan (47 ∷ text))
slash_stands text = subst (λ (f : Found). Stands (47 ∷ text) f) (sym (scan_at_slash text)) (by_text text) where
  by_text : (text : Text) → Stands (47 ∷ text) (scan_slash (47 ∷ text))
  by_text [] = rw (slash_sign [] refl refl) (sign_stands 47 [] slash_other)
  by_text (next ∷ text) = by_next (next == 47) refl (next == 42) refl where
    by_close_len : (o : Option ℕ) → close_len text ≡ o → Stands (47 ∷ 42 ∷ text) (by_close (length (47 ∷ 42 ∷ text)) o)
    by_close_len None none = record { some = omega arith; within = omega arith; is = rw (take-length (47 ∷ 42 ∷ text)) (open_comment text (close_none text none)) }
    by_close_len (Some n) is = closed_stands text n (close_found text n is)

    by_next : (b : Bool) → (next == 47) ≡ b → (c : Bool) → (next == 42) ≡ c → Stands (47 ∷ next ∷ text) (scan_slash (47 ∷ next ∷ text))
    by_next true slash c star =
        rw (eqb-true next 47 slash, slash_line text) record {
          some = omega (arith, line_run text);
          within = run_within is_in_line (47 ∷ 47 ∷ text);
          is = subst (λ (n : ℕ). IsGap (take n (47 ∷ 47 ∷ text))) (sym (line_run text)) (line_comment (take (prefix_len is_in_line text) text) (run_passes is_in_line text));
        }
    by_next false slash true star = rw (eqb-true next 42 star, slash_block text) (by_close_len (close_len text) refl)
    by_next false slash false star = rw (slash_sign (next ∷ text) slash star) (sign_stands 47 (next ∷ text) slash_other)

-- ---- what is read stands there

pub stands : (byte : ℕ) (text : Text) → Stands (byte ∷ text) (scan (byte ∷ text))
stands byte text = by_space (is_space byte) refl where
  by_quote : is_space byte ≡ false → (byte == 47) ≡ false → is_letter byte ≡ false → is_digit 10 byte ≡ false → (b : Bool) → (byte == 34) ≡ b → Stands (byte ∷ text) (scan (byte ∷ text))
  by_quote gap slash letter digit true quote = let e : byte ≡ 34 = eqb-true byte 34 quote in rw e (quoted_stands text)
  by_quote gap slash letter digit false quote =
      let other : IsOther byte = record { no_space = gap; no_letter = letter; no_digit = digit; no_quote = quote } in
      rw (scan_other byte text other slash) (sign_stands byte text other)

  by_digit : is_space byte ≡ false → (byte == 47) ≡ false → is_letter byte ≡ false → (b : Bool) → is_digit 10 byte ≡ b → Stands (byte ∷ text) (scan (byte ∷ text))
  by_digit gap slash letter true digit = number_stands byte text digit
  by_digit gap slash letter false digit = by_quote gap slash letter digit (byte == 34) refl

  by_letter : is_space byte ≡ false → (byte == 47) ≡ false → (b : Bool) → is_letter byte ≡ b → Stands (byte ∷ text) (scan (byte ∷ text))
  by_letter gap slash true letter = word_stands byte text letter
  by_letter gap slash false letter = by_digit gap slash letter (is_digit 10 byte) refl

  by_slash : is_space byte ≡ false → (b : Bool) → (byte == 47) ≡ b → Stands (byte ∷ text) (scan (byte ∷ text))
  by_slash gap true slash = let e : byte ≡ 47 = eqb-true byte 47 slash in rw e (slash_stands text)
  by_slash gap false slash = by_letter gap slash (is_letter byte) refl

  by_space : (b : Bool) → is_space byte ≡ b → Stands (byte ∷ text) (scan (byte ∷ text))
  by_space true is = rw (scan_space byte text is) record { some = omega arith; within = omega arith; is = space byte is }
  by_space false is = by_slash is (byte == 47) refl

pub stands_all : (text : Text) → 1 ≤ length text → Stands text (scan text)
stands_all [] some = absurd (omega arith)
stands_all (byte ∷ text) some = stands byte text

-- ---- no other piece goes further

digit_token : (byte : ℕ) → is_digit 10 byte ≡ true → IsToken (number_of (record { radix = 10; value = digits_value 10 (byte ∷ []); suffix = Unmarked })) (byte ∷ [])
digit_token byte is =
    let low : digit_value byte < 10 = ltb-true (digit_value byte) 10 is in
    number_literal (byte ∷ []) (record { radix = 10; value = digits_value 10 (byte ∷ []); suffix = Unmarked })
    (record { before = []; digits = byte ∷ []; after = []; is = refl; marked = no_prefix; numeral = (omega arith, (low, tt)); value = refl; ends = no_suffix })
    (omega (arith, low))

bad_none : (byte : ℕ) (left : Text) → ((kind : TokenKind) → (more : Text) → ¬ IsToken kind (byte ∷ more)) → begun_by signs (byte ∷ left) ≡ None
bad_none byte left none = by_begun (begun_by signs (byte ∷ left)) refl where
  by_text : (text : Text) (sign : Sign) → entry signs text ≡ Some sign → take (length text) (byte ∷ left) ≡ text → ⊥
  by_text [] sign is front = sign_not_empty sign is
  by_text (first ∷ text) sign is front = let e : byte ≡ first = cc in none (kind.Sign sign) text (subst (λ (b : ℕ). IsToken (kind.Sign sign) (b ∷ text)) (sym e) (sign_token (first ∷ text) sign is))

  by_begun : (o : Option (Text × Sign)) → begun_by signs (byte ∷ left) ≡ o → o ≡ None
  by_begun None is = refl
  by_begun (Some e) is = let parts = begun-entry signs (byte ∷ left) e is in absurd (by_text e.0 e.1 parts.0 parts.1)

bad_byte_covers : (byte : ℕ) (left : Text) → is_space byte ≡ false → ((kind : TokenKind) → (more : Text) → ¬ IsToken kind (byte ∷ more)) → Covered (Fault BadByte 0) 1 (scan (byte ∷ left))
bad_byte_covers byte left gap none =
    let other : IsOther byte = record {
      no_space = gap;
      no_letter = not_true (is_letter byte) (λ letter. none _ [] (letter_token byte letter));
      no_digit = not_true (is_digit 10 byte) (λ digit. none _ [] (digit_token byte digit));
      no_quote = not_true (byte == 34) (λ quote. none (kind.Text (34 ∷ 34 ∷ [])) (34 ∷ []) (subst (λ (b : ℕ). IsToken (kind.Text (34 ∷ 34 ∷ [])) (b ∷ 34 ∷ [])) (sym (eqb-true byte 34 quote)) (quoted [] empty)));
    } in
    let slash : (byte == 47) ≡ false = not_true (byte == 47) (λ is. none (kind.Sign Slash) [] (subst (λ (b : ℕ). IsToken (kind.Sign Slash) (b ∷ [])) (sym (eqb-true byte 47 is)) (sign_token (47 ∷ []) Slash slash_is))) in
    rw (scan_other byte left other slash, bad_reads byte left (bad_none byte left none)) record { reach = omega arith; same = λ _. refl }

gap_covers : {more : Text} → IsGap more → (left : Text) → Covered Gap (length more) (scan (more ++ left))
gap_covers (space byte is) left = space_covers byte left is
gap_covers (line_comment body passes) left = line_covers body left passes
gap_covers (block_comment body opens) left = block_covers body left opens

token_covers : {kind : TokenKind} → {more : Text} → IsToken kind more → (left : Text) → Covered (Token kind) (length more) (scan (more ++ left))
token_covers (name text is) left = name_covers text left is
token_covers (reserved_word text word is) left = reserved_covers text left word is
token_covers (number_literal text l is below) left = number_covers text left l is below
token_covers (quoted body is) left = quoted_covers body left is
token_covers (sign_token text sign is) left = sign_covers text left sign is

fault_covers : {cause : Cause} → {at : ℕ} → {more : Text} → IsFaulty cause at more → (left : Text) → Covered (Fault cause at) (length more) (scan (more ++ left))
fault_covers (bad_byte byte no_space none) left = bad_byte_covers byte left no_space none
fault_covers (open_comment body opens) left = open_comment_covers body left opens
fault_covers (open_string body is) left = open_covers body left is
fault_covers (bad_escape body is) left = bad_escape_covers body left is
fault_covers (bad_literal text is) left = bad_literal_covers text left is
fault_covers (large_literal text l is above) left = large_covers text left l is above
fault_covers (float text is) left = float_covers text left is
fault_covers (refused_word text cause is) left = refused_covers text left cause is

pub covers : (piece : Piece) (more : Text) → IsPiece piece more → (left : Text) → Covered piece (length more) (scan (more ++ left))
covers Gap more is left = gap_covers is left
covers (Token kind) more is left = token_covers is left
covers (Fault cause at) more is left = fault_covers is left

-- ---- a piece has some bytes

begun_some : (text : Text) → BeginsToken text → 1 ≤ length text
begun_some [] begins = absurd begins
begun_some (byte ∷ text) begins = omega arith

gap_some : {more : Text} → IsGap more → 1 ≤ length more
gap_some (space byte is) = omega arith
gap_some (line_comment body passes) = omega arith
gap_some (block_comment body opens) = omega arith

fault_some : {cause : Cause} → {at : ℕ} → {more : Text} → IsFaulty cause at more → 1 ≤ length more
fault_some (bad_byte byte no_space none) = omega arith
fault_some (open_comment body opens) = omega arith
fault_some (open_string body is) = omega arith
fault_some (bad_escape body is) = omega arith
fault_some (bad_literal text is) = begun_some text (digit_begins text is.begins)
fault_some (large_literal text l is above) = begun_some text (digit_begins text (literal_plain text l is).begins)
fault_some (float text is) = omega (arith, ap length is.is, length-append is.digits (is.tail ++ is.after), is.numeral.0)
fault_some (refused_word text cause is) = begun_some text (word_begins text (refused_word_is text cause is))

pub piece_some : (piece : Piece) (more : Text) → IsPiece piece more → 1 ≤ length more
piece_some Gap more is = gap_some is
piece_some (Token kind) more is = begun_some more (token_begins is)
piece_some (Fault cause at) more is = fault_some is

-- the place of a fault is in its piece
pub fault_at : {cause : Cause} → {at : ℕ} → {more : Text} → IsFaulty cause at more → at ≤ length more
fault_at (bad_byte byte no_space none) = omega arith
fault_at (open_comment body opens) = omega arith
fault_at (open_string body is) = omega arith
fault_at (bad_escape body is) = omega (arith, length-append body (92 ∷ []))
fault_at (bad_literal text is) = omega arith
fault_at (large_literal text l is above) = omega arith
fault_at (float text is) = omega arith
fault_at (refused_word text cause is) = omega arith

-- ---- the longest piece

pub scan_longest : (text : Text) → 1 ≤ length text → IsLongest (scan text).piece (take (scan text).len text) (drop (scan text).len text)
scan_longest [] some = absurd (omega arith)
scan_longest (byte ∷ rest) some =
    let text = byte ∷ rest in
    let here = stands byte rest in
    let len = length-take-le (scan text).len text here.within in
    record {
      is = here.is;
      longest = λ other more left e is.
          let whole : more ++ left ≡ text = sym e ∙ take-append-drop (scan text).len text in
          let reach : length more ≤ (scan text).len = subst (λ (t : Text). length more ≤ (scan t).len) whole (covers other more is left).reach in
          omega (arith, reach, len);
    }

-- what is read of a text whose longest piece is known
pub record IsRead (text : Text) (known : Piece) (front : Text) : Type 0 where
  pub piece : (scan text).piece ≡ known
  pub len : (scan text).len ≡ length front

pub scan_only : (text : Text) (piece : Piece) (front rest : Text) → text ≡ front ++ rest → IsLongest piece front rest → IsRead text piece front
scan_only [] piece front rest e longest = absurd (omega (arith, ap length e, length-append front rest, piece_some piece front longest.is))
scan_only (byte ∷ more) piece front rest e longest =
    let text = byte ∷ more in
    let here = stands byte more in
    let covered = covers piece front longest.is rest in
    let reach : length front ≤ (scan text).len = subst (λ (t : Text). length front ≤ (scan t).len) (sym e) covered.reach in
    let no_more : length (take (scan text).len text) ≤ length front = longest.longest (scan text).piece (take (scan text).len text) (drop (scan text).len text) (sym e ∙ sym (take-append-drop (scan text).len text)) here.is in
    let len : (scan text).len ≡ length front = omega (arith, reach, no_more, length-take-le (scan text).len text here.within) in
    record {
      piece = subst (λ (t : Text). (scan t).piece ≡ piece) (sym e) (covered.same (subst (λ (t : Text). length front ≡ (scan t).len) e (sym len)));
      len = len;
    }

-- ---- two longest pieces at one place are the same

pub record SamePiece (p q : Piece) (first second left_of_first left_of_second : Text) : Type 0 where
  pub piece : p ≡ q
  pub front : first ≡ second
  pub rest : left_of_first ≡ left_of_second

pub same_piece : (p q : Piece) (front more rest left : Text) → front ++ rest ≡ more ++ left → IsLongest p front rest → IsLongest q more left → SamePiece p q front more rest left
same_piece p q front more rest left e first second =
    let a = scan_only (front ++ rest) p front rest refl first in
    let b = scan_only (front ++ rest) q more left e second in
    let len : length more ≡ length front = sym b.len ∙ a.len in
    record {
      piece = sym a.piece ∙ b.piece;
      front = sym (take_at front rest (length front) refl) ∙ ap (take (length front)) e ∙ take_at more left (length front) len;
      rest = sym (drop_at front rest (length front) refl) ∙ ap (drop (length front)) e ∙ drop_at more left (length front) len;
    }
