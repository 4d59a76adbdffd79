-- The piece at the front of a text, read from the left, and how long it is. cm_tree's `specs/Pieces` says which piece that has to be; this
-- file is what the private functions of the crate are compared with.
use Rattle.std.specs.Prelude.{ℕ, ◌+◌, ◌==◌, ◌&&◌, ◌||◌, Bool, true, false, if◌then◌else◌, nat_lt, List, [], ◌∷◌, length, take, drop, slice_index, Option, Some, None, codes}
use Rattle.std.specs.Char.{is_ascii_digit, digit_value}
use Rattle.std.specs.List.{prefix_len}
use Rattle.std.specs.Str.{bytes_eq}
use Rattle.std.specs.Str.Parse.{digits_value}
use Rattle.cm_base.specs.declared.cause.Cause.{Cause}
use Rattle.cm_base.specs.declared.cause.Cause.TheVariants.{BadByte, OpenComment, OpenString, BadEscape, BadLiteral, LiteralSize, Float}
use Rattle.cm_tree.specs.declared.reserved.Reserved.{Reserved}
use Rattle.cm_tree.specs.declared.sign.Sign.{Sign}
use Rattle.cm_tree.specs.declared.token.TokenKind.{TokenKind}
use Rattle.cm_tree.specs.declared.token.TokenKind.TheVariants as kind
use Rattle.cm_tree.specs.Pieces.{Text, entry, is_space, is_letter, is_word_byte, is_in_line, reserved_words, refused_words, Suffix, suffixes, Literal, limit, number_of, is_plain, is_escape, signs, Piece, Gap, Token, Fault}

-- a piece at the front of a text, and its length
pub record Found : Type 0 where
  pub piece : Piece
  pub len : ℕ

abbrev pub found : Piece → ℕ → Found
found piece len = record { piece = piece; len = len }

-- how many digits of the radix stand at the front
abbrev pub is_digit : ℕ → ℕ → Bool
is_digit radix byte = nat_lt (digit_value byte) radix

-- ---- signs

-- the first entry whose text stands at the front
abbrev pub begun_by : {A : Type 0} → List (Text × A) → Text → Option (Text × A)
begun_by [] text = None
begun_by (e ∷ es) text = if bytes_eq e.0 (take (length e.0) text) then Some e else begun_by es text

abbrev pub by_sign : Option (Text × Sign) → Found
by_sign None = found (Fault BadByte 0) 1
by_sign (Some e) = found (Token (kind.Sign e.1)) (length e.0)

unfoldable pub scan_sign : Text → Found
scan_sign text = by_sign (begun_by signs text)

-- ---- comments

-- so many more, where there is a number
abbrev pub later : ℕ → Option ℕ → Option ℕ
later n None = None
later n (Some m) = Some (m + n)

-- the length up to the first `*/`, with it
unfoldable pub close_len : Text → Option ℕ
close_len [] = None
close_len (byte ∷ text) = if byte == 42 && slice_index text 0 == 47 then Some 2 else later 1 (close_len text)

abbrev pub by_close : ℕ → Option ℕ → Found
by_close len None = found (Fault OpenComment 0) len
by_close len (Some n) = found Gap (n + 2)

unfoldable pub scan_slash : Text → Found
scan_slash text =
    if slice_index text 1 == 47 then found Gap (prefix_len is_in_line text)
    else (if slice_index text 1 == 42 then by_close (length text) (close_len (drop 2 text)) else scan_sign text)

-- ---- words

abbrev pub by_refused : Text → Option Cause → Piece
by_refused word None = Token (kind.Word word)
by_refused word (Some cause) = Fault cause 0

abbrev pub by_reserved : Text → Option Reserved → Piece
by_reserved word None = by_refused word (entry refused_words word)
by_reserved word (Some reserved) = Token (kind.Reserved reserved)

unfoldable pub scan_word : Text → Found
scan_word text =
    let word = take (prefix_len is_word_byte text) text in
    found (by_reserved word (entry reserved_words word)) (prefix_len is_word_byte text)

-- ---- numbers

-- the number, where its value isn't too large
abbrev pub sized : Literal → Option TokenKind
sized literal = if nat_lt literal.value (limit literal.radix literal.suffix) then Some (number_of literal) else None

abbrev pub by_size : Option TokenKind → Piece
by_size None = Fault LiteralSize 0
by_size (Some kind) = Token kind

abbrev pub by_suffix : ℕ → ℕ → Option Suffix → Piece
by_suffix radix value None = Fault BadLiteral 0
by_suffix radix value (Some suffix) = by_size (sized (record { radix = radix; value = value; suffix = suffix }))

-- digits and a suffix
unfoldable pub literal_piece : ℕ → Text → Piece
literal_piece radix text =
    let n = prefix_len (is_digit radix) text in
    if n == 0 then Fault BadLiteral 0 else by_suffix radix (digits_value radix (take n text)) (entry suffixes (drop n text))

-- the same with a prefix
unfoldable pub word_literal : Text → Piece
word_literal text =
    if slice_index text 0 == 48 && slice_index text 1 == 120 then literal_piece 16 (drop 2 text)
    else (if slice_index text 0 == 48 && slice_index text 1 == 98 then literal_piece 2 (drop 2 text) else literal_piece 10 text)

-- how long what makes a floating-point number is, or 0
unfoldable pub tail_len : Text → ℕ
tail_len text =
    let first = slice_index text 0 in
    let second = slice_index text 1 in
    let third = slice_index text 2 in
    if first == 46 && is_ascii_digit second then 2
    else (if (first == 101 || first == 69) && is_ascii_digit second then 2
    else (if (first == 101 || first == 69) && (second == 43 || second == 45) && is_ascii_digit third then 3
    else (if first == 102 then 1
    else (if first == 95 && second == 102 then 2 else 0))))

-- where the tail of this length makes a floating-point number, and else
abbrev pub by_tail : ℕ → Text → ℕ → Found
by_tail digits text tail =
    if tail == 0 then found (word_literal (take (prefix_len is_word_byte text) text)) (prefix_len is_word_byte text)
    else found (Fault Float 0) (digits + tail + prefix_len is_word_byte (drop (digits + tail) text))

unfoldable pub scan_number : Text → Found
scan_number text = let digits = prefix_len (is_digit 10) text in by_tail digits text (tail_len (drop digits text))

-- ---- strings

-- how long the plain byte or the escape at the front is, or 0
unfoldable pub item_len : Text → ℕ
item_len [] = 0
item_len (byte ∷ []) = if is_plain byte then 1 else 0
item_len (byte ∷ next ∷ text) = if is_plain byte then 1 else (if byte == 92 && is_escape next then 2 else 0)

-- how long the plain bytes and the escapes at the front are
unfoldable pub body_len : Text → ℕ
body_len [] = 0
body_len (byte ∷ []) = if is_plain byte then 1 else 0
body_len (byte ∷ next ∷ text) = if is_plain byte then body_len (next ∷ text) + 1 else (if byte == 92 && is_escape next then body_len text + 2 else 0)

unfoldable pub scan_quoted : Text → Found
scan_quoted text =
    let body = body_len (drop 1 text) in
    let next = slice_index text (body + 1) in
    if next == 34 then found (Token (kind.Text (take (body + 2) text))) (body + 2)
    else (if next == 92 then found (Fault BadEscape (body + 1)) (body + 2) else found (Fault OpenString 0) (body + 1))

-- ---- all

unfoldable pub scan : Text → Found
scan text =
    let first = slice_index text 0 in
    if is_space first then found Gap 1
    else (if first == 47 then scan_slash text
    else (if is_letter first then scan_word text
    else (if is_digit 10 first then scan_number text
    else (if first == 34 then scan_quoted text else scan_sign text))))
