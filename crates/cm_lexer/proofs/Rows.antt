-- Worked rows: the piece at the front of a text, and its length.
use Rattle.std.proofs.Common.{◌≡◌, [], ◌∷◌, refl, pos, negsuc, codes, true, false}
use Rattle.cm_base.specs.declared.cause.Cause.TheVariants.{OpenComment, BadEscape, BadLiteral, LiteralSize, Float}
use Rattle.cm_number.specs.Conversion.{to_signed, floor_modulus}
use Rattle.cm_tree.specs.declared.reserved.Reserved.TheVariants as reserved
use Rattle.cm_tree.specs.declared.sign.Sign.TheVariants as sign
use Rattle.cm_tree.specs.declared.token.TokenKind.TheVariants as kind
use Rattle.cm_tree.specs.Pieces.{signs, reserved_words, refused_words, suffixes, Gap, Token, Fault}
use Rattle.cm_lexer.specs.Scan.{found, scan, scan_sign, scan_slash, scan_word, scan_number, scan_quoted, close_len, body_len, tail_len, literal_piece, word_literal}

arrow_is_longest : scan (codes "<-b") ≡ found (Token (kind.Sign sign.LeftArrow)) 2
unfolding scan scan_sign signs
arrow_is_longest = refl

shift_is_longest : scan (codes ">>>=x") ≡ found (Token (kind.Sign sign.ShiftRightZeroAssign)) 4
unfolding scan scan_sign signs
shift_is_longest = refl

word_is_longest : scan (codes "int3 x") ≡ found (Token (kind.Word (codes "int3"))) 4
unfolding scan scan_word reserved_words refused_words
word_is_longest = refl

reserved_is_no_name : scan (codes "int x") ≡ found (Token (kind.Reserved reserved.Int)) 3
unfolding scan scan_word reserved_words refused_words
reserved_is_no_name = refl

comment_is_longest : scan (codes "/* / */ x") ≡ found Gap 7
unfolding scan scan_slash close_len
comment_is_longest = refl

star_closes_nothing : scan (codes "/*/") ≡ found (Fault OpenComment 0) 3
unfolding scan scan_slash close_len
star_closes_nothing = refl

hexadecimal_is_twos_complement : scan (codes "0xFFFFFFFF;") ≡ found (Token (kind.Number (negsuc 0) false)) 10
unfolding scan scan_number tail_len word_literal literal_piece suffixes to_signed floor_modulus
hexadecimal_is_twos_complement = refl

decimal_is_wide : scan (codes "2147483648;") ≡ found (Token (kind.Number (pos 2147483648) true)) 10
unfolding scan scan_number tail_len word_literal literal_piece suffixes to_signed floor_modulus
decimal_is_wide = refl

too_large : scan (codes "9223372036854775809") ≡ found (Fault LiteralSize 0) 19
unfolding scan scan_number tail_len word_literal literal_piece suffixes
too_large = refl

letters_behind_digits : scan (codes "0xg;") ≡ found (Fault BadLiteral 0) 3
unfolding scan scan_number tail_len word_literal literal_piece suffixes
letters_behind_digits = refl

point_and_digit : scan (codes "1.0f;") ≡ found (Fault Float 0) 4
unfolding scan scan_number tail_len
point_and_digit = refl

escape_is_no_escape : scan (34 ∷ 97 ∷ 92 ∷ 113 ∷ 34 ∷ []) ≡ found (Fault BadEscape 2) 3
unfolding scan scan_quoted body_len
escape_is_no_escape = refl
