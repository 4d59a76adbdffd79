-- Worked rows of the definitions of tokens: entries of tables, numbers with their types, and places.
use Rattle.std.proofs.Common.{◌≡◌, [], ◌∷◌, Some, None, refl, pos, negsuc, codes, true, false}
use Rattle.cm_base.specs.declared.cause.Cause.TheVariants.{OutOfProfile}
use Rattle.cm_number.specs.Conversion.{to_signed, floor_modulus}
use Rattle.cm_tree.specs.declared.reserved.Reserved.TheVariants as reserved
use Rattle.cm_tree.specs.declared.sign.Sign.TheVariants as sign
use Rattle.cm_tree.specs.declared.token.TokenKind.TheVariants as kind
use Rattle.cm_tree.specs.Pieces.{entry, signs, reserved_words, refused_words, Unmarked, Narrow, number_of}
use Rattle.cm_tree.specs.Tokens.{place_after}

shift_entry : entry signs (codes ">>>") ≡ Some sign.ShiftRightZero
unfolding signs
shift_entry = refl

word_entry : entry reserved_words (codes "static_assert") ≡ Some reserved.StaticAssert
unfolding reserved_words
word_entry = refl

main_is_free : entry reserved_words (codes "main") ≡ None
unfolding reserved_words
main_is_free = refl

const_entry : entry refused_words (codes "const") ≡ Some OutOfProfile
unfolding refused_words
const_entry = refl

-- decimal 2 ^ 31 doesn't fit `int32`
decimal_becomes_wide : number_of (record { radix = 10; value = 2147483648; suffix = Unmarked }) ≡ kind.Number (pos 2147483648) true
unfolding to_signed floor_modulus
decimal_becomes_wide = refl

-- decimal 2 ^ 63 becomes the least number of `int64`
decimal_becomes_least : number_of (record { radix = 10; value = 9223372036854775808; suffix = Unmarked }) ≡ kind.Number (negsuc 9223372036854775807) true
unfolding to_signed floor_modulus
decimal_becomes_least = refl

-- hexadecimal 2 ^ 32 - 1 is -1
hexadecimal_stays_narrow : number_of (record { radix = 16; value = 4294967295; suffix = Unmarked }) ≡ kind.Number (negsuc 0) false
unfolding to_signed floor_modulus
hexadecimal_stays_narrow = refl

-- 4294967295i32 is -1
suffix_narrows : number_of (record { radix = 10; value = 4294967295; suffix = Narrow }) ≡ kind.Number (negsuc 0) false
unfolding to_signed floor_modulus
suffix_narrows = refl

-- behind `a`, a line feed and `bc` stands line 2, column 3
place_behind : place_after 1 (97 ∷ 10 ∷ 98 ∷ 99 ∷ []) ≡ record { file = 1; line = 2; column = 3 }
unfolding place_after
place_behind = refl
