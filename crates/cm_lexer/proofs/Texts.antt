-- Words are text.
use Rattle.std.proofs.Common.{◌≡◌, ℕ, zero, suc, ◌<◌, List, [], ◌∷◌, true, arith, slice_index}
use Rattle.std.specs.Str.{IsUtf8}
use Rattle.std.proofs.lemmas.Str.{IsUtf8-from_ascii}
use Rattle.cm_tree.specs.Pieces.{Text, Passes, is_word_byte}

word_byte_ascii : (byte : ℕ) → is_word_byte byte ≡ true → byte < 128
word_byte_ascii byte is = grind arith

ascii_passes : (text : Text) → Passes is_word_byte text → (at : ℕ) → slice_index text at < 128
ascii_passes [] passes at = omega arith
ascii_passes (byte ∷ text) passes zero = word_byte_ascii byte passes.0
ascii_passes (byte ∷ text) passes (suc at) = ascii_passes text passes.1 at

pub word_utf8 : (text : Text) → Passes is_word_byte text → IsUtf8 text
word_utf8 text passes = IsUtf8-from_ascii text (ascii_passes text passes)
