-- Numbers read without a sign, at both widths.
use Rattle.std.specs.Prelude.{◌≡◌, ◌≢◌, ℕ, ℤ, FitsSigned}
use Rattle.std.specs.Int.{w32, w64, cast_unsigned}
use Rattle.std.proofs.Common.{sym, ap, ◌∙◌, inl, inr}
use Rattle.cm_number.specs.Conversion.{to_signed, to_unsigned, IsWidth, width_of}
use Rattle.cm_number.proofs.Public.{to_unsigned_is, cast_unsigned-to_signed}

pub unsigned_at_32 : (b : ℕ) (v : ℤ) → b ≡ 32 → cast_unsigned w32 (to_signed w32 v) ≡ to_unsigned (width_of b) v
unsigned_at_32 b v e = cast_unsigned-to_signed w32 v ∙ ap (λ n. to_unsigned (width_of n) v) (sym e)

pub unsigned_at_64 : (b : ℕ) (v : ℤ) → IsWidth b → b ≢ 32 → FitsSigned w64 v → cast_unsigned w64 v ≡ to_unsigned (width_of b) v
unsigned_at_64 b v (inl e) n g = absurd (n e)
unsigned_at_64 b v (inr e) n g = sym (to_unsigned_is w64 v g) ∙ ap (λ n. to_unsigned (width_of n) v) (sym e)

pub ruleset unsigned_at = (unsigned_at_32, unsigned_at_64)
