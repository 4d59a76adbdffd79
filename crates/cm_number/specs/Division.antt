-- Division that rounds toward 0, at a signed type.
use Rattle.std.specs.Prelude.{◌≡◌, ◌/◌, ◌<◌, Bool, true, false, if◌then◌else◌, ℤ, pos, negsuc, ◌+ℤ◌, ◌-ℤ◌, ◌*ℤ◌, neg_ℤ, ◌≤ℤ◌, unsigned_abs}
use Rattle.std.specs.Int.{Width}
use Rattle.cm_number.specs.Conversion.{to_signed, half_range}

-- one of the two is below 0 and the other is not
abbrev pub has_opposite_signs : ℤ → ℤ → Bool
has_opposite_signs (pos a) (pos b) = false
has_opposite_signs (pos a) (negsuc b) = true
has_opposite_signs (negsuc a) (pos b) = true
has_opposite_signs (negsuc a) (negsuc b) = false

-- The truncated quotient: the magnitudes are divided, rounding down, and the result is negated where the signs are opposite.
unfoldable pub truncated_quotient : ℤ → ℤ → ℤ
truncated_quotient v d =
    let magnitude = unsigned_abs v / unsigned_abs d in
    (if has_opposite_signs v d then neg_ℤ (pos magnitude) else pos magnitude)

-- `/` at a signed type: the truncated quotient, which is wrapped, so that the least number by -1 gives itself.
unfoldable pub quotient : Width → ℤ → ℤ → ℤ
quotient w v d = to_signed w (truncated_quotient v d)

-- `%` at a signed type: what v has beyond the product of the truncated quotient and d. The least number by -1 gives 0.
unfoldable pub remainder : ℤ → ℤ → ℤ
remainder v d = v -ℤ truncated_quotient v d *ℤ d

-- q and r divide v by d with rounding toward 0: v is q * d + r, r is smaller than d in magnitude, and r lies on the side of 0 on which v lies
pub record IsTruncatedDivision (v d q r : ℤ) : Type 0 where
  pub whole : v ≡ q *ℤ d +ℤ r
  pub smaller : unsigned_abs r < unsigned_abs d
  pub not_below : pos 0 ≤ℤ v → pos 0 ≤ℤ r
  pub not_above : v ≤ℤ pos 0 → r ≤ℤ pos 0

-- the least number of the signed type
abbrev pub least : Width → ℤ
least w = neg_ℤ (pos (half_range w))
