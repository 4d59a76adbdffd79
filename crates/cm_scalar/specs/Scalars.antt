-- What a number becomes as a scalar of a kind: docs/LANGUAGE.md, "Conversions".
use Rattle.std.specs.Prelude.{ℤ, pos, if◌then◌else◌}
use Rattle.std.specs.Int.{w32, w64}
use Rattle.cm_base.specs.declared.host.Scalar.{Scalar}
use Rattle.cm_base.specs.declared.host.Scalar.TheVariants as kind
use Rattle.cm_number.specs.Conversion.{to_signed, to_wrap, to_clamp, to_bool}

-- 1 for a number other than 0, and 0 for 0
abbrev pub truth : ℤ → ℤ
truth z = if to_bool z then pos 1 else pos 0

-- the scalar of the kind that a number is converted to
abbrev pub converted : Scalar → ℤ → ℤ
converted kind.Int32 z = to_signed w32 z
converted kind.Int64 z = to_signed w64 z
converted kind.Bool z = truth z
converted (kind.Wrap n) z = to_wrap n z
converted (kind.Clamp n) z = to_clamp n z
