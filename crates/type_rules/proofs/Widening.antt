-- No scalar widens to an array or a struct.
use Rattle.std.specs.Prelude.{◌≡◌, refl, ℕ, false}
use Rattle.cm_base.specs.declared.place.Place.{Place}
use Rattle.cm_base.specs.declared.host.Scalar.{Scalar}
use Rattle.cm_base.specs.declared.host.Scalar.TheVariants as kind
use Rattle.cm_meaning.specs.Types.{CmType, Single, Array, Record, FieldTypes}
use Rattle.cm_meaning.specs.Conversions.{widens}

pub to-array : (k : Scalar) (n : ℕ) (t : CmType) → widens (Single k) (Array n t) ≡ false
to-array kind.Int32 n t = refl
to-array kind.Int64 n t = refl
to-array kind.Bool n t = refl
to-array (kind.Wrap _) n t = refl
to-array (kind.Clamp _) n t = refl

pub to-record : (k : Scalar) (p : Place) (fs : FieldTypes) → widens (Single k) (Record p fs) ≡ false
to-record kind.Int32 p fs = refl
to-record kind.Int64 p fs = refl
to-record kind.Bool p fs = refl
to-record (kind.Wrap _) p fs = refl
to-record (kind.Clamp _) p fs = refl

pub ruleset no_wideners = (to-array, to-record)
