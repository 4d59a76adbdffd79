-- What the adapters do to readers and writers that tell what they have.
use Rattle.std.specs.Prelude.{ℕ, List, Option, take}
use Rattle.std.specs.Io.KnownBytes.{Appends}

-- known bytes grow by some of the first ones of a piece, none or all of them included
pub record AppendsFront (old new : Option (List ℕ)) (piece : List ℕ) : Type 0 where
  pub count : ℕ
  pub appended : Appends old new (take count piece)
