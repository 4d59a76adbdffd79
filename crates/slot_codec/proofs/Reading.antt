-- Scalars that are read one after another.
use Rattle.std.proofs.Common.{◌≡◌, ℕ, List, length, take, drop}
use Rattle.std.specs.Prelude.{ℤ, ◌++◌}
use Rattle.std.specs.List.{AllByRecursion}
use Rattle.cm_base.specs.declared.host.Scalar.{Scalar}
use Rattle.cm_base.specs.HostEnds.{IsLawfulScalar}
use Rattle.wasm_tree.specs.Slots.{scalars_of}

-- the first i scalars are read, and the others stand in the rest
pub record AreRead (shape : List Scalar) (bytes : List ℕ) (i : ℕ) (into : List ℤ) (rest : List ℕ) : Type 0 where
  pub long : length into ≡ length shape
  pub lawful : AllByRecursion IsLawfulScalar (drop i shape)
  pub read : take i into ++ scalars_of (drop i shape) rest ≡ scalars_of shape bytes
