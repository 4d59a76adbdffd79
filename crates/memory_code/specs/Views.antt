-- Parts as truth values: whether they have 8 bytes.
use Rattle.std.specs.Prelude.{Bool, true, false}
use Rattle.memory_code.specs.declared.part.Part.{Part}
use Rattle.memory_code.specs.declared.part.Part.TheVariants as p

abbrev pub wide_of : Part → Bool
wide_of p.Wide = true
wide_of p.Narrow = false
