-- What code of a unit is measured in.
use Rattle.std.specs.Prelude.{ℕ, ◌-◌, List, slice_index_or}
use Rattle.cm_core.specs.Sizes.{Measured}
use Rattle.cm_core.specs.Measures.{measured_in, size_among}
use Rattle.memory_layout.specs.declared.scale.Scale.{Scale}

-- what writes count by a list, and behind its end
abbrev pub counts_or : List ℕ → ℕ → ℕ → ℕ
counts_or chains beyond e = slice_index_or chains e beyond

abbrev pub scale_of : Scale → Measured
scale_of s = measured_in s.structs.now s.unit.now (λ f. size_among s.bodies.now (f - s.first)) (counts_or s.chains.now s.beyond)
