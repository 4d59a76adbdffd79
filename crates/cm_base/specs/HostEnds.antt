-- When a list of host endpoints can belong to a patch: docs/MODULE.md, "Endpoints".
use Rattle.std.specs.Prelude.{ℕ, ◌≡◌, ◌≢◌, ◌<◌, ◌≤◌, ◌^◌, List, [], ◌∷◌, length, map, Option, Some, None, ◌≤ℤ◌, FitsSigned}
use Rattle.std.specs.Int.{w32}
use Rattle.std.specs.List.{AllByRecursion}
use Rattle.cm_base.specs.declared.host.Scalar.{Scalar}
use Rattle.cm_base.specs.declared.host.Scalar.TheVariants.{Int32, Int64, Bool, Wrap, Clamp}
use Rattle.cm_base.specs.declared.host.Flow.TheVariants.{Input}
use Rattle.cm_base.specs.declared.host.Kind.{Kind}
use Rattle.cm_base.specs.declared.host.Kind.TheVariants.{Stream, Value, Event}
use Rattle.cm_base.specs.declared.host.Range.{Range}
use Rattle.cm_base.specs.declared.host.HostEnd.{HostEnd}

-- a count of values is 1 to 2^31 - 1
abbrev pub IsCount : ℕ → Type 0
IsCount n = (1 ≤ n) × (n < 2 ^ 31)

-- the count of a wrapping or held number is one
abbrev pub IsLawfulScalar : Scalar → Type 0
IsLawfulScalar Int32 = Unit {0}
IsLawfulScalar Int64 = Unit {0}
IsLawfulScalar Bool = Unit {0}
IsLawfulScalar (Wrap n) = IsCount n
IsLawfulScalar (Clamp n) = IsCount n

-- a stream carries no parameter
abbrev pub CarriesParameter : Kind → Type 0
CarriesParameter Stream = ⊥
CarriesParameter Value = Unit {0}
CarriesParameter Event = Unit {0}

-- a value or event input of one int32 may be a parameter: its three numbers are int32, and its start is in its range
pub record IsParameter (end : HostEnd) (range : Range) : Type 0 where
  pub flow : end.flow ≡ Input
  pub kind : CarriesParameter end.kind
  pub shape : end.shape ≡ Int32 ∷ []
  pub min_fits : FitsSigned w32 range.min
  pub max_fits : FitsSigned w32 range.max
  pub above : range.min ≤ℤ range.init
  pub below : range.init ≤ℤ range.max

abbrev pub IsLawfulRange : HostEnd → Option Range → Type 0
IsLawfulRange end None = Unit {0}
IsLawfulRange end (Some range) = IsParameter end range

pub record IsLawfulEnd (end : HostEnd) : Type 0 where
  pub scalars : AllByRecursion IsLawfulScalar end.shape
  pub parameter : IsLawfulRange end end.parameter

-- no name stands twice
abbrev pub AreDistinct : List (List ℕ) → Type 0
AreDistinct [] = Unit {0}
AreDistinct (name ∷ names) = AllByRecursion (λ other. other ≢ name) names × AreDistinct names

-- the names of endpoints, in order
abbrev pub names_of : List HostEnd → List (List ℕ)
names_of ends = map (λ end. end.name) ends

-- endpoints that can belong to a patch
pub record IsLawful (ends : List HostEnd) : Type 0 where
  pub each : AllByRecursion IsLawfulEnd ends
  pub names : AreDistinct (names_of ends)
  pub count : length ends < 2 ^ 32
