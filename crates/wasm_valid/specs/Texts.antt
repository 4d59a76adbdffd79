-- Where names stand in a list.
use Rattle.std.specs.Prelude.{ℕ, ◌≡◌, List, map, slice_get, Contains, Some, MatchOption}
use Rattle.std.specs.BTreeMap.{BTreeMap, get_by}
use Rattle.std.specs.Cmp.Lexicographic.{slice_cmp}
use Rattle.std.specs.Ordering.{nat_cmp}
use denote.Ref.{Bor}

abbrev pub texts : List (Bor (List ℕ)) → List (List ℕ)
texts names = map (λ name. name.now) names

-- the map has a place of each name in the list, and no other name
abbrev pub TellsPlaces : List (List ℕ) → BTreeMap (Bor (List ℕ)) ℕ → Type 0
TellsPlaces names places =
    (name : List ℕ) → MatchOption (get_by (λ key. slice_cmp nat_cmp name key.now) places) (Contains names name → ⊥) (λ at. slice_get names at ≡ Some name)
