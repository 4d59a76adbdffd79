-- Numbers of names: docs/LANGUAGE.md, "Names". Each text has the number of its first place in the list.
use Rattle.std.specs.Prelude.{ℕ, List, [], ◌∷◌, ◌++◌, map, if◌then◌else◌, Option, bytes_eq, position}
use Rattle.std.specs.List.{list_any}
use Rattle.std.specs.Borrow.{Bor}

abbrev pub texts_of : List (Bor (List ℕ)) → List (List ℕ)
texts_of keys = map (λ (k : Bor (List ℕ)). k.now) keys

-- the number of a text
abbrev pub number_in : List (List ℕ) → List ℕ → Option ℕ
number_in names text = position (bytes_eq text) names

-- a text that has no number goes last
abbrev pub added : List (List ℕ) → List ℕ → List (List ℕ)
added names text = if list_any (bytes_eq text) names then names else names ++ text ∷ []
