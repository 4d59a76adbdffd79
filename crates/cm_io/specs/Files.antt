-- Files by their names.
use Rattle.std.specs.Prelude.{ℕ, ◌≡◌, ◌≢◌, List, [], ◌∷◌, map, take, Option, Some, None, if◌then◌else◌}
use Rattle.std.specs.Str.{bytes_eq}
use Rattle.cm_base.specs.HostEnds.{AreDistinct}

-- a finite map from names to bytes: where a name stands twice, its first pair counts
abbrev pub Files : Type 0
Files = List (List ℕ × List ℕ)

-- what a name maps to
abbrev pub file_at : Files → List ℕ → Option (List ℕ)
file_at [] name = None
file_at (file ∷ files) name = if bytes_eq file.0 name then Some file.1 else file_at files name

-- the first bytes of a file, or all of them where it has no more
abbrev pub first_bytes : ℕ → Option (List ℕ) → Option (List ℕ)
first_bytes most None = None
first_bytes most (Some bytes) = Some (take most bytes)

-- every other name maps to what it did
abbrev pub SameElsewhere : Files → Files → List ℕ → Type 0
SameElsewhere old new name = (other : List ℕ) → other ≢ name → file_at new other ≡ file_at old other

-- where files are told, every other name maps to what it did, and they are told on
abbrev pub KeepsOthers : Option Files → Option Files → List ℕ → Type 0
KeepsOthers None None name = Unit {0}
KeepsOthers None (Some new) name = ⊥
KeepsOthers (Some old) None name = ⊥
KeepsOthers (Some old) (Some new) name = SameElsewhere old new name

-- no name stands twice
abbrev pub HasDistinctNames : Files → Type 0
HasDistinctNames files = AreDistinct (map (λ file. file.0) files)

-- the files after one is written: it takes the place of the file of that name, or stands behind all
abbrev pub with_file : Files → List ℕ → List ℕ → Files
with_file [] name bytes = (name, bytes) ∷ []
with_file (file ∷ files) name bytes = if bytes_eq file.0 name then (name, bytes) ∷ files else file ∷ with_file files name bytes
