-- Places of paths, one behind another: docs/LANGUAGE.md, "Names". A file comes before the next one, a line before the next one,
-- and in a line a column before the next one.
use Rattle.std.specs.Prelude.{◌≡◌, ℕ, ◌<◌, Bool, true, List, if◌then◌else◌, nat_eq, nat_lt, Some, slice_get}
use Rattle.cm_base.specs.declared.place.Place.{Place}
use Rattle.path_names.specs.declared.id.Use.{Use}

abbrev pub comes_before : Place → Place → Bool
comes_before p q = if nat_eq p.file q.file then (if nat_eq p.line q.line then nat_lt p.column q.column else nat_lt p.line q.line) else nat_lt p.file q.file

-- each stands before all that follow it
pub record AreRising (uses : List Use) : Type 0 where
  pub each : (i j : ℕ) (a b : Use) → i < j → slice_get uses i ≡ Some a → slice_get uses j ≡ Some b → comes_before a.place b.place ≡ true
