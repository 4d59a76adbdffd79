-- Paths that end at one endpoint for values.
use Rattle.std.specs.Prelude.{ℕ, Bool, true, false, ◌≡◌, ◌<◌, ◌==◌, ◌&&◌, List, Some, slice_get}
use Rattle.cm_base.specs.declared.host.Kind.{Kind}
use Rattle.cm_base.specs.declared.host.Kind.TheVariants.{Stream, Value, Event}
use Rattle.cm_base.specs.declared.place.Place.{Place}
use Rattle.cm_core.specs.declared.program.Program.{Program}
use Rattle.cm_core.specs.Tree.{end_at}
use Rattle.graph_flat.specs.declared.paths.Path.{Path}

abbrev pub is_value : Kind → Bool
is_value Stream = false
is_value Value = true
is_value Event = false

-- whether a path ends at this endpoint, and this is for values
abbrev pub takes : Program → ℕ → Path → Bool
takes p e x = (x.to.0 == e) && is_value (end_at p x.to).kind

-- no two of the paths end at one endpoint for values
abbrev pub AreApart : Program → List Path → Type 0
AreApart p xs = (one other : ℕ) (x y : Path) → one < other → slice_get xs one ≡ Some x → slice_get xs other ≡ Some y → takes p x.to.0 y ≡ false

-- two that do, and the place of the last connection of one
pub record AreShared (p : Program) (xs : List Path) (place : Place) : Type 0 where
  pub one : ℕ
  pub other : ℕ
  pub order : one < other
  pub path : Path
  pub rival : Path
  pub path_is : slice_get xs one ≡ Some path
  pub rival_is : slice_get xs other ≡ Some rival
  pub same : takes p path.to.0 rival ≡ true
  pub at : rival.last ≡ place
