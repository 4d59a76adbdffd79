-- How the items of a run are told, one after another: docs/MODULE.md, "How a run goes". A teller takes each item as it
-- comes and says whether the run goes on.
use Rattle.std.specs.Prelude.{◌≡◌, ◌++◌, List, [], ◌∷◌, Bool, true, false}
use Rattle.cm_base.specs.declared.play.Item.{Item}

-- every item is told, and the run goes on after each
pub data TellsAll {Teller : Type 0} (tells : Teller → Item → Bool → Teller → Type 0) : Teller → List Item → Teller → Type 0 where
  TellsNone : (teller : Teller) → TellsAll tells teller [] teller
  TellsNext : (before between after : Teller) (item : Item) (items : List Item) → tells before item true between →
      TellsAll tells between items after → TellsAll tells before (item ∷ items) after

-- the items are told up to one at which the run stops
pub record StopsAmong {Teller : Type 0} (tells : Teller → Item → Bool → Teller → Type 0) (before : Teller) (items : List Item) (after : Teller) : Type 0 where
  pub first : List Item
  pub item : Item
  pub others : List Item
  pub parts : items ≡ first ++ (item ∷ others)
  pub between : Teller
  pub told : TellsAll tells before first between
  pub stopped : tells between item false after
