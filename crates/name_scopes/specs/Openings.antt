-- Numbers of namespaces: docs/LANGUAGE.md, "Names". The whole patch is number 0, and each other namespace has a number
-- above that of the one that it stands in.
use Rattle.std.specs.Prelude.{◌≡◌, ℕ, ◌<◌, false, List, [], ◌∷◌, ◌++◌, length, map, if◌then◌else◌, Option, Some, None, position, slice_index_or}
use Rattle.std.specs.List.{list_any}
use Rattle.std.specs.Borrow.{Bor}
use Rattle.cm_meaning.specs.Declared.{Space}
use Rattle.cm_meaning.specs.Scopes.{is_space}

-- a name in a namespace, by its number
abbrev pub Opening : Type 0
Opening = ℕ × Bor (List ℕ)

-- the namespace that a name opens
abbrev pub inner : List Space → ℕ → List ℕ → Space
inner spaces space name = name ∷ slice_index_or spaces space []

-- the namespace that another stands in
abbrev pub outer_space : Space → Option Space
outer_space [] = None
outer_space (name ∷ space) = Some space

unfoldable pub opened_from : List Space → List Opening → List Space
opened_from spaces [] = spaces
opened_from spaces (a ∷ openings) = opened_from (spaces ++ inner spaces a.0 a.1.now ∷ []) openings

-- the whole patch, and what is opened in turn
abbrev pub spaces_of : List Opening → List Space
spaces_of openings = opened_from ([] ∷ []) openings

-- the number of a namespace
abbrev pub space_number : List Space → Space → Option ℕ
space_number spaces space = position (is_space space) spaces

-- a namespace that has no number goes last
abbrev pub with_space : List Space → Space → List Space
with_space spaces space = if list_any (is_space space) spaces then spaces else spaces ++ space ∷ []

-- no two are one
abbrev pub AreDistinct : List Space → Type 0
AreDistinct [] = Unit {0}
AreDistinct (s ∷ spaces) = (list_any (is_space s) spaces ≡ false) × AreDistinct spaces

abbrev pub StandBelow : ℕ → List Opening → Type 0
StandBelow n [] = Unit {0}
StandBelow n (a ∷ openings) = (a.0 < n) × StandBelow n openings

abbrev pub opens : List Space → Opening → Space
opens spaces a = inner spaces a.0 a.1.now

pub record AreRooted (openings : List Opening) (spaces : List Space) : Type 0 where
  pub below : StandBelow (length spaces) openings
  pub each : spaces ≡ [] ∷ map (opens spaces) openings
  pub distinct : AreDistinct spaces
