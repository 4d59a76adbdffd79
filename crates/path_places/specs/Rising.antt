-- Where the paths of a patch stand, one behind another: docs/LANGUAGE.md, "Names".
use Rattle.std.specs.Prelude.{ℕ, ◌+◌, ◌<◌, ◌≡◌, true, List, [], ◌∷◌, map, Some, slice_get}
use Rattle.cm_base.specs.declared.place.Place.{Place}
use Rattle.cm_tree.specs.declared.file.File.{File}
use Rattle.cm_tree.specs.declared.tokens.Tokens.{Tokens}
use Rattle.cm_tree.specs.DeclSpelling.{SpellsFile}
use Rattle.cm_tree.specs.Pieces.{Text}
use Rattle.cm_tree.specs.Tokens.{IsTokens}
use Rattle.cm_meaning.specs.Declared.{Declared}
use Rattle.cm_meaning.specs.PatchSites.{patch_sites}
use Rattle.path_names.specs.Found.{Found, found_at}
use Rattle.path_names.specs.declared.id.Use.{Use}
use Rattle.path_names.specs.Ids.{placed, use_as}
use Rattle.path_names.specs.Rising.{AreRising, comes_before}

-- ---- files that were read

-- the tokens of a text spell the file, which has this number
pub record IsRead (number : ℕ) (f : File) : Type 0 where
  pub text : Text
  pub tokens : Tokens
  pub is_tokens : IsTokens number text tokens
  pub spelled : SpellsFile f tokens.list

abbrev pub AreReadFrom : ℕ → List File → Type 0
AreReadFrom number [] = Unit {0}
AreReadFrom number (f ∷ files) = IsRead number f × AreReadFrom (number + 1) files

-- the files of a patch have numbers from 1 on, in their order
abbrev pub AreRead : List File → Type 0
AreRead files = AreReadFrom 1 files

-- ---- rising places

-- the places of the paths of a patch, in the order of the files and of the text
abbrev pub path_places : List File → List Place
path_places files = map (λ (f : Found). f.0.place) (found_at (patch_sites files))

-- each comes before all that follow it
pub record AreRisingPlaces (places : List Place) : Type 0 where
  pub each : (i j : ℕ) (p q : Place) → i < j → slice_get places i ≡ Some p → slice_get places j ≡ Some q → comes_before p q ≡ true

-- the paths of every patch that was read
abbrev pub PathsRise : Type 0
PathsRise = (files : List File) → AreRead files → AreRisingPlaces (path_places files)

-- numbers of what they stand for, at the same places
abbrev pub UsesRise : Type 0
UsesRise = (files : List File) (members locals : List Declared) (uses : List Use) → AreRead files
    → map (use_as members locals) uses ≡ map placed (found_at (patch_sites files)) → AreRising uses
