-- Which declarations of a patch the places of their words tell apart: docs/LANGUAGE.md, "Names".
use Rattle.std.specs.Prelude.{ℕ, ◌≡◌, false, List, Some, slice_get}
use Rattle.cm_tree.specs.declared.file.File.{File}
use Rattle.cm_meaning.specs.Declared.{Declared, is_namespace}
use Rattle.cm_meaning.specs.PatchSites.{all_names}
use Rattle.path_places.specs.Rising.{AreRead}

-- where one is no namespace, no other has its word at the same place; all names of a namespace's path have one place
pub record AreApart (all : List Declared) : Type 0 where
  pub each : (i j : ℕ) (x y : Declared) → slice_get all i ≡ Some x → slice_get all j ≡ Some y → is_namespace x.named ≡ false
      → x.word.place ≡ y.word.place → i ≡ j

-- all declarations of every patch that was read
abbrev pub WordsApart : Type 0
WordsApart = (files : List File) → AreRead files → AreApart (all_names files)
