-- What a file is, and where a fault of the grammar is: docs/LANGUAGE.md, "Faults of the grammar".
use Rattle.std.specs.Prelude.{ℕ, ◌≤◌, ◌≡◌, List, [], ◌∷◌, ◌++◌}
use Rattle.cm_base.specs.declared.place.Place.{Place}
use Rattle.cm_tree.specs.declared.token.Token.{Token}
use Rattle.cm_tree.specs.declared.file.File.{File}
use Rattle.cm_tree.specs.StmtHeights.{file_height}
use Rattle.cm_tree.specs.DeclSpelling.{SpellsFile}

-- the tokens spell the file, which is no higher than `most`
pub record IsFile (most : ℕ) (tokens : List Token) (file : File) : Type 0 where
  pub spelled : SpellsFile file tokens
  pub low : file_height file ≤ most

-- the place of the first of the tokens, or `last` where there is none
abbrev pub place_of : Place → List Token → Place
place_of last [] = last
place_of last (t ∷ ts) = t.place

-- no file begins with the tokens `seen` and the next one; where there is no next one, they spell none
abbrev pub NoFile : ℕ → List Token → List Token → Type 0
NoFile most seen [] = (file : File) → IsFile most seen file → ⊥
NoFile most seen (t ∷ ts) = (others : List Token) (file : File) → IsFile most (seen ++ t ∷ others) file → ⊥

-- no file no higher than `most` begins with the tokens through the place; after the last token the place is `last`
pub record IsFault (most : ℕ) (tokens : List Token) (last place : Place) : Type 0 where
  pub seen : List Token
  pub others : List Token
  pub parts : tokens ≡ seen ++ others
  pub place_is : place ≡ place_of last others
  pub none : NoFile most seen others
