-- The patches of the form, with what they mean.
use Rattle.std.specs.Prelude.{ℕ, ◌≡◌, List, [], ◌∷◌}
use Rattle.cm_tree.specs.declared.file.File.{File}
use Rattle.cm_tree.specs.declared.tokens.Tokens.{Tokens}
use Rattle.cm_tree.specs.DeclSpelling.{SpellsFile}
use Rattle.cm_tree.specs.Pieces.{Text}
use Rattle.cm_tree.specs.Tokens.{IsTokens}
use Rattle.cm_meaning.specs.Linked.{Linked, linked}
use Rattle.cm_meaning.specs.Nodes.{Tree, IsTree}
use Rattle.cm_front.specs.Form.{HaveForm}

-- a file that is spelled by the tokens of a text
pub record IsRead (f : File) : Type 0 where
  pub number : ℕ
  pub text : Text
  pub tokens : Tokens
  pub is_tokens : IsTokens number text tokens
  pub spelled : SpellsFile f tokens.list

abbrev pub AreRead : List File → Type 0
AreRead [] = Unit {0}
AreRead (f ∷ files) = IsRead f × AreRead files

-- files of the form with these endpoints, and what they mean
pub record IsThroughPatch (input output : Text) (patch : Linked) : Type 0 where
  pub files : List File
  pub read : AreRead files
  pub processor : Text
  pub form : HaveForm files processor input output
  pub tree : Tree
  pub is_tree : IsTree files tree
  pub is : patch ≡ linked files tree
