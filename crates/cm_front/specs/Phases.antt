-- The phases lexing and grammar over the texts of a patch's files, which are numbered in their order:
-- docs/LANGUAGE.md, "What is compiled so far".
use Rattle.std.specs.Prelude.{ℕ, ◌+◌, ◌⊎◌, List, [], ◌∷◌, length}
use Rattle.std.specs.List.{sum_by}
use Rattle.cm_base.specs.declared.cause.Cause.{Cause}
use Rattle.cm_base.specs.declared.place.Place.{Place}
use Rattle.cm_tree.specs.declared.file.File.{File}
use Rattle.cm_tree.specs.declared.tokens.Tokens.{Tokens}
use Rattle.cm_tree.specs.Faults.{IsFile, IsFault}
use Rattle.cm_tree.specs.Pieces.{Text}
use Rattle.cm_tree.specs.Tokens.{IsTokens, IsLexFault}
use Rattle.cm_front.specs.Form.{HaveForm}

-- how many bytes the texts have in all
abbrev pub bytes_in : List Text → ℕ
bytes_in texts = sum_by (λ (text : Text). length text) texts

-- ---- lexing

-- the tokens of each file, where the first one has this number
abbrev pub AreTokensFrom : ℕ → List Text → List Tokens → Type 0
AreTokensFrom number [] [] = Unit {0}
AreTokensFrom number [] (tokens ∷ all) = ⊥
AreTokensFrom number (text ∷ texts) [] = ⊥
AreTokensFrom number (text ∷ texts) (tokens ∷ all) = IsTokens number text tokens × AreTokensFrom (number + 1) texts all

abbrev pub AreTokens : List Text → List Tokens → Type 0
AreTokens texts all = AreTokensFrom 1 texts all

-- one of the files has this lexing fault
abbrev pub HaveLexFaultFrom : ℕ → List Text → Cause → Place → Type 0
HaveLexFaultFrom number [] cause place = ⊥
HaveLexFaultFrom number (text ∷ texts) cause place = IsLexFault number text cause place ⊎ HaveLexFaultFrom (number + 1) texts cause place

abbrev pub HaveLexFault : List Text → Cause → Place → Type 0
HaveLexFault texts cause place = HaveLexFaultFrom 1 texts cause place

-- ---- grammar

-- the files that the tokens spell, each no higher than 256
abbrev pub AreFiles : List Tokens → List File → Type 0
AreFiles [] [] = Unit {0}
AreFiles [] (file ∷ files) = ⊥
AreFiles (tokens ∷ all) [] = ⊥
AreFiles (tokens ∷ all) (file ∷ files) = IsFile 256 tokens.list file × AreFiles all files

-- the tokens of one of the files have a fault of the grammar at this place
abbrev pub HaveFault : List Tokens → Place → Type 0
HaveFault [] place = ⊥
HaveFault (tokens ∷ all) place = IsFault 256 tokens.list tokens.last place ⊎ HaveFault all place

-- the trees of the files
pub record AreTrees (texts : List Text) (files : List File) : Type 0 where
  pub all : List Tokens
  pub tokens : AreTokens texts all
  pub trees : AreFiles all files

-- ---- what is compiled so far

-- the texts are those of one processor of the form, with these names
pub record IsForm (texts : List Text) (processor input output : Text) : Type 0 where
  pub files : List File
  pub trees : AreTrees texts files
  pub form : HaveForm files processor input output
