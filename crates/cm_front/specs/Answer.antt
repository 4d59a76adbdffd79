-- What `front` answers where it gives no names.
use Rattle.std.specs.Prelude.{◌≡◌, List, []}
use Rattle.cm_base.specs.Answers.{refusal}
use Rattle.cm_base.specs.declared.cause.Cause.TheVariants.{Grammar, NotYet}
use Rattle.cm_base.specs.declared.failure.Refused.{Refused}
use Rattle.cm_base.specs.declared.place.Place.{Place}
use Rattle.cm_tree.specs.declared.file.File.{File}
use Rattle.cm_tree.specs.declared.tokens.Tokens.{Tokens}
use Rattle.cm_tree.specs.Pieces.{Text}
use Rattle.cm_front.specs.Form.{HaveForm}
use Rattle.cm_front.specs.Phases.{HaveLexFault, AreTokens, HaveFault, AreTrees}

-- the first place of the first file
abbrev pub first_place : Place
first_place = record { file = 1; line = 1; column = 1 }

-- a refusal by a lexing fault of one of the texts
pub record IsLexing (texts : List Text) (refused : Refused) : Type 0 where
  pub fault : HaveLexFault texts refused.cause refused.place
  pub cycle : refused.cycle ≡ []

-- a refusal by a fault of the grammar, of files with these tokens
pub record IsParsing (all : List Tokens) (refused : Refused) : Type 0 where
  pub cause : refused.cause ≡ Grammar
  pub fault : HaveFault all refused.place
  pub cycle : refused.cycle ≡ []

-- a refusal of trees that no code covers so far
pub record IsUncovered (files : List File) (refused : Refused) : Type 0 where
  pub none : (processor input output : Text) → ¬ HaveForm files processor input output
  pub is : refused ≡ refusal NotYet first_place

-- The texts are refused in the first phase that has a fault: by a lexing fault of one of the files; where each file has
-- tokens, by a fault of the grammar of one; and where each has a tree, since no code covers them so far.
pub data IsRefusal (texts : List Text) (refused : Refused) : Type 0 where
  Lexing : IsLexing texts refused → IsRefusal texts refused
  Parsing : (all : List Tokens) → AreTokens texts all → IsParsing all refused → IsRefusal texts refused
  Uncovered : (files : List File) → AreTrees texts files → IsUncovered files refused → IsRefusal texts refused
