-- What `lex` answers besides tokens.
use Rattle.std.specs.Prelude.{ℕ, ◌≡◌, List, []}
use Rattle.cm_base.specs.declared.cause.Cause.{Cause}
use Rattle.cm_base.specs.declared.failure.Refused.{Refused}
use Rattle.cm_base.specs.declared.place.Place.{Place}
use Rattle.cm_tree.specs.declared.tokens.Tokens.{Tokens}
use Rattle.cm_tree.specs.Tokens.{IsTokens, IsLexFault}

-- the refusal has the cause and the place of a lexing fault of the file
pub record IsLexRefusal (file : ℕ) (bytes : List ℕ) (refused : Refused) : Type 0 where
  pub fault : IsLexFault file bytes refused.cause refused.place
  pub cycle : refused.cycle ≡ []

-- the file has no lexing fault
abbrev pub HasNoFault : ℕ → List ℕ → Type 0
HasNoFault file bytes = (cause : Cause) → (place : Place) → ¬ IsLexFault file bytes cause place

-- a list of tokens of the file
pub record HasTokens (file : ℕ) (bytes : List ℕ) : Type 0 where
  pub tokens : Tokens
  pub is : IsTokens file bytes tokens

-- a lexing fault of the file
pub record HasFault (file : ℕ) (bytes : List ℕ) : Type 0 where
  pub cause : Cause
  pub place : Place
  pub is : IsLexFault file bytes cause place
