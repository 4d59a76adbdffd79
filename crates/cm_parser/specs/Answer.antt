-- What a refusal of a file says.
use Rattle.std.specs.Prelude.{◌≡◌, List, [], Err}
use Rattle.cm_base.specs.declared.cause.Cause.TheVariants.{Grammar}
use Rattle.cm_base.specs.declared.failure.Refused.{Refused}
use Rattle.cm_base.specs.declared.place.Place.{Place}
use Rattle.cm_tree.specs.declared.token.Token.{Token}
use Rattle.cm_tree.specs.declared.decl.Decl.{Decl}
use Rattle.cm_tree.specs.Faults.{IsFault, place_of}
use Rattle.token_reader.specs.Parsers.{Outcome}

-- the reading refuses a token, or the end of the tokens, and the refusal has its place
pub record IsRefusal (outcome : Outcome (List Decl)) (last : Place) (refused : Refused) : Type 0 where
  pub others : List Token
  pub refuses : outcome ≡ Err others
  pub cause : refused.cause ≡ Grammar
  pub cycle : refused.cycle ≡ []
  pub place_is : refused.place ≡ place_of last others

-- the refusal has the place of a fault of the grammar
pub record IsFileRefusal (tokens : List Token) (last : Place) (refused : Refused) : Type 0 where
  pub cause : refused.cause ≡ Grammar
  pub cycle : refused.cycle ≡ []
  pub fault : IsFault 256 tokens last refused.place
