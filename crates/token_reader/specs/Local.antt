-- What an answer rests on.
use Rattle.std.specs.Prelude.{◌≡◌, ◌<◌, List, ◌++◌, length, Ok, Err}
use Rattle.cm_tree.specs.declared.token.Token.{Token}
use Rattle.token_reader.specs.Parsers.{Outcome, Parser, first}

-- From these tokens the parser reads some, and looks at one more at most: the answer is the same, and what is left
-- is what follows, whichever tokens follow the one that it looked at
abbrev pub LocalAt : {A : Type 0} → Parser A → List Token → Outcome A → Type 0
LocalAt p ts (Ok q) = (used : List Token) × (ts ≡ used ++ q.1) × ((r : List Token) → first r ≡ first q.1 → p (used ++ r) ≡ Ok (q.0, r))
LocalAt p ts (Err e) = (used : List Token) × (ts ≡ used ++ e) × ((r : List Token) → first r ≡ first e → p (used ++ r) ≡ Err r)

-- the answer depends on the tokens through the one looked at alone
pub record Local {A : Type 0} (p : Parser A) : Type 0 where
  pub at : (ts : List Token) → LocalAt p ts (p ts)

-- what is read is one token or more
pub record Takes {A : Type 0} (p : Parser A) : Type 0 where
  pub some : (ts : List Token) (a : A) (r : List Token) → p ts ≡ Ok (a, r) → length r < length ts
