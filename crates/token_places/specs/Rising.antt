-- Where tokens stand in their file, one behind another: docs/LANGUAGE.md, "Tokens".
use Rattle.std.specs.Prelude.{ℕ, ◌≡◌, ◌<◌, ◌⊎◌, List, [], ◌∷◌}
use Rattle.cm_base.specs.declared.place.Place.{Place}
use Rattle.cm_tree.specs.declared.token.Token.{Token}
use Rattle.cm_tree.specs.declared.tokens.Tokens.{Tokens}
use Rattle.cm_tree.specs.Pieces.{Text}
use Rattle.cm_tree.specs.Tokens.{IsTokens}

-- a place in an earlier line, or in an earlier column of the same line
abbrev pub IsBefore : Place → Place → Type 0
IsBefore p q = (p.file ≡ q.file) × ((p.line < q.line) ⊎ ((p.line ≡ q.line) × (p.column < q.column)))

-- all tokens stand behind the place
abbrev pub AreBehind : Place → List Token → Type 0
AreBehind p [] = Unit {0}
AreBehind p (t ∷ tokens) = IsBefore p t.place × AreBehind p tokens

-- each token stands before all that follow it
abbrev pub AreRising : List Token → Type 0
AreRising [] = Unit {0}
AreRising (t ∷ tokens) = AreBehind t.place tokens × AreRising tokens

-- the tokens of every file
abbrev pub TokensRise : Type 0
TokensRise = (file : ℕ) (text : Text) (tokens : Tokens) → IsTokens file text tokens → AreRising tokens.list
