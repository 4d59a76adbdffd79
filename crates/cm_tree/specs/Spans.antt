-- Where tokens stand in their file.
use Rattle.std.specs.Prelude.{ℕ, ◌≡◌, ◌<◌, ◌≤◌, List, [], ◌∷◌, length, slice_range}
use Rattle.cm_tree.specs.declared.token.Token.{Token}
use Rattle.cm_tree.specs.declared.token.TokenKind.{TokenKind}
use Rattle.cm_tree.specs.declared.token.TokenKind.TheVariants as kind
use Rattle.cm_tree.specs.Pieces.{Text}

-- a name or a string has this text
abbrev pub HasText : Text → TokenKind → Type 0
HasText text (kind.Word name) = name ≡ text
HasText text (kind.Number value wide) = Unit {0}
HasText text (kind.Text quoted) = quoted ≡ text
HasText text (kind.Reserved word) = Unit {0}
HasText text (kind.Sign sign) = Unit {0}

-- a token that has some bytes, and the text of these
pub record IsSpan (bytes : Text) (token : Token) : Type 0 where
  pub some : token.start < token.end
  pub within : token.end ≤ length bytes
  pub text : HasText (slice_range bytes token.start token.end) token.kind

-- the tokens stand one behind another, the first one not before this byte
abbrev pub AreSpansFrom : ℕ → Text → List Token → Type 0
AreSpansFrom from bytes [] = Unit {0}
AreSpansFrom from bytes (token ∷ tokens) = (from ≤ token.start) × IsSpan bytes token × AreSpansFrom token.end bytes tokens

abbrev pub AreSpans : Text → List Token → Type 0
AreSpans bytes tokens = AreSpansFrom 0 bytes tokens
