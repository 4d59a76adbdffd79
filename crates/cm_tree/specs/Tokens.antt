-- The tokens of a file, and its lexing faults: the whole text cut from its beginning, each piece the longest at its place.
-- docs/LANGUAGE.md, "Tokens".
use Rattle.std.specs.Prelude.{ℕ, ◌≡◌, ◌+◌, ◌==◌, List, [], ◌∷◌, ◌++◌, length, take, reverse}
use Rattle.std.specs.List.{count_by, prefix_len}
use Rattle.std.specs.Str.{IsUtf8, IsValidUpTo}
use Rattle.cm_base.specs.declared.cause.Cause.{Cause}
use Rattle.cm_base.specs.declared.cause.Cause.TheVariants.{BadByte}
use Rattle.cm_base.specs.declared.place.Place.{Place}
use Rattle.cm_tree.specs.declared.token.Token.{Token as Lexeme}
use Rattle.cm_tree.specs.declared.tokens.Tokens.{Tokens}
use Rattle.cm_tree.specs.Pieces.{Text, is_in_line, Piece, Gap, Token, Fault, IsLongest}

-- The place after a text from the beginning of a file: the line is 1 and one more for each line feed, and the column is 1 and one more
-- for each byte behind the last line feed.
unfoldable pub place_after : ℕ → Text → Place
place_after file text = record {
  file = file;
  line = count_by (λ byte. byte == 10) text + 1;
  column = prefix_len is_in_line (reverse text) + 1;
}

-- a gap or a token of the file, and its bytes
pub record Part : Type 0 where
  pub piece : Piece
  pub bytes : Text

-- a piece other than a fault
abbrev pub IsSound : Piece → Type 0
IsSound Gap = Unit {0}
IsSound (Token kind) = Unit {0}
IsSound (Fault cause at) = ⊥

-- The text begins with these parts, one after another, each sound and the longest at its place, and the rest is left.
unfoldable pub Cuts : List Part → Text → Text → Type 0
Cuts [] text left = text ≡ left
Cuts (part ∷ parts) text left = (rest : Text) × (text ≡ part.bytes ++ rest) × IsSound part.piece × IsLongest part.piece part.bytes rest × Cuts parts rest left

-- the bytes of the parts
unfoldable pub bytes_of : List Part → Text
bytes_of [] = []
bytes_of (part ∷ parts) = part.bytes ++ bytes_of parts

-- a token in front of others; gaps are none
abbrev pub with_token : ℕ → Text → Piece → Text → List Lexeme → List Lexeme
with_token file before Gap bytes others = others
with_token file before (Token kind) bytes others =
    record { kind = kind; start = length before; end = length before + length bytes; place = place_after file before } ∷ others
with_token file before (Fault cause at) bytes others = others

-- the tokens among the parts, which stand behind `before`
unfoldable pub tokens_of : ℕ → Text → List Part → List Lexeme
tokens_of file before [] = []
tokens_of file before (part ∷ parts) = with_token file before part.piece part.bytes (tokens_of file (before ++ part.bytes) parts)

-- The tokens of a file: it is UTF-8, and the whole text is cut into gaps and these tokens.
pub record IsTokens (file : ℕ) (bytes : Text) (tokens : Tokens) : Type 0 where
  pub utf8 : IsUtf8 bytes
  pub parts : List Part
  pub cut : Cuts parts bytes []
  pub list : tokens.list ≡ tokens_of file [] parts
  pub last : tokens.last ≡ place_after file bytes

-- the first fault in the cut: the longest piece behind these parts is faulty
pub record IsFirstFault (bytes : Text) (cause : Cause) (before : Text) : Type 0 where
  pub parts : List Part
  pub front : Text
  pub rest : Text
  pub cut : Cuts parts bytes (front ++ rest)
  pub at : ℕ
  pub fault : IsLongest (Fault cause at) front rest
  pub is : before ≡ bytes_of parts ++ take at front

-- A lexing fault of a file: the first one in the cut, or the first byte of a sequence that isn't UTF-8.
pub data IsLexFault (file : ℕ) (bytes : Text) : Cause → Place → Type 0 where
  faulty : (cause : Cause) → (before : Text) → IsFirstFault bytes cause before → IsLexFault file bytes cause (place_after file before)
  ill_formed : (valid : ℕ) → IsValidUpTo bytes valid → IsLexFault file bytes BadByte (place_after file (take valid bytes))
