-- The tokens of all files of a patch stand at rising places.
use Rattle.std.proofs.Common.{ℕ, ◌+◌, List, [], ◌∷◌, ◌++◌, map, refl, sym, subst}
use Rattle.std.proofs.lemmas.List.{map-append}
use Rattle.cm_base.specs.declared.place.Place.{Place}
use Rattle.cm_tree.specs.declared.token.Token.{Token as Lexeme}
use Rattle.cm_tree.specs.declared.tokens.Tokens.{Tokens}
use Rattle.cm_tree.specs.declared.file.File.{File}
use Rattle.cm_tree.specs.Pieces.{Text, Piece, Gap, Token, Fault}
use Rattle.cm_tree.specs.Tokens.{Part, IsTokens, with_token, tokens_of, place_after}
use Rattle.token_places.specs.Rising.{AreBehind, AreRising}
use Rattle.token_places.proofs.Rise.{rise}
use Rattle.path_places.specs.Rising.{IsRead, AreReadFrom}
use Rattle.path_places.proofs.Places.{Behind, Rise, Within, From, in_one_file, from_both, rise_both}

abbrev pub places_of : List Lexeme → List Place
places_of tokens = map (λ (t : Lexeme). t.place) tokens

-- ---- the tokens of a file

behind_places : (p : Place) (tokens : List Lexeme) → AreBehind p tokens → Behind p (places_of tokens)
behind_places p [] all = tt
behind_places p (t ∷ tokens) all = (in_one_file p t.place all.0, behind_places p tokens all.1)

rising_places : (tokens : List Lexeme) → AreRising tokens → Rise (places_of tokens)
rising_places [] all = tt
rising_places (t ∷ tokens) all = (behind_places t.place tokens all.0, rising_places tokens all.1)

with_within : (file : ℕ) (before bytes : Text) (piece : Piece) (others : List Lexeme) → Within file (places_of others) → Within file (places_of (with_token file before piece bytes others))
unfolding place_after
with_within file before bytes Gap others h = h
with_within file before bytes (Token kind) others h = (refl, h)
with_within file before bytes (Fault cause at) others h = h

parts_within : (file : ℕ) (before : Text) (parts : List Part) → Within file (places_of (tokens_of file before parts))
unfolding tokens_of
parts_within file before [] = tt
parts_within file before (part ∷ parts) = with_within file before part.bytes part.piece _ (parts_within file (before ++ part.bytes) parts)

tokens_within : (file : ℕ) (text : Text) (tokens : Tokens) → IsTokens file text tokens → Within file (places_of tokens.list)
tokens_within file text tokens is = subst (λ all. Within file (places_of all)) (sym is.list) (parts_within file [] is.parts)

-- ---- the tokens of all files

unfoldable pub all_tokens : (number : ℕ) (files : List File) → AreReadFrom number files → List Lexeme
all_tokens number [] read = []
all_tokens number (f ∷ files) read = read.0.tokens.list ++ all_tokens (number + 1) files read.1

pub all_rise : (number : ℕ) (files : List File) (read : AreReadFrom number files)
    → Rise (places_of (all_tokens number files read)) × From number (places_of (all_tokens number files read))
unfolding all_tokens
all_rise number [] read = (tt, tt)
all_rise number (f ∷ files) read = whole read.0 (all_tokens (number + 1) files read.1) (all_rise (number + 1) files read.1) where
  whole : (first : IsRead number f) (others : List Lexeme) → Rise (places_of others) × From (number + 1) (places_of others)
      → Rise (places_of (first.tokens.list ++ others)) × From number (places_of (first.tokens.list ++ others))
  whole first others (rising, from) =
      let within = tokens_within number first.text first.tokens first.is_tokens in
      subst (λ places. Rise places × From number places) (sym (map-append (λ (t : Lexeme). t.place) first.tokens.list others)) (
        rise_both number (places_of first.tokens.list) (places_of others) (rising_places first.tokens.list (rise number first.text first.tokens first.is_tokens)) within rising from,
        from_both number (places_of first.tokens.list) (places_of others) within from,
      )
