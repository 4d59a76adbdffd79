-- The tokens of a file stand at rising places, and so do their parts.
use Rattle.std.proofs.Common.{◌≡◌, ◌≢◌, ℕ, ◌+◌, ◌<◌, ◌==◌, Bool, true, false, cond, List, [], ◌∷◌, ◌++◌, length, fold, refl, sym, ◌∙◌, ap, subst, arith, ◌⊎◌, inl, inr}
use Rattle.cm_base.specs.declared.place.Place.{Place}
use Rattle.cm_tree.specs.declared.token.Token.{Token as Lexeme}
use Rattle.cm_tree.specs.Pieces.{Text, Piece, Gap, Token, Fault, IsLongest}
use Rattle.cm_tree.specs.Tokens.{Part, IsSound, Cuts, with_token, tokens_of, place_after}
use Rattle.cm_lexer.specs.Moving.{moved}
use Rattle.cm_lexer.proofs.Longest.{piece_some}
use Rattle.cm_lexer.proofs.Places.{moved_all}
use Rattle.token_places.specs.Rising.{IsBefore, AreBehind, AreRising, TokensRise}

-- ---- places

before_later : (p q r : Place) → IsBefore p q → IsBefore q r → IsBefore p r
before_later p q r (f, inl a) (g, inl b) = (f ∙ g, inl (omega arith))
before_later p q r (f, inl a) (g, inr (e, b)) = (f ∙ g, inl (omega arith))
before_later p q r (f, inr (e, a)) (g, inl b) = (f ∙ g, inl (omega arith))
before_later p q r (f, inr (e, a)) (g, inr (d, b)) = (f ∙ g, inr (e ∙ d, omega arith))

-- no place is before itself
pub before_apart : (p q : Place) → IsBefore p q → p ≢ q
before_apart p q (f, inl a) e = let same : p.line ≡ q.line = ap (λ (x : Place). x.line) e in absurd (omega arith)
before_apart p q (f, inr (l, a)) e = let same : p.column ≡ q.column = ap (λ (x : Place). x.column) e in absurd (omega arith)

by_line : (p : Place) (line : Bool) → IsBefore p (cond line (record { file = p.file; line = p.line + 1; column = 1 }) (record { file = p.file; line = p.line; column = p.column + 1 }))
by_line p true = (refl, inl (omega arith))
by_line p false = (refl, inr (refl, omega arith))

step : (p : Place) (byte : ℕ) → IsBefore p (moved p byte)
step p byte = by_line p (byte == 10)

fold_from : (text : Text) (p q : Place) → IsBefore p q → IsBefore p (fold moved q text)
fold_from [] p q h = h
fold_from (byte ∷ text) p q h = fold_from text p (moved q byte) (before_later p q (moved q byte) h (step q byte))

-- the place behind a text that has bytes
behind_text : (file : ℕ) (before text : Text) → 0 < length text → IsBefore (place_after file before) (place_after file (before ++ text))
behind_text file before [] some = absurd (omega arith)
behind_text file before (byte ∷ text) some =
    subst (IsBefore (place_after file before)) (moved_all file before (byte ∷ text)) (fold_from text (place_after file before) (moved (place_after file before) byte) (step (place_after file before) byte))

on_text : (file : ℕ) (p : Place) (before text : Text) → IsBefore p (place_after file before) → IsBefore p (place_after file (before ++ text))
on_text file p before text h = subst (IsBefore p) (moved_all file before text) (fold_from text p (place_after file before) h)

-- ---- the tokens of a file

with_behind : (file : ℕ) (p : Place) (before bytes : Text) (piece : Piece) (others : List Lexeme) → IsBefore p (place_after file before) → AreBehind p others → AreBehind p (with_token file before piece bytes others)
with_behind file p before bytes Gap others h rest = rest
with_behind file p before bytes (Token kind) others h rest = (h, rest)
with_behind file p before bytes (Fault cause at) others h rest = rest

all_behind : (file : ℕ) (p : Place) (before : Text) (parts : List Part) → IsBefore p (place_after file before) → AreBehind p (tokens_of file before parts)
unfolding tokens_of
all_behind file p before [] h = tt
all_behind file p before (part ∷ parts) h =
    with_behind file p before part.bytes part.piece _ h (all_behind file p (before ++ part.bytes) parts (on_text file p before part.bytes h))

with_rising : (file : ℕ) (before bytes rest : Text) (piece : Piece) (others : List Lexeme) → IsSound piece → IsLongest piece bytes rest → AreRising others →
    (0 < length bytes → AreBehind (place_after file before) others) → AreRising (with_token file before piece bytes others)
with_rising file before bytes rest Gap others sound longest rising behind = rising
with_rising file before bytes rest (Token kind) others sound longest rising behind = (behind (omega (arith, piece_some (Token kind) bytes longest.is)), rising)
with_rising file before bytes rest (Fault cause at) others sound longest rising behind = absurd sound

all_rising : (file : ℕ) (before text : Text) (parts : List Part) → Cuts parts text [] → AreRising (tokens_of file before parts)
unfolding Cuts tokens_of
all_rising file before text [] cut = tt
all_rising file before text (part ∷ parts) cut =
    with_rising file before part.bytes cut.0 part.piece _ cut.2 cut.3 (all_rising file (before ++ part.bytes) cut.0 parts cut.4)
    (λ some. all_behind file (place_after file before) (before ++ part.bytes) parts (behind_text file before part.bytes some))

pub rise : TokensRise
rise file text tokens is = subst AreRising (sym is.list) (all_rising file [] text is.parts is.cut)

-- ---- parts of lists

pub behind_right : (p : Place) (front others : List Lexeme) → AreBehind p (front ++ others) → AreBehind p others
behind_right p [] others all = all
behind_right p (t ∷ front) others all = behind_right p front others all.1

pub rising_right : (front others : List Lexeme) → AreRising (front ++ others) → AreRising others
rising_right [] others all = all
rising_right (t ∷ front) others all = rising_right front others all.1

pub behind_left : (p : Place) (front others : List Lexeme) → AreBehind p (front ++ others) → AreBehind p front
behind_left p [] others all = tt
behind_left p (t ∷ front) others all = (all.0, behind_left p front others all.1)

pub rising_left : (front others : List Lexeme) → AreRising (front ++ others) → AreRising front
rising_left [] others all = tt
rising_left (t ∷ front) others all = (behind_left t.place front others all.0, rising_left front others all.1)

-- a token of a list stands there
abbrev pub StandsIn : Place → List Lexeme → Type 0
StandsIn p [] = ⊥
StandsIn p (t ∷ tokens) = (p ≡ t.place) ⊎ StandsIn p tokens

pub stands_right : (p : Place) (front others : List Lexeme) → StandsIn p others → StandsIn p (front ++ others)
stands_right p [] others h = h
stands_right p (t ∷ front) others h = inr (stands_right p front others h)

pub stands_left : (p : Place) (front others : List Lexeme) → StandsIn p front → StandsIn p (front ++ others)
stands_left p [] others h = absurd h
stands_left p (t ∷ front) others (inl e) = inl e
stands_left p (t ∷ front) others (inr h) = inr (stands_left p front others h)

behind_stands : (p q : Place) (tokens : List Lexeme) → AreBehind p tokens → StandsIn q tokens → IsBefore p q
behind_stands p q [] all h = absurd h
behind_stands p q (t ∷ tokens) all (inl e) = subst (IsBefore p) (sym e) all.0
behind_stands p q (t ∷ tokens) all (inr h) = behind_stands p q tokens all.1 h

-- what stands in the front is before what stands behind it
pub parts_apart : (p q : Place) (front others : List Lexeme) → AreRising (front ++ others) → StandsIn p front → StandsIn q others → p ≢ q
parts_apart p q [] others all h k = absurd h
parts_apart p q (t ∷ front) others all (inl e) k =
    before_apart p q (subst (λ x. IsBefore x q) (sym e) (behind_stands t.place q (front ++ others) all.0 (stands_right q front others k)))
parts_apart p q (t ∷ front) others all (inr h) k = parts_apart p q front others all.1 h k
