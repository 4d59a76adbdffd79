-- A text is cut from its beginning, in one way.
use Rattle.std.proofs.Common.{◌≡◌, ℕ, zero, suc, ◌+◌, ◌≤◌, ◌<◌, Bool, true, false, List, [], ◌∷◌, ◌++◌, length, take, drop, refl, ap, sym, subst, ◌∙◌, arith, length-append, append_assoc, append-nil}
use Rattle.std.specs.Str.{IsUtf8}
use Rattle.cm_base.specs.declared.cause.Cause.{Cause}
use Rattle.cm_tree.specs.declared.token.Token.{Token as Lexeme}
use Rattle.cm_tree.specs.declared.token.TokenKind.{TokenKind}
use Rattle.cm_tree.specs.Pieces.{Text, Piece, Gap, Token, Fault, IsLongest}
use Rattle.std.proofs.Common.{fold}
use Rattle.std.proofs.lemmas.List.{take-append-drop, take-append-le, length-take-le}
use Rattle.cm_base.specs.declared.place.Place.{Place}
use Rattle.cm_tree.specs.Tokens.{Part, IsSound, Cuts, bytes_of, with_token, tokens_of, place_after, IsTokens, IsLexFault, faulty}
use Rattle.cm_lexer.specs.declared.pen.Pen.{Pen}
use Rattle.cm_lexer.specs.Moving.{moved, IsNear}
use Rattle.cm_lexer.specs.Scan.{Found, found, scan}
use Rattle.cm_lexer.proofs.Longest.{scan_longest, stands_all, fault_at}
use Rattle.cm_lexer.proofs.Covering.{Stands}
use Rattle.cm_lexer.proofs.Places.{moved_all, first_place}

pub cuts_more : (parts : List Part) (part : Part) (text left rest : Text) → Cuts parts text left → left ≡ part.bytes ++ rest → IsSound part.piece → IsLongest part.piece part.bytes rest
    → Cuts (parts ++ (part ∷ [])) text rest
unfolding Cuts
cuts_more [] part text left rest cut split sound longest = (rest, cut ∙ split, sound, longest, refl)
cuts_more (first ∷ parts) part text left rest cut split sound longest = (cut.0, cut.1, cut.2, cut.3, cuts_more parts part cut.0 left rest cut.4 split sound longest)

pub bytes_more : (parts : List Part) (part : Part) → bytes_of (parts ++ (part ∷ [])) ≡ bytes_of parts ++ part.bytes
unfolding bytes_of
bytes_more [] part = append-nil part.bytes
bytes_more (first ∷ parts) part = ap (λ (t : Text). first.bytes ++ t) (bytes_more parts part) ∙ sym (append_assoc first.bytes (bytes_of parts) part.bytes)

pub cuts_bytes : (parts : List Part) (text left : Text) → Cuts parts text left → text ≡ bytes_of parts ++ left
unfolding Cuts bytes_of
cuts_bytes [] text left cut = cut
cuts_bytes (part ∷ parts) text left cut = cut.1 ∙ ap (λ (t : Text). part.bytes ++ t) (cuts_bytes parts cut.0 left cut.4) ∙ sym (append_assoc part.bytes (bytes_of parts) left)

with_more : (file : ℕ) (before : Text) (piece : Piece) (bytes : Text) (xs ys : List Lexeme) → with_token file before piece bytes (xs ++ ys) ≡ with_token file before piece bytes xs ++ ys
with_more file before Gap bytes xs ys = refl
with_more file before (Token kind) bytes xs ys = refl
with_more file before (Fault cause at) bytes xs ys = refl

pub tokens_more : (file : ℕ) (before : Text) (parts : List Part) (part : Part)
    → tokens_of file before (parts ++ (part ∷ [])) ≡ tokens_of file before parts ++ with_token file (before ++ bytes_of parts) part.piece part.bytes []
unfolding tokens_of bytes_of
tokens_more file before [] part = ap (λ (t : Text). with_token file t part.piece part.bytes []) (sym (append-nil before))
tokens_more file before (first ∷ parts) part =
    ap (with_token file before first.piece first.bytes) (tokens_more file (before ++ first.bytes) parts part
    ∙ ap (λ (t : Text). tokens_of file (before ++ first.bytes) parts ++ with_token file t part.piece part.bytes []) (append_assoc before first.bytes (bytes_of parts)))
    ∙ with_more file before first.piece first.bytes (tokens_of file (before ++ first.bytes) parts) (with_token file (before ++ (first.bytes ++ bytes_of parts)) part.piece part.bytes [])

-- ---- as far as the text is cut

-- the bytes up to `rest` are cut into parts, whose tokens are in the list, and the pen stands behind them
pub record Reached (file : ℕ) (bytes rest : Text) (tokens : List Lexeme) (pen : Pen) : Type 0 where
  pub parts : List Part
  pub cut : Cuts parts bytes rest
  pub list : tokens ≡ tokens_of file [] parts
  pub place : pen.place ≡ place_after file (bytes_of parts)
  pub offset : pen.offset ≡ length (bytes_of parts)

pub starts : (file : ℕ) (bytes : Text) (tokens : List Lexeme) (pen : Pen) → tokens ≡ [] → pen ≡ record { offset = 0; place = record { file = file; line = 1; column = 1 } } → Reached file bytes bytes tokens pen
unfolding Cuts bytes_of tokens_of
starts file bytes tokens pen none first = record { parts = []; cut = refl; list = none; place = ap (λ (p : Pen). p.place) first ∙ sym (first_place file); offset = ap (λ (p : Pen). p.offset) first }

pub starts_near : (file : ℕ) (pen : Pen) → pen ≡ record { offset = 0; place = record { file = file; line = 1; column = 1 } } → IsNear pen
starts_near file pen first = subst (λ (p : Pen). IsNear p) (sym first) (record { line = omega arith; column = omega arith })

-- the token that the pen stands at
pub token_at : (file : ℕ) (before front : Text) (kind : TokenKind) (pen : Pen) (n : ℕ) → pen.offset ≡ length before → pen.place ≡ place_after file before → length front ≡ n
    → ◌≡◌ {A = List Lexeme} (record { kind = kind; start = pen.offset; end = pen.offset + n; place = pen.place } ∷ []) (with_token file before (Token kind) front [])
token_at file before front kind pen n offset place len = rw (offset, place, len) refl

pub record IsNext (text : Text) (piece : Piece) (n : ℕ) : Type 0 where
  pub some : 1 ≤ n
  pub within : n ≤ length text
  pub longest : IsLongest piece (take n text) (drop n text)

pub is_next : (text : Text) (piece : Piece) (n : ℕ) → 1 ≤ length text → scan text ≡ found piece n → IsNext text piece n
is_next text piece n some is =
    let here = stands_all text some in
    let e : (scan text).len ≡ n = ap (λ (f : Found). f.len) is in
    record {
      some = omega (arith, here.some, e);
      within = omega (arith, here.within, e);
      longest = subst (λ (f : Found). IsLongest f.piece (take f.len text) (drop f.len text)) is (scan_longest text some);
    }

pub goes_on : (file : ℕ) (bytes rest : Text) (list more : List Lexeme) (pen next : Pen) (piece : Piece) (n : ℕ)
    → (r : Reached file bytes rest list pen) → 1 ≤ length rest → scan rest ≡ found piece n → IsSound piece
    → more ≡ list ++ with_token file (bytes_of r.parts) piece (take n rest) []
    → next.place ≡ fold moved pen.place (take n rest) → next.offset ≡ pen.offset + n
    → Reached file bytes (drop n rest) more next
goes_on file bytes rest list more pen next piece n r some is sound tokens place offset =
    let here = is_next rest piece n some is in
    let part : Part = record { piece = piece; bytes = take n rest } in
    let all = bytes_more r.parts part in
    record {
      parts = r.parts ++ (part ∷ []);
      cut = cuts_more r.parts part bytes rest (drop n rest) r.cut (sym (take-append-drop n rest)) sound here.longest;
      list = tokens ∙ ap (λ (l : List Lexeme). l ++ with_token file (bytes_of r.parts) piece (take n rest) []) r.list ∙ sym (tokens_more file [] r.parts part);
      place = place ∙ ap (λ (p : Place). fold moved p (take n rest)) r.place ∙ moved_all file (bytes_of r.parts) (take n rest) ∙ ap (place_after file) (sym all);
      offset = omega (arith, offset, r.offset, ap length all, length-append (bytes_of r.parts) (take n rest), length-take-le n rest here.within);
    }

pub reached_room : (file : ℕ) (bytes rest : Text) (list : List Lexeme) (pen : Pen) → Reached file bytes rest list pen → pen.offset + length rest ≡ length bytes
reached_room file bytes rest list pen r = omega (arith, r.offset, ap length (cuts_bytes r.parts bytes rest r.cut), length-append (bytes_of r.parts) rest)

empty : (text : Text) → length text ≡ 0 → text ≡ []
empty [] none = refl
empty (byte ∷ text) none = absurd (omega arith)

-- the whole text is cut
pub reached_tokens : (file : ℕ) (bytes rest : Text) (list : List Lexeme) (pen : Pen) → Reached file bytes rest list pen → length rest ≡ 0 → IsUtf8 bytes → IsTokens file bytes (record { list = list; last = pen.place })
reached_tokens file bytes rest list pen r none utf8 =
    let cut : Cuts r.parts bytes [] = subst (λ (t : Text). Cuts r.parts bytes t) (empty rest none) r.cut in
    record {
      utf8 = utf8;
      parts = r.parts;
      cut = cut;
      list = r.list;
      last = r.place ∙ ap (place_after file) (sym (cuts_bytes r.parts bytes [] cut ∙ append-nil (bytes_of r.parts)));
    }

-- a faulty piece is next
pub reached_fault : (file : ℕ) (bytes rest : Text) (list : List Lexeme) (pen : Pen) (cause : Cause) (at : ℕ) (place : Place)
    → Reached file bytes rest list pen → 1 ≤ length rest → (scan rest).piece ≡ Fault cause at → place ≡ fold moved pen.place (take at rest) → IsLexFault file bytes cause place
reached_fault file bytes rest list pen cause at place r some is e =
    let n = (scan rest).len in
    let longest : IsLongest (Fault cause at) (take n rest) (drop n rest) = subst (λ (p : Piece). IsLongest p (take n rest) (drop n rest)) is (scan_longest rest some) in
    let whole = take-append-drop n rest in
    let before : take at rest ≡ take at (take n rest) = sym (ap (take at) whole) ∙ take-append-le at (take n rest) (drop n rest) (fault_at longest.is) in
    let there : place ≡ place_after file (bytes_of r.parts ++ take at (take n rest)) =
    e ∙ ap (λ (p : Place). fold moved p (take at rest)) r.place ∙ moved_all file (bytes_of r.parts) (take at rest) ∙ ap (λ (t : Text). place_after file (bytes_of r.parts ++ t)) before in
    subst (λ (p : Place). IsLexFault file bytes cause p) (sym there) (faulty cause (bytes_of r.parts ++ take at (take n rest)) (record {
      parts = r.parts;
      front = take n rest;
      rest = drop n rest;
      cut = subst (λ (t : Text). Cuts r.parts bytes t) (sym whole) r.cut;
      at = at;
      fault = longest;
      is = refl;
    }))
