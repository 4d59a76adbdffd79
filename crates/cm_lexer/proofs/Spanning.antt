-- The tokens of a file stand one behind another, each with its text.
use Rattle.std.proofs.Common.{◌≡◌, ℕ, zero, suc, ◌+◌, ◌-◌, ◌≤◌, ◌<◌, List, [], ◌∷◌, ◌++◌, length, take, drop, refl, ap, sym, subst, ◌∙◌, arith, length-append, append_assoc}
use Rattle.std.specs.Prelude.{slice_range, Result, Ok, Err, IfOk}
use Rattle.std.proofs.lemmas.List.{take_at, drop_at}
use Rattle.cm_base.specs.declared.failure.Fail.{Fail}
use Rattle.cm_tree.specs.declared.token.Token.{Token as Lexeme}
use Rattle.cm_tree.specs.declared.token.TokenKind.{TokenKind}
use Rattle.cm_tree.specs.declared.tokens.Tokens.{Tokens}
use Rattle.cm_tree.specs.Pieces.{Text, IsToken, name, reserved_word, number_literal, quoted, sign_token, Piece, Gap, Token, Fault, IsLongest}
use Rattle.cm_tree.specs.Spans.{HasText, IsSpan, AreSpansFrom, AreSpans}
use Rattle.cm_tree.specs.Tokens.{Part, IsSound, Cuts, with_token, tokens_of, IsTokens}
use Rattle.cm_lexer.proofs.Longest.{piece_some}

token_text : {kind : TokenKind} → {text : Text} → IsToken kind text → HasText text kind
token_text (name text is) = refl
token_text (reserved_word text word is) = tt
token_text (number_literal text l is below) = tt
token_text (quoted body is) = refl
token_text (sign_token text sign is) = tt

slice_front : (before front rest : Text) → slice_range (before ++ (front ++ rest)) (length before) (length before + length front) ≡ front
slice_front before front rest =
    ap (take (length before + length front - length before)) (drop_at before (front ++ rest) (length before) refl) ∙ take_at front rest (length before + length front - length before) (omega arith)

from_later : (low high : ℕ) (bytes : Text) (tokens : List Lexeme) → low ≤ high → AreSpansFrom high bytes tokens → AreSpansFrom low bytes tokens
from_later low high bytes [] le spans = tt
from_later low high bytes (token ∷ tokens) le spans = let start : high ≤ token.start = spans.0 in (omega arith, spans.1, spans.2)

with_span : (file : ℕ) (bytes before front rest : Text) (piece : Piece) (others : List Lexeme) → bytes ≡ before ++ (front ++ rest) → IsSound piece → IsLongest piece front rest
    → AreSpansFrom (length (before ++ front)) bytes others → AreSpansFrom (length before) bytes (with_token file before piece front others)
with_span file bytes before front rest Gap others e sound longest spans = from_later (length before) (length (before ++ front)) bytes others (omega (arith, length-append before front)) spans
with_span file bytes before front rest (Token kind) others e sound longest spans = (
  omega arith,
  record {
    some = omega (arith, piece_some (Token kind) front longest.is);
    within = omega (arith, ap length e, length-append before (front ++ rest), length-append front rest);
    text = subst (λ (t : Text). HasText t kind) (sym (ap (λ (b : Text). slice_range b (length before) (length before + length front)) e ∙ slice_front before front rest)) (token_text longest.is);
  },
  subst (λ (n : ℕ). AreSpansFrom n bytes others) (length-append before front) spans,
)
with_span file bytes before front rest (Fault cause at) others e sound longest spans = absurd sound

spans_of : (file : ℕ) (bytes before text : Text) (parts : List Part) → bytes ≡ before ++ text → Cuts parts text [] → AreSpansFrom (length before) bytes (tokens_of file before parts)
unfolding Cuts tokens_of
spans_of file bytes before text [] e cut = tt
spans_of file bytes before text (part ∷ parts) e cut =
    let whole : bytes ≡ before ++ (part.bytes ++ cut.0) = e ∙ ap (λ (t : Text). before ++ t) cut.1 in
    let later = spans_of file bytes (before ++ part.bytes) cut.0 parts (whole ∙ sym (append_assoc before part.bytes cut.0)) cut.4 in
    with_span file bytes before part.bytes cut.0 part.piece (tokens_of file (before ++ part.bytes) parts) whole cut.2 cut.3 later

pub spans_found : (file : ℕ) (bytes : Text) (result : Result Tokens Fail) → IfOk result (λ t. IsTokens file bytes t) → IfOk result (λ t. AreSpans bytes t.list)
spans_found file bytes (Ok t) found = subst (λ (l : List Lexeme). AreSpans bytes l) (sym found.list) (spans_of file bytes [] bytes found.parts refl found.cut)
spans_found file bytes (Err e) found = tt
