-- The tokens that are computed are those of the file, and the declarations are those that they spell.
use Rattle.std.proofs.Common.{◌≡◌, ℕ, zero, suc, ◌+◌, ◌≤◌, List, [], ◌∷◌, ◌++◌, length, take, drop, Option, Some, None, Ok, Err, option_map, refl, ap, sym, subst, ◌∙◌, arith, length-append, fold}
use Rattle.std.proofs.lemmas.List.{take-append-drop, length-take-le}
use Rattle.std.specs.Str.{IsUtf8}
use Rattle.cm_base.specs.declared.place.Place.{Place}
use Rattle.cm_tree.specs.declared.token.Token.{Token as Lexeme}
use Rattle.cm_tree.specs.declared.token.TokenKind.{TokenKind}
use Rattle.cm_tree.specs.declared.decl.Decl.{Decl}
use Rattle.cm_tree.specs.Pieces.{Text, Piece, Gap, Token, Fault, IsLongest}
use Rattle.cm_tree.specs.Tokens.{Part, IsSound, Cuts, with_token, tokens_of, place_after, IsTokens}
use Rattle.cm_tree.specs.Faults.{IsFile}
use Rattle.token_reader.specs.Parsers.{Outcome}
use Rattle.file_grammar.specs.Files.{decls}
use Rattle.file_grammar.proofs.Declarations.{file_sound}
use Rattle.cm_lexer.specs.Moving.{moved}
use Rattle.cm_lexer.specs.Scan.{scan}
use Rattle.cm_lexer.proofs.Longest.{scan_longest, stands_all}
use Rattle.cm_lexer.proofs.Places.{moved_all, first_place}
use Rattle.patch_rows.specs.Source.{Cut, with_piece, cut, tokens_in, whole, parsed, decls_in}

-- ---- tokens

-- a text behind another one is cut to its end, and these are its tokens
pub record IsCut (before text : Text) (tokens : List Lexeme) : Type 0 where
  pub parts : List Part
  pub cut : Cuts parts text []
  pub list : tokens ≡ tokens_of 1 before parts

some_map : {A B : Type 0} (f : A → B) (x : Option A) (y : B) → option_map f x ≡ Some y → (a : A) × (x ≡ Some a) × (y ≡ f a)
some_map f None y e = absurd cc
some_map f (Some a) y e = (a, refl, cc)

some_same : {A : Type 0} (x y : A) → Some x ≡ Some y → x ≡ y
some_same x y e = cc

-- a cut of shorter texts goes right
abbrev GoesRight : Cut → Type 0
GoesRight go = (offset : ℕ) (at : Place) (before text : Text) (tokens : List Lexeme) → offset ≡ length before → at ≡ place_after 1 before → go offset at text ≡ Some tokens → IsCut before text tokens

-- one piece in front of others
with_part : (before text : Text) (piece : Piece) (len : ℕ) (tokens others : List Lexeme) → IsSound piece → IsLongest piece (take len text) (drop len text) →
    tokens ≡ with_token 1 before piece (take len text) others → IsCut (before ++ take len text) (drop len text) others → IsCut before text tokens
unfolding Cuts tokens_of
with_part before text piece len tokens others sound longest list r =
    record {
      parts = record { piece = piece; bytes = take len text } ∷ r.parts;
      cut = (drop len text, sym (take-append-drop len text), sound, longest, r.cut);
      list = list ∙ ap (with_token 1 before piece (take len text)) r.list;
    }

lexeme_same : (offset len : ℕ) (at : Place) (kind : TokenKind) (before front : Text) (others : List Lexeme) → offset ≡ length before → at ≡ place_after 1 before → length front ≡ len →
    ◌≡◌ {A = List Lexeme} (record { kind = kind; start = offset; end = offset + len; place = at } ∷ others) (with_token 1 before (Token kind) front others)
lexeme_same offset len at kind before front others e p n = rw (e, p, n) refl

next_offset : (offset len : ℕ) (before text : Text) → offset ≡ length before → len ≤ length text → offset + len ≡ length (before ++ take len text)
next_offset offset len before text e le = omega (arith, e, length-append before (take len text), length-take-le len text le)

next_place : (at : Place) (before front : Text) → at ≡ place_after 1 before → fold moved at front ≡ place_after 1 (before ++ front)
next_place at before front e = ap (λ (p : Place). fold moved p front) e ∙ moved_all 1 before front

by_piece : (go : Cut) → GoesRight go → (offset : ℕ) (at : Place) (before text : Text) (piece : Piece) (len : ℕ) (tokens : List Lexeme) → offset ≡ length before → at ≡ place_after 1 before →
    len ≤ length text → IsLongest piece (take len text) (drop len text) → with_piece go offset at text piece len ≡ Some tokens → IsCut before text tokens
by_piece go right offset at before text Gap len tokens e p le longest is =
    with_part before text Gap len tokens tokens tt longest refl
    (right (offset + len) (fold moved at (take len text)) (before ++ take len text) (drop len text) tokens (next_offset offset len before text e le) (next_place at before (take len text) p) is)
by_piece go right offset at before text (Token kind) len tokens e p le longest is =
    let token : Lexeme = record { kind = kind; start = offset; end = offset + len; place = at } in
    let w : (others : List Lexeme) × (go (offset + len) (fold moved at (take len text)) (drop len text) ≡ Some others) × (tokens ≡ token ∷ others) =
    some_map (λ (others : List Lexeme). token ∷ others) (go (offset + len) (fold moved at (take len text)) (drop len text)) tokens is in
    with_part before text (Token kind) len tokens w.0 tt longest (w.2 ∙ lexeme_same offset len at kind before (take len text) w.0 e p (length-take-le len text le))
    (right (offset + len) (fold moved at (take len text)) (before ++ take len text) (drop len text) w.0 (next_offset offset len before text e le) (next_place at before (take len text) p) w.1)
by_piece go right offset at before text (Fault cause place) len tokens e p le longest is = absurd cc

goes_right : (most : ℕ) → GoesRight (cut most)
unfolding cut Cuts tokens_of
goes_right zero offset at before text tokens e p is = absurd cc
goes_right (suc most) offset at before [] tokens e p is = record { parts = []; cut = refl; list = sym (some_same [] tokens is) }
goes_right (suc most) offset at before (byte ∷ text) tokens e p is =
    let some : 1 ≤ length (byte ∷ text) = omega arith in
    by_piece (cut most) (goes_right most) offset at before (byte ∷ text) (scan (byte ∷ text)).piece (scan (byte ∷ text)).len tokens e p
    ((stands_all (byte ∷ text) some).within) (scan_longest (byte ∷ text) some) is

pub tokens_read : (text : Text) (tokens : List Lexeme) → IsUtf8 text → tokens_in text ≡ Some tokens → IsTokens 1 text (record { list = tokens; last = place_after 1 text })
unfolding tokens_in
tokens_read text tokens utf8 is =
    let r : IsCut [] text tokens = goes_right (suc (length text)) 0 (record { file = 1; line = 1; column = 1 }) [] text tokens refl (sym (first_place 1)) is in
    record { utf8 = utf8; parts = r.parts; cut = r.cut; list = r.list; last = refl }

-- ---- declarations

whole_file : (tokens : List Lexeme) (x : Outcome (List Decl)) (all : List Decl) → decls 256 tokens ≡ x → whole x ≡ Some all → IsFile 256 tokens (record { decls = all })
whole_file tokens (Ok (found, [])) all is e =
    subst (λ (ds : List Decl). IsFile 256 tokens (record { decls = ds })) (some_same found all e) (file_sound 256 tokens found [] is).file
whole_file tokens (Ok (found, t ∷ rest)) all is e = absurd cc
whole_file tokens (Err rest) all is e = absurd cc

parsed_file : (x : Option (List Lexeme)) (all : List Decl) → parsed x ≡ Some all → (tokens : List Lexeme) × (x ≡ Some tokens) × IsFile 256 tokens (record { decls = all })
parsed_file None all e = absurd cc
parsed_file (Some tokens) all e = (tokens, refl, whole_file tokens (decls 256 tokens) all refl e)

pub file_read : (text : Text) (all : List Decl) → decls_in text ≡ Some all → (tokens : List Lexeme) × (tokens_in text ≡ Some tokens) × IsFile 256 tokens (record { decls = all })
unfolding decls_in
file_read text all e = parsed_file (tokens_in text) all e
