-- A text has tokens or a fault.
use Rattle.std.proofs.Common.{◌≡◌, ◌⊎◌, inl, inr, ℕ, zero, suc, ◌+◌, ◌≤◌, List, [], ◌∷◌, ◌++◌, length, take, drop, refl, ap, sym, subst, ◌∙◌, arith, length-drop}
use Rattle.std.specs.Str.{IsUtf8}
use Rattle.std.proofs.lemmas.List.{take-append-drop}
use Rattle.cm_tree.specs.Pieces.{Text, Piece, Gap, Token, Fault, IsLongest}
use Rattle.cm_tree.specs.Tokens.{Part, IsSound, Cuts, bytes_of, tokens_of, place_after, faulty}
use Rattle.cm_lexer.specs.Answer.{HasTokens, HasFault}
use Rattle.cm_lexer.specs.Scan.{scan}
use Rattle.cm_lexer.proofs.Covering.{Stands}
use Rattle.cm_lexer.proofs.Cutting.{cuts_more}
use Rattle.cm_lexer.proofs.Longest.{scan_longest, stands_all}

all_cut : (file : ℕ) (bytes : Text) (parts : List Part) → IsUtf8 bytes → Cuts parts bytes [] → HasTokens file bytes
all_cut file bytes parts utf8 cut = record {
  tokens = record { list = tokens_of file [] parts; last = place_after file bytes };
  is = record { utf8 = utf8; parts = parts; cut = cut; list = refl; last = refl };
}

-- the number is at least that of the bytes that are left
go_on : (most : ℕ) (file : ℕ) (bytes left : Text) (parts : List Part) → length left ≤ most → IsUtf8 bytes → Cuts parts bytes left → HasTokens file bytes ⊎ HasFault file bytes
go_on most file bytes [] parts le utf8 cut = inl (all_cut file bytes parts utf8 cut)
go_on zero file bytes (byte ∷ rest) parts le utf8 cut = absurd (omega arith)
go_on (suc most) file bytes (byte ∷ rest) parts le utf8 cut = by_piece (scan (byte ∷ rest)).piece refl (λ p sound longest.
    go_on most file bytes (drop n (byte ∷ rest)) (parts ++ (record { piece = p; bytes = take n (byte ∷ rest) } ∷ [])) shorter utf8
    (cuts_more parts (record { piece = p; bytes = take n (byte ∷ rest) }) bytes (byte ∷ rest) (drop n (byte ∷ rest)) cut (sym (take-append-drop n (byte ∷ rest))) sound longest)) where
      n : ℕ
      n = (scan (byte ∷ rest)).len

      here : Stands (byte ∷ rest) (scan (byte ∷ rest))
      here = stands_all (byte ∷ rest) (omega arith)

      shorter : length (drop (scan (byte ∷ rest)).len (byte ∷ rest)) ≤ most
      shorter = omega (arith, length-drop (scan (byte ∷ rest)).len (byte ∷ rest), here.some)

      longest_as : (p : Piece) → (scan (byte ∷ rest)).piece ≡ p → IsLongest p (take (scan (byte ∷ rest)).len (byte ∷ rest)) (drop (scan (byte ∷ rest)).len (byte ∷ rest))
      longest_as p e = subst (λ (q : Piece). IsLongest q (take (scan (byte ∷ rest)).len (byte ∷ rest)) (drop (scan (byte ∷ rest)).len (byte ∷ rest))) e (scan_longest (byte ∷ rest) (omega arith))

      by_piece : (p : Piece) → (scan (byte ∷ rest)).piece ≡ p
          → ((q : Piece) → IsSound q → IsLongest q (take (scan (byte ∷ rest)).len (byte ∷ rest)) (drop (scan (byte ∷ rest)).len (byte ∷ rest)) → HasTokens file bytes ⊎ HasFault file bytes)
          → HasTokens file bytes ⊎ HasFault file bytes
      by_piece Gap e next = next Gap tt (longest_as Gap e)
      by_piece (Token kind) e next = next (Token kind) tt (longest_as (Token kind) e)
      by_piece (Fault cause at) e next =
          inr (record {
            cause = cause;
            place = place_after file (bytes_of parts ++ take at (take (scan (byte ∷ rest)).len (byte ∷ rest)));
            is = faulty cause (bytes_of parts ++ take at (take (scan (byte ∷ rest)).len (byte ∷ rest))) (record {
              parts = parts;
              front = take (scan (byte ∷ rest)).len (byte ∷ rest);
              rest = drop (scan (byte ∷ rest)).len (byte ∷ rest);
              cut = subst (λ (t : Text). Cuts parts bytes t) (sym (take-append-drop (scan (byte ∷ rest)).len (byte ∷ rest))) cut;
              at = at;
              fault = longest_as (Fault cause at) e;
              is = refl;
            });
          })

pub tokens_or_fault : (file : ℕ) (bytes : Text) → IsUtf8 bytes → HasTokens file bytes ⊎ HasFault file bytes
unfolding Cuts
tokens_or_fault file bytes utf8 = go_on (length bytes) file bytes bytes [] (omega arith) utf8 refl
