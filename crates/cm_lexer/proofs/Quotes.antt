-- Strings: what is read at a quote is the longest piece there.
use Rattle.std.proofs.Common.{◌≡◌, ℕ, zero, suc, ◌+◌, ◌≤◌, ◌<◌, ◌&&◌, ◌||◌, ◌==◌, Bool, true, false, not, cond, List, [], ◌∷◌, ◌++◌, length, take, drop, Option, Some, None, refl, ap, sym, subst, ◌∙◌, arith, slice_index, length-append, append_assoc, ◌⊎◌, inl, inr}
use Rattle.std.specs.Prelude.{if◌then◌else◌}
use Rattle.std.specs.Bool.{IsTrue}
use Rattle.std.proofs.lemmas.List.{take_at, length-take-le}
use Rattle.std.proofs.lemmas.Bool.{eqb-true, eq-eqb}
use Rattle.cm_base.specs.declared.cause.Cause.TheVariants.{OpenString, BadEscape}
use Rattle.cm_tree.specs.declared.token.TokenKind.TheVariants as kind
use Rattle.cm_tree.specs.Pieces.{Text, is_plain, is_escape, IsQuoted, empty, plain, escape, IsPiece, quoted, open_string, bad_escape, Piece, Token, Fault}
use Rattle.cm_lexer.specs.Scan.{Found, found, body_len, scan, scan_quoted}
use Rattle.cm_lexer.proofs.Runs.{both, one_more, two_more}
use Rattle.cm_lexer.proofs.Covering.{Covered, Stands, covered_longer}

pub scan_quote : (text : Text) → scan (34 ∷ text) ≡ scan_quoted (34 ∷ text)
unfolding scan
scan_quote text = refl

-- ---- how far a string goes

body_plain : (byte : ℕ) (text : Text) → is_plain byte ≡ true → body_len (byte ∷ text) ≡ body_len text + 1
unfolding body_len
body_plain byte [] is = rw is refl
body_plain byte (next ∷ text) is = rw is refl

body_escape : (byte : ℕ) (text : Text) → is_escape byte ≡ true → body_len (92 ∷ byte ∷ text) ≡ body_len text + 2
unfolding body_len
body_escape byte text is = rw is refl

body_append : {body : Text} → (left : Text) → IsQuoted body → body_len (body ++ left) ≡ length body + body_len left
body_append left empty = omega arith
body_append left (plain byte text is more) = let h = body_append left more in omega (arith, h, body_plain byte (text ++ left) is)
body_append left (escape byte text is more) = let h = body_append left more in omega (arith, h, body_escape byte (text ++ left) is)

body_quoted : (text : Text) → IsQuoted (take (body_len text) text)
unfolding body_len
body_quoted [] = empty
body_quoted (byte ∷ []) = by_plain (is_plain byte) refl where
  by_plain : (b : Bool) → is_plain byte ≡ b → IsQuoted (take (if b then 1 else 0) (byte ∷ []))
  by_plain true is = plain byte [] is empty
  by_plain false is = empty
body_quoted (byte ∷ next ∷ text) = by_plain (body_quoted (next ∷ text)) (body_quoted text) (is_plain byte) refl where
  by_escape : IsQuoted (take (body_len text) text) → (b : Bool) → (byte == 92 && is_escape next) ≡ b → IsQuoted (take (if b then body_len text + 2 else 0) (byte ∷ next ∷ text))
  by_escape tail true is =
      let parts = both (byte == 92) (is_escape next) is in
      let backslash : byte ≡ 92 = eqb-true byte 92 parts.0 in
      rw (two_more (body_len text)) (subst (λ (b : ℕ). IsQuoted (b ∷ next ∷ take (body_len text) text)) (sym backslash) (escape next (take (body_len text) text) parts.1 tail))
  by_escape tail false is = empty

  by_plain : IsQuoted (take (body_len (next ∷ text)) (next ∷ text)) → IsQuoted (take (body_len text) text) → (b : Bool) → is_plain byte ≡ b
      → IsQuoted (take (if b then body_len (next ∷ text) + 1 else (if byte == 92 && is_escape next then body_len text + 2 else 0)) (byte ∷ next ∷ text))
  by_plain near far true is = rw (one_more (body_len (next ∷ text))) (plain byte (take (body_len (next ∷ text)) (next ∷ text)) is near)
  by_plain near far false is = by_escape far (byte == 92 && is_escape next) refl

within_if : (b : Bool) (m n high : ℕ) → m ≤ high → n ≤ high → (if b then m else n) ≤ high
within_if true m n high low else_low = low
within_if false m n high low else_low = else_low

body_within : (text : Text) → body_len text ≤ length text
unfolding body_len
body_within [] = omega arith
body_within (byte ∷ []) = within_if (is_plain byte) 1 0 _ (omega arith) (omega arith)
body_within (byte ∷ next ∷ text) =
    let near = body_within (next ∷ text) in
    let far = body_within text in
    within_if (is_plain byte) (body_len (next ∷ text) + 1) _ _ (omega (arith, near)) (within_if (byte == 92 && is_escape next) (body_len text + 2) 0 _ (omega (arith, far)) (omega arith))

body_at_quote : (left : Text) → body_len (34 ∷ left) ≡ 0
unfolding body_len
body_at_quote [] = refl
body_at_quote (byte ∷ left) = refl

-- a backslash begins no item, or one of two bytes
body_at_backslash : (left : Text) → (body_len (92 ∷ left) ≡ 0) ⊎ (2 ≤ body_len (92 ∷ left))
unfolding body_len
body_at_backslash [] = inl refl
body_at_backslash (byte ∷ left) = by_escape (is_escape byte) where
  by_escape : (b : Bool) → ((if b then body_len left + 2 else 0) ≡ 0) ⊎ (2 ≤ (if b then body_len left + 2 else 0))
  by_escape true = inr (omega arith)
  by_escape false = inl refl

-- ---- what is read

closed_at : (text : Text) (n : ℕ) → body_len (drop 1 text) ≡ n → slice_index text (n + 1) ≡ 34 → scan_quoted text ≡ found (Token (kind.Text (take (n + 2) text))) (n + 2)
unfolding scan_quoted
closed_at text n body next = rw (body, next) refl

bad_at : (text : Text) (n : ℕ) → body_len (drop 1 text) ≡ n → slice_index text (n + 1) ≡ 92 → scan_quoted text ≡ found (Fault BadEscape (n + 1)) (n + 2)
unfolding scan_quoted
bad_at text n body next = rw (body, next) refl

open_at : (text : Text) (n : ℕ) → body_len (drop 1 text) ≡ n → (slice_index text (n + 1) == 34) ≡ false → (slice_index text (n + 1) == 92) ≡ false → scan_quoted text ≡ found (Fault OpenString 0) (n + 1)
unfolding scan_quoted
open_at text n body no_quote no_backslash = rw (body, no_quote, no_backslash) refl

seam : (front rest : Text) (byte n : ℕ) → n ≡ length front → slice_index (front ++ (byte ∷ rest)) n ≡ byte
seam [] rest byte n e = rw e refl
seam (first ∷ front) rest byte n e = rw e (seam front rest byte (length front) refl)

-- ---- no other piece goes further

pub quoted_covers : (body left : Text) → IsQuoted body
    → Covered (Token (kind.Text (34 ∷ (body ++ (34 ∷ []))))) (length (34 ∷ (body ++ (34 ∷ [])))) (scan ((34 ∷ (body ++ (34 ∷ []))) ++ left))
quoted_covers body left is =
    let whole = (34 ∷ (body ++ (34 ∷ []))) ++ left in
    let split : whole ≡ (34 ∷ body) ++ (34 ∷ left) = ap (λ (t : Text). 34 ∷ t) (append_assoc body (34 ∷ []) left) in
    let reads : body_len (drop 1 whole) ≡ length body = subst (λ (t : Text). body_len (drop 1 t) ≡ length body) (sym split) (omega (arith, body_append left is, body_append (34 ∷ left) is, body_at_quote left)) in
    let next : slice_index whole (length body + 1) ≡ 34 = subst (λ (t : Text). slice_index t (length body + 1) ≡ 34) (sym split) (seam (34 ∷ body) left 34 (length body + 1) (omega arith)) in
    let len : length (34 ∷ (body ++ (34 ∷ []))) ≡ length body + 2 = omega (arith, length-append body (34 ∷ [])) in
    rw (scan_quote ((body ++ (34 ∷ [])) ++ left), closed_at whole (length body) reads next) record {
      reach = omega (arith, len);
      same = λ e. ap (λ (t : Text). Token (kind.Text t)) (take_at (34 ∷ (body ++ (34 ∷ []))) left (length body + 2) len);
    }

longer : (text : Text) (n : ℕ) → body_len (drop 1 text) ≡ n → n + 1 ≤ (scan_quoted text).len
longer text n body = by_quote (slice_index text (n + 1) == 34) refl (slice_index text (n + 1) == 92) refl where
  by_quote : (b : Bool) → (slice_index text (n + 1) == 34) ≡ b → (c : Bool) → (slice_index text (n + 1) == 92) ≡ c → n + 1 ≤ (scan_quoted text).len
  by_quote true quote c backslash = rw (closed_at text n body (eqb-true _ 34 quote)) (omega arith)
  by_quote false quote true backslash = rw (bad_at text n body (eqb-true _ 92 backslash)) (omega arith)
  by_quote false quote false backslash = rw (open_at text n body quote backslash) (omega arith)

pub open_covers : (body left : Text) → IsQuoted body → Covered (Fault OpenString 0) (length (34 ∷ body)) (scan ((34 ∷ body) ++ left))
open_covers body left is =
    let whole = (34 ∷ body) ++ left in
    let n = body_len (body ++ left) in
    let most : length body ≤ n = omega (arith, body_append left is) in
    subst (λ (f : Found). Covered (Fault OpenString 0) (length (34 ∷ body)) f) (sym (scan_quote (body ++ left))) (by_quote (slice_index whole (n + 1) == 34) refl (slice_index whole (n + 1) == 92) refl) where
      by_quote : (b : Bool) → (slice_index ((34 ∷ body) ++ left) (body_len (body ++ left) + 1) == 34) ≡ b → (c : Bool) → (slice_index ((34 ∷ body) ++ left) (body_len (body ++ left) + 1) == 92) ≡ c
          → Covered (Fault OpenString 0) (length (34 ∷ body)) (scan_quoted ((34 ∷ body) ++ left))
      by_quote true quote c backslash =
          let most : length body ≤ body_len (body ++ left) = omega (arith, body_append left is) in
          rw (closed_at ((34 ∷ body) ++ left) (body_len (body ++ left)) refl (eqb-true _ 34 quote)) (covered_longer _ _ _ (omega (arith, most)))
      by_quote false quote true backslash =
          let most : length body ≤ body_len (body ++ left) = omega (arith, body_append left is) in
          rw (bad_at ((34 ∷ body) ++ left) (body_len (body ++ left)) refl (eqb-true _ 92 backslash)) (covered_longer _ _ _ (omega (arith, most)))
      by_quote false quote false backslash =
          let most : length body ≤ body_len (body ++ left) = omega (arith, body_append left is) in
          rw (open_at ((34 ∷ body) ++ left) (body_len (body ++ left)) refl quote backslash) record { reach = omega (arith, most); same = λ _. refl }

pub bad_escape_covers : (body left : Text) → IsQuoted body
    → Covered (Fault BadEscape (length body + 1)) (length (34 ∷ (body ++ (92 ∷ [])))) (scan ((34 ∷ (body ++ (92 ∷ []))) ++ left))
bad_escape_covers body left is = subst (λ (f : Found). Covered (Fault BadEscape (length body + 1)) (length (34 ∷ (body ++ (92 ∷ [])))) f) (sym (scan_quote ((body ++ (92 ∷ [])) ++ left))) (by_backslash (body_at_backslash left)) where
  whole : Text
  whole = (34 ∷ (body ++ (92 ∷ []))) ++ left

  split : (34 ∷ (body ++ (92 ∷ []))) ++ left ≡ (34 ∷ body) ++ (92 ∷ left)
  split = ap (λ (t : Text). 34 ∷ t) (append_assoc body (92 ∷ []) left)

  reads : body_len (drop 1 ((34 ∷ (body ++ (92 ∷ []))) ++ left)) ≡ length body + body_len (92 ∷ left)
  reads = subst (λ (t : Text). body_len (drop 1 t) ≡ length body + body_len (92 ∷ left)) (sym split) (body_append (92 ∷ left) is)

  len : length (34 ∷ (body ++ (92 ∷ []))) ≡ length body + 2
  len = omega (arith, length-append body (92 ∷ []))

  by_backslash : (body_len (92 ∷ left) ≡ 0) ⊎ (2 ≤ body_len (92 ∷ left)) → Covered (Fault BadEscape (length body + 1)) (length (34 ∷ (body ++ (92 ∷ [])))) (scan_quoted ((34 ∷ (body ++ (92 ∷ []))) ++ left))
  by_backslash (inl none) =
      let body_is : body_len (drop 1 ((34 ∷ (body ++ (92 ∷ []))) ++ left)) ≡ length body = omega (arith, reads, none) in
      let next : slice_index ((34 ∷ (body ++ (92 ∷ []))) ++ left) (length body + 1) ≡ 92 = subst (λ (t : Text). slice_index t (length body + 1) ≡ 92) (sym split) (seam (34 ∷ body) left 92 (length body + 1) (omega arith)) in
      rw (bad_at ((34 ∷ (body ++ (92 ∷ []))) ++ left) (length body) body_is next) record { reach = omega (arith, len); same = λ _. refl }
  by_backslash (inr some) =
      covered_longer _ _ _ (omega (arith, len, some, longer ((34 ∷ (body ++ (92 ∷ []))) ++ left) (length body + body_len (92 ∷ left)) reads))

-- ---- what is read stands there

next_of : (text : Text) (n byte : ℕ) → slice_index text n ≡ suc byte → n + 1 ≤ length text
next_of [] n byte is = absurd (omega arith)
next_of (first ∷ text) zero byte is = omega arith
next_of (first ∷ text) (suc n) byte is = let h = next_of text n byte is in omega (arith, h)

take_next : (text : Text) (n byte : ℕ) → slice_index text n ≡ suc byte → take (n + 1) text ≡ take n text ++ (suc byte ∷ [])
take_next [] n byte is = absurd (omega arith)
take_next (first ∷ text) zero byte is = rw is refl
take_next (first ∷ text) (suc n) byte is = let h = take_next text n byte is in rw (one_more (suc n)) (ap (λ (t : Text). first ∷ t) (rw (one_more n) at h))

pub quoted_stands : (text : Text) → Stands (34 ∷ text) (scan (34 ∷ text))
quoted_stands text = subst (λ (f : Found). Stands (34 ∷ text) f) (sym (scan_quote text)) (by_quote (slice_index (34 ∷ text) (n + 1) == 34) refl (slice_index (34 ∷ text) (n + 1) == 92) refl) where
  n : ℕ
  n = body_len text

  by_quote : (b : Bool) → (slice_index (34 ∷ text) (body_len text + 1) == 34) ≡ b → (c : Bool) → (slice_index (34 ∷ text) (body_len text + 1) == 92) ≡ c → Stands (34 ∷ text) (scan_quoted (34 ∷ text))
  by_quote true quote c backslash =
      let next : slice_index text (body_len text) ≡ 34 = rw (one_more (body_len text)) at (eqb-true _ 34 quote) in
      let all : take (body_len text + 2) (34 ∷ text) ≡ 34 ∷ (take (body_len text) text ++ (34 ∷ [])) =
      rw (two_more (body_len text)) (ap (λ (t : Text). 34 ∷ t) (rw (one_more (body_len text)) at (take_next text (body_len text) 33 next))) in
      rw (closed_at (34 ∷ text) (body_len text) refl (eqb-true _ 34 quote)) record {
        some = omega arith;
        within = omega (arith, next_of text (body_len text) 33 next);
        is = rw all (quoted (take (body_len text) text) (body_quoted text));
      }
  by_quote false quote true backslash =
      let next : slice_index text (body_len text) ≡ 92 = rw (one_more (body_len text)) at (eqb-true _ 92 backslash) in
      let all : take (body_len text + 2) (34 ∷ text) ≡ 34 ∷ (take (body_len text) text ++ (92 ∷ [])) =
      rw (two_more (body_len text)) (ap (λ (t : Text). 34 ∷ t) (rw (one_more (body_len text)) at (take_next text (body_len text) 91 next))) in
      let len : length (take (body_len text) text) ≡ body_len text = length-take-le (body_len text) text (body_within text) in
      rw (bad_at (34 ∷ text) (body_len text) refl (eqb-true _ 92 backslash)) record {
        some = omega arith;
        within = omega (arith, next_of text (body_len text) 91 next);
        is = rw all (subst (λ (m : ℕ). IsPiece (Fault BadEscape (m + 1)) (34 ∷ (take (body_len text) text ++ (92 ∷ [])))) len (bad_escape (take (body_len text) text) (body_quoted text)));
      }
  by_quote false quote false backslash =
      rw (open_at (34 ∷ text) (body_len text) refl quote backslash) record {
        some = omega arith;
        within = omega (arith, body_within text);
        is = rw (one_more (body_len text)) (open_string (take (body_len text) text) (body_quoted text));
      }
