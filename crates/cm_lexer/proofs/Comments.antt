-- Comments and signs: what is read at the front is the longest piece there.
use Rattle.std.proofs.Common.{◌≡◌, ℕ, zero, suc, ◌+◌, ◌≤◌, ◌<◌, ◌&&◌, ◌||◌, ◌==◌, Bool, true, false, not, cond, List, [], ◌∷◌, ◌++◌, length, take, drop, Option, Some, None, refl, ap, sym, subst, ◌∙◌, arith, slice_index, length-append, append_assoc}
use Rattle.std.specs.List.{prefix_len, list_all}
use Rattle.std.specs.Bool.{IsTrue, IsFalse}
use Rattle.std.specs.Option.{is_some}
use Rattle.std.proofs.lemmas.List.{take_at, take-append-drop, length-take-le}
use Rattle.std.proofs.lemmas.Bool.{eqb-true}
use Rattle.cm_base.specs.declared.cause.Cause.TheVariants.{OpenComment}
use Rattle.cm_tree.specs.declared.sign.Sign.{Sign}
use Rattle.cm_tree.specs.declared.sign.Sign.TheVariants.{Slash}
use Rattle.cm_tree.specs.declared.token.TokenKind.TheVariants as kind
use Rattle.cm_tree.specs.Pieces.{Text, Passes, entry, is_space, is_letter, is_in_line, Closes, line_comment, block_comment, open_comment, signs, sign_token, IsPiece, Piece, Gap, Token, Fault}
use Rattle.cm_lexer.specs.Scan.{Found, found, is_digit, begun_by, scan, scan_slash, scan_sign, close_len, by_close}
use Rattle.cm_lexer.proofs.Runs.{both, run_covers, run_passes, run_within, entry_passes, is_not}
use Rattle.cm_lexer.proofs.Covering.{Covered, Stands, covered_longer}
use Rattle.cm_lexer.proofs.Signs.{Begun, begun-entry, sign_begun}
use Rattle.cm_lexer.proofs.Closing.{close_first, close_found, close_none, close_beyond}

pub scan_at_slash : (text : Text) → scan (47 ∷ text) ≡ scan_slash (47 ∷ text)
unfolding scan
scan_at_slash text = refl

pub slash_line : (text : Text) → scan_slash (47 ∷ 47 ∷ text) ≡ found Gap (prefix_len is_in_line (47 ∷ 47 ∷ text))
unfolding scan_slash
slash_line text = refl

pub slash_block : (text : Text) → scan_slash (47 ∷ 42 ∷ text) ≡ by_close (length (47 ∷ 42 ∷ text)) (close_len text)
unfolding scan_slash
slash_block text = refl

pub slash_sign : (text : Text) → (slice_index text 0 == 47) ≡ false → (slice_index text 0 == 42) ≡ false → scan_slash (47 ∷ text) ≡ scan_sign (47 ∷ text)
unfolding scan_slash
slash_sign text no_slash no_star = rw (no_slash, no_star) refl

-- ---- no other piece goes further: comments

pub line_covers : (body left : Text) → Passes is_in_line body → Covered Gap (length (47 ∷ 47 ∷ body)) (scan ((47 ∷ 47 ∷ body) ++ left))
line_covers body left passes =
    rw (scan_at_slash (47 ∷ (body ++ left)), slash_line (body ++ left)) record { reach = run_covers is_in_line (47 ∷ 47 ∷ body) left (refl, (refl, passes)); same = λ _. refl }

pub block_covers : (body left : Text) → ¬ Closes (body ++ (42 ∷ []))
    → Covered Gap (length (47 ∷ 42 ∷ (body ++ (42 ∷ 47 ∷ [])))) (scan ((47 ∷ 42 ∷ (body ++ (42 ∷ 47 ∷ []))) ++ left))
block_covers body left opens =
    let first : close_len ((body ++ (42 ∷ 47 ∷ [])) ++ left) ≡ Some (length body + 2) = ap close_len (append_assoc body (42 ∷ 47 ∷ []) left) ∙ close_first body left opens in
    let len : length (body ++ (42 ∷ 47 ∷ [])) ≡ length body + 2 = length-append body (42 ∷ 47 ∷ []) in
    rw (scan_at_slash (42 ∷ ((body ++ (42 ∷ 47 ∷ [])) ++ left)), slash_block ((body ++ (42 ∷ 47 ∷ [])) ++ left), first) record { reach = omega (arith, len); same = λ _. refl }

pub open_comment_covers : (body left : Text) → ¬ Closes body → Covered (Fault OpenComment 0) (length (47 ∷ 42 ∷ body)) (scan ((47 ∷ 42 ∷ body) ++ left))
open_comment_covers body left opens =
    subst (λ (f : Found). Covered (Fault OpenComment 0) (length (47 ∷ 42 ∷ body)) f) (sym (scan_at_slash (42 ∷ (body ++ left)) ∙ slash_block (body ++ left))) (by_len (close_len (body ++ left)) refl) where
      by_len : (o : Option ℕ) → close_len (body ++ left) ≡ o → Covered (Fault OpenComment 0) (length (47 ∷ 42 ∷ body)) (by_close (length (47 ∷ 42 ∷ (body ++ left))) o)
      by_len None is = record { reach = omega (arith, length-append body left); same = λ _. refl }
      by_len (Some n) is = covered_longer _ _ _ (omega (arith, close_beyond body left n opens is))

-- ---- no other piece goes further: signs

-- what no sign begins with: a space, a letter, a digit or a quote, or two bytes of a comment
abbrev is_sign_text : Text → Bool
is_sign_text [] = false
is_sign_text (byte ∷ []) = not (is_space byte) && (not (is_letter byte) && (not (is_digit 10 byte) && not (byte == 34)))
is_sign_text (byte ∷ next ∷ text) =
    (not (is_space byte) && (not (is_letter byte) && (not (is_digit 10 byte) && not (byte == 34)))) && not (byte == 47 && (next == 47 || next == 42))

signs_are : list_all (λ e. is_sign_text e.0) signs ≡ true
unfolding signs
signs_are = refl

scan_sign_covers : (text left : Text) (sign : Sign) → entry signs text ≡ Some sign → Covered (Token (kind.Sign sign)) (length text) (scan_sign (text ++ left))
unfolding scan_sign
scan_sign_covers text left sign is =
    let begun = sign_begun text left sign is in
    rw begun.is record { reach = begun.reach; same = λ e. ap (λ (s : Sign). Token (kind.Sign s)) (begun.same e) }

pub record IsOther (byte : ℕ) : Type 0 where
  pub no_space : is_space byte ≡ false
  pub no_letter : is_letter byte ≡ false
  pub no_digit : is_digit 10 byte ≡ false
  pub no_quote : (byte == 34) ≡ false

other : (byte : ℕ) → (not (is_space byte) && (not (is_letter byte) && (not (is_digit 10 byte) && not (byte == 34)))) ≡ true → IsOther byte
other byte is =
    let first = both (not (is_space byte)) _ is in
    let second = both (not (is_letter byte)) _ first.1 in
    let third = both (not (is_digit 10 byte)) _ second.1 in
    record { no_space = is_not _ first.0; no_letter = is_not _ second.0; no_digit = is_not _ third.0; no_quote = is_not _ third.1 }

pub scan_other : (byte : ℕ) (text : Text) → IsOther byte → (byte == 47) ≡ false → scan (byte ∷ text) ≡ scan_sign (byte ∷ text)
unfolding scan
scan_other byte text is no_slash = rw (is.no_space, no_slash, is.no_letter, is.no_digit, is.no_quote) refl

-- a slash alone
slash_covers : (left : Text) → entry signs (47 ∷ []) ≡ Some Slash → Covered (Token (kind.Sign Slash)) 1 (scan (47 ∷ left))
slash_covers [] is = rw (scan_at_slash [], slash_sign [] refl refl) (scan_sign_covers (47 ∷ []) [] Slash is)
slash_covers (next ∷ left) is = by_next (next == 47) refl (next == 42) refl where
  by_close_len : (o : Option ℕ) → Covered (Token (kind.Sign Slash)) 1 (by_close (length (47 ∷ 42 ∷ left)) o)
  by_close_len None = covered_longer _ _ _ (omega arith)
  by_close_len (Some n) = covered_longer _ _ _ (omega arith)

  by_next : (b : Bool) → (next == 47) ≡ b → (c : Bool) → (next == 42) ≡ c → Covered (Token (kind.Sign Slash)) 1 (scan (47 ∷ next ∷ left))
  by_next true slash c star =
      rw (eqb-true next 47 slash, scan_at_slash (47 ∷ left), slash_line left) (covered_longer _ _ _ (omega (arith, run_covers is_in_line (47 ∷ 47 ∷ []) left (refl, (refl, tt)))))
  by_next false slash true star = rw (eqb-true next 42 star, scan_at_slash (42 ∷ left), slash_block left) (by_close_len (close_len left))
  by_next false slash false star = rw (scan_at_slash (next ∷ left), slash_sign (next ∷ left) slash star) (scan_sign_covers (47 ∷ []) (next ∷ left) Slash is)

pub slash_is : entry signs (47 ∷ []) ≡ Some Slash
unfolding signs
slash_is = refl

some_same : (a b : Sign) → Some a ≡ Some b → a ≡ b
some_same a b e = cc

split_or : (a b : Bool) → (a || b) ≡ false → (a ≡ false) × (b ≡ false)
split_or true b is = absurd (cc)
split_or false b is = (refl, is)

pub sign_covers : (text left : Text) (sign : Sign) → entry signs text ≡ Some sign → Covered (Token (kind.Sign sign)) (length text) (scan (text ++ left))
sign_covers text left sign is = by_text text is (entry_passes (λ e. is_sign_text e.0) signs text sign signs_are is) where
  by_text : (text : Text) → entry signs text ≡ Some sign → is_sign_text text ≡ true → Covered (Token (kind.Sign sign)) (length text) (scan (text ++ left))
  by_text [] is test = absurd (cc)
  by_text (byte ∷ []) is test = by_slash (byte == 47) refl where
    by_slash : (b : Bool) → (byte == 47) ≡ b → Covered (Token (kind.Sign sign)) 1 (scan (byte ∷ left))
    by_slash true slash =
        let e : byte ≡ 47 = eqb-true byte 47 slash in
        let same : entry signs (47 ∷ []) ≡ Some sign = subst (λ (b : ℕ). entry signs (b ∷ []) ≡ Some sign) e is in
        let named : Slash ≡ sign = some_same Slash sign (sym slash_is ∙ same) in
        rw e (subst (λ (s : Sign). Covered (Token (kind.Sign s)) 1 (scan (47 ∷ left))) named (slash_covers left slash_is))
    by_slash false slash = rw (scan_other byte left (other byte test) slash) (scan_sign_covers (byte ∷ []) left sign is)
  by_text (byte ∷ next ∷ more) is test = by_slash (byte == 47) refl where
    parts : ((not (is_space byte) && (not (is_letter byte) && (not (is_digit 10 byte) && not (byte == 34)))) ≡ true) × (not (byte == 47 && (next == 47 || next == 42)) ≡ true)
    parts = both (not (is_space byte) && (not (is_letter byte) && (not (is_digit 10 byte) && not (byte == 34)))) _ test

    by_slash : (b : Bool) → (byte == 47) ≡ b → Covered (Token (kind.Sign sign)) (length (byte ∷ next ∷ more)) (scan ((byte ∷ next ∷ more) ++ left))
    by_slash true slash =
        let e : byte ≡ 47 = eqb-true byte 47 slash in
        let none : (next == 47 || next == 42) ≡ false = is_not _ (subst (λ (b : Bool). not (b && (next == 47 || next == 42)) ≡ true) slash parts.1) in
        let tests = split_or (next == 47) (next == 42) none in
        let same : entry signs (47 ∷ next ∷ more) ≡ Some sign = subst (λ (b : ℕ). entry signs (b ∷ next ∷ more) ≡ Some sign) e is in
        rw (e, scan_at_slash (next ∷ (more ++ left)), slash_sign (next ∷ (more ++ left)) tests.0 tests.1) (scan_sign_covers (47 ∷ next ∷ more) left sign same)
    by_slash false slash = rw (scan_other byte ((next ∷ more) ++ left) (other byte parts.0) slash) (scan_sign_covers (byte ∷ next ∷ more) left sign is)

-- what begins a sign is one
abbrev first_is_sign : Text → Bool
first_is_sign [] = false
first_is_sign (byte ∷ text) = is_some (entry signs (byte ∷ []))

firsts_are_signs : list_all (λ e. first_is_sign e.0) signs ≡ true
unfolding signs
firsts_are_signs = refl

some_of : {A : Type 0} (o : Option A) → is_some o ≡ true → (x : A) × (o ≡ Some x)
some_of None is = absurd (cc)
some_of (Some x) is = (x, refl)

pub first_sign : (byte : ℕ) (text : Text) (sign : Sign) → entry signs (byte ∷ text) ≡ Some sign → (first : Sign) × (entry signs (byte ∷ []) ≡ Some first)
first_sign byte text sign is = some_of (entry signs (byte ∷ [])) (entry_passes (λ e. first_is_sign e.0) signs (byte ∷ text) sign firsts_are_signs is)

pub sign_other : (byte : ℕ) (text : Text) (sign : Sign) → entry signs (byte ∷ text) ≡ Some sign → IsOther byte
sign_other byte text sign is = let first = first_sign byte text sign is in other byte (entry_passes (λ e. is_sign_text e.0) signs (byte ∷ []) first.0 signs_are first.1)

pub sign_not_empty : (sign : Sign) → entry signs [] ≡ Some sign → ⊥
sign_not_empty sign is = let test = entry_passes (λ e. is_sign_text e.0) signs [] sign signs_are is in absurd (cc)
