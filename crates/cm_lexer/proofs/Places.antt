-- Places are found byte by byte.
use Rattle.std.proofs.Common.{◌≡◌, ℕ, zero, suc, ◌+◌, ◌≤◌, ◌==◌, Bool, true, false, cond, List, [], ◌∷◌, ◌++◌, length, fold, reverse, refl, ap, sym, subst, ◌∙◌, arith, append_assoc, append-nil}
use Rattle.std.specs.List.{count_by, sum_by, prefix_len}
use Rattle.std.proofs.lemmas.List.{reverse-append}
use Rattle.std.proofs.lemmas.List.Sums.{sum_by-append}
use Rattle.cm_base.specs.declared.place.Place.{Place}
use Rattle.cm_tree.specs.Pieces.{Text, is_in_line}
use Rattle.cm_tree.specs.Tokens.{place_after}
use Rattle.cm_lexer.specs.Moving.{moved}

moved_once : (file : ℕ) (before : Text) (byte : ℕ) → moved (place_after file before) byte ≡ place_after file (before ++ (byte ∷ []))
unfolding place_after
moved_once file before byte = by_line (byte == 10) refl where
  lines : count_by (λ (b : ℕ). b == 10) (before ++ (byte ∷ [])) ≡ count_by (λ (b : ℕ). b == 10) before + cond (byte == 10) 1 0
  lines = sum_by-append (λ (b : ℕ). cond (b == 10) 1 0) before (byte ∷ []) ∙ (omega arith)

  column : prefix_len is_in_line (reverse (before ++ (byte ∷ []))) ≡ prefix_len is_in_line (byte ∷ reverse before)
  column = ap (prefix_len is_in_line) (reverse-append before (byte ∷ []))

  by_line : (b : Bool) → (byte == 10) ≡ b
      → ◌≡◌ {A = Place}
      (cond b (record { file = file; line = count_by (λ (b : ℕ). b == 10) before + 1 + 1; column = 1 }) (record { file = file; line = count_by (λ (b : ℕ). b == 10) before + 1; column = prefix_len is_in_line (reverse before) + 1 + 1 }))
      (record { file = file; line = count_by (λ (b : ℕ). b == 10) (before ++ (byte ∷ [])) + 1; column = prefix_len is_in_line (reverse (before ++ (byte ∷ []))) + 1 })
  by_line true is =
      let line : count_by (λ (b : ℕ). b == 10) (before ++ (byte ∷ [])) ≡ count_by (λ (b : ℕ). b == 10) before + 1 = lines ∙ ap (λ (b : Bool). count_by (λ (b : ℕ). b == 10) before + cond b 1 0) is in
      let first : prefix_len is_in_line (reverse (before ++ (byte ∷ []))) ≡ 0 = column ∙ (rw is refl) in
      rw (line, first) refl
  by_line false is =
      let line : count_by (λ (b : ℕ). b == 10) (before ++ (byte ∷ [])) ≡ count_by (λ (b : ℕ). b == 10) before = lines ∙ ap (λ (b : Bool). count_by (λ (b : ℕ). b == 10) before + cond b 1 0) is ∙ (omega arith) in
      let next : prefix_len is_in_line (reverse (before ++ (byte ∷ []))) ≡ prefix_len is_in_line (reverse before) + 1 = column ∙ (rw is (omega arith)) in
      rw (line, next) refl

pub moved_all : (file : ℕ) (before text : Text) → fold moved (place_after file before) text ≡ place_after file (before ++ text)
moved_all file before [] = ap (place_after file) (sym (append-nil before))
moved_all file before (byte ∷ text) =
    ap (λ (p : Place). fold moved p text) (moved_once file before byte) ∙ moved_all file (before ++ (byte ∷ [])) text ∙ ap (place_after file) (append_assoc before (byte ∷ []) text)

pub first_place : (file : ℕ) → place_after file [] ≡ record { file = file; line = 1; column = 1 }
unfolding place_after
first_place file = refl
