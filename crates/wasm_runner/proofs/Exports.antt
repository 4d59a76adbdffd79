-- The exports of a module, one after another.
use Rattle.std.proofs.Common.{◌≡◌, ◌<◌, ◌≤◌, ◌+◌, ℕ, suc, List, [], ◌∷◌, length, get_or, drop, refl, sym, ap, ◌∙◌, arith, drop-cons}
use Rattle.std.specs.Prelude.{Bool, true, false, ◌==◌, if◌then◌else◌, ◌&&◌}
use Rattle.std.specs.Str.{bytes_eq}
use Rattle.std.proofs.lemmas.List.{drop_all}
use Rattle.cm_base.specs.Parts.{is_name}
use Rattle.wasm_tree.specs.declared.module.ExportEntry.{ExportEntry}
use Rattle.wasm_tree.specs.Instance.{exported_as, number_of}

same_name : (a b : List ℕ) → is_name a b ≡ bytes_eq a b
same_name [] [] = refl
same_name [] (y ∷ ys) = refl
same_name (x ∷ xs) [] = refl
same_name (x ∷ xs) (y ∷ ys) = by (x == y) (same_name xs ys)
  where
    by : (t : Bool) → is_name xs ys ≡ bytes_eq xs ys → (if t then is_name xs ys else false) ≡ (t && bytes_eq xs ys)
    by true e = e
    by false e = refl

here : (exports : List ExportEntry) (i : ℕ) (entry : ExportEntry) → i < length exports → entry ≡ get_or exports i entry → drop i exports ≡ entry ∷ drop (i + 1) exports
here exports i entry l e =
    let up : suc i ≡ i + 1 = omega arith in
    drop-cons exports i entry l ∙ ap (λ x. x ∷ drop (suc i) exports) (sym e) ∙ ap (λ k. entry ∷ drop k exports) up

pub found : (exports : List ExportEntry) (i : ℕ) (entry : ExportEntry) (name : List ℕ) → i < length exports → entry ≡ get_or exports i entry → bytes_eq entry.name name ≡ true →
    exported_as name (drop i exports) ≡ number_of entry.kind
found exports i entry name l e t =
    ap (exported_as name) (here exports i entry l e) ∙ ap (λ b. if b then number_of entry.kind else exported_as name (drop (i + 1) exports)) (same_name entry.name name ∙ t)

pub passed : (exports : List ExportEntry) (i : ℕ) (entry : ExportEntry) (name : List ℕ) → i < length exports → entry ≡ get_or exports i entry → bytes_eq entry.name name ≡ false →
    exported_as name (drop i exports) ≡ exported_as name (drop (i + 1) exports)
passed exports i entry name l e t =
    ap (exported_as name) (here exports i entry l e) ∙ ap (λ b. if b then number_of entry.kind else exported_as name (drop (i + 1) exports)) (same_name entry.name name ∙ t)

pub none : (exports : List ExportEntry) (i : ℕ) (name : List ℕ) → length exports ≤ i → exported_as name (drop i exports) ≡ 0
none exports i name l = ap (exported_as name) (drop_all i exports l)
