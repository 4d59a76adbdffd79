-- The folder of a name, by the place of its last `/`.
use Rattle.std.proofs.Common.{◌≡◌, ◌≢◌, ℕ, zero, suc, ◌+◌, ◌<◌, List, [], ◌∷◌, length, get_or, take, Bool, false, nat_eq, refl, arith, ne_eqb, eq-eqb, add-one}
use Rattle.std.proofs.lemmas.List.Folds.{list_any_at}
use Rattle.std.specs.List.{list_any}
use Rattle.patch_manifest.specs.SourceName.{folder_of}

abbrev is_slash : ℕ → Bool
is_slash byte = nat_eq byte 47

no_slash : (name : List ℕ) → ((k : ℕ) → k < length name → get_or name k 0 ≢ 47) → list_any is_slash name ≡ false
no_slash [] none = refl
no_slash (byte ∷ name) none = rw (ne_eqb byte 47 (none 0 (omega arith)), no_slash name (λ k within. none (suc k) (omega arith)))

-- a name without `/` has no folder
pub folder_of-none : (name : List ℕ) → ((k : ℕ) → k < length name → get_or name k 0 ≢ 47) → folder_of name ≡ []
unfolding folder_of
folder_of-none [] none = refl
folder_of-none (byte ∷ name) none = rw (no_slash (byte ∷ name) none)

-- the folder ends with the last `/`
pub folder_of-last : (name : List ℕ) (last : ℕ) → last < length name → get_or name last 0 ≡ 47 → ((k : ℕ) → last < k → k < length name → get_or name k 0 ≢ 47) → folder_of name ≡ take (last + 1) name
unfolding folder_of
folder_of-last [] last within slash later = absurd (omega arith)
folder_of-last (byte ∷ name) zero within slash later =
    rw (list_any_at is_slash (byte ∷ name) 0 0 within (eq-eqb byte 47 slash), folder_of-none name (λ k inside. later (suc k) (omega arith) (omega arith)))
folder_of-last (byte ∷ name) (suc last) within slash later =
    rw (list_any_at is_slash (byte ∷ name) (suc last) 0 within (eq-eqb _ 47 slash), folder_of-last name last (omega arith) slash (λ k after inside. later (suc k) (omega arith) (omega arith)), add-one last, add-one (suc last))
