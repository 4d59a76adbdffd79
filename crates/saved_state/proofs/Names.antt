-- Names are read where they are UTF-8.
use Rattle.std.proofs.Common.{◌≡◌, ℕ, List, Bool, true, false, Some, None, if◌then◌else◌, refl}
use Rattle.std.specs.Str.{IsUtf8, is_utf8}
use Rattle.std.proofs.lemmas.Str.{is_utf8-from_IsUtf8, IsUtf8-from_is_utf8}
use Rattle.saved_state.specs.Reading.{text_at, name_at}

pub name-found : (bytes text left : List ℕ) → text_at bytes ≡ Some (text, left) → IsUtf8 text → name_at bytes ≡ Some (text, left)
unfolding name_at
name-found bytes text left read utf8 = rw (read, is_utf8-from_IsUtf8 text utf8) refl

none : {A : Type 0} (truth : Bool) (found : A) → (truth ≡ true → ⊥) → (if truth then Some found else None) ≡ None
none true found absent = absurd (absent refl)
none false found absent = refl

pub name-none : (bytes text left : List ℕ) → text_at bytes ≡ Some (text, left) → ¬ IsUtf8 text → name_at bytes ≡ None
unfolding name_at
name-none bytes text left read other = rw read (none (is_utf8 text) (text, left) (λ is. other (IsUtf8-from_is_utf8 text is)))
