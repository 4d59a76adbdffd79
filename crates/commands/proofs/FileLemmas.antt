-- What the first bytes of a file tell of it, and what stands with a read that gave none.
use Rattle.std.proofs.Common.{◌≡◌, ℕ, ◌+◌, ◌<◌, ◌≤◌, List, length, take, min, Option, Some, None, refl, sym, ◌∙◌, ap, subst, arith}
use Rattle.std.specs.Prelude.{IfSome}
use Rattle.std.proofs.lemmas.List.{length-take}
use Rattle.cm_io.specs.Count.{Rose}
use Rattle.cm_io.specs.Files.{Files, file_at, first_bytes}
use Rattle.cm_io.specs.Seen.{Seen}
use Rattle.commands.specs.declared.status.FileRef.{FileRef}
use Rattle.commands.specs.declared.status.Status.TheVariants as status
use Rattle.commands.specs.Files.{Unread, Missing, Long, least_limit}
use Rattle.commands.specs.Steps.{Stopped, FileAbsent, FileTooBig}

long_file : (most : ℕ) (held : Option (List ℕ)) (bytes : List ℕ) → first_bytes (most + 1) held ≡ Some bytes → most < length bytes →
    (whole : List ℕ) × (held ≡ Some whole) × (most < length whole) × (length bytes ≡ most + 1)
long_file most None bytes read past = cc
long_file most (Some whole) bytes read past =
    let same : take (most + 1) whole ≡ bytes = cc in
    let e : length bytes ≡ min (most + 1) (length whole) = ap length (sym same) ∙ length-take (most + 1) whole in
    (whole, refl, omega arith, omega arith)

long_due : (f : FileRef) (limit n : ℕ) (held : Option Files) (name bytes : List ℕ) → n ≡ length bytes → IfSome held (λ files. first_bytes (limit + 1) (file_at files name) ≡ Some bytes) → limit < n →
    IfSome held (λ files. Unread files f name limit (status.TooBig f n))
long_due f limit n None name bytes len read past = tt
long_due f limit n (Some files) name bytes len read past =
    let l = long_file limit (file_at files name) bytes read (omega arith) in
    subst (λ (k : ℕ). Unread files f name limit (status.TooBig f k)) (sym (len ∙ l.3)) (Long l.0 l.1 l.2)

-- more than the limit was read
pub long_stop : (before after : Seen) (f : FileRef) (limit n : ℕ) (name bytes : List ℕ) → n ≡ length bytes → IfSome before.holds (λ files. first_bytes (limit + 1) (file_at files name) ≡ Some bytes) →
    least_limit f ≤ limit → limit < n → Stopped before after (λ g. g ≡ f) (λ files. Unread files f name limit) (status.TooBig f n)
long_stop before after f limit n name bytes len read least past = FileTooBig f n refl (omega arith) (long_due f limit n before.holds name bytes len read past)

missing_due : (f : FileRef) (limit : ℕ) (held : Option Files) (name : List ℕ) → IfSome held (λ files. file_at files name ≡ None) → IfSome held (λ files. Unread files f name limit (status.Absent f))
missing_due f limit None name none = tt
missing_due f limit (Some files) name none = Missing none

-- there was no file
pub absent_stop : (before after : Seen) (f : FileRef) (limit : ℕ) (name : List ℕ) → Rose before.absences after.absences → IfSome before.holds (λ files. file_at files name ≡ None) →
    Stopped before after (λ g. g ≡ f) (λ files. Unread files f name limit) (status.Absent f)
absent_stop before after f limit name rose none = FileAbsent f refl rose (missing_due f limit before.holds name none)
