-- How reading goes on after a step, and how it ends.
use Rattle.std.proofs.Common.{◌≡◌, ℕ, suc, ◌-◌, ◌+◌, ◌≤◌, ◌<◌, List, [], ◌∷◌, ◌++◌, Option, Some, None, refl, sym, ap, ◌∙◌, append_assoc, arith}
use Rattle.std.proofs.lemmas.List.{append-nil}
use Rattle.saved_state.specs.declared.cursor.Stop.{Stop}
use Rattle.saved_state.specs.declared.cursor.Stop.TheVariants as stop
use Rattle.saved_state.specs.Reading.{◌>>=◌, Fails, Reader, each_at}

-- what was read before, and what is still read
abbrev pub with_front : {X : Type 0} → List X → Option (List X × List ℕ) → Option (List X × List ℕ)
with_front front read = read >>= λ found. Some (front ++ found.0, found.1)

regroup : {X : Type 0} (front : List X) (x : X) (read : Option (List X × List ℕ)) → with_front front (read >>= λ found. Some (x ∷ found.0, found.1)) ≡ with_front (front ++ x ∷ []) read
regroup {X} front x (Some found) = ap (λ (xs : List X). Some (xs, found.1)) (simp append_assoc)
regroup front x None = refl

pub each-goes_on : {X : Type 0} (f : Reader X) (front : List X) (count i : ℕ) (bytes : List ℕ) (x : X) (left : List ℕ) (total : Option (List X × List ℕ)) → i < count → f bytes ≡ Some (x, left)
    → with_front front (each_at f (count - i) bytes) ≡ total → with_front (front ++ x ∷ []) (each_at f (count - (i + 1)) left) ≡ total
unfolding each_at
each-goes_on f front count i bytes x left total lt h so_far =
    let k : count - i ≡ suc (count - (i + 1)) = omega arith in
    let one : with_front front (each_at f (count - i) bytes) ≡ with_front (front ++ x ∷ []) (each_at f (count - (i + 1)) left) = rw (k, h) (regroup front x (each_at f (count - (i + 1)) left)) in
    sym one ∙ so_far

pub each-ends : {X : Type 0} (f : Reader X) (e : Stop) (front : List X) (count i : ℕ) (bytes : List ℕ) (total : Option (List X × List ℕ)) → i < count → Fails e (f bytes)
    → with_front front (each_at f (count - i) bytes) ≡ total → Fails e total
unfolding each_at
each-ends f stop.NoMemory front count i bytes total lt h so_far = tt
each-ends f stop.Early front count i bytes total lt h so_far =
    let k : count - i ≡ suc (count - (i + 1)) = omega arith in
    let one : with_front front (each_at f (count - i) bytes) ≡ None = rw (k, h) refl in
    sym so_far ∙ one

pub each-is_done : {X : Type 0} (f : Reader X) (front : List X) (count i : ℕ) (bytes : List ℕ) (total : Option (List X × List ℕ)) → count ≤ i → with_front front (each_at f (count - i) bytes) ≡ total → total ≡ Some (front, bytes)
unfolding each_at
each-is_done {X} f front count i bytes total le so_far =
    let k : count - i ≡ 0 = omega arith in
    let one : with_front front (each_at f (count - i) bytes) ≡ Some (front, bytes) = rw k (ap (λ (xs : List X). Some (xs, bytes)) (append-nil front)) in
    sym so_far ∙ one
