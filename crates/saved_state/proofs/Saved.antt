-- How the parameters of version 1 are read, member by member.
use Rattle.std.proofs.Common.{◌≡◌, ℕ, ℤ, ◌+◌, List, [], ◌∷◌, ◌++◌, length, Some, Result, Ok, Err, refl, sym, ap, ◌∙◌, append_assoc}
use Rattle.std.proofs.lemmas.List.{length-append}
use Rattle.serde_json.specs.Data.{Data, Members, member}
use Rattle.cm_base.specs.declared.forms.FormFault.{FormFault}
use Rattle.cm_base.specs.declared.play.Saved.{Saved}
use Rattle.json_value.specs.Form.{after, with_front, integer_of}
use Rattle.saved_state.specs.Version1.{saved_from}

abbrev done : List Saved → Result (List Saved) FormFault
done saved = Ok saved

regroup : (front : List Saved) (one : Saved) (read : Result (List Saved) FormFault) → with_front front (after read (λ saved. Ok (one ∷ saved))) ≡ with_front (front ++ one ∷ []) read
regroup front one (Ok saved) = ap done (sym (append_assoc front (one ∷ []) saved))
regroup front one (Err fault) = refl

-- a member whose value is an integer
pub saved-goes_on : (front : List Saved) (name : List ℕ) (value : Data) (z : ℤ) (members : Members) (total : Result (List Saved) FormFault) → integer_of value ≡ Some z
    → with_front front (saved_from (length front) (member name value members)) ≡ total
    → with_front (front ++ record { name = name; value = z } ∷ []) (saved_from (length (front ++ record { name = name; value = z } ∷ [])) members) ≡ total
saved-goes_on front name value z members total is so_far =
    let one : Saved = record { name = name; value = z } in
    let many : length (front ++ one ∷ []) ≡ length front + 1 = length-append front (one ∷ []) in
    let step : with_front front (saved_from (length front) (member name value members)) ≡ with_front (front ++ one ∷ []) (saved_from (length front + 1) members) = rw is (regroup front one (saved_from (length front + 1) members)) in
    rw many (sym step ∙ so_far)
