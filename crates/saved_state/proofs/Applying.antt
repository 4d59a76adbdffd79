-- The values that parameters take from saved ones.
use Rattle.std.proofs.Common.{◌≡◌, ◌≢◌, ℕ, suc, ◌+◌, ◌<◌, ◌==◌, List, [], ◌∷◌, ◌++◌, length, get_or, drop, cond, Bool, true, false, ◌&&◌, if◌then◌else◌, Option, Some, None, option_map, unwrap_or, refl, sym, ap, subst, ◌∙◌, ℤ, pos, append_assoc, drop-cons, add-one, arith}
use Rattle.std.specs.Prelude.{option_to_list, is_some, ◌≤ℤ◌, Result, Ok, Err, IfOk}
use Rattle.std.specs.Str.{bytes_eq}
use Rattle.std.specs.List.{AllByRecursion}
use Rattle.std.proofs.lemmas.Int.{ints}
use Rattle.cm_base.specs.declared.host.Range.{Range}
use Rattle.cm_base.specs.declared.host.HostEnd.{HostEnd}
use Rattle.cm_base.specs.declared.play.Saved.{Saved}
use Rattle.std.proofs.lemmas.Slice.Eq.{bytes_eq-Decides}
use Rattle.cm_base.specs.HostEnds.{IsLawful, IsLawfulEnd, IsLawfulRange, AreDistinct, names_of}
use Rattle.cm_base.specs.Scripts.{IsSavedIn, AreSaved}
use Rattle.cm_base.specs.Parts.{is_name, saved_value, start_of}
use Rattle.cm_number.specs.Conversion.{nearest}
use Rattle.cm_number.proofs.Public.{nearest_only}
use Rattle.saved_state.specs.Applied.{value_of, values_of, IsValueOf, after_value, AreValues, named, parameter_with, saved_with}
use Rattle.saved_state.specs.Version2.{IsScalar}

choice_is : (test other : Bool) → (if test then other else false) ≡ (test && other)
choice_is true other = refl
choice_is false other = refl

pub is_name-bytes_eq : (xs ys : List ℕ) → is_name xs ys ≡ bytes_eq xs ys
is_name-bytes_eq [] [] = refl
is_name-bytes_eq [] (y ∷ ys) = refl
is_name-bytes_eq (x ∷ xs) [] = refl
is_name-bytes_eq (x ∷ xs) (y ∷ ys) = choice_is (x == y) (is_name xs ys) ∙ ap (λ other. (x == y) && other) (is_name-bytes_eq xs ys)

-- the first value of the name among the entries from one on
pub saved_value-drop : (name : List ℕ) (saved : List Saved) (i : ℕ) (one : Saved) → i < length saved → one ≡ get_or saved i one
    → saved_value name (drop i saved) ≡ cond (bytes_eq one.name name) (Some one.value) (saved_value name (drop (i + 1) saved))
saved_value-drop name saved i one within is = rw (drop-cons saved i one within, sym is, add-one i, sym (is_name-bytes_eq one.name name)) refl

-- an entry that is put in front of those behind it
pub put_first : (name key : List ℕ) (saved : List Saved) (i : ℕ) (one : Saved) (z : ℤ) (found new : Option ℤ) → i < length saved → one ≡ get_or saved i one → key ≡ one.name → z ≡ one.value
    → found ≡ saved_value name (drop (i + 1) saved) → new ≡ cond (bytes_eq key name) (Some z) found → new ≡ saved_value name (drop i saved)
put_first name key saved i one z found new within is same value behind put = put ∙ (rw (same, value, behind) (sym (saved_value-drop name saved i one within is)))

abbrev held_in : Option ℤ → Range → ℤ
held_in found range = nearest range.min range.max (unwrap_or found range.init)

value_is : (end : HostEnd) (parameter : Option Range) (saved : List Saved) (found : Option ℤ) → found ≡ saved_value end.name saved → option_map (held_in found) parameter ≡ value_of end parameter saved
value_is end None saved found is = refl
value_is end (Some range) saved found is = rw is refl

values-drop : (ends : List HostEnd) (saved : List Saved) (i : ℕ) (end : HostEnd) → i < length ends → end ≡ get_or ends i end
    → values_of (drop i ends) saved ≡ option_to_list (value_of end end.parameter saved) ++ values_of (drop (i + 1) ends) saved
values-drop ends saved i end within is = rw (drop-cons ends i end within, sym is, add-one i) refl

-- the value of one more endpoint
pub values_on : (ends : List HostEnd) (saved : List Saved) (i : ℕ) (end : HostEnd) (front new total : List ℤ) (found : Option ℤ) → i < length ends → end ≡ get_or ends i end
    → found ≡ saved_value end.name saved
    → new ≡ front ++ option_to_list (option_map (λ range. nearest range.min range.max (unwrap_or found range.init)) end.parameter)
    → front ++ values_of (drop i ends) saved ≡ total → new ++ values_of (drop (i + 1) ends) saved ≡ total
values_on ends saved i end front new total found within is value pushed so_far =
    let rest = values_of (drop (i + 1) ends) saved in
    let one = option_to_list (value_of end end.parameter saved) in
    let now : new ≡ front ++ one = pushed ∙ ap (λ v. front ++ option_to_list v) (value_is end end.parameter saved found value) in
    ap (λ v. v ++ rest) now ∙ (append_assoc front one rest ∙ (ap (λ v. front ++ v) (sym (values-drop ends saved i end within is)) ∙ so_far))

-- ---- in range

int_le_trans : (a b c : ℤ) → a ≤ℤ b → b ≤ℤ c → a ≤ℤ c
int_le_trans a b c one other = omega (arith, ints, one, other)

value_in_range : (end : HostEnd) (parameter : Option Range) (saved : List Saved) (rest : List ℤ) → IsLawfulRange end parameter → IsValueOf parameter (option_to_list (value_of end parameter saved) ++ rest)
value_in_range end None saved rest lawful = tt
value_in_range end (Some range) saved rest lawful =
    let z = start_of end range saved in
    let is = (nearest_only range.min range.max z (nearest range.min range.max z) (int_le_trans range.min range.init range.max lawful.above lawful.below)).0 refl in
    (is.above, is.below)

after_is : (end : HostEnd) (parameter : Option Range) (saved : List Saved) (rest : List ℤ)
    → (if is_some parameter then drop 1 (option_to_list (value_of end parameter saved) ++ rest) else option_to_list (value_of end parameter saved) ++ rest) ≡ rest
after_is end None saved rest = refl
after_is end (Some range) saved rest = refl

-- the values that are applied are in the ranges of the parameters
pub values_in_range : (ends : List HostEnd) (saved : List Saved) → AllByRecursion IsLawfulEnd ends → AreValues ends (values_of ends saved)
values_in_range [] saved lawful = refl
values_in_range (end ∷ ends) saved lawful =
    let rest = values_of ends saved in
    (value_in_range end end.parameter saved rest lawful.0.parameter, subst (AreValues ends) (sym (after_is end end.parameter saved rest)) (values_in_range ends saved lawful.1))

-- ---- scalars

-- what holds of each scalar holds of all
pub all_scalars : (scalars : List ℤ) → ((i : ℕ) → i < length scalars → IsScalar (get_or scalars i (pos 0))) → AllByRecursion IsScalar scalars
all_scalars [] each = tt
all_scalars (z ∷ scalars) each = (each 0 (omega arith), all_scalars scalars (λ i within. each (suc i) (omega (arith, within))))

-- ---- values that are written and applied again

not_true : (test : Bool) → (test ≡ true → ⊥) → test ≡ false
not_true true absent = absurd (absent refl)
not_true false absent = refl

is_name-itself : (name : List ℕ) → is_name name name ≡ true
is_name-itself name = is_name-bytes_eq name name ∙ (bytes_eq-Decides name name).1 refl

is_name-other : (name other : List ℕ) → other ≢ name → is_name name other ≡ false
is_name-other name other differ = not_true (is_name name other) (λ is. differ (sym ((bytes_eq-Decides name other).0 (sym (is_name-bytes_eq name other) ∙ is))))

-- an entry of another name isn't looked at
skip_by : (some : Bool) (name other : List ℕ) (values : List ℤ) (rest : List Saved) → is_name name other ≡ false → saved_value other ((if some then named name values else []) ++ rest) ≡ saved_value other rest
skip_by false name other values rest differs = refl
skip_by true name other [] rest differs = refl
skip_by true name other (z ∷ values) rest differs = rw differs refl

abbrev SavesAlike : List Saved → List Saved → HostEnd → Type 0
SavesAlike saved rest end = saved_value end.name saved ≡ saved_value end.name rest

others_alike : (end : HostEnd) (values : List ℤ) (ends : List HostEnd) (rest : List Saved) → AllByRecursion (λ other. other ≢ end.name) (names_of ends) → AllByRecursion (SavesAlike (parameter_with end values ++ rest) rest) ends
others_alike end values [] rest differ = tt
others_alike end values (other ∷ ends) rest differ =
    (skip_by (is_some end.parameter) end.name other.name values rest (is_name-other end.name other.name differ.0), others_alike end values ends rest differ.1)

alike_in : (end : HostEnd) (parameter : Option Range) (saved rest : List Saved) → SavesAlike saved rest end → IsSavedIn end parameter rest → IsSavedIn end parameter saved
alike_in end None saved rest alike is = tt
alike_in end (Some range) saved rest alike is = rw alike is

all_in : (ends : List HostEnd) (saved rest : List Saved) → AllByRecursion (SavesAlike saved rest) ends → AreSaved ends rest → AreSaved ends saved
all_in [] saved rest alike are = tt
all_in (end ∷ ends) saved rest alike are = (alike_in end end.parameter saved rest alike.0 are.0, all_in ends saved rest alike.1 are.1)

first_in : (end : HostEnd) (parameter : Option Range) (values : List ℤ) (rest : List Saved) → IsValueOf parameter values → IsSavedIn end parameter ((if is_some parameter then named end.name values else []) ++ rest)
first_in end None values rest is = tt
first_in end (Some range) [] rest is = absurd is
first_in end (Some range) (z ∷ values) rest is = rw (is_name-itself end.name) is

-- what is saved for the parameters is in their ranges
pub saved_in_range : (ends : List HostEnd) (values : List ℤ) → AreDistinct (names_of ends) → AreValues ends values → AreSaved ends (saved_with ends values)
saved_in_range [] values distinct are = tt
saved_in_range (end ∷ ends) values distinct are =
    let rest = saved_with ends (after_value end values) in
    (first_in end end.parameter values rest are.0, all_in ends (parameter_with end values ++ rest) rest (others_alike end values ends rest distinct.0) (saved_in_range ends (after_value end values) distinct.1 are.1))

-- and so are those that a run takes
pub restored_in_range : {E : Type 0} (ends : List HostEnd) (values : List ℤ) (r : Result (List Saved) E) → IsLawful ends → AreValues ends values → IfOk r (λ saved. saved ≡ saved_with ends values) → IfOk r (AreSaved ends)
restored_in_range ends values (Ok saved) lawful are is = subst (AreSaved ends) (sym is) (saved_in_range ends values lawful.names are)
restored_in_range ends values (Err e) lawful are is = tt

-- ---- the same values again

nearest_itself : (low high z : ℤ) → low ≤ℤ z → z ≤ℤ high → nearest low high z ≡ z
nearest_itself low high z above below =
    sym ((nearest_only low high z z (int_le_trans low z high above below)).1 (record { above = above; below = below; closest = λ x one other. omega (arith, ints) }))

alike_value : (end : HostEnd) (parameter : Option Range) (saved rest : List Saved) → SavesAlike saved rest end → value_of end parameter saved ≡ value_of end parameter rest
alike_value end None saved rest alike = refl
alike_value end (Some range) saved rest alike = rw alike refl

alike_values : (ends : List HostEnd) (saved rest : List Saved) → AllByRecursion (SavesAlike saved rest) ends → values_of ends saved ≡ values_of ends rest
alike_values [] saved rest alike = refl
alike_values (end ∷ ends) saved rest alike = rw (alike_value end end.parameter saved rest alike.0, alike_values ends saved rest alike.1) refl

first_again : (end : HostEnd) (parameter : Option Range) (values : List ℤ) (rest : List Saved) → IsValueOf parameter values
    → option_to_list (value_of end parameter ((if is_some parameter then named end.name values else []) ++ rest)) ++ (if is_some parameter then drop 1 values else values) ≡ values
first_again end None values rest is = refl
first_again end (Some range) [] rest is = absurd is
first_again end (Some range) (z ∷ values) rest is = rw (is_name-itself end.name, nearest_itself range.min range.max z is.0 is.1) refl

-- values that are saved are applied as they are
pub applied_again : (ends : List HostEnd) (values : List ℤ) → AreDistinct (names_of ends) → AreValues ends values → values_of ends (saved_with ends values) ≡ values
applied_again [] values distinct are = sym are
applied_again (end ∷ ends) values distinct are =
    let rest = saved_with ends (after_value end values) in
    let saved = parameter_with end values ++ rest in
    let others = alike_values ends saved rest (others_alike end values ends rest distinct.0) ∙ applied_again ends (after_value end values) distinct.1 are.1 in
    ap (λ v. option_to_list (value_of end end.parameter saved) ++ v) others ∙ first_again end end.parameter values rest are.0
