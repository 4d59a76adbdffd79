-- How the first listeners hear an item, one more at a time.
use Rattle.std.proofs.Common.{◌≡◌, ℕ, zero, suc, ◌+◌, ◌<◌, List, [], ◌∷◌, length, map, Option, Some, None, refl, sym, ◌∙◌, subst, add-one}
use native.Mathlib.Omega.{arith}
use Rattle.std.specs.Prelude.{slice_get, slice_set, slice_index_or}
use Rattle.std.proofs.lemmas.List.{map-set, length-map}
use Rattle.cm_base.specs.declared.play.Item.{Item}
use Rattle.cm_io.specs.declared.sink.Put.{Put}
use Rattle.cm_io.specs.declared.sink.Put.TheVariants as answer
use Rattle.item_lines.specs.Telling.{Mouth, Puts, PutFails, PutLacks, PutsAs}
use Rattle.item_lines.specs.Hearing.{Ear, Hears, FirstHear, AllHear, HearUpTo}

-- one more heard it
pub first_next : (item : Item) (n : ℕ) (before after : List Ear) (b a : Ear) → FirstHear item n before after → slice_get after n ≡ Some b → Hears item b a → FirstHear item (suc n) before (slice_set after n a)
first_next item zero [] [] b a first found heard = absurd (cc found)
first_next item zero [] (y ∷ ys) b a first found heard = absurd (cc first)
first_next item zero (x ∷ xs) [] b a first found heard = absurd (cc first)
first_next item zero (x ∷ xs) (y ∷ ys) b a first found heard =
    (subst (λ z. Hears item z a) (let same : b ≡ x = cc (first, found) in same) heard, (let same : ys ≡ xs = cc first in same))
first_next item (suc n) (x ∷ xs) (y ∷ ys) b a first found heard = (first.0, first_next item n xs ys b a first.1 found heard)
first_next item (suc n) [] after b a first found heard = absurd first
first_next item (suc n) (x ∷ xs) [] b a first found heard = absurd first

-- the next one didn't
pub first_stops : (Stops : Ear → Ear → Type 0) (item : Item) (n : ℕ) (before after : List Ear) (b a : Ear) → FirstHear item n before after → slice_get after n ≡ Some b → Stops b a → HearUpTo Stops item n before (slice_set after n a)
first_stops Stops item zero [] [] b a first found stops = absurd (cc found)
first_stops Stops item zero [] (y ∷ ys) b a first found stops = absurd (cc first)
first_stops Stops item zero (x ∷ xs) [] b a first found stops = absurd (cc first)
first_stops Stops item zero (x ∷ xs) (y ∷ ys) b a first found stops =
    (subst (λ z. Stops z a) (let same : b ≡ x = cc (first, found) in same) stops, (let same : ys ≡ xs = cc first in same))
first_stops Stops item (suc n) (x ∷ xs) (y ∷ ys) b a first found stops = (first.0, first_stops Stops item n xs ys b a first.1 found stops)
first_stops Stops item (suc n) [] after b a first found stops = absurd first
first_stops Stops item (suc n) (x ∷ xs) [] b a first found stops = absurd first

-- and where there is no next one, all did
pub first_all : (item : Item) (before after : List Ear) → FirstHear item (length before) before after → AllHear item before after
first_all item [] [] first = tt
first_all item [] (y ∷ ys) first = absurd (cc first)
first_all item (x ∷ xs) (y ∷ ys) first = (first.0, first_all item xs ys first.1)
first_all item (x ∷ xs) [] first = absurd first

-- ---- the same of listeners of which this is seen

seen_at : {A : Type 0} (see : A → Ear) (now : List A) (n : ℕ) (d : A) → n < length now → slice_get (map see now) n ≡ Some (see (slice_index_or now n d))
seen_at see [] n d less = absurd (omega (arith, less))
seen_at see (x ∷ xs) zero d less = refl
seen_at see (x ∷ xs) (suc n) d less = seen_at see xs n d (omega (arith, less))

pub see_next : {A : Type 0} (see : A → Ear) (item : Item) (n : ℕ) (before : List Ear) (now : List A) (old new : A) → FirstHear item n before (map see now) → n < length now → old ≡ slice_index_or now n old →
    Hears item (see old) (see new) → FirstHear item (n + 1) before (map see (slice_set now n new))
see_next see item n before now old new first less is heard =
    subst (λ k. FirstHear item k before (map see (slice_set now n new))) (sym (add-one n)) (subst (λ after. FirstHear item (suc n) before after) (sym (map-set see now n new))
    (first_next item n before (map see now) (see (slice_index_or now n old)) (see new) first (seen_at see now n old less) (subst (λ x. Hears item (see x) (see new)) is heard)))

pub see_stops : {A : Type 0} (see : A → Ear) (Stops : Ear → Ear → Type 0) (item : Item) (n : ℕ) (before : List Ear) (now : List A) (old new : A) → FirstHear item n before (map see now) → n < length now → old ≡ slice_index_or now n old →
    Stops (see old) (see new) → HearUpTo Stops item n before (map see (slice_set now n new))
see_stops see Stops item n before now old new first less is stops =
    subst (λ after. HearUpTo Stops item n before after) (sym (map-set see now n new))
    (first_stops Stops item n before (map see now) (see (slice_index_or now n old)) (see new) first (seen_at see now n old less) (subst (λ x. Stops (see x) (see new)) is stops))

pub see_all : {A : Type 0} (see : A → Ear) (item : Item) (n : ℕ) (before now : List A) → FirstHear item n (map see before) (map see now) → n ≡ length before → AllHear item (map see before) (map see now)
see_all see item n before now first is =
    first_all item (map see before) (map see now) (subst (λ k. FirstHear item k (map see before) (map see now)) (is ∙ sym (length-map before see)) first)

-- ---- the answers of a sink

pub puts_ok : (piece : List ℕ) (before after : Mouth) (put : Put) → PutsAs piece before put after → put ≡ answer.Ok → Puts piece before after
puts_ok piece before after answer.Ok puts is = puts
puts_ok piece before after answer.Failed puts is = absurd (cc is)
puts_ok piece before after answer.NoMemory puts is = absurd (cc is)

pub puts_failed : (piece : List ℕ) (before after : Mouth) (put : Put) → PutsAs piece before put after → put ≡ answer.Failed → PutFails piece before after
puts_failed piece before after answer.Ok puts is = absurd (cc is)
puts_failed piece before after answer.Failed puts is = puts
puts_failed piece before after answer.NoMemory puts is = absurd (cc is)

pub puts_lacks : (piece : List ℕ) (before after : Mouth) (put : Put) → PutsAs piece before put after → put ≡ answer.NoMemory → PutLacks before after
puts_lacks piece before after answer.Ok puts is = absurd (cc is)
puts_lacks piece before after answer.Failed puts is = absurd (cc is)
puts_lacks piece before after answer.NoMemory puts is = puts
