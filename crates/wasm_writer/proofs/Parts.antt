-- Parts one after another: what is spelled part by part is spelled as a whole.
use Rattle.std.proofs.Common.{◌≡◌, ℕ, zero, suc, ◌+◌, ◌<◌, ◌≤◌, ◌^◌, List, [], ◌∷◌, ◌++◌, length, get_or, take, All, refl, sym, ap, subst, ◌∙◌, append_assoc, arith}
use Rattle.std.specs.List.{flat_map, AllByRecursion}
use Rattle.std.proofs.lemmas.List.{length-append, take_more, take_all, append-nil}
use Rattle.std.proofs.lemmas.List.Elements.{recursion_from_All, All-more, All-same}
use Rattle.std.proofs.lemmas.List.Concat.{flat_map-append}
use Rattle.wasm_tree.specs.Spelled.{Joined, Is, Begins, Each, Vector, Text, Index}
use Rattle.wasm_writer.specs.Spelling.{unsigned_bytes, vector_bytes, text_bytes, section_bytes}
use Rattle.wasm_writer.proofs.Numbers.{index_spelled}

pub joined : (P Q : List ℕ → Type 0) (front back : List ℕ) → P front → Q back → Joined P Q (front ++ back)
joined P Q front back p q = record { front = front; back = back; whole = refl; first = p; second = q }

pub begins : (byte : ℕ) (Q : List ℕ → Type 0) (rest : List ℕ) → Q rest → Begins byte Q (byte ∷ rest)
begins byte Q rest q = joined (Is (byte ∷ [])) Q (byte ∷ []) rest refl q

each_by_recursion : {A : Type 0} (P : A → List ℕ → Type 0) (part : A → List ℕ) (xs : List A) → AllByRecursion (λ x. P x (part x)) xs → Each P xs (flat_map part xs)
each_by_recursion P part [] h = refl
each_by_recursion P part (x ∷ xs) h = joined (P x) (Each P xs) (part x) (flat_map part xs) h.0 (each_by_recursion P part xs h.1)

pub each_spelled : {A : Type 0} (P : A → List ℕ → Type 0) (part : A → List ℕ) (xs : List A) → All (λ x. P x (part x)) xs → Each P xs (flat_map part xs)
each_spelled P part xs h = each_by_recursion P part xs (recursion_from_All (λ x. P x (part x)) xs h)

-- a part is no longer than all of them
pub part_within : {A : Type 0} (part : A → List ℕ) (xs : List A) (i : ℕ) (d : A) → i < length xs → length (part (get_or xs i d)) ≤ length (flat_map part xs)
part_within part [] i d h = absurd (omega arith)
part_within part (x ∷ xs) zero d h = omega (arith, length-append (part x) (flat_map part xs))
part_within part (x ∷ xs) (suc i) d h = let less = part_within part xs i d (omega arith) in omega (arith, length-append (part x) (flat_map part xs))

-- each part has a byte at least
pub count_within : {A : Type 0} (part : A → List ℕ) (xs : List A) → ((x : A) → 1 ≤ length (part x)) → length xs ≤ length (flat_map part xs)
count_within part [] h = omega arith
count_within part (x ∷ xs) h = omega (arith, h x, count_within part xs h, length-append (part x) (flat_map part xs))

pub vector_spelled : {A : Type 0} (P : A → List ℕ → Type 0) (part : A → List ℕ) (xs : List A) → length xs < 2 ^ 32 → Each P xs (flat_map part xs) → Vector P xs (vector_bytes part xs)
vector_spelled P part xs lt h = joined (Index (length xs)) (Each P xs) (unsigned_bytes (length xs)) (flat_map part xs) (index_spelled (length xs) lt) h

pub text_spelled : (text : List ℕ) → length text < 2 ^ 32 → Text text (text_bytes text)
text_spelled text lt = joined (Index (length text)) (Is text) (unsigned_bytes (length text)) text (index_spelled (length text) lt) refl

-- the vector's count and its elements are within the vector's bytes
pub vector_count : {A : Type 0} (part : A → List ℕ) (xs : List A) → ((x : A) → 1 ≤ length (part x)) → length (vector_bytes part xs) < 2 ^ 32 → length xs < 2 ^ 32
vector_count part xs h lt = omega (arith, count_within part xs h, length-append (unsigned_bytes (length xs)) (flat_map part xs))

pub vector_elements : {A : Type 0} (part : A → List ℕ) (xs : List A) → length (vector_bytes part xs) < 2 ^ 32 → length (flat_map part xs) < 2 ^ 32
vector_elements part xs lt = omega (arith, length-append (unsigned_bytes (length xs)) (flat_map part xs))

-- the bytes of one more part
pub parts_more : {A : Type 0} (part : A → List ℕ) (xs : List A) (i : ℕ) (x : A) → i < length xs → x ≡ get_or xs i x → flat_map part (take (i + 1) xs) ≡ flat_map part (take i xs) ++ part x
parts_more part xs i x lt is = ap (flat_map part) (take_more xs i x lt) ∙ flat_map-append part (take i xs) (get_or xs i x ∷ []) ∙ ap (λ (tail : List ℕ). flat_map part (take i xs) ++ tail) (append-nil (part (get_or xs i x)) ∙ sym (ap part is))

-- a loop's turn: one more part is appended
pub appended_more : {A : Type 0} (part : A → List ℕ) (xs : List A) (i : ℕ) (x : A) (start now new : List ℕ) → i < length xs → x ≡ get_or xs i x → now ≡ start ++ flat_map part (take i xs) → new ≡ now ++ part x → new ≡ start ++ flat_map part (take (i + 1) xs)
appended_more part xs i x start now new lt is before e =
    rw (parts_more part xs i x lt is) (e ∙ ap (λ (bytes : List ℕ). bytes ++ part x) before ∙ append_assoc start (flat_map part (take i xs)) (part x))

pub all_more : {A : Type 0} (P : A → Type 0) (xs : List A) (i : ℕ) (x : A) → i < length xs → x ≡ get_or xs i x → All P (take i xs) → P x → All P (take (i + 1) xs)
all_more P xs i x lt is before h = All-more P xs i x lt before (subst P is h)

-- a loop's end: each has been seen
pub all_seen : {A : Type 0} (P : A → Type 0) (xs : List A) (i : ℕ) → length xs ≤ i → All P (take i xs) → All P xs
all_seen P xs i le before = All-same P xs (take i xs) (sym (take_all i xs le)) before

-- ---- a section with something to list, and one with nothing

section_some : {A : Type 0} (id : ℕ) (part : A → List ℕ) (xs : List A) → 0 < length xs → section_bytes id part xs ≡ id ∷ text_bytes (vector_bytes part xs)
section_some id part [] h = absurd (omega arith)
section_some id part (x ∷ xs) h = refl

pub section_put : {A : Type 0} (id size : ℕ) (part : A → List ℕ) (xs : List A) (start first second new : List ℕ) → 0 < length xs → size ≡ length (vector_bytes part xs) → first ≡ start ++ id ∷ [] → second ≡ first ++ unsigned_bytes size → new ≡ second ++ vector_bytes part xs → new ≡ start ++ section_bytes id part xs
section_put id size part xs start first second new some sized e f g =
    rw (section_some id part xs some, g, f, e, sized)
    (append_assoc (start ++ id ∷ []) (unsigned_bytes (length (vector_bytes part xs))) (vector_bytes part xs) ∙ append_assoc start (id ∷ []) (text_bytes (vector_bytes part xs)))

pub section_none : {A : Type 0} (id : ℕ) (part : A → List ℕ) (xs : List A) → length xs ≡ 0 → section_bytes id part xs ≡ []
section_none id part [] h = refl
section_none id part (x ∷ xs) h = absurd (omega arith)

pub vector_none : {A : Type 0} (P : A → List ℕ → Type 0) (part : A → List ℕ) (xs : List A) → length xs ≡ 0 → Vector P xs (vector_bytes part xs)
vector_none P part [] h = joined (Index 0) (Each P []) (unsigned_bytes 0) [] (index_spelled 0 (omega arith)) refl
vector_none P part (x ∷ xs) h = absurd (omega arith)
