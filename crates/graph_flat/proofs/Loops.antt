-- Steps of loops over lists.
use Rattle.std.proofs.Common.{◌≡◌, ℕ, ◌+◌, ◌<◌, ◌≤◌, List, [], ◌∷◌, ◌++◌, length, get_or, take, ap, ◌∙◌, sym, arith, append_assoc, length-append, All, subst, zero, suc, append-nil}
use Rattle.std.specs.Prelude.{map, min, Contains}
use Rattle.std.specs.List.{flat_map, zip}
use Rattle.std.proofs.lemmas.List.{take_more, take_all, map_more, get_or_default}
use Rattle.std.proofs.lemmas.List.Concat.{flat_map-append}
use Rattle.std.proofs.lemmas.List.Folds.{length-flat_map-take}
use Rattle.std.proofs.lemmas.Slice.Zip.{length-zip, get_or-zip}
use Rattle.std.proofs.lemmas.List.Elements.{All-append}

single : {X A : Type 0} (f : X → List A) (x : X) → flat_map f (x ∷ []) ≡ f x
single f x = append-nil (f x)

all_one : {X : Type 0} (P : X → Type 0) (x : X) → P x → All P (x ∷ [])
all_one P x h zero d lt = h
all_one P x h (suc k) d lt = absurd (omega (arith, lt))

-- one more piece
pub pieces_more : {X A : Type 0} (f : X → List A) (xs items : List X) (i : ℕ) (d : X) (old new : List A) → items ≡ xs → i < length items → old ≡ flat_map f (take i xs) → new ≡ old ++ f (get_or items i d)
    → new ≡ flat_map f (take (i + 1) xs)
pieces_more {X} {A} f xs items i d old new e lt a b =
    let lt' : i < length xs = subst (λ (ys : List X). i < length ys) e lt in
    let x : get_or items i d ≡ get_or xs i d = ap (λ (ys : List X). get_or ys i d) e in
    let t : flat_map f (take (i + 1) xs) ≡ flat_map f (take i xs) ++ f (get_or xs i d) =
    ap (flat_map f) (take_more xs i d lt') ∙ flat_map-append f (take i xs) (get_or xs i d ∷ []) ∙ ap (λ (ys : List A). flat_map f (take i xs) ++ ys) (single f (get_or xs i d)) in
    b ∙ ap (λ (ys : List A). ys ++ f (get_or items i d)) a ∙ ap (λ (y : X). flat_map f (take i xs) ++ f y) x ∙ sym t

-- the pieces so far and one more aren't longer than all
pub pieces_within : {X A : Type 0} (f : X → List A) (xs items : List X) (i : ℕ) (d : X) (old new : List A) → items ≡ xs → i < length items → old ≡ flat_map f (take i xs) → new ≡ old ++ f (get_or items i d)
    → length new ≤ length (flat_map f xs)
pieces_within {X} {A} f xs items i d old new e lt a b =
    let lt' : i < length xs = subst (λ (ys : List X). i < length ys) e lt in
    let x : get_or items i d ≡ get_or xs i d = ap (λ (ys : List X). get_or ys i d) e in
    let l : length new ≡ length (flat_map f (take i xs)) + length (f (get_or xs i d)) =
    ap length b ∙ length-append old (f (get_or items i d)) ∙ ap (λ (ys : List A). length ys + length (f (get_or items i d))) a ∙ ap (λ (y : X). length (flat_map f (take i xs)) + length (f y)) x in
    let t = length-flat_map-take f xs i d lt' in
    omega (arith, l, t)

-- one more element with a property
pub all_step : {X : Type 0} (P : X → Type 0) (xs items : List X) (i : ℕ) (d : X) → items ≡ xs → i < length items → All P (take i xs) → P (get_or items i d) → All P (take (i + 1) xs)
all_step {X} P xs items i d e lt h q =
    let lt' : i < length xs = subst (λ (ys : List X). i < length ys) e lt in
    let x : get_or items i d ≡ get_or xs i d = ap (λ (ys : List X). get_or ys i d) e in
    let one : All P (get_or xs i d ∷ []) = all_one P (get_or xs i d) (subst P x q) in
    subst (All P) (sym (take_more xs i d lt')) (All-append P (take i xs) (get_or xs i d ∷ []) h one)

-- an element of a list with a property
pub all_of : {X : Type 0} (P : X → Type 0) (xs items : List X) (i : ℕ) (d : X) → items ≡ xs → i < length items → All P xs → P (get_or items i d)
all_of {X} P xs items i d e lt h =
    let lt' : i < length xs = subst (λ (ys : List X). i < length ys) e lt in
    subst P (sym (ap (λ (ys : List X). get_or ys i d) e)) (h i d lt')

pub contains_at : {X : Type 0} (xs items : List X) (i : ℕ) (d : X) → items ≡ xs → i < length items → Contains xs (get_or items i d)
contains_at {X} xs items i d e lt =
    let lt' : i < length xs = subst (λ (ys : List X). i < length ys) e lt in
    (i, lt', get_or_default xs i (get_or items i d) d lt' ∙ sym (ap (λ (ys : List X). get_or ys i d) e))

-- one more pair
pub pairs_more : {X Y : Type 0} (f : X × X → Y) (xs ys : List X) (i n : ℕ) (x y : X) (old now new : List Y) → n ≡ min (length xs) (length ys) → i < n → now ≡ old ++ map f (take i (zip xs ys)) → new ≡ now ++ f (x, y) ∷ []
    → x ≡ get_or xs i x → y ≡ get_or ys i y → new ≡ old ++ map f (take (i + 1) (zip xs ys))
pairs_more {X} {Y} f xs ys i n x y old now new len lt a b xe ye =
    let lz : i < length (zip xs ys) = omega (arith, length-zip xs ys, len, lt) in
    let g : get_or (zip xs ys) i (x, y) ≡ (x, y) = get_or-zip xs ys i (x, y) (omega (arith, len, lt)) (omega (arith, len, lt)) ∙ ap (λ (u : X). (u, get_or ys i y)) (sym xe) ∙ ap (λ (u : X). (x, u)) (sym ye) in
    let t : map f (take (i + 1) (zip xs ys)) ≡ map f (take i (zip xs ys)) ++ f (x, y) ∷ [] = map_more f (zip xs ys) i (x, y) lz ∙ ap (λ (u : X × X). map f (take i (zip xs ys)) ++ f u ∷ []) g in
    b ∙ ap (λ (zs : List Y). zs ++ f (x, y) ∷ []) a ∙ append_assoc old (map f (take i (zip xs ys))) (f (x, y) ∷ []) ∙ ap (λ (zs : List Y). old ++ zs) (sym t)

pub pairs_all : {X Y : Type 0} (f : X × X → Y) (xs ys : List X) (i n : ℕ) (old now : List Y) → n ≡ min (length xs) (length ys) → n ≤ i → now ≡ old ++ map f (take i (zip xs ys)) → now ≡ old ++ map f (zip xs ys)
pairs_all {X} {Y} f xs ys i n old now len le a =
    let l : length (zip xs ys) ≤ i = omega (arith, length-zip xs ys, len, le) in
    a ∙ ap (λ (zs : List (X × X)). old ++ map f zs) (take_all i (zip xs ys) l)
