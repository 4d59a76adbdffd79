-- A search with a stack: what it has found, and what is still on the stack, last first.
use Rattle.std.proofs.Common.{◌≡◌, ℕ, ◌+◌, ◌<◌, List, [], ◌∷◌, ◌++◌, length, get_or, reverse, refl, ap, ◌∙◌, sym, arith, append_assoc, length-append, take, ◌-◌, All, suc}
use Rattle.std.specs.Prelude.{sum_by, Contains}
use Rattle.std.specs.List.{flat_map}
use Rattle.std.proofs.lemmas.List.{reverse-append, reverse-reverse, get_or-reverse, length-reverse, take_more}
use Rattle.std.proofs.lemmas.List.Concat.{flat_map-append}
use Rattle.std.proofs.lemmas.List.Sums.{sum_by-cons, sum_by-append}
use Rattle.std.proofs.lemmas.List.Sorted.{IsPermutation-reverse, sum_by-IsPermutation, All-permutation}
use Rattle.std.proofs.lemmas.List.Elements.{All-append}

pub contains_here : {X : Type 0} (x : X) (xs : List X) → Contains (x ∷ xs) x
contains_here x xs = (0, omega arith, refl)

pub contains_more : {X : Type 0} (x y : X) (xs : List X) → Contains xs y → Contains (x ∷ xs) y
contains_more x y xs (k, lt, e) = (suc k, omega (arith, lt), e)

pub flat_map_agree : {X A : Type 0} (f g : X → List A) (xs : List X) → ((x : X) → Contains xs x → f x ≡ g x) → flat_map f xs ≡ flat_map g xs
flat_map_agree f g [] h = refl
flat_map_agree f g (x ∷ xs) h =
    let a : f x ≡ g x = h x (contains_here x xs) in
    let b : flat_map f xs ≡ flat_map g xs = flat_map_agree f g xs (λ y m. h y (contains_more x y xs m)) in
    rw (a, b) refl

pub sum_agree : {X : Type 0} (f g : X → ℕ) (xs : List X) → ((x : X) → Contains xs x → f x ≡ g x) → sum_by f xs ≡ sum_by g xs
sum_agree f g [] h = refl
sum_agree f g (x ∷ xs) h =
    let a : f x ≡ g x = h x (contains_here x xs) in
    let b : sum_by f xs ≡ sum_by g xs = sum_agree f g xs (λ y m. h y (contains_more x y xs m)) in
    sum_by-cons f x xs ∙ ap (λ (k : ℕ). k + sum_by f xs) a ∙ ap (λ (k : ℕ). g x + k) b ∙ sym (sum_by-cons g x xs)

-- what is taken off is replaced by what it leads to
pub popped_more : {S R : Type 0} (g : S → List R) (found all : List R) (stack rest more row : List S) (x : S) → found ++ flat_map g (reverse stack) ≡ all → stack ≡ rest ++ x ∷ [] → more ≡ rest ++ reverse row → g x ≡ flat_map g row
    → found ++ flat_map g (reverse more) ≡ all
popped_more {S} {R} g found all stack rest more row x h e f u =
    let a : reverse more ≡ row ++ reverse rest = ap reverse f ∙ reverse-append rest (reverse row) ∙ ap (λ (ys : List S). ys ++ reverse rest) (reverse-reverse row) in
    let b : reverse stack ≡ x ∷ reverse rest = ap reverse e ∙ reverse-append rest (x ∷ []) in
    let c : flat_map g (reverse more) ≡ flat_map g (reverse stack) = ap (flat_map g) a ∙ flat_map-append g row (reverse rest) ∙ ap (λ (ys : List R). ys ++ flat_map g (reverse rest)) (sym u) ∙ sym (ap (flat_map g) b) in
    ap (λ (ys : List R). found ++ ys) c ∙ h

-- what is taken off is found itself
pub popped_end : {S R : Type 0} (g : S → List R) (found more all : List R) (stack rest : List S) (x : S) (r : R) → found ++ flat_map g (reverse stack) ≡ all → stack ≡ rest ++ x ∷ [] → more ≡ found ++ r ∷ [] → g x ≡ r ∷ []
    → more ++ flat_map g (reverse rest) ≡ all
popped_end {S} {R} g found more all stack rest x r h e f u =
    let b : reverse stack ≡ x ∷ reverse rest = ap reverse e ∙ reverse-append rest (x ∷ []) in
    let c : flat_map g (reverse stack) ≡ r ∷ flat_map g (reverse rest) = ap (flat_map g) b ∙ ap (λ (ys : List R). ys ++ flat_map g (reverse rest)) u in
    ap (λ (ys : List R). ys ++ flat_map g (reverse rest)) f ∙ append_assoc found (r ∷ []) (flat_map g (reverse rest)) ∙ sym (ap (λ (ys : List R). found ++ ys) c) ∙ h

-- what is found so far, and one more where an item that is found itself is still on the stack, isn't more than all
pub popped_length : {S R : Type 0} (g : S → List R) (found all : List R) (stack rest : List S) (x : S) (r : R) → found ++ flat_map g (reverse stack) ≡ all → stack ≡ rest ++ x ∷ [] → g x ≡ r ∷ []
    → length found < length all
popped_length g found all stack rest x r h e u =
    let m : (found ++ r ∷ []) ++ flat_map g (reverse rest) ≡ all = popped_end g found (found ++ r ∷ []) all stack rest x r h e refl u in
    let n : length all ≡ length (found ++ r ∷ []) + length (flat_map g (reverse rest)) = ap length (sym m) ∙ length-append (found ++ r ∷ []) (flat_map g (reverse rest)) in
    let k : length (found ++ r ∷ []) ≡ length found + 1 = length-append found (r ∷ []) in
    omega (arith, n, k)

pub fewer : {S : Type 0} (w : S → ℕ) (stack rest more row : List S) (x : S) → stack ≡ rest ++ x ∷ [] → more ≡ rest ++ reverse row → w x ≡ sum_by w row + 1 → sum_by w more < sum_by w stack
fewer w stack rest more row x e f u =
    let a : sum_by w more ≡ sum_by w rest + sum_by w (reverse row) = ap (sum_by w) f ∙ sum_by-append w rest (reverse row) in
    let b : sum_by w (reverse row) ≡ sum_by w row = sum_by-IsPermutation w row (reverse row) (IsPermutation-reverse row) in
    let c : sum_by w stack ≡ sum_by w rest + sum_by w (x ∷ []) = ap (sum_by w) e ∙ sum_by-append w rest (x ∷ []) in
    let d : sum_by w (x ∷ []) ≡ w x + sum_by w [] = sum_by-cons w x [] in
    omega (arith, a, b, c, d, u)

pub fewer_end : {S : Type 0} (w : S → ℕ) (stack rest : List S) (x : S) → stack ≡ rest ++ x ∷ [] → 0 < w x → sum_by w rest < sum_by w stack
fewer_end w stack rest x e u =
    let c : sum_by w stack ≡ sum_by w rest + sum_by w (x ∷ []) = ap (sum_by w) e ∙ sum_by-append w rest (x ∷ []) in
    let d : sum_by w (x ∷ []) ≡ w x + sum_by w [] = sum_by-cons w x [] in
    omega (arith, c, d, u)

pub all_more : {S : Type 0} (P : S → Type 0) (rest more row : List S) → more ≡ rest ++ reverse row → All P rest → All P row → All P more
all_more P rest more row f a b = rw f (All-append P rest (reverse row) a (All-permutation P row (reverse row) (IsPermutation-reverse row) b))

-- one more of a list from its end
pub reversed_more : {X : Type 0} (old now new more : List X) (i n : ℕ) (x : X) → now ≡ old ++ take i (reverse more) → new ≡ now ++ x ∷ [] → i < n → n ≡ length more → x ≡ get_or more (n - 1 - i) x
    → new ≡ old ++ take (i + 1) (reverse more)
reversed_more {X} old now new more i n x a b lt len is =
    let lt' : i < length more = omega (arith, lt, len) in
    let lt'' : i < length (reverse more) = omega (arith, lt', length-reverse more) in
    let g : get_or (reverse more) i x ≡ x = get_or-reverse more i x lt' ∙ ap (λ (k : ℕ). get_or more (k - 1 - i) x) (sym len) ∙ sym is in
    let t : take (i + 1) (reverse more) ≡ take i (reverse more) ++ x ∷ [] = take_more (reverse more) i x lt'' ∙ ap (λ (y : X). take i (reverse more) ++ y ∷ []) g in
    b ∙ ap (λ (ys : List X). ys ++ x ∷ []) a ∙ append_assoc old (take i (reverse more)) (x ∷ []) ∙ ap (λ (ys : List X). old ++ ys) (sym t)
