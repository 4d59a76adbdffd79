-- Names in a list: whether they are distinct, and where they stand.
use Rattle.std.proofs.Common.{◌≡◌, ◌≢◌, ◌<◌, ◌≤◌, cond, ◌+◌, ◌↔◌, ◌⊎◌, ℕ, zero, suc, List, [], ◌∷◌, ◌++◌, length, get_or, take, true, false, Bool, Option, Some, None, refl, sym, ap, ◌∙◌, subst, inl, inr, arith, add-one, BTreeMap, Bor}
use Rattle.std.specs.Prelude.{Contains, slice_get, MatchOption, IsTrue, is_some}
use Rattle.std.specs.List.{AllByRecursion}
use Rattle.std.specs.BTreeMap.{get_by, UpdatesBy}
use Rattle.std.specs.Cmp.Lexicographic.{slice_cmp}
use Rattle.std.specs.Ordering.{nat_cmp}
use Rattle.std.specs.Str.{bytes_eq}
use Rattle.std.proofs.lemmas.Map.Text.{btree_map_updates_str}
use Rattle.std.proofs.lemmas.Slice.Eq.{bytes_eq-Decides}
use Rattle.std.proofs.lemmas.List.Elements.{Contains-push_cases}
use Rattle.std.proofs.lemmas.Option.{slice_get_within, get_or_from_slice_get}
use Rattle.cm_base.specs.HostEnds.{AreDistinct}
use Rattle.wasm_valid.specs.Texts.{texts, TellsPlaces}

-- ---- one element more

pub all_more : {A : Type 0} (P : A → Type 0) (xs : List A) (x : A) → AllByRecursion P xs → P x → AllByRecursion P (xs ++ x ∷ [])
all_more P [] x all p = (p, tt)
all_more P (y ∷ xs) x all p = (all.0, all_more P xs x all.1 p)

pub all_before : {A : Type 0} (P : A → Type 0) (xs : List A) (x : A) → AllByRecursion P (xs ++ x ∷ []) → AllByRecursion P xs × P x
all_before P [] x all = (tt, all.0)
all_before P (y ∷ xs) x all = let r = all_before P xs x all.1 in ((all.0, r.0), r.1)

pub in_front : {A : Type 0} (x : A) (xs : List A) → Contains (x ∷ xs) x
in_front x xs = (0, omega arith, refl)

pub behind : {A : Type 0} (y : A) (xs : List A) (x : A) → Contains xs x → Contains (y ∷ xs) x
behind y xs x c = (suc c.0, omega (arith, c.1), c.2)

pub contains_cases : {A : Type 0} (y : A) (xs : List A) (x : A) → Contains (y ∷ xs) x → (y ≡ x) ⊎ Contains xs x
contains_cases y xs x (zero, lt, e) = inl e
contains_cases y xs x (suc k, lt, e) = inr (k, omega (arith, lt), e)

pub contains_none : {A : Type 0} (x : A) → Contains [] x → ⊥
contains_none x c = absurd (omega (arith, c.1))

pub all_contained : {A : Type 0} (P : A → Type 0) (xs : List A) (x : A) → AllByRecursion P xs → Contains xs x → P x
all_contained P [] x all c = absurd (contains_none x c)
all_contained P (y ∷ xs) x all c = elim (contains_cases y xs x c) [ inl e ↦ subst P e all.0 | inr c ↦ all_contained P xs x all.1 c ]

-- ---- distinct names

pub distinct_more : (names : List (List ℕ)) (name : List ℕ) → AreDistinct names → (Contains names name → ⊥) → AreDistinct (names ++ name ∷ [])
distinct_more [] name d lacks = (tt, tt)
distinct_more (n ∷ names) name d lacks =
    (all_more (λ other. other ≢ n) names name d.0 (λ e. lacks (0, omega arith, sym e)), distinct_more names name d.1 (λ c. lacks (behind n names name c)))

pub distinct_before : (names : List (List ℕ)) (name : List ℕ) → AreDistinct (names ++ name ∷ []) → AreDistinct names × (Contains names name → ⊥)
distinct_before [] name d = (tt, contains_none name)
distinct_before (n ∷ names) name d =
    let a = all_before (λ other. other ≢ n) names name d.0 in
    let r = distinct_before names name d.1 in
    ((a.0, r.0), λ c. elim (contains_cases n names name c) [ inl e ↦ absurd (a.1 (sym e)) | inr c ↦ r.1 c ])

-- ---- places

pub there_first : {A : Type 0} (xs ys : List A) (k : ℕ) (x : A) → slice_get xs k ≡ Some x → slice_get (xs ++ ys) k ≡ Some x
there_first [] ys k x e = absurd cc
there_first (y ∷ xs) ys zero x e = e
there_first (y ∷ xs) ys (suc k) x e = there_first xs ys k x e

pub there_last : {A : Type 0} (xs : List A) (x : A) → slice_get (xs ++ x ∷ []) (length xs) ≡ Some x
there_last [] x = refl
there_last (y ∷ xs) x = there_last xs x

pub contains_at : {A : Type 0} (xs : List A) (k : ℕ) (x : A) → slice_get xs k ≡ Some x → Contains xs x
contains_at xs k x e = (k, slice_get_within xs k x e, get_or_from_slice_get xs k x x e)

abbrev pub Tells : List (List ℕ) → List ℕ → Option ℕ → Type 0
Tells names name o = MatchOption o (Contains names name → ⊥) (λ at. slice_get names at ≡ Some name)

other_more : (names : List (List ℕ)) (bs name : List ℕ) → bs ≢ name → (o : Option ℕ) → Tells names name o → Tells (names ++ bs ∷ []) name o
other_more names bs name differ None h = λ c. elim (Contains-push_cases names bs name c) [ inl c ↦ h c | inr e ↦ absurd (differ e) ]
other_more names bs name differ (Some at) h = there_first names (bs ∷ []) at name h

pub places_more : (names : List (List ℕ)) (bs : List ℕ) (old new : BTreeMap (Bor (List ℕ)) ℕ) → TellsPlaces names old →
    UpdatesBy (λ x y. slice_cmp nat_cmp x.now y.now) (λ k. slice_cmp nat_cmp bs k.now) old new (Some (length names)) → TellsPlaces (names ++ bs ∷ []) new
places_more names bs old new h updates name =
    let put = btree_map_updates_str bs old new (Some (length names)) updates name in
    subst (Tells (names ++ bs ∷ []) name) (sym put) (at (bytes_eq bs name) refl)
  where
    at : (b : Bool) → bytes_eq bs name ≡ b → Tells (names ++ bs ∷ []) name (cond b (Some (length names)) (get_by (λ k. slice_cmp nat_cmp name k.now) old))
    at true e = let same : bs ≡ name = (bytes_eq-Decides bs name).0 e in subst (λ n. slice_get (names ++ bs ∷ []) (length names) ≡ Some n) same (there_last names bs)
    at false e = other_more names bs name (λ same. cc (e, (bytes_eq-Decides bs name).1 same)) (get_by (λ k. slice_cmp nat_cmp name k.now) old) (h name)

-- whether the old map told a place, as it is returned
pub told : (names : List (List ℕ)) (bs : List ℕ) (places : BTreeMap (Bor (List ℕ)) ℕ) (at : ℕ) → TellsPlaces names places → get_by (λ k. slice_cmp nat_cmp bs k.now) places ≡ Some at → Contains names bs
told names bs places at h e = contains_at names at bs (subst (Tells names bs) e (h bs))

pub untold : (names : List (List ℕ)) (bs : List ℕ) (places : BTreeMap (Bor (List ℕ)) ℕ) → TellsPlaces names places → get_by (λ k. slice_cmp nat_cmp bs k.now) places ≡ None → Contains names bs → ⊥
untold names bs places h e = subst (Tells names bs) e (h bs)

text_more : (items : List (Bor (List ℕ))) (k : ℕ) (d : Bor (List ℕ)) → k < length items → take (k + 1) (texts items) ≡ take k (texts items) ++ (get_or items k d).now ∷ []
text_more [] k d lt = absurd (omega (arith, lt))
text_more (x ∷ items) zero d lt = refl
text_more (x ∷ items) (suc k) d lt = ap (λ n. take n (texts (x ∷ items))) (add-one (suc k)) ∙ ap (λ n. take (suc n) (texts (x ∷ items))) (sym (add-one k)) ∙ ap (λ (l : List (List ℕ)). x.now ∷ l) (text_more items k d (omega (arith, lt)))

text_count : (items : List (Bor (List ℕ))) (k : ℕ) → k < length items → length (take k (texts items)) ≡ k
text_count [] k lt = absurd (omega (arith, lt))
text_count (x ∷ items) zero lt = refl
text_count (x ∷ items) (suc k) lt = ap suc (text_count items k (omega (arith, lt)))

pub all_texts : (items : List (Bor (List ℕ))) (k : ℕ) → length items ≤ k → take k (texts items) ≡ texts items
all_texts [] zero le = refl
all_texts [] (suc k) le = refl
all_texts (x ∷ items) zero le = absurd (omega (arith, le))
all_texts (x ∷ items) (suc k) le = ap (λ (l : List (List ℕ)). x.now ∷ l) (all_texts items k (omega (arith, le)))

pub next_places : (items : List (Bor (List ℕ))) (k : ℕ) (name d : Bor (List ℕ)) (old new : BTreeMap (Bor (List ℕ)) ℕ) → k < length items → name ≡ get_or items k d → TellsPlaces (take k (texts items)) old →
    UpdatesBy (λ x y. slice_cmp nat_cmp x.now y.now) (λ key. slice_cmp nat_cmp name.now key.now) old new (Some k) → TellsPlaces (take (k + 1) (texts items)) new
next_places items k name d old new lt e h updates =
    subst (λ names. TellsPlaces names new) (sym (text_more items k d lt ∙ ap (λ (n : Bor (List ℕ)). take k (texts items) ++ n.now ∷ []) (sym e)))
    (places_more (take k (texts items)) name.now old new h (subst (λ n. UpdatesBy (λ x y. slice_cmp nat_cmp x.now y.now) (λ key. slice_cmp nat_cmp name.now key.now) old new (Some n)) (sym (text_count items k lt)) updates))

pub next_twice : (items : List (Bor (List ℕ))) (k : ℕ) (name d : Bor (List ℕ)) → k < length items → name ≡ get_or items k d → Contains (take k (texts items)) name.now → AreDistinct (take (k + 1) (texts items)) → ⊥
next_twice items k name d lt e there distinct =
    (distinct_before (take k (texts items)) name.now (subst AreDistinct (text_more items k d lt ∙ ap (λ (n : Bor (List ℕ)). take k (texts items) ++ n.now ∷ []) (sym e)) distinct)).1 there

pub next_distinct : (items : List (Bor (List ℕ))) (k : ℕ) (name d : Bor (List ℕ)) → k < length items → name ≡ get_or items k d → (Contains (take k (texts items)) name.now → ⊥) → AreDistinct (take k (texts items)) ↔ AreDistinct (take (k + 1) (texts items))
next_distinct items k name d lt e lacks =
    let is : take (k + 1) (texts items) ≡ take k (texts items) ++ name.now ∷ [] = text_more items k d lt ∙ ap (λ (n : Bor (List ℕ)). take k (texts items) ++ n.now ∷ []) (sym e) in
    (λ h. subst AreDistinct (sym is) (distinct_more (take k (texts items)) name.now h lacks), λ h. (distinct_before (take k (texts items)) name.now (subst AreDistinct is h)).0)

pub place_there : (names : List (List ℕ)) (name : List ℕ) (places : BTreeMap (Bor (List ℕ)) ℕ) (at : ℕ) → TellsPlaces names places → get_by (λ k. slice_cmp nat_cmp name k.now) places ≡ Some at → slice_get names at ≡ Some name
place_there names name places at h e = subst (Tells names name) e (h name)

pub twice_now : (items : List (Bor (List ℕ))) (k : ℕ) (name d : Bor (List ℕ)) (places : BTreeMap (Bor (List ℕ)) ℕ) (o : Option ℕ) (b : Bool) → k < length items → name ≡ get_or items k d → TellsPlaces (take k (texts items)) places →
    o ≡ get_by (λ key. slice_cmp nat_cmp name.now key.now) places → is_some o ≡ true → b ≡ false → IsTrue b ↔ AreDistinct (take (k + 1) (texts items))
twice_now items k name d places None b lt e h o some is = absurd cc
twice_now items k name d places (Some at) b lt e h o some is =
    (λ t. cc (t, is), λ distinct. absurd (next_twice items k name d lt e (told (take k (texts items)) name.now places at h (sym o)) distinct))

pub once_more : (items : List (Bor (List ℕ))) (k : ℕ) (name d : Bor (List ℕ)) (places : BTreeMap (Bor (List ℕ)) ℕ) (o : Option ℕ) (before b : Bool) → k < length items → name ≡ get_or items k d → TellsPlaces (take k (texts items)) places →
    o ≡ get_by (λ key. slice_cmp nat_cmp name.now key.now) places → is_some o ≡ false → b ≡ before → (IsTrue before ↔ AreDistinct (take k (texts items))) → IsTrue b ↔ AreDistinct (take (k + 1) (texts items))
once_more items k name d places (Some at) before b lt e h o none is was = absurd cc
once_more items k name d places None before b lt e h o none is was =
    let n = next_distinct items k name d lt e (untold (take k (texts items)) name.now places h (sym o)) in
    (λ t. n.0 (was.0 (subst IsTrue is t)), λ distinct. subst IsTrue (sym is) (was.1 (n.1 distinct)))
