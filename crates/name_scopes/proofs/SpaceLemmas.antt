-- Numbers of namespaces: what is opened is found by its number, and no two numbers are those of one namespace.
use Rattle.std.specs.Prelude.{◌≡◌, refl, ℕ, zero, suc, ◌+◌, ◌<◌, Bool, true, false, not, ◌&&◌, ◌||◌, List, [], ◌∷◌, ◌++◌, length, map, Option, Some, None, option_map, position, slice_get, slice_index_or, bytes_eq, nat_eq, nat_lt}
use Rattle.std.specs.List.{list_any, position_or_len}
use Rattle.std.proofs.Common.{ap, sym, ◌∙◌, subst, arith, cond, true≢false}
use Rattle.std.proofs.lemmas.List.{length-append, length-map, map-append, get_or_append_left}
use Rattle.std.proofs.lemmas.Slice.Eq.{bytes_eq-Decides}
use Rattle.std.proofs.lemmas.Bool.{eqb-true, eq-eqb, lt-ltb, le-ltb, ltb-true, ltb-false}
use Rattle.std.proofs.lemmas.Option.{slice_get-map, slice_get-get_or, get_or_from_slice_get}
use Rattle.indexmap.specs.IndexSet.{insert_key}
use Rattle.cm_meaning.specs.Declared.{Space}
use Rattle.cm_meaning.specs.Scopes.{is_space}
use Rattle.name_scopes.specs.Openings.{Opening, inner, outer_space, opened_from, spaces_of, space_number, with_space, AreDistinct, StandBelow, opens, AreRooted}

-- ---- equal namespaces

and-left : (a b : Bool) → (a && b) ≡ true → a ≡ true
and-left true b h = refl
and-left false b h = absurd (true≢false (sym h))

and-right : (a b : Bool) → (a && b) ≡ true → b ≡ true
and-right true b h = h
and-right false b h = absurd (true≢false (sym h))

pub space-equal : (s t : Space) → is_space s t ≡ true → s ≡ t
unfolding is_space
space-equal [] [] h = refl
space-equal [] (k ∷ t) h = absurd (true≢false (sym h))
space-equal (n ∷ s) [] h = absurd (true≢false (sym h))
space-equal (n ∷ s) (k ∷ t) h =
    let e = (bytes_eq-Decides n k).0 (and-left (bytes_eq n k) (is_space s t) h) in
    let i = space-equal s t (and-right (bytes_eq n k) (is_space s t) h) in ap (λ z. z ∷ s) e ∙ ap (λ z. k ∷ z) i

pub space-same : (s : Space) → is_space s s ≡ true
unfolding is_space
space-same [] = refl
space-same (n ∷ s) = rw ((bytes_eq-Decides n n).1 refl) (space-same s)

-- ---- distinct ones

any-here : (s : Space) (spaces : List Space) (j : ℕ) → j < length spaces → s ≡ slice_index_or spaces j [] → list_any (is_space s) spaces ≡ true
any-here s [] j below is = absurd (omega (arith, below))
any-here s (t ∷ spaces) zero below is = ap (λ z. is_space s z || list_any (is_space s) spaces) (sym is) ∙ ap (λ b. b || list_any (is_space s) spaces) (space-same s)
any-here s (t ∷ spaces) (suc j) below is = rw (any-here s spaces j (omega (arith, below)) is) (or-true (is_space s t)) where
  or-true : (b : Bool) → (b || true) ≡ true
  or-true true = refl
  or-true false = refl

pub distinct-places : (spaces : List Space) (i j : ℕ) → AreDistinct spaces → i < length spaces → j < length spaces → slice_index_or spaces i [] ≡ slice_index_or spaces j [] → i ≡ j
distinct-places [] i j h a b e = absurd (omega (arith, a))
distinct-places (s ∷ spaces) zero zero h a b e = refl
distinct-places (s ∷ spaces) zero (suc j) h a b e = absurd (true≢false (sym (any-here s spaces j (omega (arith, b)) e) ∙ h.0))
distinct-places (s ∷ spaces) (suc i) zero h a b e = absurd (true≢false (sym (any-here s spaces i (omega (arith, a)) (sym e)) ∙ h.0))
distinct-places (s ∷ spaces) (suc i) (suc j) h a b e = ap suc (distinct-places spaces i j h.1 (omega (arith, a)) (omega (arith, b)) e)

or-left : (a b : Bool) → (a || b) ≡ false → a ≡ false
or-left true b h = absurd (true≢false h)
or-left false b h = refl

or-right : (a b : Bool) → (a || b) ≡ false → b ≡ false
or-right true b h = absurd (true≢false h)
or-right false b h = h

any-end : (s x : Space) (spaces : List Space) → list_any (is_space s) spaces ≡ false → is_space s x ≡ false → list_any (is_space s) (spaces ++ x ∷ []) ≡ false
any-end s x [] h e = rw e refl
any-end s x (t ∷ spaces) h e = ap (λ b. b || list_any (is_space s) (spaces ++ x ∷ [])) (or-left (is_space s t) (list_any (is_space s) spaces) h)
    ∙ any-end s x spaces (or-right (is_space s t) (list_any (is_space s) spaces) h) e

distinct-end : (spaces : List Space) (x : Space) → AreDistinct spaces → list_any (is_space x) spaces ≡ false → AreDistinct (spaces ++ x ∷ [])
distinct-end [] x h none = (refl, tt)
distinct-end (s ∷ spaces) x h none = (any-end s x spaces h.0 (differs (is_space s x) refl), distinct-end spaces x h.1 (or-right (is_space x s) (list_any (is_space x) spaces) none)) where
  differs : (b : Bool) → is_space s x ≡ b → is_space s x ≡ false
  differs false e = e
  differs true e = absurd (true≢false (sym (subst (λ z. is_space x z ≡ true) (sym (space-equal s x e)) (space-same x)) ∙ or-left (is_space x s) (list_any (is_space x) spaces) none))

-- ---- openings and what they open

opened-end : (spaces : List Space) (openings : List Opening) (a : Opening)
    → opened_from spaces (openings ++ a ∷ []) ≡ opened_from spaces openings ++ opens (opened_from spaces openings) a ∷ []
unfolding opened_from
opened-end spaces [] a = refl
opened-end spaces (x ∷ openings) a = opened-end (spaces ++ opens spaces x ∷ []) openings a

opens-longer : (spaces more : List Space) (openings : List Opening) → StandBelow (length spaces) openings → map (opens (spaces ++ more)) openings ≡ map (opens spaces) openings
opens-longer spaces more [] h = refl
opens-longer spaces more (a ∷ openings) h =
    ap (λ z. (a.1.now ∷ z) ∷ map (opens (spaces ++ more)) openings) (get_or_append_left spaces more [] a.0 h.0) ∙ ap (λ z. opens spaces a ∷ z) (opens-longer spaces more openings h.1)

below-more : (n m : ℕ) (openings : List Opening) (a : Opening) → n < m → StandBelow n openings → a.0 < n → StandBelow m (openings ++ a ∷ [])
below-more n m [] a more h within = (omega (arith, more, within), tt)
below-more n m (x ∷ openings) a more h within = (let b = h.0 in omega (arith, more, b), below-more n m openings a more h.1 within)

-- a namespace that is opened
pub rooted-open : (openings : List Opening) (a : Opening) → AreRooted openings (spaces_of openings) → a.0 < length (spaces_of openings)
    → list_any (is_space (opens (spaces_of openings) a)) (spaces_of openings) ≡ false → AreRooted (openings ++ a ∷ []) (spaces_of (openings ++ a ∷ []))
rooted-open openings a h within none = subst (λ z. AreRooted (openings ++ a ∷ []) z) (sym (opened-end ([] ∷ []) openings a)) (by (spaces_of openings) h within none) where
  by : (spaces : List Space) → AreRooted openings spaces → a.0 < length spaces → list_any (is_space (opens spaces a)) spaces ≡ false → AreRooted (openings ++ a ∷ []) (spaces ++ opens spaces a ∷ [])
  by spaces h within none = record {
    below = let l = length-append spaces (opens spaces a ∷ []) in below-more (length spaces) (length (spaces ++ opens spaces a ∷ [])) openings a (omega (arith, l)) h.below within;
    each = ap (λ z. z ++ opens spaces a ∷ []) h.each ∙ ap (λ z. [] ∷ z)
        (sym (map-append (opens (spaces ++ opens spaces a ∷ [])) openings (a ∷ [])
        ∙ ap (λ z. z ++ opens (spaces ++ opens spaces a ∷ []) a ∷ []) (opens-longer spaces (opens spaces a ∷ []) openings h.below)
        ∙ ap (λ z. map (opens spaces) openings ++ (a.1.now ∷ z) ∷ []) (get_or_append_left spaces (opens spaces a ∷ []) [] a.0 within)));
    distinct = distinct-end spaces (opens spaces a) h.distinct none;
  }

pub rooted-none : (openings : List Opening) → openings ≡ [] → AreRooted openings (spaces_of openings)
unfolding opened_from
rooted-none openings is = subst (λ z. AreRooted z (spaces_of z)) (sym is) (record { below = tt; each = refl; distinct = (refl, tt) })

pub spaces-none : (openings : List Opening) → openings ≡ [] → spaces_of openings ≡ [] ∷ []
unfolding opened_from
spaces-none openings is = rw is refl

-- ---- openings and the namespaces that they open are equal together

abbrev same_opening : Opening → Opening → Bool
same_opening a k = nat_eq a.0 k.0 && bytes_eq a.1.now k.1.now

same-opens : (spaces : List Space) (a k : Opening) → AreDistinct spaces → a.0 < length spaces → k.0 < length spaces → is_space (opens spaces a) (opens spaces k) ≡ same_opening a k
unfolding is_space
same-opens spaces a k h below within = by (is_space (slice_index_or spaces a.0 []) (slice_index_or spaces k.0 [])) refl (nat_eq a.0 k.0) refl where
  flip : (b : Bool) → (b && true) ≡ b
  flip true = refl
  flip false = refl

  none : (b : Bool) → (b && false) ≡ false
  none true = refl
  none false = refl

  by : (s : Bool) → is_space (slice_index_or spaces a.0 []) (slice_index_or spaces k.0 []) ≡ s → (n : Bool) → nat_eq a.0 k.0 ≡ n
      → (bytes_eq a.1.now k.1.now && is_space (slice_index_or spaces a.0 []) (slice_index_or spaces k.0 [])) ≡ (nat_eq a.0 k.0 && bytes_eq a.1.now k.1.now)
  by true e true f = rw (e, f) (flip (bytes_eq a.1.now k.1.now))
  by false e false f = rw (e, f) (none (bytes_eq a.1.now k.1.now))
  by true e false f = absurd (true≢false (sym (eq-eqb a.0 k.0 (distinct-places spaces a.0 k.0 h below within (space-equal (slice_index_or spaces a.0 []) (slice_index_or spaces k.0 []) e))) ∙ f))
  by false e true f = absurd (true≢false (sym (space-same (slice_index_or spaces a.0 [])) ∙ ap (λ z. is_space (slice_index_or spaces a.0 []) (slice_index_or spaces z [])) (eqb-true a.0 k.0 f) ∙ e))

places-opens : (spaces : List Space) (a : Opening) (openings : List Opening) → AreDistinct spaces → a.0 < length spaces → StandBelow (length spaces) openings
    → position_or_len (is_space (opens spaces a)) (map (opens spaces) openings) ≡ position_or_len (same_opening a) openings
places-opens spaces a [] h below within = refl
places-opens spaces a (k ∷ openings) h below within =
    ap (λ b. cond (not b) (1 + position_or_len (is_space (opens spaces a)) (map (opens spaces) openings)) 0) (same-opens spaces a k h below within.0)
    ∙ ap (λ n. cond (not (same_opening a k)) (1 + n) 0) (places-opens spaces a openings h below within.1)

any-opens : (spaces : List Space) (a : Opening) (openings : List Opening) → AreDistinct spaces → a.0 < length spaces → StandBelow (length spaces) openings
    → list_any (is_space (opens spaces a)) (map (opens spaces) openings) ≡ list_any (same_opening a) openings
any-opens spaces a [] h below within = refl
any-opens spaces a (k ∷ openings) h below within =
    ap (λ b. b || list_any (is_space (opens spaces a)) (map (opens spaces) openings)) (same-opens spaces a k h below within.0)
    ∙ ap (λ b. same_opening a k || b) (any-opens spaces a openings h below within.1)

at-most : (n l m : ℕ) → m ≡ suc l → cond (nat_lt (1 + n) m) (Some (1 + n)) None ≡ option_map (λ k. k + 1) (cond (nat_lt n l) (Some n) None)
at-most n l m is = by (nat_lt n l) refl where
  by : (b : Bool) → nat_lt n l ≡ b → cond (nat_lt (1 + n) m) (Some (1 + n)) None ≡ option_map (λ k. k + 1) (cond (nat_lt n l) (Some n) None)
  by true h = let b = ltb-true n l h in rw (h, lt-ltb (1 + n) m (omega (arith, b, is))) (ap Some (omega arith))
  by false h = let b = ltb-false n l h in rw (h, le-ltb (1 + n) m (omega (arith, b, is))) refl

position-later : {A : Type 0} (p : A → Bool) (x : A) (xs : List A) → p x ≡ false → position p (x ∷ xs) ≡ option_map (λ k. k + 1) (position p xs)
position-later p x xs h = rw h (at-most (position_or_len p xs) (length xs) (length (x ∷ xs)) refl)

-- the number of a namespace is one more than the place of its opening
number-opens : (spaces : List Space) (a : Opening) (openings : List Opening) → AreRooted openings spaces → a.0 < length spaces
    → space_number spaces (opens spaces a) ≡ option_map (λ n. n + 1) (position (same_opening a) openings)
unfolding is_space
number-opens spaces a openings h below = ap (λ z. position (is_space (opens spaces a)) z) h.each
    ∙ position-later (is_space (opens spaces a)) [] (map (opens spaces) openings) refl
    ∙ ap (option_map (λ n. n + 1)) (rw (places-opens spaces a openings h.distinct below h.below, length-map openings (opens spaces)) refl)

any-spaces : (spaces : List Space) (a : Opening) (openings : List Opening) → AreRooted openings spaces → a.0 < length spaces
    → list_any (is_space (opens spaces a)) spaces ≡ list_any (same_opening a) openings
unfolding is_space
any-spaces spaces a openings h below = ap (λ z. list_any (is_space (opens spaces a)) z) h.each ∙ any-opens spaces a openings h.distinct below h.below

-- ---- what the calls say

pub spaces-found : (openings : List Opening) (v : List Space) (a : Opening) (o : Option ℕ) → AreRooted openings (spaces_of openings) → spaces_of openings ≡ v → a.0 < length v
    → o ≡ position (same_opening a) openings → option_map (λ n. n + 1) o ≡ space_number v (inner v a.0 a.1.now)
spaces-found openings v a o h is below found = ap (option_map (λ n. n + 1)) found
    ∙ sym (number-opens v a openings (subst (AreRooted openings) is h) below)

pub spaces-after : (openings more : List Opening) (v : List Space) (a : Opening) → AreRooted openings (spaces_of openings) → spaces_of openings ≡ v → a.0 < length v
    → more ≡ insert_key (λ (x y : Opening). same_opening x y) openings a → AreRooted more (spaces_of more) × (spaces_of more ≡ with_space v (opens v a))
spaces-after openings more v a h is below grown = subst (λ z. AreRooted z (spaces_of z) × (spaces_of z ≡ with_space v (opens v a))) (sym grown) (by (list_any (same_opening a) openings) refl) where
  any : list_any (is_space (opens v a)) v ≡ list_any (same_opening a) openings
  any = any-spaces v a openings (subst (AreRooted openings) is h) below

  by : (b : Bool) → list_any (same_opening a) openings ≡ b
      → AreRooted (insert_key (λ (x y : Opening). same_opening x y) openings a) (spaces_of (insert_key (λ (x y : Opening). same_opening x y) openings a))
      × (spaces_of (insert_key (λ (x y : Opening). same_opening x y) openings a) ≡ with_space v (opens v a))
  by true e = rw (any, e) (h, is)
  by false e = rw (any, e) (
    rooted-open openings a h (subst (λ z. a.0 < length z) (sym is) below) (subst (λ z. list_any (is_space (opens z a)) z ≡ false) (sym is) (any ∙ e)),
    opened-end ([] ∷ []) openings a ∙ ap (λ z. z ++ opens z a ∷ []) is,
  )

pub number-after : (more : List Opening) (v : List Space) (a : Opening) (n : ℕ) → AreRooted more (spaces_of more) → spaces_of more ≡ with_space v (opens v a) → a.0 < length v
    → (stored : Opening) × (slice_get more n ≡ Some stored) × (same_opening a stored ≡ true) → slice_get (spaces_of more) (n + 1) ≡ Some (inner v a.0 a.1.now)
number-after more v a n h is below (stored, at, same) =
    ap (λ k. slice_get (spaces_of more) k) (one n) ∙ ap (λ z. slice_get z (suc n)) h.each ∙ slice_get-map (opens (spaces_of more)) more n ∙ ap (option_map (opens (spaces_of more))) at
    ∙ ap Some (ap (λ z. z ∷ slice_index_or (spaces_of more) stored.0 []) (sym ((bytes_eq-Decides a.1.now stored.1.now).0 (and-right (nat_eq a.0 stored.0) (bytes_eq a.1.now stored.1.now) same)))
    ∙ ap (λ k. a.1.now ∷ slice_index_or (spaces_of more) k []) (sym (eqb-true a.0 stored.0 (and-left (nat_eq a.0 stored.0) (bytes_eq a.1.now stored.1.now) same)))
    ∙ ap (λ z. a.1.now ∷ slice_index_or z a.0 []) is ∙ ap (λ z. a.1.now ∷ z) (stays (list_any (is_space (opens v a)) v) refl)) where
      one : (n : ℕ) → n + 1 ≡ suc n
      one n = omega arith

      stays : (b : Bool) → list_any (is_space (opens v a)) v ≡ b → slice_index_or (with_space v (opens v a)) a.0 [] ≡ slice_index_or v a.0 []
      stays true e = rw e refl
      stays false e = rw e (get_or_append_left v (opens v a ∷ []) [] a.0 below)

pub spaces-count : (openings : List Opening) (v : List Space) (n : ℕ) → AreRooted openings (spaces_of openings) → spaces_of openings ≡ v → n ≡ length openings → (n + 1 ≡ length v) × AreDistinct v
spaces-count openings v n h is many = (
  let l : length v ≡ length ([] ∷ map (opens (spaces_of openings)) openings) = sym (ap length is) ∙ ap length h.each in
      let k = length-map openings (opens (spaces_of openings)) in omega (arith, l, k, many),
  subst AreDistinct is h.distinct,
)

stands-at : (n : ℕ) (openings : List Opening) (k : ℕ) (a : Opening) → StandBelow n openings → slice_get openings k ≡ Some a → a.0 < n
stands-at n [] k a h at = cc
stands-at n (x ∷ openings) zero a h at = let e : x ≡ a = cc in subst (λ (z : Opening). z.0 < n) e h.0
stands-at n (x ∷ openings) (suc k) a h at = stands-at n openings k a h.1 at

outer-none : (v : List Space) (openings : List Opening) → v ≡ [] ∷ map (opens v) openings → outer_space (slice_index_or v 0 []) ≡ None
outer-none v openings is = ap (λ z. outer_space (slice_index_or z 0 [])) is

-- a namespace stands in that of its opening
outer-at : (v : List Space) (openings : List Opening) (n k : ℕ) (a : Opening) → AreRooted openings v → n ≡ suc k → slice_get openings k ≡ Some a
    → Some (slice_get v a.0) ≡ option_map Some (outer_space (slice_index_or v n []))
outer-at v openings n k a h is at =
    let read = slice_get-map (opens v) openings k ∙ ap (option_map (opens v)) at in
    ap Some (slice_get-get_or v a.0 [] (stands-at (length v) openings k a h.below at))
    ∙ sym (ap (λ m. option_map Some (outer_space (slice_index_or v m []))) is ∙ ap (λ z. option_map Some (outer_space (slice_index_or z (suc k) []))) h.each
    ∙ ap (λ s. option_map Some (outer_space s)) (get_or_from_slice_get (map (opens v) openings) k (opens v a) [] read))

pub whole-outer : (openings : List Opening) (v : List Space) (n : ℕ) → AreRooted openings (spaces_of openings) → spaces_of openings ≡ v → n ≡ 0
    → None ≡ option_map Some (outer_space (slice_index_or v n []))
whole-outer openings v n h is first =
    let g = subst (AreRooted openings) is h in
    sym (ap (λ m. option_map Some (outer_space (slice_index_or v m []))) first ∙ ap (option_map Some) (outer-none v openings g.each))

pub inner-outer : (openings : List Opening) (v : List Space) (n k : ℕ) (a : Opening) → AreRooted openings (spaces_of openings) → spaces_of openings ≡ v → n ≡ suc k → slice_get openings k ≡ Some a
    → Some (slice_get v a.0) ≡ option_map Some (outer_space (slice_index_or v n []))
inner-outer openings v n k a h is one at = outer-at v openings n k a (subst (AreRooted openings) is h) one at

pub no-outer : (openings : List Opening) (v : List Space) (n k : ℕ) → AreRooted openings (spaces_of openings) → spaces_of openings ≡ v → n ≡ suc k → n < length v → slice_get openings k ≡ None → ⊥
no-outer openings v n k h is one below none =
    let g = subst (AreRooted openings) is h in
    let l : length v ≡ length ([] ∷ map (opens v) openings) = ap length g.each in
    let m = length-map openings (opens v) in
    some-within openings k (omega (arith, l, m, one, below)) none where
      some-within : (openings : List Opening) (k : ℕ) → k < length openings → slice_get openings k ≡ None → ⊥
      some-within [] k below none = omega (arith, below)
      some-within (x ∷ openings) zero below none = cc
      some-within (x ∷ openings) (suc k) below none = some-within openings k (omega (arith, below)) none

-- the whole patch has number 0
pub root-first : (openings : List Opening) (all : List Space) → AreRooted openings (spaces_of openings) → spaces_of openings ≡ all → slice_get all 0 ≡ Some []
root-first openings all h is = ap (λ z. slice_get z 0) (sym is ∙ h.each)
