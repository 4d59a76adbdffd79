-- Places that come one before another.
use Rattle.std.specs.Prelude.{◌≡◌, refl, ℕ, ◌+◌, ◌-◌, ◌<◌, ◌≤◌, ◌⊎◌, Bool, true, false, cond, List, length, nat_eq, nat_lt, Some, slice_get}
use Rattle.std.proofs.Common.{ap, sym, ◌∙◌, subst, arith, inl, inr, true≢false, get_or}
use Rattle.std.proofs.lemmas.Bool.{eqb-true, eq-eqb, lt-ltb, ltb-true, ltb-false}
use Rattle.std.proofs.lemmas.Option.{get_or_from_slice_get, slice_get_within, slice_get-get_or}
use Rattle.cm_base.specs.declared.place.Place.{Place}
use Rattle.path_names.specs.declared.id.Use.{Use}
use Rattle.path_names.specs.Rising.{AreRising, comes_before}

abbrev Earlier : Place → Place → Type 0
Earlier p q = (p.file < q.file) ⊎ ((p.file ≡ q.file) × ((p.line < q.line) ⊎ ((p.line ≡ q.line) × (p.column < q.column))))

not-equal : (a b : ℕ) → a < b → nat_eq a b ≡ false
not-equal a b h = by (nat_eq a b) refl where
  by : (t : Bool) → nat_eq a b ≡ t → nat_eq a b ≡ false
  by false e = e
  by true e = absurd (let i = eqb-true a b e in omega (arith, i, h))

earlier-of : (p q : Place) → comes_before p q ≡ true → Earlier p q
earlier-of p q h = by (nat_eq p.file q.file) refl (nat_eq p.line q.line) refl h where
  by : (s : Bool) → nat_eq p.file q.file ≡ s → (t : Bool) → nat_eq p.line q.line ≡ t → cond s (cond t (nat_lt p.column q.column) (nat_lt p.line q.line)) (nat_lt p.file q.file) ≡ true → Earlier p q
  by false e t f h = inl (ltb-true p.file q.file h)
  by true e false f h = inr (eqb-true p.file q.file e, inl (ltb-true p.line q.line h))
  by true e true f h = inr (eqb-true p.file q.file e, inr (eqb-true p.line q.line f, ltb-true p.column q.column h))

before-of : (p q : Place) → Earlier p q → comes_before p q ≡ true
before-of p q (inl h) = ap (λ b. cond b (cond (nat_eq p.line q.line) (nat_lt p.column q.column) (nat_lt p.line q.line)) (nat_lt p.file q.file)) (not-equal p.file q.file h) ∙ lt-ltb p.file q.file h
before-of p q (inr (e, inl h)) = ap (λ b. cond b (cond (nat_eq p.line q.line) (nat_lt p.column q.column) (nat_lt p.line q.line)) (nat_lt p.file q.file)) (eq-eqb p.file q.file e)
    ∙ ap (λ b. cond b (nat_lt p.column q.column) (nat_lt p.line q.line)) (not-equal p.line q.line h) ∙ lt-ltb p.line q.line h
before-of p q (inr (e, inr (f, h))) = ap (λ b. cond b (cond (nat_eq p.line q.line) (nat_lt p.column q.column) (nat_lt p.line q.line)) (nat_lt p.file q.file)) (eq-eqb p.file q.file e)
    ∙ ap (λ b. cond b (nat_lt p.column q.column) (nat_lt p.line q.line)) (eq-eqb p.line q.line f) ∙ lt-ltb p.column q.column h

earlier-then : (p q r : Place) → Earlier p q → Earlier q r → Earlier p r
earlier-then p q r (inl a) (inl b) = inl (omega arith)
earlier-then p q r (inl a) (inr (e, b)) = inl (omega arith)
earlier-then p q r (inr (e, a)) (inl b) = inl (omega arith)
earlier-then p q r (inr (e, inl a)) (inr (f, inl b)) = inr (e ∙ f, inl (omega arith))
earlier-then p q r (inr (e, inl a)) (inr (f, inr (g, b))) = inr (e ∙ f, inl (omega arith))
earlier-then p q r (inr (e, inr (d, a))) (inr (f, inl b)) = inr (e ∙ f, inl (omega arith))
earlier-then p q r (inr (e, inr (d, a))) (inr (f, inr (g, b))) = inr (e ∙ f, inr (d ∙ g, omega arith))

before-then : (p q r : Place) → comes_before p q ≡ true → comes_before q r ≡ true → comes_before p r ≡ true
before-then p q r h k = before-of p r (earlier-then p q r (earlier-of p q h) (earlier-of q r k))

not-itself : (p : Place) → comes_before p p ≡ true → ⊥
not-itself p h = by (earlier-of p p h) where
  by : Earlier p p → ⊥
  by (inl a) = omega (arith, a)
  by (inr (e, inl a)) = omega (arith, a)
  by (inr (e, inr (f, a))) = omega (arith, a)

not-itself-at : (p q : Place) → p ≡ q → comes_before p q ≡ true → ⊥
not-itself-at p q e h = not-itself p (subst (λ z. comes_before p z ≡ true) (sym e) h)

neither : (p q : Place) → comes_before p q ≡ false → comes_before q p ≡ false → p ≡ q
neither p q h k = by (nat_lt p.file q.file) refl (nat_lt q.file p.file) refl where
  same : (p q : Place) → p.file ≡ q.file → p.line ≡ q.line → p.column ≡ q.column → p ≡ q
  same p q e f g = ap (λ z. record { file = z; line = p.line; column = p.column }) e ∙ ap (λ z. record { file = q.file; line = z; column = p.column }) f ∙ ap (λ z. record { file = q.file; line = q.line; column = z }) g

  no : (p q : Place) → comes_before p q ≡ false → Earlier p q → ⊥
  no p q h e = true≢false (sym (before-of p q e) ∙ h)

  third : p.file ≡ q.file → p.line ≡ q.line → (s : Bool) → nat_lt p.column q.column ≡ s → (t : Bool) → nat_lt q.column p.column ≡ t → p ≡ q
  third e f true a t b = absurd (no p q h (inr (e, inr (f, ltb-true p.column q.column a))))
  third e f false a true b = absurd (no q p k (inr (sym e, inr (sym f, ltb-true q.column p.column b))))
  third e f false a false b = same p q e f (let m = ltb-false p.column q.column a in let n = ltb-false q.column p.column b in omega (arith, m, n))

  second : p.file ≡ q.file → (s : Bool) → nat_lt p.line q.line ≡ s → (t : Bool) → nat_lt q.line p.line ≡ t → p ≡ q
  second e true a t b = absurd (no p q h (inr (e, inl (ltb-true p.line q.line a))))
  second e false a true b = absurd (no q p k (inr (sym e, inl (ltb-true q.line p.line b))))
  second e false a false b = third e (let m = ltb-false p.line q.line a in let n = ltb-false q.line p.line b in omega (arith, m, n)) (nat_lt p.column q.column) refl (nat_lt q.column p.column) refl

  by : (s : Bool) → nat_lt p.file q.file ≡ s → (t : Bool) → nat_lt q.file p.file ≡ t → p ≡ q
  by true a t b = absurd (no p q h (inl (ltb-true p.file q.file a)))
  by false a true b = absurd (no q p k (inl (ltb-true q.file p.file b)))
  by false a false b = second (let m = ltb-false p.file q.file a in let n = ltb-false q.file p.file b in omega (arith, m, n)) (nat_lt p.line q.line) refl (nat_lt q.line p.line) refl

-- ---- the test

-- those below a number rise
pub record AreRisingBelow (uses : List Use) (n : ℕ) : Type 0 where
  pub each : (i j : ℕ) (a b : Use) → i < j → j < n → slice_get uses i ≡ Some a → slice_get uses j ≡ Some b → comes_before a.place b.place ≡ true

pub rising-start : (uses : List Use) → AreRisingBelow uses 1
rising-start uses = record { each = λ i j a b h k. absurd (omega (arith, h, k)) }

same-use : (uses : List Use) (i j : ℕ) (a b : Use) → i ≡ j → slice_get uses i ≡ Some a → slice_get uses j ≡ Some b → a ≡ b
same-use uses i j a b e h k = let g : Some a ≡ Some b = sym h ∙ ap (slice_get uses) e ∙ k in cc

pub rising-next : (uses : List Use) (n : ℕ) (x y : Use) → 0 < n → slice_get uses (n - 1) ≡ Some x → slice_get uses n ≡ Some y → comes_before x.place y.place ≡ true → AreRisingBelow uses n → AreRisingBelow uses (n + 1)
rising-next uses n x y some at last step h = record { each = λ i j a b below within first second. by i j a b below within first second (nat_lt j n) refl } where
  by : (i j : ℕ) (a b : Use) → i < j → j < n + 1 → slice_get uses i ≡ Some a → slice_get uses j ≡ Some b → (t : Bool) → nat_lt j n ≡ t → comes_before a.place b.place ≡ true
  by i j a b below within first second true e = h.each i j a b below (ltb-true j n e) first second
  by i j a b below within first second false e = at_end (nat_lt i (n - 1)) refl where
    end : j ≡ n
    end = let m = ltb-false j n e in omega (arith, m, within)

    is : b ≡ y
    is = same-use uses j n b y end second last

    at_end : (t : Bool) → nat_lt i (n - 1) ≡ t → comes_before a.place b.place ≡ true
    at_end true f = subst (λ (z : Use). comes_before a.place z.place ≡ true) (sym is) (before-then a.place x.place y.place (h.each i (n - 1) a x (ltb-true i (n - 1) f) (omega (arith, some)) first at) step)
    at_end false f = let m = ltb-false i (n - 1) f in let d = end in
        let here : a ≡ x = same-use uses i (n - 1) a x (omega (arith, m, d, below, some)) first at in
        subst (λ (z : Use). comes_before a.place z.place ≡ true) (sym is) (subst (λ (z : Use). comes_before z.place y.place ≡ true) (sym here) step)

pub rising-all : (uses : List Use) (n : ℕ) → length uses ≤ n → AreRisingBelow uses n → AreRising uses
rising-all uses n all h = record { each = λ i j a b below first second. h.each i j a b below (let w = slice_get_within uses j b second in omega (arith, w, all)) first second }

-- with elements read at their numbers
pub rising-read : (uses : List Use) (n : ℕ) (d : Use) → 0 < n → n < length uses → comes_before (get_or uses (n - 1) d).place (get_or uses n d).place ≡ true → AreRisingBelow uses n → AreRisingBelow uses (n + 1)
rising-read uses n d some within step h = rising-next uses n (get_or uses (n - 1) d) (get_or uses n d) some (slice_get-get_or uses (n - 1) d (omega (arith, within))) (slice_get-get_or uses n d within) step h

-- ---- look-up

-- the one that is found is the only one at the place
pub only-one : (uses : List Use) (p : Place) (n : ℕ) (x : Use) → AreRising uses → slice_get uses n ≡ Some x → x.place ≡ p → (k : ℕ) (u : Use) → slice_get uses k ≡ Some u → u.place ≡ p → Some x ≡ Some u
only-one uses p n x h at is k u here same = by (nat_lt k n) refl (nat_lt n k) refl where
  by : (s : Bool) → nat_lt k n ≡ s → (t : Bool) → nat_lt n k ≡ t → Some x ≡ Some u
  by true e t f = absurd (not-itself-at u.place x.place (same ∙ sym is) (h.each k n u x (ltb-true k n e) here at))
  by false e true f = absurd (not-itself-at x.place u.place (is ∙ sym same) (h.each n k x u (ltb-true n k f) at here))
  by false e false f = ap Some (same-use uses n k x u (let a = ltb-false k n e in let b = ltb-false n k f in omega (arith, a, b)) at here)

pub read-here : (uses : List Use) (n : ℕ) (d : Use) (p : Place) → 0 < n → n ≤ length uses → ((u : Use) → 0 < n → slice_get uses (n - 1) ≡ Some u → comes_before p u.place ≡ false)
    → comes_before (get_or uses (n - 1) d).place p ≡ false → (get_or uses (n - 1) d).place ≡ p
read-here uses n d p some within before h = neither (get_or uses (n - 1) d).place p h (before (get_or uses (n - 1) d) some (slice_get-get_or uses (n - 1) d (omega (arith, some, within))))

pub read-before : (uses : List Use) (m : ℕ) (d x : Use) (p : Place) → comes_before (get_or uses m d).place p ≡ true → slice_get uses m ≡ Some x → comes_before x.place p ≡ true
read-before uses m d x p h at = subst (λ (z : Use). comes_before z.place p ≡ true) (get_or_from_slice_get uses m x d at) h

-- none stands at a place that one stands before and the next one behind
pub none-there : (uses : List Use) (p : Place) (n : ℕ) → AreRising uses → ((x : Use) → 0 < n → slice_get uses (n - 1) ≡ Some x → comes_before x.place p ≡ true) → ((x : Use) → slice_get uses n ≡ Some x → comes_before p x.place ≡ true)
    → n ≤ length uses → (k : ℕ) (u : Use) → slice_get uses k ≡ Some u → u.place ≡ p → ⊥
none-there uses p n h before behind within k u here same = by (nat_lt k n) refl where
  got : (i : ℕ) → i < length uses → (x : Use) × (slice_get uses i ≡ Some x)
  got i below = (get_or uses i u, slice_get-get_or uses i u below)

  low : k < n → ⊥
  low below = near (got (n - 1) (omega (arith, below, within))) where
    near : (x : Use) × (slice_get uses (n - 1) ≡ Some x) → ⊥
    near (x, at) = split (nat_lt k (n - 1)) refl where
      split : (t : Bool) → nat_lt k (n - 1) ≡ t → ⊥
      split true e = not-itself-at u.place p same (before-then u.place x.place p (h.each k (n - 1) u x (ltb-true k (n - 1) e) here at) (before x (omega (arith, below)) at))
      split false e = let m = ltb-false k (n - 1) e in
          let is : u ≡ x = same-use uses k (n - 1) u x (omega (arith, m, below)) here at in
          not-itself-at u.place p same (subst (λ (z : Use). comes_before z.place p ≡ true) (sym is) (before x (omega (arith, below)) at))

  high : n ≤ k → ⊥
  high above = near (got n (let w = slice_get_within uses k u here in omega (arith, w, above))) where
    near : (x : Use) × (slice_get uses n ≡ Some x) → ⊥
    near (x, at) = split (nat_lt n k) refl where
      split : (t : Bool) → nat_lt n k ≡ t → ⊥
      split true e = not-itself-at p u.place (sym same) (before-then p x.place u.place (behind x at) (h.each n k x u (ltb-true n k e) at here))
      split false e = let m = ltb-false n k e in
          let is : x ≡ u = same-use uses n k x u (omega (arith, m, above)) at here in
          not-itself-at p u.place (sym same) (subst (λ (z : Use). comes_before p z.place ≡ true) is (behind x at))

  by : (t : Bool) → nat_lt k n ≡ t → ⊥
  by true e = low (ltb-true k n e)
  by false e = high (ltb-false k n e)
