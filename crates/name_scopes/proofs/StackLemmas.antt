-- A log that grows by a step, and one that a step is taken from: what happens to the scopes and to the stacks.
use Rattle.std.specs.Prelude.{◌≡◌, refl, ℕ, zero, suc, ◌<◌, ◌≤◌, ◌==◌, ◌+◌, ◌-◌, nat_lt, Bool, true, false, List, [], ◌∷◌, ◌++◌, length, Option, Some, None, MatchOption, slice_get, slice_index_or, slice_set}
use Rattle.std.proofs.Common.{ap, sym, ◌∙◌, subst, arith}
use Rattle.std.proofs.lemmas.Option.{slice_get_read}
use Rattle.std.proofs.Math.Seq.{get_or-append_seam}
use Rattle.std.proofs.lemmas.List.{append-nil, append_assoc, length-append, length-set, get_or-set_same, get_or-set_other, get_or_append_left}
use Rattle.std.proofs.lemmas.Bool.{eqb-true, eqb-false, eq-eqb, ltb-true, ltb-false}
use Rattle.name_scopes.specs.declared.table.Entry.{Entry}
use Rattle.name_scopes.specs.declared.table.Step.{Step}
use Rattle.name_scopes.specs.declared.table.Step.TheVariants as step
use Rattle.name_scopes.specs.Stacks.{found_in, found, with_entry, outer_of, after, opened_in, opened, one_if, put_on, stack_of, IsStacked, Visible}

-- ---- the end of a list

pub snoc-front : {A : Type 0} (s t : List A) (x y : A) → s ++ x ∷ [] ≡ t ++ y ∷ [] → (s ≡ t) × (x ≡ y)
snoc-front [] [] x y e = (refl, cc)
snoc-front [] (b ∷ []) x y e = cc
snoc-front [] (b ∷ c ∷ t) x y e = cc
snoc-front (a ∷ []) [] x y e = cc
snoc-front (a ∷ c ∷ s) [] x y e = cc
snoc-front (a ∷ s) (b ∷ t) x y e = let i = snoc-front s t x y cc in (let j = i.0 in cc, i.1)

pub no-snoc : {A : Type 0} (s : List A) (x : A) → [] ≡ s ++ x ∷ [] → ⊥
no-snoc [] x e = cc
no-snoc (a ∷ s) x e = cc

newest-snoc : (xs : List ℕ) (x : ℕ) → slice_get (xs ++ x ∷ []) (length (xs ++ x ∷ []) - 1) ≡ Some x
newest-snoc xs x = subst (λ i. slice_get (xs ++ x ∷ []) i ≡ Some x) (last-is xs x)
    (slice_get_read (xs ++ x ∷ []) (length (xs ++ x ∷ [])) (length xs) x refl (let l = length-append xs (x ∷ []) in omega (arith, l)) (sym (get_or-append_seam xs x [] x)))
  where
    last-is : (xs : List ℕ) (x : ℕ) → length xs ≡ length (xs ++ x ∷ []) - 1
    last-is xs x = let l = length-append xs (x ∷ []) in omega (arith, l)

-- ---- a step more

opened_in-snoc : (scopes : List (List Entry)) (steps : List Step) (s : Step) → opened_in scopes (steps ++ s ∷ []) ≡ after (opened_in scopes steps) s
unfolding opened_in
opened_in-snoc scopes [] s = refl
opened_in-snoc scopes (x ∷ steps) s = opened_in-snoc (after scopes x) steps s

pub opened-snoc : (steps : List Step) (s : Step) → opened (steps ++ s ∷ []) ≡ after (opened steps) s
opened-snoc steps s = opened_in-snoc [] steps s

pub stack-snoc : (n : ℕ) (steps : List Step) (s : Step) → stack_of n (steps ++ s ∷ []) ≡ stack_of n steps ++ put_on n s
unfolding stack_of
stack-snoc n [] s = append-nil (put_on n s)
stack-snoc n (x ∷ steps) s = ap (λ z. put_on n x ++ z) (stack-snoc n steps s) ∙ sym (append_assoc (put_on n x) (stack_of n steps) (put_on n s))

-- ---- what is found is the newest on the name's stack

declared-newest : (n : ℕ) (e : Entry) (scopes : List (List Entry)) (st : List ℕ) (b : Bool) → (e.name == n) ≡ b
    → slice_get st (length st - 1) ≡ found n scopes
    → slice_get (st ++ one_if b e.declaration) (length (st ++ one_if b e.declaration) - 1) ≡ found n (with_entry e scopes)
unfolding found found_in
declared-newest n e [] st true t h = newest-snoc st e.declaration ∙ rw t refl
declared-newest n e (scope ∷ outer) st true t h = newest-snoc st e.declaration ∙ rw t refl
declared-newest n e [] st false t h = rw (append-nil st, t) h
declared-newest n e (scope ∷ outer) st false t h = rw (append-nil st, t) h

found-empty : (n : ℕ) (scopes : List (List Entry)) → found n scopes ≡ found n ([] ∷ scopes)
unfolding found found_in
found-empty n scopes = refl

newest-found : (n : ℕ) (steps : List Step) (scopes : List (List Entry)) (st : List ℕ) → slice_get st (length st - 1) ≡ found n scopes
    → slice_get (st ++ stack_of n steps) (length (st ++ stack_of n steps) - 1) ≡ found n (opened_in scopes steps)
unfolding stack_of opened_in
newest-found n [] scopes st h = rw (append-nil st) h
newest-found n (step.Entered ∷ steps) scopes st h = newest-found n steps ([] ∷ scopes) st (h ∙ found-empty n scopes)
newest-found n (step.Declared e ∷ steps) scopes st h =
    subst (λ z. slice_get z (length z - 1) ≡ found n (opened_in (with_entry e scopes) steps)) (append_assoc st (one_if (e.name == n) e.declaration) (stack_of n steps))
    (newest-found n steps (with_entry e scopes) (st ++ one_if (e.name == n) e.declaration) (declared-newest n e scopes st (e.name == n) refl h))

pub found-newest : (stacks : List (List ℕ)) (steps : List Step) (n : ℕ) (s : List ℕ) → IsStacked stacks steps → n < length stacks → s ≡ slice_index_or stacks n []
    → slice_get s (length s - 1) ≡ found n (opened steps)
unfolding found
found-newest stacks steps n s h within is = rw (is, h.each n within) (newest-found n steps [] [] refl)

-- ---- a name is declared

eq-same : (a : ℕ) → (a == a) ≡ true
eq-same a = eq-eqb a a refl

below-differs : (e n k : ℕ) → e < k → k ≤ n → (e == n) ≡ false
below-differs e n k below past = by (e == n) refl where
  by : (b : Bool) → (e == n) ≡ b → (e == n) ≡ false
  by true t = absurd (let i = eqb-true e n t in omega (arith, i, below, past))
  by false f = f

pub stacked-declare : (stacks : List (List ℕ)) (steps longer : List Step) (e : Entry) (s old : List ℕ) → IsStacked stacks steps → e.name < length stacks
    → old ≡ slice_index_or stacks e.name [] → s ≡ old ++ e.declaration ∷ [] → longer ≡ steps ++ step.Declared e ∷ [] → IsStacked (slice_set stacks e.name s) longer
stacked-declare stacks steps longer e s old h within was is grown = record {
  each = λ n below. by n (subst (λ k. n < k) (length-set stacks e.name s) below) (e.name == n) refl;
  past = λ n past. beyond n (subst (λ k. k ≤ n) (length-set stacks e.name s) past);
} where
  beyond : (n : ℕ) → length stacks ≤ n → stack_of n longer ≡ []
  beyond n past = ap (stack_of n) grown ∙ stack-snoc n steps (step.Declared e) ∙ ap (λ b. stack_of n steps ++ one_if b e.declaration) (below-differs e.name n (length stacks) within past)
      ∙ append-nil (stack_of n steps) ∙ h.past n past

  of_same : s ≡ stack_of e.name steps ++ e.declaration ∷ []
  of_same = is ∙ ap (λ z. z ++ e.declaration ∷ []) (was ∙ h.each e.name within)

  by : (n : ℕ) → n < length stacks → (b : Bool) → (e.name == n) ≡ b → slice_index_or (slice_set stacks e.name s) n [] ≡ stack_of n longer
  by n below true t = subst (λ k. slice_index_or (slice_set stacks e.name s) k [] ≡ stack_of k longer) (eqb-true e.name n t)
      (get_or-set_same stacks e.name s [] within ∙ of_same ∙ sym (ap (stack_of e.name) grown ∙ stack-snoc e.name steps (step.Declared e) ∙ ap (λ b. stack_of e.name steps ++ one_if b e.declaration) (eq-same e.name)))
  by n below false f = get_or-set_other stacks e.name n s [] (λ i. eqb-false e.name n f (sym i)) ∙ h.each n below
      ∙ sym (ap (stack_of n) grown ∙ stack-snoc n steps (step.Declared e) ∙ ap (λ b. stack_of n steps ++ one_if b e.declaration) f ∙ append-nil (stack_of n steps))

-- a scope is opened
pub stacked-enter : (stacks : List (List ℕ)) (steps longer : List Step) → IsStacked stacks steps → longer ≡ steps ++ step.Entered ∷ [] → IsStacked stacks longer
stacked-enter stacks steps longer h grown = record {
  each = λ n below. h.each n below ∙ sym (ap (stack_of n) grown ∙ stack-snoc n steps step.Entered ∙ append-nil (stack_of n steps));
  past = λ n past. ap (stack_of n) grown ∙ stack-snoc n steps step.Entered ∙ append-nil (stack_of n steps) ∙ h.past n past;
}

-- a name more
pub stacked-grow : (stacks longer : List (List ℕ)) (steps : List Step) (s : List ℕ) → IsStacked stacks steps → s ≡ [] → longer ≡ stacks ++ s ∷ [] → IsStacked longer steps
stacked-grow stacks longer steps s h none grown = record {
  each = λ n below. at n below (nat_lt n (length stacks)) refl;
  past = λ n past. h.past n (let m = many in omega (arith, m, past));
} where
  many : length longer ≡ length stacks + 1
  many = ap length grown ∙ length-append stacks (s ∷ [])

  at : (n : ℕ) → n < length longer → (b : Bool) → nat_lt n (length stacks) ≡ b → slice_index_or longer n [] ≡ stack_of n steps
  at n below true t = ap (λ z. slice_index_or z n []) grown ∙ get_or_append_left stacks (s ∷ []) [] n (ltb-true n (length stacks) t) ∙ h.each n (ltb-true n (length stacks) t)
  at n below false f =
      let last : n ≡ length stacks = (let p = ltb-false n (length stacks) f in let m = many in omega (arith, p, m, below)) in
      ap (λ z. slice_index_or z n []) grown ∙ ap (λ k. slice_index_or (stacks ++ s ∷ []) k []) last ∙ get_or-append_seam stacks s [] [] ∙ none
      ∙ sym (h.past n (ltb-false n (length stacks) f))

-- ---- a step is taken back

pub stacked-left : (stacks : List (List ℕ)) (steps shorter : List Step) → IsStacked stacks steps → steps ≡ shorter ++ step.Entered ∷ [] → IsStacked stacks shorter
stacked-left stacks steps shorter h was = record {
  each = λ n below. h.each n below ∙ ap (stack_of n) was ∙ stack-snoc n shorter step.Entered ∙ append-nil (stack_of n shorter);
  past = λ n past. sym (ap (stack_of n) was ∙ stack-snoc n shorter step.Entered ∙ append-nil (stack_of n shorter)) ∙ h.past n past;
}

none-before : (a b : List ℕ) → a ++ b ≡ [] → a ≡ []
none-before [] b h = refl
none-before (x ∷ a) b h = cc

-- what was not on a stack was not there a step before
past-before : (n : ℕ) (steps shorter : List Step) (s : Step) → steps ≡ shorter ++ s ∷ [] → stack_of n steps ≡ [] → stack_of n shorter ≡ []
past-before n steps shorter s was h = none-before (stack_of n shorter) (put_on n s) (sym (ap (stack_of n) was ∙ stack-snoc n shorter s) ∙ h)

pub stacked-undo : (stacks : List (List ℕ)) (steps shorter : List Step) (e : Entry) (s old : List ℕ) (o : Option ℕ) → IsStacked stacks steps → e.name < length stacks
    → steps ≡ shorter ++ step.Declared e ∷ [] → old ≡ slice_index_or stacks e.name [] → MatchOption o ((old ≡ []) × (s ≡ [])) (λ x. old ≡ s ++ x ∷ [])
    → IsStacked (slice_set stacks e.name s) shorter
stacked-undo stacks steps shorter e s old o h within was from popped = record {
  each = λ n below. by n (subst (λ k. n < k) (length-set stacks e.name s) below) (e.name == n) refl;
  past = λ n past. past-before n steps shorter (step.Declared e) was (h.past n (subst (λ k. k ≤ n) (length-set stacks e.name s) past));
} where
  held : old ≡ stack_of e.name shorter ++ e.declaration ∷ []
  held = from ∙ h.each e.name within ∙ ap (stack_of e.name) was ∙ stack-snoc e.name shorter (step.Declared e) ∙ ap (λ b. stack_of e.name shorter ++ one_if b e.declaration) (eq-same e.name)

  left : (o : Option ℕ) → MatchOption o ((old ≡ []) × (s ≡ [])) (λ x. old ≡ s ++ x ∷ []) → s ≡ stack_of e.name shorter
  left None m = absurd (no-snoc (stack_of e.name shorter) e.declaration (sym m.0 ∙ held))
  left (Some x) m = (snoc-front s (stack_of e.name shorter) x e.declaration (sym m ∙ held)).0

  by : (n : ℕ) → n < length stacks → (b : Bool) → (e.name == n) ≡ b → slice_index_or (slice_set stacks e.name s) n [] ≡ stack_of n shorter
  by n below true t = subst (λ k. slice_index_or (slice_set stacks e.name s) k [] ≡ stack_of k shorter) (eqb-true e.name n t) (get_or-set_same stacks e.name s [] within ∙ left o popped)
  by n below false f = get_or-set_other stacks e.name n s [] (λ i. eqb-false e.name n f (sym i)) ∙ h.each n below
      ∙ ap (stack_of n) was ∙ stack-snoc n shorter (step.Declared e) ∙ ap (λ b. stack_of n shorter ++ one_if b e.declaration) f ∙ append-nil (stack_of n shorter)

pub stacked-skip : (stacks : List (List ℕ)) (steps shorter : List Step) (e : Entry) → IsStacked stacks steps → length stacks ≤ e.name → steps ≡ shorter ++ step.Declared e ∷ [] → IsStacked stacks shorter
stacked-skip stacks steps shorter e h past was = record {
  each = λ n below. h.each n below ∙ ap (stack_of n) was ∙ stack-snoc n shorter (step.Declared e)
      ∙ ap (λ b. stack_of n shorter ++ one_if b e.declaration) (differs n below (e.name == n) refl) ∙ append-nil (stack_of n shorter);
  past = λ n beyond. past-before n steps shorter (step.Declared e) was (h.past n beyond);
} where
  differs : (n : ℕ) → n < length stacks → (b : Bool) → (e.name == n) ≡ b → (e.name == n) ≡ false
  differs n below true t = absurd (let i = eqb-true e.name n t in omega (arith, i, past, below))
  differs n below false f = f

-- ---- the scopes outside

pub outer-declared : (steps shorter : List Step) (e : Entry) → steps ≡ shorter ++ step.Declared e ∷ [] → outer_of (opened steps) ≡ outer_of (opened shorter)
outer-declared steps shorter e was = ap (λ z. outer_of (opened z)) was ∙ ap outer_of (opened-snoc shorter (step.Declared e)) ∙ by (opened shorter) where
  by : (scopes : List (List Entry)) → outer_of (with_entry e scopes) ≡ outer_of scopes
  by [] = refl
  by (scope ∷ outer) = refl

pub outer-entered : (steps shorter : List Step) → steps ≡ shorter ++ step.Entered ∷ [] → outer_of (opened steps) ≡ opened shorter
outer-entered steps shorter was = ap (λ z. outer_of (opened z)) was ∙ ap outer_of (opened-snoc shorter step.Entered)

pub outer-none : (steps shorter : List Step) → steps ≡ [] → shorter ≡ [] → outer_of (opened steps) ≡ opened shorter
unfolding opened_in
outer-none steps shorter was is = rw (was, is) refl

-- ---- leaving a scope

-- while steps are taken back, the scopes outside stay
pub record IsLeaving (stacks : List (List ℕ)) (steps : List Step) (all : ℕ) (whole : List Step) : Type 0 where
  pub stacked : IsStacked stacks steps
  pub names : length stacks ≡ all
  pub outer : outer_of (opened steps) ≡ outer_of (opened whole)

-- ---- no names declared

pub record AreEmpty (stacks : List (List ℕ)) : Type 0 where
  pub each : (n : ℕ) → slice_index_or stacks n [] ≡ []

pub are_empty-none : (stacks : List (List ℕ)) → stacks ≡ [] → AreEmpty stacks
are_empty-none stacks is = record { each = λ n. ap (λ z. slice_index_or z n []) is }

pub are_empty-push : (stacks longer : List (List ℕ)) (s : List ℕ) → AreEmpty stacks → s ≡ [] → longer ≡ stacks ++ s ∷ [] → AreEmpty longer
are_empty-push stacks longer s h is grown = record { each = λ n. ap (λ z. slice_index_or z n []) grown ∙ by stacks n h.each } where
  by : (stacks : List (List ℕ)) (n : ℕ) → ((m : ℕ) → slice_index_or stacks m [] ≡ []) → slice_index_or (stacks ++ s ∷ []) n [] ≡ []
  by [] zero h = is
  by [] (suc n) h = refl
  by (x ∷ xs) zero h = h 0
  by (x ∷ xs) (suc n) h = by xs n (λ m. h (suc m))

pub stacked-none : (stacks : List (List ℕ)) (steps : List Step) → AreEmpty stacks → steps ≡ [] → IsStacked stacks steps
unfolding stack_of
stacked-none stacks steps h is = record { each = λ n below. h.each n ∙ sym (ap (stack_of n) is); past = λ n past. ap (stack_of n) is }

-- ---- what a table shows after each call

abbrev shown : ℕ → List (List Entry) → Visible
shown names scopes = record { names = names; scopes = scopes }

pub visible-none : (stacks : List (List ℕ)) (steps : List Step) (names : ℕ) → length stacks ≡ names → steps ≡ []
    → shown (length stacks) (opened steps) ≡ shown (names) ([])
unfolding opened_in
visible-none stacks steps names many is = rw (many, is) refl

pub visible-grow : (stacks longer : List (List ℕ)) (s : List ℕ) (steps : List Step) (v : Visible) → shown (length stacks) (opened steps) ≡ v
    → longer ≡ stacks ++ s ∷ [] → shown (length longer) (opened steps) ≡ shown (v.names + 1) (v.scopes)
visible-grow stacks longer s steps v is grown = rw (← is, grown, length-append stacks (s ∷ [])) refl

pub visible-enter : (stacks : List (List ℕ)) (steps longer : List Step) (v : Visible) → shown (length stacks) (opened steps) ≡ v
    → longer ≡ steps ++ step.Entered ∷ [] → shown (length stacks) (opened longer) ≡ shown (v.names) ([] ∷ v.scopes)
visible-enter stacks steps longer v is grown = rw (← is, grown, opened-snoc steps step.Entered) refl

pub visible-declare : (stacks : List (List ℕ)) (s : List ℕ) (steps longer : List Step) (e : Entry) (v : Visible) → shown (length stacks) (opened steps) ≡ v
    → longer ≡ steps ++ step.Declared e ∷ [] → shown (length (slice_set stacks e.name s)) (opened longer) ≡ shown (v.names) (with_entry e v.scopes)
visible-declare stacks s steps longer e v is grown = rw (← is, grown, opened-snoc steps (step.Declared e), length-set stacks e.name s) refl

pub visible-leave : (stacks left : List (List ℕ)) (steps all shorter : List Step) (v : Visible) → shown (length stacks) (opened all) ≡ v
    → length left ≡ length stacks → outer_of (opened steps) ≡ opened shorter → outer_of (opened steps) ≡ outer_of (opened all)
    → shown (length left) (opened shorter) ≡ shown (v.names) (outer_of v.scopes)
visible-leave stacks left steps all shorter v is many ends keeps = rw (← is, many, ← ends, keeps) refl
