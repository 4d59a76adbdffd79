-- The longest front of a text whose bytes pass a test, and what stands in a table.
use Rattle.std.proofs.Common.{◌≡◌, ℕ, zero, suc, ◌+◌, ◌≤◌, ◌<◌, ◌&&◌, Bool, true, false, not, cond, List, [], ◌∷◌, ◌++◌, length, take, drop, Option, Some, None, refl, ap, sym, subst, ◌∙◌, arith, length-append, append_assoc}
use Rattle.std.specs.Bool.{IsTrue, IsFalse}
use Rattle.std.specs.List.{prefix_len, list_all, AllByRecursion}
use Rattle.std.specs.Str.{bytes_eq}
use Rattle.std.proofs.lemmas.List.{take_at, drop_at, take-append-drop}
use Rattle.std.proofs.lemmas.List.Sums.{prefix_len-le-length}
use Rattle.std.proofs.lemmas.Slice.Eq.{bytes_eq-Decides}
use Rattle.cm_tree.specs.Pieces.{Text, Passes, entry}

-- ---- tests

pub both : (a b : Bool) → (a && b) ≡ true → (a ≡ true) × (b ≡ true)
both true b e = (refl, e)
both false b e = absurd (cc)

pub same_bytes : (a b : Text) → bytes_eq a b ≡ true → a ≡ b
same_bytes a b e = (bytes_eq-Decides a b).0 e

pub equal_bytes : (a : Text) → bytes_eq a a ≡ true
equal_bytes a = (bytes_eq-Decides a a).1 refl

pub chosen : (a b : Text) → a ≡ b → bytes_eq a b ≡ true
chosen a b e = (bytes_eq-Decides a b).1 e

pub is_not : (b : Bool) → not b ≡ true → b ≡ false
is_not true is = absurd (cc)
is_not false is = refl

pub not_true : (b : Bool) → (b ≡ true → ⊥) → b ≡ false
not_true true h = absurd (h refl)
not_true false h = refl

pub one_more : (n : ℕ) → n + 1 ≡ suc n
one_more n = omega arith

pub two_more : (n : ℕ) → n + 2 ≡ suc (suc n)
two_more n = omega arith

-- ---- runs

pub run_append : (test : ℕ → Bool) (front rest : Text) → Passes test front → prefix_len test (front ++ rest) ≡ length front + prefix_len test rest
run_append test [] rest passes = omega arith
run_append test (byte ∷ front) rest passes = let h = run_append test front rest passes.1 in rw (passes.0) (omega (arith, h))

pub run_covers : (test : ℕ → Bool) (front rest : Text) → Passes test front → length front ≤ prefix_len test (front ++ rest)
run_covers test front rest passes = omega (arith, run_append test front rest passes)

pub run_within : (test : ℕ → Bool) (text : Text) → prefix_len test text ≤ length text
run_within test text = prefix_len-le-length test text

one_and : (n : ℕ) → 1 + n ≡ suc n
one_and n = omega arith

pub run_passes : (test : ℕ → Bool) (text : Text) → Passes test (take (prefix_len test text) text)
run_passes test [] = tt
run_passes test (byte ∷ text) = by_head (run_passes test text) (test byte) refl where
  by_head : Passes test (take (prefix_len test text) text) → (b : Bool) → test byte ≡ b → Passes test (take (prefix_len test (byte ∷ text)) (byte ∷ text))
  by_head tail true is = rw (is, one_and (prefix_len test text)) (is, tail)
  by_head tail false is = rw is tt

-- nothing more of the run stands behind it
pub run_ends : (test : ℕ → Bool) (text : Text) → prefix_len test (drop (prefix_len test text) text) ≡ 0
run_ends test [] = refl
run_ends test (byte ∷ text) = by_head (run_ends test text) (test byte) refl where
  by_head : prefix_len test (drop (prefix_len test text) text) ≡ 0 → (b : Bool) → test byte ≡ b → prefix_len test (drop (prefix_len test (byte ∷ text)) (byte ∷ text)) ≡ 0
  by_head tail true is = rw (is, one_and (prefix_len test text)) tail
  by_head tail false is = rw is (rw is refl)

pub passes_append : (test : ℕ → Bool) (front rest : Text) → Passes test front → Passes test rest → Passes test (front ++ rest)
passes_append test [] rest passes more = more
passes_append test (byte ∷ front) rest passes more = (passes.0, passes_append test front rest passes.1 more)

pub passes_front : (test : ℕ → Bool) (front rest : Text) → Passes test (front ++ rest) → Passes test front
passes_front test [] rest passes = tt
passes_front test (byte ∷ front) rest passes = (passes.0, passes_front test front rest passes.1)

pub passes_rest : (test : ℕ → Bool) (front rest : Text) → Passes test (front ++ rest) → Passes test rest
passes_rest test [] rest passes = passes
passes_rest test (byte ∷ front) rest passes = passes_rest test front rest passes.1

pub passes_weaker : (test other : ℕ → Bool) → ((byte : ℕ) → test byte ≡ true → other byte ≡ true) → (text : Text) → Passes test text → Passes other text
passes_weaker test other weaker [] passes = tt
passes_weaker test other weaker (byte ∷ text) passes = (weaker byte passes.0, passes_weaker test other weaker text passes.1)

pub passes_all : (test : ℕ → Bool) (text : Text) → list_all test text ≡ true → Passes test text
passes_all test [] all = tt
passes_all test (byte ∷ text) all = let parts = both (test byte) (list_all test text) all in (parts.0, passes_all test text parts.1)

-- ---- tables

-- what holds of a whole table holds of the entry that is found
pub entry_passes : {A : Type 0} (test : Text × A → Bool) (table : List (Text × A)) (text : Text) (x : A) → list_all test table ≡ true → entry table text ≡ Some x → test (text, x) ≡ true
entry_passes test [] text x all is = absurd (cc)
entry_passes {A} test (e ∷ es) text x all is = by_head (entry_passes test es text x (both (test e) (list_all test es) all).1) (bytes_eq e.0 text) refl is where
  parts : (test e ≡ true) × (list_all test es ≡ true)
  parts = both (test e) (list_all test es) all

  by_head : (entry es text ≡ Some x → test (text, x) ≡ true) → (b : Bool) → bytes_eq e.0 text ≡ b → cond b (Some e.1) (entry es text) ≡ Some x → test (text, x) ≡ true
  by_head later true same found =
      let first : e.0 ≡ text = same_bytes e.0 text same in
      let second : e.1 ≡ x = cc in
      subst (λ (t : Text). test (t, x) ≡ true) first (subst (λ (y : A). test (e.0, y) ≡ true) second parts.0)
  by_head later false same found = later found

-- a text that no entry is like isn't found
pub entry_none : {A : Type 0} (test : Text → Bool) (table : List (Text × A)) (text : Text) → list_all (λ e. not (test e.0)) table ≡ true → test text ≡ true → entry table text ≡ None
entry_none test [] text all is = refl
entry_none {A} test (e ∷ es) text all is = by_head (entry_none test es text (both (not (test e.0)) (list_all (λ (o : Text × A). not (test o.0)) es) all).1 is) (bytes_eq e.0 text) refl where
  parts : (not (test e.0) ≡ true) × (list_all (λ (o : Text × A). not (test o.0)) es ≡ true)
  parts = both (not (test e.0)) (list_all (λ (o : Text × A). not (test o.0)) es) all

  by_head : entry es text ≡ None → (b : Bool) → bytes_eq e.0 text ≡ b → cond b (Some e.1) (entry es text) ≡ None
  by_head later true same =
      let first : e.0 ≡ text = same_bytes e.0 text same in
      let no : not (test text) ≡ true = subst (λ (t : Text). not (test t) ≡ true) first parts.0 in
      let none : false ≡ true = subst (λ (b : Bool). not b ≡ true) is no in
      absurd (cc)
  by_head later false same = later
