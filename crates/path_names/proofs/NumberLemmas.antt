-- Numbers of names, and what scopes say in numbers.
use Rattle.std.specs.Prelude.{◌≡◌, refl, ℕ, suc, ◌+◌, ◌==◌, Bool, true, false, List, [], ◌∷◌, ◌++◌, Option, Some, None, slice_get, bytes_eq, cond}
use Rattle.std.specs.List.{list_any, position_from}
use Rattle.std.specs.Option.{option_or}
use Rattle.std.proofs.Common.{ap, sym, ◌∙◌, subst, arith}
use Rattle.std.proofs.lemmas.Iterator.Adapters.{position_from-zero}
use Rattle.std.proofs.lemmas.Slice.Eq.{bytes_eq-Decides}
use Rattle.std.proofs.lemmas.Bool.{eqb-true, eq-eqb}
use Rattle.cm_meaning.specs.Declared.{Declared}
use Rattle.cm_meaning.specs.Scopes.{find_in, outward}
use Rattle.name_scopes.specs.Numbers.{added, number_in}
use Rattle.name_scopes.specs.Members.{IsNumberOf}
use Rattle.name_scopes.specs.Stacks.{found_in, found}
use Rattle.name_scopes.specs.declared.table.Entry.{Entry}
use Rattle.path_names.specs.Walking.{IsScope, AreScopes}

-- ---- numbers of names

number-from : (names : List (List ℕ)) (text : List ℕ) → number_in names text ≡ position_from (bytes_eq text) 0 names
number-from names text = position_from-zero (bytes_eq text) names

-- a name stands at its number
record IsGot (i : ℕ) (names : List (List ℕ)) (text : List ℕ) (n : ℕ) : Type 0 where
  k : ℕ
  is : n ≡ i + k
  at : slice_get names k ≡ Some text

from-got : (i : ℕ) (names : List (List ℕ)) (text : List ℕ) (n : ℕ) → position_from (bytes_eq text) i names ≡ Some n → IsGot i names text n
from-got i [] text n h = cc
from-got i (x ∷ names) text n h = by (bytes_eq text x) refl (λ e. from-got (i + 1) names text n e) h where
  by : (b : Bool) → bytes_eq text x ≡ b → (position_from (bytes_eq text) (i + 1) names ≡ Some n → IsGot (i + 1) names text n) → cond b (Some i) (position_from (bytes_eq text) (i + 1) names) ≡ Some n → IsGot i (x ∷ names) text n
  by true t more e = record { k = 0; is = (let d : i ≡ n = cc in omega arith); at = ap Some (sym ((bytes_eq-Decides text x).0 t)) }
  by false t more e = let g = more e in record { k = suc g.k; is = (let d = g.is in omega arith); at = g.at }

pub number-got : (names : List (List ℕ)) (text : List ℕ) (n : ℕ) → number_in names text ≡ Some n → slice_get names n ≡ Some text
number-got names text n h = let g = from-got 0 names text n (sym (number-from names text) ∙ h) in
    let e : g.k ≡ n = (let d = g.is in omega arith) in subst (λ k. slice_get names k ≡ Some text) e g.at

from-more : (test : List ℕ → Bool) (i : ℕ) (names more : List (List ℕ)) (n : ℕ) → position_from test i names ≡ Some n → position_from test i (names ++ more) ≡ Some n
from-more test i [] more n h = cc
from-more test i (x ∷ names) more n h = by (test x) (λ e. from-more test (i + 1) names more n e) h where
  by : (b : Bool) → (position_from test (i + 1) names ≡ Some n → position_from test (i + 1) (names ++ more) ≡ Some n) → cond b (Some i) (position_from test (i + 1) names) ≡ Some n → cond b (Some i) (position_from test (i + 1) (names ++ more)) ≡ Some n
  by true g e = e
  by false g e = g e

-- a name keeps its number when others get one
pub number-more : (names : List (List ℕ)) (more text : List ℕ) (n : ℕ) → number_in names text ≡ Some n → number_in (added names more) text ≡ Some n
number-more names more text n h = by (list_any (bytes_eq more) names) where
  by : (b : Bool) → number_in (cond b names (names ++ more ∷ [])) text ≡ Some n
  by true = h
  by false = number-from (names ++ more ∷ []) text ∙ from-more (bytes_eq text) 0 names (more ∷ []) n (sym (number-from names text) ∙ h)

-- names that are equal have one number
pub same-number : (names : List (List ℕ)) (text other : List ℕ) (n m : ℕ) → number_in names text ≡ Some n → number_in names other ≡ Some m → (m == n) ≡ bytes_eq other text
same-number names text other n m h k = by (bytes_eq other text) refl where
  by : (b : Bool) → bytes_eq other text ≡ b → (m == n) ≡ b
  by true t = let e : other ≡ text = (bytes_eq-Decides other text).0 t in
      let d : Some m ≡ Some n = sym k ∙ ap (number_in names) e ∙ h in
      eq-eqb m n (let f : m ≡ n = cc in f)
  by false t = or (m == n) refl where
    or : (c : Bool) → (m == n) ≡ c → (m == n) ≡ false
    or false f = f
    or true f = let e = eqb-true m n f in
        let d : Some other ≡ Some text = sym (number-got names other m k) ∙ ap (slice_get names) e ∙ number-got names text n h in
        let s : bytes_eq other text ≡ true = (bytes_eq-Decides other text).1 (let z : other ≡ text = cc in z) in cc

-- a name without a number is none of those that have one
pub no-number : (names : List (List ℕ)) (text other : List ℕ) (m : ℕ) → number_in names text ≡ None → number_in names other ≡ Some m → bytes_eq other text ≡ false
no-number names text other m h k = by (bytes_eq other text) refl where
  by : (b : Bool) → bytes_eq other text ≡ b → bytes_eq other text ≡ false
  by false t = t
  by true t = let e : None ≡ Some m = sym h ∙ ap (number_in names) (sym ((bytes_eq-Decides other text).0 t)) ∙ k in cc

-- ---- scopes

scope-found : (names : List (List ℕ)) (locals : List Declared) (text : List ℕ) (n : ℕ) (entries : List Entry) (scope : List Declared) → number_in names text ≡ Some n → IsScope names locals entries scope
    → IsNumberOf locals (found_in n entries) (find_in text scope)
unfolding found_in find_in
scope-found names locals text n [] [] h s = refl
scope-found names locals text n [] (x ∷ scope) h s = absurd s
scope-found names locals text n (e ∷ entries) [] h s = absurd s
scope-found names locals text n (e ∷ entries) (x ∷ scope) h s =
    by (e.name == n) (bytes_eq x.word.text text) (same-number names text x.word.text n e.name h s.0.name) (scope-found names locals text n entries scope h s.1)
  where
    by : (a b : Bool) → a ≡ b → IsNumberOf locals (found_in n entries) (find_in text scope) → IsNumberOf locals (cond a (Some e.declaration) (found_in n entries)) (cond b (Some x) (find_in text scope))
    by true true same more = ap Some s.0.declaration
    by false false same more = more
    by true false same more = cc
    by false true same more = cc

or-number : (locals : List Declared) (a b : Option ℕ) (x y : Option Declared) → IsNumberOf locals a x → IsNumberOf locals b y → IsNumberOf locals (option_or a b) (option_or x y)
or-number locals None b None y h k = k
or-number locals (Some i) b (Some x) y h k = h
or-number locals None b (Some x) y h k = cc
or-number locals (Some i) b None y h k = cc

pub scopes-found : (names : List (List ℕ)) (locals : List Declared) (text : List ℕ) (n : ℕ) (inner : List (List Entry)) (scopes : List (List Declared)) → number_in names text ≡ Some n → AreScopes names locals inner scopes
    → IsNumberOf locals (found n inner) (outward text scopes)
unfolding found outward
scopes-found names locals text n [] [] h s = refl
scopes-found names locals text n [] (scope ∷ scopes) h s = absurd s
scopes-found names locals text n (entries ∷ inner) [] h s = absurd s
scopes-found names locals text n (entries ∷ inner) (scope ∷ scopes) h s =
    or-number locals (found_in n entries) (found n inner) (find_in text scope) (outward text scopes) (scope-found names locals text n entries scope h s.0) (scopes-found names locals text n inner scopes h s.1)

scope-none : (names : List (List ℕ)) (locals : List Declared) (text : List ℕ) (entries : List Entry) (scope : List Declared) → number_in names text ≡ None → IsScope names locals entries scope → find_in text scope ≡ None
unfolding find_in
scope-none names locals text [] [] h s = refl
scope-none names locals text [] (x ∷ scope) h s = absurd s
scope-none names locals text (e ∷ entries) [] h s = absurd s
scope-none names locals text (e ∷ entries) (x ∷ scope) h s =
    ap (λ b. cond b (Some x) (find_in text scope)) (no-number names text x.word.text e.name h s.0.name) ∙ scope-none names locals text entries scope h s.1

-- a name without a number is in no scope
pub scopes-none : (names : List (List ℕ)) (locals : List Declared) (text : List ℕ) (inner : List (List Entry)) (scopes : List (List Declared)) → number_in names text ≡ None → AreScopes names locals inner scopes
    → outward text scopes ≡ None
unfolding outward
scopes-none names locals text [] [] h s = refl
scopes-none names locals text [] (scope ∷ scopes) h s = absurd s
scopes-none names locals text (entries ∷ inner) [] h s = absurd s
scopes-none names locals text (entries ∷ inner) (scope ∷ scopes) h s =
    ap (λ z. option_or z (outward text scopes)) (scope-none names locals text entries scope h s.0) ∙ scopes-none names locals text inner scopes h s.1
