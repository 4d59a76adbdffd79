-- Texts of references to texts.
use Rattle.std.specs.Prelude.{◌≡◌, refl, ℕ, ◌<◌, Bool, true, false, ◌||◌, List, [], ◌∷◌, ◌++◌, length, Some, option_map, slice_get, bytes_eq, position}
use Rattle.std.specs.List.{list_any, position_or_len}
use Rattle.std.specs.Borrow.{Bor}
use Rattle.std.proofs.Common.{ap, sym, ◌∙◌, cond, not, ◌+◌, true≢false}
use Rattle.std.proofs.lemmas.List.{length-map, map-append}
use Rattle.std.proofs.lemmas.Option.{slice_get-map}
use Rattle.std.proofs.lemmas.Bool.{lt-ltb}
use Rattle.std.proofs.lemmas.Slice.Eq.{bytes_eq-Decides}
use Rattle.indexmap.specs.IndexSet.{insert_key}
use Rattle.name_scopes.specs.Numbers.{texts_of, number_in, added}

-- a test of texts is one of the references to them
position-texts : (keys : List (Bor (List ℕ))) (text : List ℕ) → position (λ (k : Bor (List ℕ)). bytes_eq text k.now) keys ≡ position (bytes_eq text) (texts_of keys)
position-texts keys text = rw (before-texts keys text, length-map keys (λ (k : Bor (List ℕ)). k.now)) refl where
  before-texts : (keys : List (Bor (List ℕ))) (text : List ℕ) → position_or_len (λ (k : Bor (List ℕ)). bytes_eq text k.now) keys ≡ position_or_len (bytes_eq text) (texts_of keys)
  before-texts [] text = refl
  before-texts (k ∷ keys) text = ap (λ n. cond (not (bytes_eq text k.now)) (1 + n) 0) (before-texts keys text)

pub number-is : (keys : List (Bor (List ℕ))) (names : List (List ℕ)) (text : List ℕ) → texts_of keys ≡ names
    → position (λ (k : Bor (List ℕ)). bytes_eq text k.now) keys ≡ number_in names text
number-is keys names text is = position-texts keys text ∙ ap (λ z. position (bytes_eq text) z) is

any-texts : (keys : List (Bor (List ℕ))) (text : List ℕ) → list_any (λ (k : Bor (List ℕ)). bytes_eq text k.now) keys ≡ list_any (bytes_eq text) (texts_of keys)
any-texts [] text = refl
any-texts (k ∷ keys) text = rw (any-texts keys text) refl

-- a text that is inserted
pub added-is : (keys more : List (Bor (List ℕ))) (k : Bor (List ℕ)) (names : List (List ℕ)) → texts_of keys ≡ names
    → more ≡ insert_key (λ (x y : Bor (List ℕ)). bytes_eq x.now y.now) keys k → texts_of more ≡ added names k.now
added-is keys more k names is grown = ap texts_of grown ∙ by (list_any (λ (y : Bor (List ℕ)). bytes_eq k.now y.now) keys) refl where
  by : (b : Bool) → list_any (λ (y : Bor (List ℕ)). bytes_eq k.now y.now) keys ≡ b → texts_of (insert_key (λ (x y : Bor (List ℕ)). bytes_eq x.now y.now) keys k) ≡ added names k.now
  by true e = rw (← is, ← any-texts keys k.now, e) refl
  by false e = rw (← is, ← any-texts keys k.now, e) (map-append (λ (t : Bor (List ℕ)). t.now) keys (k ∷ []))

pub numbered : (keys : List (Bor (List ℕ))) (n : ℕ) (k : Bor (List ℕ)) → (stored : Bor (List ℕ)) × (slice_get keys n ≡ Some stored) × (bytes_eq k.now stored.now ≡ true)
    → slice_get (texts_of keys) n ≡ Some k.now
numbered keys n k (stored, at, same) = slice_get-map (λ (t : Bor (List ℕ)). t.now) keys n ∙ ap (option_map (λ (t : Bor (List ℕ)). t.now)) at ∙ ap Some (sym ((bytes_eq-Decides k.now stored.now).0 same))

-- whether a text that is inserted was there
pub is_new : (keys : List (Bor (List ℕ))) (names : List (List ℕ)) (text : List ℕ) → texts_of keys ≡ names
    → not (list_any (λ (k : Bor (List ℕ)). bytes_eq text k.now) keys) ≡ not (list_any (bytes_eq text) names)
is_new keys names text is = ap not (any-texts keys text ∙ ap (λ z. list_any (bytes_eq text) z) is)

-- a text that is inserted has the number at which it stands first
first-end : (p : Bor (List ℕ) → Bool) (keys : List (Bor (List ℕ))) (k : Bor (List ℕ)) → p k ≡ true → list_any p keys ≡ false → position_or_len p (keys ++ k ∷ []) ≡ position_or_len p keys
first-end p [] k h none = ap (λ b. cond (not b) (1 + 0) 0) h
first-end p (x ∷ keys) k h none = ap (λ n. cond (not (p x)) (1 + n) 0) (first-end p keys k h (or-right (p x) (list_any p keys) none)) where
  or-right : (a b : Bool) → (a || b) ≡ false → b ≡ false
  or-right true b h = absurd (true≢false h)
  or-right false b h = h

first-inserted : (keys : List (Bor (List ℕ))) (k : Bor (List ℕ))
    → position_or_len (λ (y : Bor (List ℕ)). bytes_eq k.now y.now) (insert_key (λ (x y : Bor (List ℕ)). bytes_eq x.now y.now) keys k) ≡ position_or_len (λ (y : Bor (List ℕ)). bytes_eq k.now y.now) keys
first-inserted keys k = by (list_any (λ (y : Bor (List ℕ)). bytes_eq k.now y.now) keys) refl where
  by : (b : Bool) → list_any (λ (y : Bor (List ℕ)). bytes_eq k.now y.now) keys ≡ b
      → position_or_len (λ (y : Bor (List ℕ)). bytes_eq k.now y.now) (cond b keys (keys ++ k ∷ [])) ≡ position_or_len (λ (y : Bor (List ℕ)). bytes_eq k.now y.now) keys
  by true e = refl
  by false e = first-end (λ (y : Bor (List ℕ)). bytes_eq k.now y.now) keys k ((bytes_eq-Decides k.now k.now).1 refl) e

pub number-first : (keys more : List (Bor (List ℕ))) (k : Bor (List ℕ)) (n : ℕ) → more ≡ insert_key (λ (x y : Bor (List ℕ)). bytes_eq x.now y.now) keys k
    → n ≡ position_or_len (λ (y : Bor (List ℕ)). bytes_eq k.now y.now) keys → n < length more → number_in (texts_of more) k.now ≡ Some n
number-first keys more k n grown is within = sym (position-texts more k.now) ∙ by n (is ∙ sym (ap (position_or_len (λ (y : Bor (List ℕ)). bytes_eq k.now y.now)) grown ∙ first-inserted keys k)) within where
  by : (m : ℕ) → m ≡ position_or_len (λ (y : Bor (List ℕ)). bytes_eq k.now y.now) more → m < length more → position (λ (y : Bor (List ℕ)). bytes_eq k.now y.now) more ≡ Some m
  by m e below = rw (← e, lt-ltb m (length more) below) refl
