-- A number that is read is spelled by the bytes that were taken, each of its spellings is read again, and where none
-- is read none begins.
use Rattle.std.proofs.Common.{◌≡◌, ℕ, ◌-◌, ◌^◌, ◌≤◌, ◌<◌, Bool, true, false, cond, ltb, List, [], ◌∷◌, ◌++◌, length, Option, Some, None, Ok, Err, refl, ap, ◌∙◌, arith, ℤ, pos, ◌⊎◌, inl, inr}
use Rattle.std.specs.Prelude.{◌&&◌, ◌-ℤ◌}
use Rattle.std.proofs.Math.Nat.{one-le-pow}
use Rattle.std.proofs.lemmas.Bool.{ltb-true, ltb-false, le-ltb, lt-ltb}
use Rattle.std.proofs.lemmas.Int.{ints}
use Rattle.wasm_tree.specs.declared.failure.ModuleRule.TheVariants as rule
use Rattle.wasm_tree.specs.Spelled.{Unsigned, Signed, SignedLast, Index}
use Rattle.wasm_reader.specs.declared.fault.Fault.{Fault}
use Rattle.wasm_reader.specs.Fault.{NoNumber, NoIndex}
use Rattle.wasm_reader.specs.Reading.{at, number_from, last_unsigned, more_unsigned, last_signed, more_signed, index_at, signed_at}
use Rattle.wasm_reader.proofs.Ends.{Ends, with_value, with_fault, step, weaker, by_test, by_value}
use Rattle.wasm_reader.proofs.Readers.{Taken, Broken, Reads, both_true}

-- how P spells numbers by what a last byte stands for, and a byte before
record Kind {A : Type 0} (last : ℕ → ℕ → Option A) (more : ℕ → A → A) (P : ℕ → A → List ℕ → Type 0) : Type 0 where
  none : (bits : ℕ) (z : A) → P bits z [] → ⊥
  one : (bits b : ℕ) (z : A) → b < 128 → last bits b ≡ Some z → P bits z (b ∷ [])
  is_one : (bits b : ℕ) (z : A) → P bits z (b ∷ []) → (b < 128) × (last bits b ≡ Some z)
  several : (bits b c : ℕ) (high : A) (bytes : List ℕ) → 128 ≤ b → b < 256 → 7 < bits → P (bits - 7) high (c ∷ bytes) → P bits (more b high) (b ∷ c ∷ bytes)
  are_several : (bits b c : ℕ) (z : A) (bytes : List ℕ) → P bits z (b ∷ c ∷ bytes) → (128 ≤ b) × (b < 256) × (7 < bits) × (high : A) × (more b high ≡ z) × P (bits - 7) high (c ∷ bytes)
  zero : (bits : ℕ) → 0 < bits → (z : A) × (last bits 0 ≡ Some z)

-- whatever follows, no number is read; or the rest of one is missing
abbrev Unread : {A : Type 0} → (ℕ → ℕ → Option A) → (ℕ → A → A) → (ℕ → A → List ℕ → Type 0) → ℕ → ℕ → List ℕ → Fault → Type 0
Unread {A} last more P start bits bytes x =
    ((x ≡ at rule.Number start) × ((extra : List ℕ) → number_from last more start bits (bytes ++ extra) ≡ Err (at rule.Number start)))
    ⊎ ((x ≡ at rule.Size 0) × (z : A) × (extra : List ℕ) × (0 < length extra) × P bits z (bytes ++ extra))

longer : {A : Type 0} {last : ℕ → ℕ → Option A} {more : ℕ → A → A} {P : ℕ → A → List ℕ → Type 0} → Kind last more P → (bits b : ℕ) (high : A) (bytes : List ℕ) → 128 ≤ b → b < 256 → 7 < bits → P (bits - 7) high bytes → P bits (more b high) (b ∷ bytes)
longer k bits b high [] ge byte lt h = absurd (k.none (bits - 7) high h)
longer k bits b high (c ∷ bytes) ge byte lt h = k.several bits b c high bytes ge byte lt h

number-ends : {A : Type 0} {last : ℕ → ℕ → Option A} {more : ℕ → A → A} {P : ℕ → A → List ℕ → Type 0} → Kind last more P → (start bits : ℕ) (bytes : List ℕ) → 0 < bits
    → Ends (λ y. Taken (P bits) bytes y.0 y.1) (Unread last more P start bits bytes) (number_from last more start bits bytes)
unfolding number_from
number-ends k start bits [] some = let z = k.zero bits some in with_fault (at rule.Size 0) (inr (refl, z.0, 0 ∷ [], omega arith, k.one bits 0 z.0 (omega arith) z.1))
number-ends {last = last} {more} {P} k start bits (b ∷ bytes) some =
    by_test (ltb b 128)
    (λ p.
    step _ (by_value {G = λ z. last bits b ≡ Some z} {N = Unread last more P start bits (b ∷ bytes)} (at rule.Number start) (last bits b) (λ z e. e) (λ e. inl (refl, λ extra. rw (p, e) refl))) (λ x h. h)
    (λ z e. with_value (z, bytes) (record { front = b ∷ []; whole = refl; spelled = k.one bits b z (ltb-true _ _ p) e })))
    (λ p. by_test (ltb 7 bits && ltb b 256)
    (λ q.
    let tests = both_true (ltb 7 bits) (ltb b 256) q in
    let ge : 128 ≤ b = ltb-false _ _ p in
    let lt = ltb-true 7 bits tests.0 in
    let byte = ltb-true b 256 tests.1 in
    step _ (number-ends k start (bits - 7) bytes (omega (arith, lt)))
    (λ x h. elim h [
      | inl m ↦ inl (m.0, λ extra. rw (p, tests.0, tests.1, m.1 extra) refl)
      | inr m ↦ inr (m.0, more b m.1, m.2, m.3, longer k bits b m.1 (bytes ++ m.2) ge byte lt m.4)
    ])
    (λ y t. with_value (more b y.0, y.1) (record { front = b ∷ t.front; whole = ap (λ (l : List ℕ). b ∷ l) t.whole; spelled = longer k bits b y.0 t.front ge byte lt t.spelled })))
    (λ q. with_fault (at rule.Number start) (inl (refl, λ extra. rw (p, q) refl))))

number-again : {A : Type 0} {last : ℕ → ℕ → Option A} {more : ℕ → A → A} {P : ℕ → A → List ℕ → Type 0} → Kind last more P → (start bits : ℕ) (z : A) (front rest : List ℕ) → P bits z front → number_from last more start bits (front ++ rest) ≡ Ok (z, rest)
unfolding number_from
number-again k start bits z [] rest h = absurd (k.none bits z h)
number-again k start bits z (b ∷ []) rest h = let o = k.is_one bits b z h in rw (lt-ltb b 128 o.0, o.1) refl
number-again k start bits z (b ∷ c ∷ front) rest h =
    let s = k.are_several bits b c z front h in
    rw (le-ltb b 128 s.0, lt-ltb 7 bits s.2, lt-ltb b 256 s.1, number-again k start (bits - 7) s.3 (c ∷ front) rest s.5, s.4) refl

number-reads : {A : Type 0} {last : ℕ → ℕ → Option A} {more : ℕ → A → A} {P : ℕ → A → List ℕ → Type 0} → Kind last more P → (bits : ℕ) → 0 < bits → Reads (P bits) (NoNumber (P bits)) (λ bytes. number_from last more (length bytes) bits bytes)
number-reads {A} {last} {more} {P} k bits some = record { ends = λ bytes. weaker (number-ends k (length bytes) bits bytes some) (λ y t. t) (unread bytes); again = λ z front rest h. number-again k (length (front ++ rest)) bits z front rest h } where
  unread : (bytes : List ℕ) (x : Fault) → Unread last more P (length bytes) bits bytes x → Broken (NoNumber (P bits)) bytes x
  unread bytes x (inl (is, none)) = rw is (record { fails = inl (refl, refl, λ z extra front back w h. absurd (cc (none extra, ap (number_from last more (length bytes) bits) w ∙ number-again k (length bytes) bits z front back h))); within = omega arith })
  unread bytes x (inr h) = rw h.0 (record { fails = inr (refl, refl, h.1, h.2, h.3, h.4); within = omega arith })

-- ---- both kinds

unsigned : Kind last_unsigned more_unsigned Unsigned
unsigned = record {
  none = λ bits z h. h;
  one = λ bits b z lt e. one bits b z (ltb b (2 ^ bits)) refl lt e;
  is_one = λ bits b z h. (h.0, rw (lt-ltb b (2 ^ bits) h.1, h.2) refl);
  several = λ bits b c high bytes ge byte lt h. (ge, byte, lt, high, omega arith, h);
  are_several = λ bits b c z bytes h. (h.0, h.1, h.2, h.3, omega (arith, h.0, h.4), h.5);
  zero = λ bits some. (0, rw (lt-ltb 0 (2 ^ bits) (one-le-pow bits 2 (omega arith))) refl);
} where
  one : (bits b z : ℕ) (t : Bool) → ltb b (2 ^ bits) ≡ t → b < 128 → cond t (Some b) None ≡ Some z → (b < 128) × (b < 2 ^ bits) × (z ≡ b)
  one bits b z true is lt e = (lt, ltb-true _ _ is, cc)
  one bits b z false is lt e = absurd cc

signed : Kind last_signed more_signed Signed
signed = record {
  none = λ bits z h. h;
  one = λ bits b z lt e. one bits b z (ltb b 64) _ refl refl lt e;
  is_one = is_one;
  several = λ bits b c high bytes ge byte lt h. (ge, byte, lt, high, omega (arith, ints), h);
  are_several = λ bits b c z bytes h. (h.0, h.1, h.2, h.3, omega (arith, ints, h.0, h.4), h.5);
  zero = λ bits some. (pos 0, rw (lt-ltb 0 (2 ^ (bits - 1)) (one-le-pow (bits - 1) 2 (omega arith))) refl);
} where
  one : (bits b : ℕ) (z : ℤ) (s t : Bool) → ltb b 64 ≡ s → ltb (cond s b (127 - b)) (2 ^ (bits - 1)) ≡ t → b < 128 → cond t (Some (cond s (pos b) (pos b -ℤ pos 128))) None ≡ Some z → SignedLast bits z b
  one bits b z true true low small lt e = inl (ltb-true _ _ low, ltb-true _ _ small, cc)
  one bits b z false true low small lt e =
      let is : pos b -ℤ pos 128 ≡ z = cc in
      inr (ltb-false _ _ low, lt, omega (arith, ltb-true _ _ small), omega (arith, ints, is))
  one bits b z s false low small lt e = absurd cc

  some_is : (y z : ℤ) → y ≡ z → (let o : Option ℤ = Some y in o) ≡ Some z
  some_is y z e = cc

  is_one : (bits b : ℕ) (z : ℤ) → SignedLast bits z b → (b < 128) × (last_signed bits b ≡ Some z)
  is_one bits b z (inl h) = (omega (arith, h.0), rw (lt-ltb b 64 h.0, lt-ltb b (2 ^ (bits - 1)) h.1, h.2) refl)
  is_one bits b z (inr h) = (h.1, rw (le-ltb b 64 h.0, lt-ltb (127 - b) (2 ^ (bits - 1)) (omega (arith, h.0, h.1, h.2))) (some_is (pos b -ℤ pos 128) z (omega (arith, ints, h.3))))

pub index-reads : Reads Index NoIndex index_at
unfolding index_at
index-reads = number-reads unsigned 32 (omega arith)

pub signed-reads : (bits : ℕ) → 0 < bits → Reads (Signed bits) (NoNumber (Signed bits)) (signed_at bits)
unfolding signed_at
signed-reads bits some = number-reads signed bits some
