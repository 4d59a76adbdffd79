-- What a reading function takes from the front is spelled so, where it fails a rule does, and what is spelled so is
-- read again, whatever follows.
use Rattle.std.proofs.Common.{◌≡◌, ℕ, zero, suc, ◌+◌, ◌-◌, ◌≤◌, ◌<◌, Bool, true, false, eqb, leb, cond, eq-eqb, List, [], ◌∷◌, ◌++◌, length, take, drop, Result, Ok, Err, refl, sym, ap, subst, ◌∙◌, append_assoc, arith, ◌⊎◌, inl, inr}
use Rattle.std.specs.Prelude.{◌&&◌, min}
use Rattle.std.proofs.lemmas.Bool.{eqb-true, eqb-false, ne_eqb, leb-true, le-leb}
use Rattle.std.proofs.lemmas.Bool.Decides.{nat_tests}
use Rattle.std.proofs.lemmas.List.{append-nil, nil_from_length, take_at, drop_at, take-append-drop, length-append, length-take}
use Rattle.wasm_tree.specs.declared.failure.ModuleRule.{ModuleRule}
use Rattle.wasm_tree.specs.declared.failure.ModuleRule.TheVariants as rule
use Rattle.wasm_tree.specs.Spelled.{Joined, Begins, Each, Vector, Index, Sized}
use Rattle.wasm_reader.specs.declared.fault.Fault.{Fault}
use Rattle.wasm_reader.specs.Fault.{InTurn, OtherByte, Behind, NoIndex, NoVector, Unfilled, NoneSized}
use Rattle.wasm_reader.specs.Reading.{◌>>=◌, at, Reader, byte_at, fixed_at, each_at, full_at}
use Rattle.wasm_reader.proofs.Ends.{Ends, with_value, with_fault, step, weaker, by_test}

-- what was taken from the front
pub record Taken {A : Type 0} (P : A → List ℕ → Type 0) (bytes : List ℕ) (x : A) (rest : List ℕ) : Type 0 where
  pub front : List ℕ
  pub whole : bytes ≡ front ++ rest
  pub spelled : P x front

-- a rule fails at one of the bytes, or at their end
pub record Broken (F : ModuleRule → ℕ → List ℕ → Type 0) (bytes : List ℕ) (x : Fault) : Type 0 where
  pub fails : F x.rule x.left bytes
  pub within : x.left ≤ length bytes

abbrev pub ReadEnds : {A : Type 0} → (A → List ℕ → Type 0) → (ModuleRule → ℕ → List ℕ → Type 0) → List ℕ → Result (A × List ℕ) Fault → Type 0
ReadEnds P F bytes r = Ends (λ y. Taken P bytes y.0 y.1) (Broken F bytes) r

pub record Reads {A : Type 0} (P : A → List ℕ → Type 0) (F : ModuleRule → ℕ → List ℕ → Type 0) (f : Reader A) : Type 0 where
  pub ends : (bytes : List ℕ) → ReadEnds P F bytes (f bytes)
  pub again : (x : A) (front rest : List ℕ) → P x front → f (front ++ rest) ≡ Ok (x, rest)

-- ---- parts

pub assoc : {P Q R : List ℕ → Type 0} {bytes : List ℕ} → Joined P (Joined Q R) bytes → Joined (Joined P Q) R bytes
assoc j = let k = j.second in record { front = j.front ++ k.front; back = k.back; whole = j.whole ∙ ap (λ (l : List ℕ). j.front ++ l) k.whole ∙ sym (append_assoc j.front k.front k.back); first = record { front = j.front; back = k.front; whole = refl; first = j.first; second = k.first }; second = k.second }

-- another part behind the same one
pub behind : {P Q R : List ℕ → Type 0} {bytes : List ℕ} → (j : Joined P Q bytes) → R j.back → Joined P R bytes
behind j second = record { front = j.front; back = j.back; whole = j.whole; first = j.first; second = second }

-- the byte that begins, and the bytes behind it
pub begins_with : {byte : ℕ} {P : List ℕ → Type 0} {bytes : List ℕ} (h : Begins byte P bytes) → bytes ≡ byte ∷ h.back
begins_with h = h.whole ∙ ap (λ (l : List ℕ). l ++ h.back) h.first

pub regrouped : {P Q : List ℕ → Type 0} {bytes : List ℕ} (j : Joined P Q bytes) (rest : List ℕ) → bytes ++ rest ≡ j.front ++ (j.back ++ rest)
regrouped j rest = ap (λ (l : List ℕ). l ++ rest) j.whole ∙ append_assoc j.front j.back rest

pub broken-as : {F G : ModuleRule → ℕ → List ℕ → Type 0} {bytes : List ℕ} {x : Fault} → Broken F bytes x → (F x.rule x.left bytes → G x.rule x.left bytes) → Broken G bytes x
broken-as b to = record { fails = to b.fails; within = b.within }

pub ends-as : {A : Type 0} {P Q : A → List ℕ → Type 0} {F G : ModuleRule → ℕ → List ℕ → Type 0} {bytes : List ℕ} {r : Result (A × List ℕ) Fault} → ReadEnds P F bytes r
    → ((x : A) (bytes : List ℕ) → P x bytes → Q x bytes) → ((r : ModuleRule) (left : ℕ) (bytes : List ℕ) → F r left bytes → G r left bytes) → ReadEnds Q G bytes r
ends-as {bytes = bytes} h to bad = weaker h (λ y t. record { front = t.front; whole = t.whole; spelled = to y.0 t.front t.spelled }) (λ x b. broken-as b (bad x.rule x.left bytes))

-- what is read behind a part
pub ends-behind : {A C : Type 0} {P : A → List ℕ → Type 0} {S : C → List ℕ → Type 0} {G : ModuleRule → ℕ → List ℕ → Type 0} {bytes : List ℕ} {x : A} {rest : List ℕ} {r : Result (C × List ℕ) Fault} → Taken P bytes x rest → ReadEnds S G rest r
    → ReadEnds (λ c. Joined (P x) (S c)) (λ r left. Joined (P x) (G r left)) bytes r
ends-behind {rest = rest} t h =
    weaker h
    (λ y u. record { front = t.front ++ u.front; whole = t.whole ∙ ap (λ (l : List ℕ). t.front ++ l) u.whole ∙ sym (append_assoc t.front u.front y.1); spelled = record { front = t.front; back = u.front; whole = refl; first = t.spelled; second = u.spelled } })
    (λ e b. record { fails = record { front = t.front; back = rest; whole = t.whole; first = t.spelled; second = b.fails }; within = omega (arith, b.within, ap length t.whole, length-append t.front rest) })

abbrev pub Then : {A C : Type 0} → (A → List ℕ → Type 0) → (A → C → List ℕ → Type 0) → C → List ℕ → Type 0
Then {A} P S c bytes = (x : A) × Joined (P x) (S x c) bytes

abbrev pub Mapped : {A C : Type 0} → (A → C) → (A → List ℕ → Type 0) → C → List ℕ → Type 0
Mapped {A} k P c bytes = (x : A) × (c ≡ k x) × P x bytes

-- a part, and what is read by it behind it
pub then-reads : {A C : Type 0} {P : A → List ℕ → Type 0} {F : ModuleRule → ℕ → List ℕ → Type 0} {f : Reader A} {S : A → C → List ℕ → Type 0} {G : A → ModuleRule → ℕ → List ℕ → Type 0} {g : List ℕ → A → Reader C}
    → Reads P F f → ((whole : List ℕ) (x : A) → Reads (S x) (G x) (g whole x)) → Reads (Then P S) (InTurn F P G) (λ bytes. f bytes >>= λ x. g bytes x.0 x.1)
then-reads {A} {f = f} {g = g} rf rg = record {
  ends = λ bytes. step (f bytes) (rf.ends bytes) (λ x b. broken-as b (λ h. inl h)) (λ y t. ends-as (ends-behind t ((rg bytes y.0).ends y.1)) (λ c l h. (y.0, h)) (λ r left l h. inr (y.0, h)));
  again = λ c front rest h.
      let one : f (front ++ rest) ≡ Ok (h.0, h.1.back ++ rest) = ap f (regrouped h.1 rest) ∙ rf.again h.0 h.1.front (h.1.back ++ rest) h.1.first in
      ap (λ (r : Result (A × List ℕ) Fault). r >>= λ x. g (front ++ rest) x.0 x.1) one ∙ (rg (front ++ rest) h.0).again c h.1.back rest h.1.second;
}

-- what is made of a value that is read
pub map-reads : {A C : Type 0} {P : A → List ℕ → Type 0} {F : ModuleRule → ℕ → List ℕ → Type 0} {f : Reader A} (k : A → C) → Reads P F f → Reads (Mapped k P) F (λ bytes. f bytes >>= λ x. Ok (k x.0, x.1))
map-reads {A} {C} {f = f} k rf = record {
  ends = λ bytes. step (f bytes) (rf.ends bytes) (λ x b. b) (λ y t. with_value (k y.0, y.1) (record { front = t.front; whole = t.whole; spelled = (y.0, refl, t.spelled) }));
  again = λ c front rest h. ap (λ (r : Result (A × List ℕ) Fault). r >>= λ x. Ok (k x.0, x.1)) (rf.again h.0 front rest h.2) ∙ ap (λ (y : C). let r : Result (C × List ℕ) Fault = Ok (y, rest) in r) (sym h.1);
}

-- the same, seen by other relations
pub as-reads : {A : Type 0} {P Q : A → List ℕ → Type 0} {F G : ModuleRule → ℕ → List ℕ → Type 0} {f : Reader A} → Reads P F f → ((x : A) (bytes : List ℕ) → P x bytes → Q x bytes) → ((x : A) (bytes : List ℕ) → Q x bytes → P x bytes)
    → ((r : ModuleRule) (left : ℕ) (bytes : List ℕ) → F r left bytes → G r left bytes) → Reads Q G f
as-reads rf to of bad = record { ends = λ bytes. ends-as (rf.ends bytes) to bad; again = λ x front rest h. rf.again x front rest (of x front h) }

-- a value that is read of no bytes
pub pure-reads : {C : Type 0} (c : C) → Reads (λ y bytes. (y ≡ c) × (bytes ≡ [])) (λ r left bytes. ⊥) (λ bytes. Ok (c, bytes))
pure-reads c = record { ends = λ bytes. with_value (c, bytes) (record { front = []; whole = refl; spelled = (refl, refl) }); again = λ y front rest h. rw (h.0, h.1) refl }

-- ---- bytes

pub byte-ends : (due : ℕ → Type 0) (bytes : List ℕ) → Ends (λ y. bytes ≡ y.0 ∷ y.1) (Broken (OtherByte due) bytes) (byte_at bytes)
unfolding byte_at
byte-ends due [] = with_fault (at rule.Size 0) (record { fails = (refl, refl); within = omega arith })
byte-ends due (b ∷ bytes) = with_value (b, bytes) refl

-- another byte stands there
pub other : {due : ℕ → Type 0} {bytes : List ℕ} {b : ℕ} {rest : List ℕ} → bytes ≡ b ∷ rest → (due b → ⊥) → Broken (OtherByte due) bytes (at rule.Opcode (length bytes))
other {due} {bytes} {b} {rest} w none = subst (λ (l : List ℕ). Broken (OtherByte due) l (at rule.Opcode (length l))) (sym w) (record { fails = (refl, refl, none); within = omega arith })

-- what is read behind a byte
pub ends-begun : {C : Type 0} {S : C → List ℕ → Type 0} {G : ModuleRule → ℕ → List ℕ → Type 0} {bytes : List ℕ} {b : ℕ} {rest : List ℕ} {r : Result (C × List ℕ) Fault} (d : ℕ) → bytes ≡ b ∷ rest → b ≡ d → ReadEnds S G rest r
    → ReadEnds (λ c. Begins d (S c)) (λ r left. Begins d (G r left)) bytes r
ends-begun {bytes = bytes} {rest = rest} d w is h = ends-behind {P = λ (x : ℕ) (l : List ℕ). l ≡ x ∷ []} {x = d} (record { front = d ∷ []; whole = w ∙ ap (λ (x : ℕ). x ∷ rest) is; spelled = refl }) h

-- one of two bytes, and what is due behind it
pub two-reads : {C : Type 0} {P Q : C → List ℕ → Type 0} {F G : ModuleRule → ℕ → List ℕ → Type 0} {f g : Reader C} (d e : ℕ) → (e ≡ d → ⊥) → Reads P F f → Reads Q G g
    → Reads (λ c bytes. Begins d (P c) bytes ⊎ Begins e (Q c) bytes) (λ r left bytes. OtherByte (λ b. (b ≡ d) ⊎ (b ≡ e)) r left bytes ⊎ (Begins d (F r left) bytes ⊎ Begins e (G r left) bytes))
    (λ bytes. byte_at bytes >>= λ b. cond (eqb b.0 d) (f b.1) (cond (eqb b.0 e) (g b.1) (Err (at rule.Opcode (length bytes)))))
unfolding byte_at
two-reads {C} {P} {Q} {f = f} {g = g} d e apart rf rg = record {
  ends = λ bytes.
      step (byte_at bytes) (byte-ends (λ b. (b ≡ d) ⊎ (b ≡ e)) bytes) (λ x b. broken-as b (λ h. inl h)) (λ y w.
      by_test (eqb y.0 d) (λ p. ends-as (ends-begun d w (eqb-true y.0 d p) (rf.ends y.1)) (λ c l h. inl h) (λ r left l h. inr (inl h))) (λ p.
      by_test (eqb y.0 e) (λ q. ends-as (ends-begun e w (eqb-true y.0 e q) (rg.ends y.1)) (λ c l h. inr h) (λ r left l h. inr (inr h))) (λ q.
      with_fault (at rule.Opcode (length bytes)) (broken-as (other w (λ h. elim h [ inl is ↦ eqb-false y.0 d p is | inr is ↦ eqb-false y.0 e q is ])) (λ h. inl h)))));
  again = again;
} where
  again : (c : C) (front rest : List ℕ) → Begins d (P c) front ⊎ Begins e (Q c) front → (byte_at (front ++ rest) >>= λ b. cond (eqb b.0 d) (f b.1) (cond (eqb b.0 e) (g b.1) (Err (at rule.Opcode (length (front ++ rest)))))) ≡ Ok (c, rest)
  again c front rest (inl h) = rw (begins_with h, eq-eqb d d refl) (rf.again c h.back rest h.second)
  again c front rest (inr h) = rw (begins_with h, ne_eqb e d apart, eq-eqb e e refl) (rg.again c h.back rest h.second)

-- a byte that is due, and what stands behind it
pub begins-reads : {C : Type 0} {P : C → List ℕ → Type 0} {F : ModuleRule → ℕ → List ℕ → Type 0} {g : Reader C} (due : ℕ) → Reads P F g → Reads (λ c. Begins due (P c)) (Behind due F) (λ bytes. fixed_at due bytes >>= λ rest. g rest)
unfolding fixed_at byte_at
begins-reads due rg = record { ends = λ bytes. step (fixed_at due bytes) (fixed bytes) (λ x b. broken-as b (λ h. inl h)) (λ rest w. ends-as (ends-begun due w refl (rg.ends rest)) (λ c l h. h) (λ r left l h. inr h)); again = λ c front rest h. rw (begins_with h, eq-eqb due due refl) (rg.again c h.back rest h.second) } where
  fixed : (bytes : List ℕ) → Ends (λ rest. bytes ≡ due ∷ rest) (Broken (OtherByte (λ b. b ≡ due)) bytes) (fixed_at due bytes)
  fixed bytes =
      step (byte_at bytes) (byte-ends (λ b. b ≡ due) bytes) (λ x b. b)
      (λ y w. by_test (eqb y.0 due) (λ p. with_value y.1 (w ∙ ap (λ (b : ℕ). b ∷ y.1) (eqb-true y.0 due p))) (λ p. with_fault (at rule.Opcode (length bytes)) (other w (eqb-false y.0 due p))))

-- a value, behind which a last byte is due
pub ended-reads : {C : Type 0} (byte : ℕ) (c : C) → Reads (λ y bytes. (y ≡ c) × (bytes ≡ byte ∷ [])) (OtherByte (λ b. b ≡ byte)) (λ bytes. fixed_at byte bytes >>= λ rest. Ok (c, rest))
ended-reads byte c =
    as-reads (begins-reads byte (pure-reads c)) (λ y bytes h. (h.second.0, begins_with h ∙ ap (λ (l : List ℕ). byte ∷ l) h.second.1))
    (λ y bytes h. record { front = byte ∷ []; back = []; whole = h.1; first = refl; second = (h.0, refl) }) missing where
      missing : (r : ModuleRule) (left : ℕ) (bytes : List ℕ) → Behind byte (λ r left bytes. ⊥) r left bytes → OtherByte (λ b. b ≡ byte) r left bytes
      missing r left bytes (inl h) = h
      missing r left bytes (inr h) = absurd h.second

-- ---- lists

-- after fewer elements than these, one fails
abbrev pub Fewer : {A : Type 0} → (A → List ℕ → Type 0) → (ModuleRule → ℕ → List ℕ → Type 0) → ℕ → ModuleRule → ℕ → List ℕ → Type 0
Fewer {A} P F n r left bytes = (xs : List A) × (length xs < n) × Joined (Each P xs) (F r left) bytes

each-reads : {A : Type 0} {P : A → List ℕ → Type 0} {F : ModuleRule → ℕ → List ℕ → Type 0} {f : Reader A} → Reads P F f → (n : ℕ) → Reads (λ xs bytes. (length xs ≡ n) × Each P xs bytes) (Fewer P F n) (each_at f n)
unfolding each_at
each-reads {A} {P} {F} {f} rf n = record { ends = ends n; again = λ xs front rest h. again n xs front rest h.0 h.1 } where
  ends : (n : ℕ) (bytes : List ℕ) → ReadEnds (λ xs bytes. (length xs ≡ n) × Each P xs bytes) (Fewer P F n) bytes (each_at f n bytes)
  ends zero bytes = with_value ([], bytes) (record { front = []; whole = refl; spelled = (refl, refl) })
  ends (suc n) bytes =
      step (f bytes) (rf.ends bytes) (λ x b. broken-as b (λ h. ([], omega arith, record { front = []; back = bytes; whole = refl; first = refl; second = h }))) (λ y t.
      step (each_at f n y.1) (ends-behind t (ends n y.1)) (λ x b. broken-as b (λ j. (y.0 ∷ j.second.0, omega (arith, j.second.1), assoc (behind j j.second.2)))) (λ z u.
      with_value (y.0 ∷ z.0, z.1) (record { front = u.front; whole = u.whole; spelled = (ap suc u.spelled.second.0, behind u.spelled u.spelled.second.1) })))

  again : (n : ℕ) (xs : List A) (front rest : List ℕ) → length xs ≡ n → Each P xs front → each_at f n (front ++ rest) ≡ Ok (xs, rest)
  again zero [] front rest e h = ap (λ (l : List ℕ). each_at f 0 (l ++ rest)) h
  again zero (x ∷ xs) front rest e h = absurd (omega arith)
  again (suc n) [] front rest e h = absurd (omega arith)
  again (suc n) (x ∷ xs) front rest e h =
      let one : f (front ++ rest) ≡ Ok (x, h.back ++ rest) = ap f (regrouped h rest) ∙ rf.again x h.front (h.back ++ rest) h.first in
      let two : each_at f n (h.back ++ rest) ≡ Ok (xs, rest) = again n xs h.back rest (omega arith) h.second in
      rw (one, two) refl

-- a count, and as many elements
pub counted-reads : {A : Type 0} {P : A → List ℕ → Type 0} {F : ModuleRule → ℕ → List ℕ → Type 0} {f : Reader A} {index : Reader ℕ} → Reads Index NoIndex index → Reads P F f → Reads (Vector P) (NoVector P F) (λ bytes. index bytes >>= λ count. each_at f count.0 count.1)
counted-reads ri rf =
    as-reads (then-reads ri (λ whole n. each-reads rf n)) (λ xs bytes h. record { front = h.1.front; back = h.1.back; whole = h.1.whole; first = rw h.1.second.0 h.1.first; second = h.1.second.1 })
    (λ xs bytes h. (length xs, behind h (refl, h.second))) (λ r left bytes h. h)

-- ---- what fills a size

pub record Fills {A : Type 0} (P : A → List ℕ → Type 0) (F : ModuleRule → ℕ → List ℕ → Type 0) (f : Reader A) : Type 0 where
  pub ends : (bytes : List ℕ) → ReadEnds P F bytes (f bytes)
  pub again : (x : A) (bytes : List ℕ) → P x bytes → f bytes ≡ Ok (x, [])

pub fills : {A : Type 0} {P : A → List ℕ → Type 0} {F : ModuleRule → ℕ → List ℕ → Type 0} {f : Reader A} → Reads P F f → Fills P F f
fills {f = f} rf = record { ends = rf.ends; again = λ x bytes h. ap f (sym (append-nil bytes)) ∙ rf.again x bytes [] h }

pub both_true : (a b : Bool) → (a && b) ≡ true → (a ≡ true) × (b ≡ true)
both_true true b e = (refl, e)
both_true false b e = absurd cc

moved-left : (inner contents whole : ℕ) → inner ≤ contents → contents ≤ whole → (whole - (contents - inner)) + contents ≡ inner + whole
moved-left inner contents whole a b = omega arith

full-ends : {A : Type 0} {P : A → List ℕ → Type 0} {F : ModuleRule → ℕ → List ℕ → Type 0} (size : ℕ) (rest : List ℕ) (r : Result (A × List ℕ) Fault) → ReadEnds P F (take size rest) r
    → ReadEnds (λ x bytes. (length bytes ≡ size) × P x bytes) (Unfilled P F size) rest (full_at size rest r)
full-ends size rest (Err d) h =
    let b = h.err d refl in
    let len = length-take size rest in
    let inner : d.left ≤ length (take size rest) = b.within in
    let sum : (length rest - (length (take size rest) - d.left)) + length (take size rest) ≡ d.left + length rest = moved-left d.left (length (take size rest)) (length rest) inner (omega (arith, len)) in
    with_fault _ (record { fails = inl (d.left, b.fails, subst (λ (n : ℕ). (length rest - (n - d.left)) + length (take size rest) ≡ d.left + length rest) len sum); within = omega arith })
full-ends {P = P} size rest (Ok y) h =
    let t = h.ok y refl in
    let len = length-take size rest in
    by_test ((eqb (length y.1) 0) && (leb size (length rest)))
    (λ p.
    let both = both_true (eqb (length y.1) 0) (leb size (length rest)) p in
    let none : y.1 ≡ [] = nil_from_length y.1 (eqb-true _ _ both.0) in
    let all : take size rest ≡ t.front = t.whole ∙ ap (λ (l : List ℕ). t.front ++ l) none ∙ append-nil t.front in
    with_value (y.0, drop size rest) (record { front = take size rest; whole = sym (take-append-drop size rest); spelled = (omega (arith, len, leb-true size (length rest) both.1), subst (P y.0) (sym all) t.spelled) }))
    (λ p.
    let parts : length (take size rest) ≡ length t.front + length y.1 = ap length t.whole ∙ length-append t.front y.1 in
    let sum : (length rest - (min size (length rest) - length y.1)) + length t.front ≡ length rest = omega arith in
    let short : (0 < length y.1) ⊎ (length rest < size) = grind (arith, nat_tests) in
    with_fault _ (record { fails = inr (y.0, t.front, y.1, t.whole, t.spelled, refl, sum, short); within = omega arith }))

-- a size, and what fills it
pub sized-reads : {A : Type 0} {P : A → List ℕ → Type 0} {F : ModuleRule → ℕ → List ℕ → Type 0} {f : Reader A} {index : Reader ℕ} → Reads Index NoIndex index → Fills P F f
    → Reads (λ x. Sized (P x)) (NoneSized P F) (λ bytes. index bytes >>= λ size. full_at size.0 size.1 (f (take size.0 size.1)))
sized-reads {A} {P} {F} {f} ri rf =
    as-reads (then-reads ri (λ whole size. full size)) (λ x bytes h. (h.1.back, record { front = h.1.front; back = h.1.back; whole = h.1.whole; first = rw h.1.second.0 h.1.first; second = refl }, h.1.second.1))
    (λ x bytes h. (length h.0, behind h.1 (rw h.1.second (refl, h.2)))) (λ r left bytes h. h) where
      full : (size : ℕ) → Reads (λ x bytes. (length bytes ≡ size) × P x bytes) (Unfilled P F size) (λ rest. full_at size rest (f (take size rest)))
      full size = record { ends = λ rest. full-ends size rest (f (take size rest)) (rf.ends (take size rest)); again = λ x front rest h. rw (take_at front rest size h.0, rf.again x front h.1, le-leb size (length (front ++ rest)) (omega (arith, h.0, length-append front rest)), drop_at front rest size h.0) refl }

-- ---- records

-- A field, and what stands behind it. R says what was read before it.
pub field : {A C : Type 0} {R : C → Type 0} {P : A → List ℕ → Type 0} {F : ModuleRule → ℕ → List ℕ → Type 0} {f : Reader A} {Q : C → List ℕ → Type 0} {G : ModuleRule → ℕ → List ℕ → Type 0} {g : A → Reader C} (of : C → A)
    → Reads P F f → ((x : A) → Reads (λ c bytes. (R c × (of c ≡ x)) × Q c bytes) G (g x)) → Reads (λ c bytes. R c × Joined (P (of c)) (Q c) bytes) (InTurn F P (λ _. G)) (λ bytes. f bytes >>= λ x. g x.0 x.1)
field {A} {P = P} of rf rg =
    as-reads (then-reads rf (λ whole x. rg x))
    (λ c bytes h. let j = h.1 in (j.second.0.0, record { front = j.front; back = j.back; whole = j.whole; first = subst (λ (a : A). P a j.front) (sym j.second.0.1) j.first; second = j.second.1 }))
    (λ c bytes h. (of c, behind h.1 ((h.0, refl), h.1.second))) (λ r left bytes h. h)

-- the last field, which makes the record
pub last : {A C : Type 0} {R : C → Type 0} {P : A → List ℕ → Type 0} {F : ModuleRule → ℕ → List ℕ → Type 0} {f : Reader A} (of : C → A) (made : A → C)
    → Reads P F f → ((x : A) → R (made x)) → ((x : A) → of (made x) ≡ x) → ((c : C) → R c → c ≡ made (of c)) → Reads (λ c bytes. R c × P (of c) bytes) F (λ bytes. f bytes >>= λ x. Ok (made x.0, x.1))
last {A} {P = P} of made rf before back whole =
    as-reads (map-reads made rf) (λ c bytes h. rw h.1 (before h.0, subst (λ (a : A). P a bytes) (sym (back h.0)) h.2)) (λ c bytes h. (of c, whole c h.0, h.1)) (λ r left bytes h. h)

-- a byte that is due between fields
pub due : {C : Type 0} {R : C → Type 0} {Q : C → List ℕ → Type 0} {G : ModuleRule → ℕ → List ℕ → Type 0} {g : Reader C} (byte : ℕ) → Reads (λ c bytes. R c × Q c bytes) G g
    → Reads (λ c bytes. R c × Begins byte (Q c) bytes) (Behind byte G) (λ bytes. fixed_at byte bytes >>= λ rest. g rest)
due byte rg = as-reads (begins-reads byte rg) (λ c bytes h. (h.second.0, behind h h.second.1)) (λ c bytes h. behind h.1 (h.0, h.1.second)) (λ r left bytes h. h)

-- nothing was read before
abbrev pub Any : {C : Type 0} → C → Type 0
Any c = Unit {0}

pub from_first : {C : Type 0} {P : C → List ℕ → Type 0} {F : ModuleRule → ℕ → List ℕ → Type 0} {f : Reader C} → Reads (λ c bytes. Any c × P c bytes) F f → Reads P F f
from_first rf = as-reads rf (λ c bytes h. h.1) (λ c bytes h. (tt, h)) (λ r left bytes h. h)
