-- Numbers, types, names and loops that read, step by step.
use Rattle.std.proofs.Common.{◌≡◌, ℕ, suc, eqb, length, get_or, drop, drop-cons, length-drop, add-one, ◌-◌, ◌+◌, ◌≤◌, ◌<◌, List, [], ◌∷◌, ◌++◌, Bool, cond, Result, Ok, Err, refl, sym, ap, ◌∙◌, append_assoc, arith, ◌*◌, ◌^◌, true, false, Option, ℤ}
use Rattle.std.proofs.lemmas.List.{append-nil, nil_from_length}
use Rattle.wasm_tree.specs.declared.failure.ModuleRule.TheVariants as rule
use Rattle.wasm_reader.specs.declared.fault.Fault.{Fault}
use Rattle.wasm_reader.specs.declared.fault.ReadFail.{ReadFail}
use Rattle.wasm_reader.specs.declared.fault.ReadFail.TheVariants as fail
use Rattle.wasm_reader.specs.declared.section.Found.{Found}
use Rattle.wasm_reader.specs.Reading.{◌>>=◌, at, Fails, Reader, each_at, locals_at, runs_from, next_at, code_from, filled_at, custom_at, with_custom, customs_at, behind_id, choice, header_byte_at, header_at, Gives, or_fault, byte_at, number_from, index_at, signed_byte, signed_at, type_at, block_type_at, take_at, utf8_at, name_at}
use Rattle.std.specs.Prelude.{nat_lt}
use Rattle.std.proofs.lemmas.Bool.{le-ltb, lt-ltb, ne_eqb}
use Rattle.std.proofs.lemmas.Nat.{pow-add}
use Rattle.std.proofs.Math.Nat.{pow-le-pow_right}
use Rattle.wasm_reader.proofs.Ends.{ok_is}
use Rattle.std.proofs.lemmas.Str.{is_utf8-from_IsUtf8, IsUtf8-from_is_utf8}
use Rattle.std.specs.Str.{IsUtf8, is_utf8}
use Rattle.std.specs.Str.Lossy.{utf8_valid_len}
use Rattle.wasm_tree.specs.declared.module.ValType.{ValType}
use Rattle.wasm_tree.specs.declared.module.ValType.TheVariants.{I32, I64}
use Rattle.wasm_tree.specs.Spelled.{type_byte}

-- a failure of the first step is one of the whole
pub fails-first : {A B : Type 0} {whole total : Result B Fault} (e : ReadFail) (r : Result A Fault) (k : A → Result B Fault) → whole ≡ (r >>= k) → Fails e r → whole ≡ total → Fails e total
fails-first fail.NoMemory r k is h so_far = tt
fails-first (fail.Fault x) r k is h so_far = sym so_far ∙ is ∙ ap (λ (s : Result _ Fault). s >>= k) h

-- what was read before, and what is still read
abbrev pub with_front : {A : Type 0} → List A → Result (List A × List ℕ) Fault → Result (List A × List ℕ) Fault
with_front front read = read >>= λ x. Ok (front ++ x.0, x.1)

pub front-ends : {A B : Type 0} {whole total : Result (List A × List ℕ) Fault} (e : ReadFail) (front : List A) (r : Result B Fault) (k : B → Result (List A × List ℕ) Fault) → whole ≡ (r >>= k) → Fails e r → with_front front whole ≡ total → Fails e total
front-ends fail.NoMemory front r k is h so_far = tt
front-ends (fail.Fault x) front r k is h so_far = sym so_far ∙ ap (λ (w : Result _ Fault). with_front front w) is ∙ ap (λ (s : Result _ Fault). with_front front (s >>= k)) h

pub front-goes_on : {A : Type 0} {whole total : Result (List A × List ℕ) Fault} (front : List A) (x : A) (rest : Result (List A × List ℕ) Fault) → whole ≡ (rest >>= λ others. Ok (x ∷ others.0, others.1)) → with_front front whole ≡ total → with_front (front ++ x ∷ []) rest ≡ total
front-goes_on {A} front x rest is so_far = sym (regroup rest) ∙ ap (λ (w : Result _ Fault). with_front front w) (sym is) ∙ so_far where
  regroup : (read : Result (List A × List ℕ) Fault) → with_front front (read >>= λ others. Ok (x ∷ others.0, others.1)) ≡ with_front (front ++ x ∷ []) read
  regroup (Ok y) = ap (λ (ns : List A). let r : Result (List A × List ℕ) Fault = Ok (ns, y.1) in r) (simp append_assoc)
  regroup (Err f) = refl

pub front-is_done : {A : Type 0} {whole total : Result (List A × List ℕ) Fault} (front : List A) (bytes : List ℕ) → whole ≡ Ok ([], bytes) → with_front front whole ≡ total → total ≡ Ok (front, bytes)
front-is_done {A} front bytes is so_far = sym so_far ∙ ap (λ (w : Result _ Fault). with_front front w) is ∙ ap (λ (ns : List A). let r : Result (List A × List ℕ) Fault = Ok (ns, bytes) in r) (append-nil front)

pub front-begins : {A : Type 0} (r : Result (List A × List ℕ) Fault) → with_front [] r ≡ r
front-begins (Ok x) = refl
front-begins (Err f) = refl

-- ---- each loop, one step further

pub each-step : {A : Type 0} (f : Reader A) (count i : ℕ) (bytes : List ℕ) → i < count → each_at f (count - i) bytes ≡ (f bytes >>= λ first. each_at f (count - (i + 1)) first.1 >>= λ others. Ok (first.0 ∷ others.0, others.1))
unfolding each_at
each-step f count i bytes lt = let k : count - i ≡ suc (count - (i + 1)) = omega arith in rw k refl

pub each-last : {A : Type 0} (f : Reader A) (count i : ℕ) (bytes : List ℕ) → count ≤ i → each_at f (count - i) bytes ≡ Ok ([], bytes)
unfolding each_at
each-last f count i bytes le = let k : count - i ≡ 0 = omega arith in rw k refl

pub runs-step : (count i before : ℕ) (bytes : List ℕ) → i < count → runs_from (count - i) before bytes ≡ (locals_at before bytes >>= λ run. runs_from (count - (i + 1)) (before + run.0.count) run.1 >>= λ others. Ok (run.0 ∷ others.0, others.1))
unfolding runs_from
runs-step count i before bytes lt = let k : count - i ≡ suc (count - (i + 1)) = omega arith in rw k refl

pub runs-last : (count i before : ℕ) (bytes : List ℕ) → count ≤ i → runs_from (count - i) before bytes ≡ Ok ([], bytes)
unfolding runs_from
runs-last count i before bytes le = let k : count - i ≡ 0 = omega arith in rw k refl

pub code-step : (count i : ℕ) (arms : List Bool) (bytes : List ℕ) → i < count
    → code_from (count - i) arms bytes ≡ (next_at arms bytes >>= λ i'. cond (eqb (length i'.0.1) 0) (Ok (i'.0.0 ∷ [], i'.1)) (code_from (count - (i + 1)) i'.0.1 i'.1 >>= λ more. Ok (i'.0.0 ∷ more.0, more.1)))
unfolding code_from
code-step count i arms bytes lt = let k : count - i ≡ suc (count - (i + 1)) = omega arith in rw k refl

pub code-last : (count i : ℕ) (arms : List Bool) (bytes : List ℕ) → count ≤ i → code_from (count - i) arms bytes ≡ Err (at rule.Size 0)
unfolding code_from
code-last count i arms bytes le = let k : count - i ≡ 0 = omega arith in rw k refl

pub customs-step : (count i : ℕ) (found : Found) (bytes : List ℕ) → i < count
    → customs_at (count - i) found bytes ≡ choice (behind_id 0 bytes) (Ok (found, bytes)) (λ contents. filled_at custom_at contents >>= λ c. customs_at (count - (i + 1)) (with_custom c.0 found) c.1)
unfolding customs_at
customs-step count i found bytes lt = let k : count - i ≡ suc (count - (i + 1)) = omega arith in rw k refl

pub customs-last : (count i : ℕ) (found : Found) (bytes : List ℕ) → count ≤ i → customs_at (count - i) found bytes ≡ Ok (found, bytes)
unfolding customs_at
customs-last count i found bytes le = let k : count - i ≡ 0 = omega arith in rw k refl

pub header-step : (dues : List ℕ) (i : ℕ) (bytes : List ℕ) → i < length dues → header_at (drop i dues) bytes ≡ (header_byte_at (get_or dues i 0) bytes >>= λ rest. header_at (drop (i + 1) dues) rest)
unfolding header_at
header-step dues i bytes lt = rw (drop-cons dues i 0 lt, add-one) refl

pub header-last : (dues : List ℕ) (i : ℕ) (bytes : List ℕ) → length dues ≤ i → header_at (drop i dues) bytes ≡ Ok bytes
unfolding header_at
header-last dues i bytes le = rw (nil_from_length (drop i dues) (omega (arith, length-drop i dues))) refl

pub byte_is : (bytes : List ℕ) (b : ℕ) (rest : List ℕ) → byte_at bytes ≡ Ok (b, rest) → bytes ≡ b ∷ rest
unfolding byte_at
byte_is [] b rest e = absurd cc
byte_is (x ∷ xs) b rest e = let p = ok_is (x, xs) (b, rest) e in cc (ap (λ (q : ℕ × List ℕ). q.0) p, ap (λ (q : ℕ × List ℕ). q.1) p)

-- seven more bits
pub seven : (bits : ℕ) → 7 ≤ bits → 2 ^ bits ≡ 128 * 2 ^ (bits - 7)
seven bits le =
    let e : bits ≡ 7 + (bits - 7) = omega arith in
    ap (λ (n : ℕ). 2 ^ n) e ∙ pow-add 2 7 (bits - 7)

pub half : (bits : ℕ) → 7 < bits → 2 ^ (bits - 1) ≡ 128 * 2 ^ (bits - 7 - 1)
half bits lt =
    let e : bits - 1 - 7 ≡ bits - 7 - 1 = omega arith in
    seven (bits - 1) (omega arith) ∙ ap (λ (n : ℕ). 128 * 2 ^ n) e

-- seven bits fit in more than six
pub fits_seven : (a bits : ℕ) → a < 128 → 6 < bits → nat_lt a (2 ^ bits) ≡ true
fits_seven a bits lt h =
    let some : 0 < 2 = omega arith in
    let le : 7 ≤ bits = omega arith in
    let e : 2 ^ 7 ≤ 2 ^ bits = pow-le-pow_right {n = 2} some {i = 7} {j = bits} le in
    lt-ltb a (2 ^ bits) (omega (arith, e))

pub high_small : (low high bits : ℕ) → low < 128 → 7 < bits → high < 2 ^ (bits - 7) → low + 128 * high < 2 ^ bits
high_small low high bits a b c = omega (arith, seven bits (omega arith))

pub word : (bits most : ℕ) → bits ≤ most → 2 ^ bits ≤ 2 ^ most
word bits most le = let some : 0 < 2 = omega arith in pow-le-pow_right {n = 2} some {i = bits} {j = most} le

-- ---- a number of any kind

pub number-no_byte : {A : Type 0} (last : ℕ → ℕ → Option A) (more : ℕ → A → A) (e : ReadFail) (start bits : ℕ) (bytes : List ℕ) → Fails e (byte_at bytes) → Fails e (number_from last more start bits bytes)
unfolding byte_at number_from
number-no_byte last more fail.NoMemory start bits bytes h = tt
number-no_byte last more (fail.Fault f) start bits [] h = ap (λ (r : Result (ℕ × List ℕ) Fault). r >>= λ _. Err (at rule.Size 0)) h
number-no_byte last more (fail.Fault f) start bits (b ∷ rest) h = absurd cc

pub number-last : {A : Type 0} (last : ℕ → ℕ → Option A) (more : ℕ → A → A) (start bits : ℕ) (bytes : List ℕ) (b : ℕ) (rest : List ℕ) → byte_at bytes ≡ Ok (b, rest) → b < 128
    → number_from last more start bits bytes ≡ (or_fault (at rule.Number start) (last bits b) >>= λ z. Ok (z, rest))
unfolding number_from
number-last last more start bits bytes b rest e low = rw (byte_is bytes b rest e, lt-ltb b 128 low) refl

pub number-long : {A : Type 0} (last : ℕ → ℕ → Option A) (more : ℕ → A → A) (start bits : ℕ) (bytes : List ℕ) (b : ℕ) (rest : List ℕ) → byte_at bytes ≡ Ok (b, rest) → 128 ≤ b → bits ≤ 7 → number_from last more start bits bytes ≡ Err (at rule.Number start)
unfolding number_from
number-long last more start bits bytes b rest e high le = rw (byte_is bytes b rest e, le-ltb b 128 high, le-ltb 7 bits le) refl

pub number-more : {A : Type 0} (last : ℕ → ℕ → Option A) (more : ℕ → A → A) (start bits : ℕ) (bytes : List ℕ) (b : ℕ) (rest : List ℕ) → byte_at bytes ≡ Ok (b, rest) → 128 ≤ b → b < 256 → 7 < bits
    → number_from last more start bits bytes ≡ (number_from last more start (bits - 7) rest >>= λ high. Ok (more b high.0, high.1))
unfolding number_from
number-more last more start bits bytes b rest e high byte lt = rw (byte_is bytes b rest e, le-ltb b 128 high, lt-ltb 7 bits lt, lt-ltb b 256 byte) refl

-- ---- a number of one byte

pub index-short : (bytes : List ℕ) (b : ℕ) (rest : List ℕ) → bytes ≡ b ∷ rest → b < 128 → index_at bytes ≡ Ok (b, rest)
unfolding index_at number_from
index-short bytes b rest w low = rw (w, lt-ltb b 128 low, fits_seven b 32 low (omega arith)) refl

on_true : {A : Type 0} (t : Bool) (x y : A) → t ≡ true → cond t x y ≡ x
on_true true x y e = refl
on_true false x y e = absurd cc

pub value_is : (y z : ℤ) (rest : List ℕ) → y ≡ z → (let r : Result (ℤ × List ℕ) Fault = Ok (y, rest) in r) ≡ Ok (z, rest)
value_is y z rest e = cc

pub signed-short : (bits : ℕ) (bytes : List ℕ) (b : ℕ) (rest : List ℕ) (byte value : ℤ) → 7 < bits → bytes ≡ b ∷ rest → b < 128 → byte ≡ signed_byte b → byte ≡ value → signed_at bits bytes ≡ Ok (value, rest)
unfolding signed_at number_from
signed-short bits bytes b rest byte value more w low is e =
    rw w (on_true _ _ _ (lt-ltb b 128 low) ∙ rw (fits_seven (cond (nat_lt b 64) b (127 - b)) (bits - 1) (small (nat_lt b 64)) (omega arith)) (value_is (signed_byte b) value rest (sym is ∙ e))) where
      small : (t : Bool) → cond t b (127 - b) < 128
      small true = low
      small false = omega arith

-- what a last byte stands for is what is read
pub gives-last : {A : Type 0} (result : Result A ReadFail) (r : Result A Fault) (rest : List ℕ) → Gives (λ x. x) result r → Gives {Y = A × List ℕ} (λ x. (x, rest)) result (r >>= λ z. Ok (z, rest))
gives-last {A} (Ok x) r rest h = ap (λ (s : Result A Fault). s >>= λ z. let o : Result (A × List ℕ) Fault = Ok (z, rest) in o) h
gives-last (Err fail.NoMemory) r rest h = tt
gives-last {A} (Err (fail.Fault f)) r rest h = ap (λ (s : Result A Fault). s >>= λ z. let o : Result (A × List ℕ) Fault = Ok (z, rest) in o) h

pub no_utf8 : (text : List ℕ) → ¬ (IsUtf8 text) → is_utf8 text ≡ false
no_utf8 text h = tested (is_utf8 text) (λ e. h (IsUtf8-from_is_utf8 text e)) where
  tested : (b : Bool) → (b ≡ true → ⊥) → b ≡ false
  tested true h = absurd (h refl)
  tested false h = refl

pub name-gives : (bytes : List ℕ) (n : ℕ) (rest text after name : List ℕ) → index_at bytes ≡ Ok (n, rest) → take_at n rest ≡ Ok (text, after) → name ≡ text → IsUtf8 text → name_at bytes ≡ Ok (name, after)
unfolding name_at utf8_at
name-gives bytes n rest text after name e t is utf8 = rw (is, e, t, is_utf8-from_IsUtf8 text utf8) refl

pub name-ill : (bytes : List ℕ) (n : ℕ) (rest text after : List ℕ) → index_at bytes ≡ Ok (n, rest) → take_at n rest ≡ Ok (text, after) → ¬ (IsUtf8 text) → name_at bytes ≡ Err (at rule.Text (length rest - utf8_valid_len text))
unfolding name_at utf8_at
name-ill bytes n rest text after e t ill = rw (e, t, no_utf8 text ill) refl

-- no type is known by the byte
pub type-none : (bytes : List ℕ) (b : ℕ) (rest : List ℕ) → byte_at bytes ≡ Ok (b, rest) → ((t : ValType) → ¬ (type_byte t ≡ b)) → type_at bytes ≡ Err (at rule.Opcode (length bytes))
unfolding type_at
type-none bytes b rest e none = rw (e, ne_eqb b 0x7F (λ is. none I32 (sym is)), ne_eqb b 0x7E (λ is. none I64 (sym is))) refl

pub block_type-none : (bytes : List ℕ) (b : ℕ) (rest : List ℕ) → byte_at bytes ≡ Ok (b, rest) → ¬ (b ≡ 0x40) → ((t : ValType) → ¬ (type_byte t ≡ b)) → block_type_at bytes ≡ Err (at rule.Opcode (length bytes))
unfolding block_type_at
block_type-none bytes b rest e apart none = rw (e, ne_eqb b 0x40 apart, type-none bytes b rest e none) refl
