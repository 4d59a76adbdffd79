-- Parts of the binary format are prefix codes: where bytes begin with a spelling, what is spelled and the bytes behind
-- it are determined. So a longer part has one meaning at most where its parts have.
use Rattle.std.proofs.Common.{◌≡◌, ℕ, ◌-◌, ◌<◌, List, [], ◌∷◌, ◌++◌, length, refl, sym, ap, ◌∙◌, append_assoc, arith, ℤ, pos, inl, inr}
use Rattle.std.specs.Prelude.{map}
use Rattle.std.proofs.lemmas.Int.{ints}
use Rattle.wasm_tree.specs.Spelled.{Joined, Is, Begins, Each, Unsigned, Signed, SignedLast, Vector, Text, Utf8Text}

-- of two bytes sequences that are equal and begin with spellings by P, the views of what is spelled are equal, and so
-- are the bytes behind
abbrev pub IsCode : {A B : Type 0} → (A → B) → (A → List ℕ → Type 0) → Type 0
IsCode {A} {B} view P = (x y : A) (f g r s : List ℕ) → P x f → P y g → f ++ r ≡ g ++ s → (view x ≡ view y) × (r ≡ s)

-- and nothing is left out of the view
abbrev pub IsPrefixCode : {A : Type 0} → (A → List ℕ → Type 0) → Type 0
IsPrefixCode {A} P = IsCode {A = A} {B = A} (λ x. x) P

-- ---- one part behind another

-- the second part of joined bytes, with what is behind it, is behind the first
pub behind : {P Q P' Q' : List ℕ → Type 0} {f g : List ℕ} (p : Joined P Q f) (q : Joined P' Q' g) (r s : List ℕ) → f ++ r ≡ g ++ s → p.front ++ (p.back ++ r) ≡ q.front ++ (q.back ++ s)
behind p q r s e =
    sym (append_assoc p.front p.back r) ∙ (sym (ap (λ (l : List ℕ). l ++ r) p.whole) ∙ (e ∙ (ap (λ (l : List ℕ). l ++ s) q.whole ∙ append_assoc q.front q.back s)))

pub joined_code : {A B C D : Type 0} (u : A → C) (v : B → D) (P : A → List ℕ → Type 0) (Q : B → List ℕ → Type 0) → IsCode u P → IsCode v Q →
    (x x' : A) (y y' : B) (f g r s : List ℕ) → Joined (P x) (Q y) f → Joined (P x') (Q y') g → f ++ r ≡ g ++ s → (u x ≡ u x') × (v y ≡ v y') × (r ≡ s)
joined_code u v P Q first second x x' y y' f g r s p q e =
    let a = first x x' p.front q.front (p.back ++ r) (q.back ++ s) p.first q.first (behind p q r s e) in
    let b = second y y' p.back q.back r s p.second q.second a.1 in
    (a.0, b.0, b.1)

-- bytes of the same length in front
pub front_same : {A : Type 0} (f g r s : List A) → length f ≡ length g → f ++ r ≡ g ++ s → (f ≡ g) × (r ≡ s)
front_same [] [] r s l e = (refl, e)
front_same [] (y ∷ g) r s l e = absurd (omega (arith, l))
front_same (x ∷ f) [] r s l e = absurd (omega (arith, l))
front_same (x ∷ f) (y ∷ g) r s l e =
    let head : x ≡ y = cc in
    let tail : f ++ r ≡ g ++ s = cc in
    let lengths : length f ≡ length g = omega (arith, l) in
    let rest = front_same f g r s lengths tail in
    (cc (head, rest.0), rest.1)

-- a byte that is determined by what is spelled
pub byte_code : {A : Type 0} (b : A → ℕ) → IsCode b (λ x. Is (b x ∷ []))
byte_code b x y f g r s p q e = let h : b x ∷ r ≡ b y ∷ s = sym (ap (λ (l : List ℕ). l ++ r) p) ∙ (e ∙ ap (λ (l : List ℕ). l ++ s) q) in (cc h, cc h)

-- a byte that is always the same
pub begins_code : {A B : Type 0} (byte : ℕ) (view : A → B) (P : A → List ℕ → Type 0) → IsCode view P → IsCode view (λ x. Begins byte (P x))
begins_code byte view P code x y f g r s p q e =
    let a = joined_code {A = ℕ} (λ b. b) view (λ b. Is (b ∷ [])) P (byte_code (λ b. b)) code byte byte x y f g r s p q e in
    (a.1, a.2)

-- ---- numbers

pub unsigned_code : (bits : ℕ) → IsPrefixCode (Unsigned bits)
unsigned_code bits n m [] g r s p q e = absurd p
unsigned_code bits n m (b ∷ f) [] r s p q e = absurd q
unsigned_code bits n m (b ∷ []) (d ∷ []) r s p q e =
    let same : b ≡ d = cc in
    let rest : r ≡ s = cc in
    (omega (arith, p.2, q.2, same), rest)
unsigned_code bits n m (b ∷ []) (d ∷ k ∷ g) r s p q e = let same : b ≡ d = cc in absurd (omega (arith, p.0, q.0, same))
unsigned_code bits n m (b ∷ c ∷ f) (d ∷ []) r s p q e = let same : b ≡ d = cc in absurd (omega (arith, p.0, q.0, same))
unsigned_code bits n m (b ∷ c ∷ f) (d ∷ k ∷ g) r s p q e =
    let same : b ≡ d = cc in
    let tails : (c ∷ f) ++ r ≡ (k ∷ g) ++ s = cc in
    let high = unsigned_code (bits - 7) p.3 q.3 (c ∷ f) (k ∷ g) r s p.5 q.5 tails in
    (omega (arith, p.4, q.4, same, high.0), high.1)

last_code : (bits : ℕ) (z y : ℤ) (b d : ℕ) → SignedLast bits z b → SignedLast bits y d → b ≡ d → z ≡ y
last_code bits z y b d (inl p) (inl q) same = p.2 ∙ (ap pos same ∙ sym q.2)
last_code bits z y b d (inl p) (inr q) same = absurd (omega (arith, p.0, q.0, same))
last_code bits z y b d (inr p) (inl q) same = absurd (omega (arith, p.0, q.0, same))
last_code bits z y b d (inr p) (inr q) same = omega (arith, ints, p.3, q.3, same)

last_small : (bits : ℕ) (z : ℤ) (b : ℕ) → SignedLast bits z b → b < 128
last_small bits z b (inl p) = omega (arith, p.0)
last_small bits z b (inr p) = p.1

pub signed_code : (bits : ℕ) → IsPrefixCode (Signed bits)
signed_code bits z y [] g r s p q e = absurd p
signed_code bits z y (b ∷ f) [] r s p q e = absurd q
signed_code bits z y (b ∷ []) (d ∷ []) r s p q e =
    let same : b ≡ d = cc in
    let rest : r ≡ s = cc in
    (last_code bits z y b d p q same, rest)
signed_code bits z y (b ∷ []) (d ∷ k ∷ g) r s p q e = let same : b ≡ d = cc in absurd (omega (arith, last_small bits z b p, q.0, same))
signed_code bits z y (b ∷ c ∷ f) (d ∷ []) r s p q e = let same : b ≡ d = cc in absurd (omega (arith, last_small bits y d q, p.0, same))
signed_code bits z y (b ∷ c ∷ f) (d ∷ k ∷ g) r s p q e =
    let same : b ≡ d = cc in
    let tails : (c ∷ f) ++ r ≡ (k ∷ g) ++ s = cc in
    let high = signed_code (bits - 7) p.3 q.3 (c ∷ f) (k ∷ g) r s p.5 q.5 tails in
    (omega (arith, ints, p.4, q.4, same, high.0), high.1)

-- ---- lists

pub each_code : {A B : Type 0} (view : A → B) (P : A → List ℕ → Type 0) → IsCode view P → (xs ys : List A) (f g r s : List ℕ) → length xs ≡ length ys →
    Each P xs f → Each P ys g → f ++ r ≡ g ++ s → (map view xs ≡ map view ys) × (r ≡ s)
each_code view P code [] [] f g r s l p q e =
    let nothing : f ++ r ≡ r = ap (λ (b : List ℕ). b ++ r) p in
    let nothing' : g ++ s ≡ s = ap (λ (b : List ℕ). b ++ s) q in
    (refl, sym nothing ∙ (e ∙ nothing'))
each_code view P code [] (y ∷ ys) f g r s l p q e = absurd (omega (arith, l))
each_code view P code (x ∷ xs) [] f g r s l p q e = absurd (omega (arith, l))
each_code view P code (x ∷ xs) (y ∷ ys) f g r s l p q e =
    let lengths : length xs ≡ length ys = omega (arith, l) in
    let a = code x y p.front q.front (p.back ++ r) (q.back ++ s) p.first q.first (behind p q r s e) in
    let b = each_code view P code xs ys p.back q.back r s lengths p.second q.second a.1 in
    (cc (a.0, b.0), b.1)

pub vector_code : {A B : Type 0} (view : A → B) (P : A → List ℕ → Type 0) → IsCode view P → IsCode (map view) (Vector P)
vector_code view P code xs ys f g r s p q e =
    let a = unsigned_code 32 (length xs) (length ys) p.front q.front (p.back ++ r) (q.back ++ s) p.first q.first (behind p q r s e) in
    each_code view P code xs ys p.back q.back r s a.0 p.second q.second a.1

pub text_code : IsPrefixCode Text
text_code t u f g r s p q e =
    let a = unsigned_code 32 (length t) (length u) p.front q.front (p.back ++ r) (q.back ++ s) p.first q.first (behind p q r s e) in
    front_same t u r s a.0 (sym (ap (λ (b : List ℕ). b ++ r) p.second) ∙ (a.1 ∙ ap (λ (b : List ℕ). b ++ s) q.second))

pub utf8_code : IsPrefixCode Utf8Text
utf8_code t u f g r s p q e = text_code t u f g r s p.spelled q.spelled e
