-- Lists and sizes behind their counts, texts, names and custom sections.
use Rattle.std.proofs.Common.{◌≡◌, ℕ, ◌-◌, ◌≤◌, false, ltb, List, [], ◌++◌, length, take, drop, Ok, refl, sym, ap, ◌∙◌, arith, ◌⊎◌, inl, inr}
use Rattle.std.specs.Str.{IsUtf8, is_utf8}
use Rattle.std.specs.Str.Lossy.{utf8_valid_len}
use Rattle.std.proofs.lemmas.Bool.{ltb-true, ltb-false, le-ltb}
use Rattle.std.proofs.lemmas.List.{take_at as take_at_front, drop_at, take-append-drop, length-append, length-take, append-nil}
use Rattle.std.proofs.lemmas.Str.{is_utf8-from_IsUtf8, IsUtf8-from_is_utf8}
use Rattle.wasm_tree.specs.declared.failure.ModuleRule.{ModuleRule}
use Rattle.wasm_tree.specs.declared.failure.ModuleRule.TheVariants as rule
use Rattle.wasm_tree.specs.Spelled.{Vector, Sized, Text, Utf8Text, Custom_contents}
use Rattle.wasm_reader.specs.Fault.{NoVector, NoneSized, TooShort, IllFormed, NoText, NoName}
use Rattle.wasm_reader.specs.Reading.{at, Reader, vector_at, filled_at, take_at, text_at, utf8_at, name_at, custom_at}
use Rattle.wasm_reader.proofs.Ends.{with_value, with_fault, step, by_test}
use Rattle.wasm_reader.proofs.Readers.{Reads, Fills, broken-as, behind, then-reads, as-reads, counted-reads, sized-reads}
use Rattle.wasm_reader.proofs.NumberLaws.{index-reads}

pub vector-reads : {A : Type 0} {P : A → List ℕ → Type 0} {F : ModuleRule → ℕ → List ℕ → Type 0} {f : Reader A} → Reads P F f → Reads (Vector P) (NoVector P F) (vector_at f)
unfolding vector_at
vector-reads rf = counted-reads index-reads rf

pub filled-reads : {A : Type 0} {P : A → List ℕ → Type 0} {F : ModuleRule → ℕ → List ℕ → Type 0} {f : Reader A} → Fills P F f → Reads (λ x. Sized (P x)) (NoneSized P F) (filled_at f)
unfolding filled_at
filled-reads rf = sized-reads index-reads rf

-- so many bytes
abbrev IsOf : ℕ → List ℕ → List ℕ → Type 0
IsOf n text bytes = (length text ≡ n) × (bytes ≡ text)

take-reads : (n : ℕ) → Reads (IsOf n) (TooShort n) (take_at n)
unfolding take_at
take-reads n = record {
  ends = λ bytes. by_test (ltb (length bytes) n) (λ p. with_fault (at rule.Size 0) (record { fails = (refl, refl, ltb-true _ _ p); within = omega arith }))
      (λ p.
      let le : n ≤ length bytes = ltb-false _ _ p in
      with_value (take n bytes, drop n bytes) (record { front = take n bytes; whole = sym (take-append-drop n bytes); spelled = (omega (arith, length-take n bytes), refl) }));
  again = λ text front rest h.
      let short : ltb (length (text ++ rest)) n ≡ false = le-ltb _ _ (omega (arith, length-append text rest, h.0)) in
      rw (h.1, short, take_at_front text rest n h.0, drop_at text rest n h.0) refl;
}

pub text-reads : Reads Text NoText text_at
unfolding text_at
text-reads =
    as-reads (then-reads index-reads (λ whole n. take-reads n)) (λ text bytes h. record { front = h.1.front; back = h.1.back; whole = h.1.whole; first = rw h.1.second.0 h.1.first; second = h.1.second.1 })
    (λ text bytes h. (length text, behind h (refl, h.second))) (λ r left bytes h. h)

no_text : (text : List ℕ) → is_utf8 text ≡ false → IsUtf8 text → ⊥
no_text text e h = absurd (cc (is_utf8-from_IsUtf8 text h))

utf8-reads : (n : ℕ) → Reads (λ text bytes. IsOf n text bytes × IsUtf8 text) (λ r left bytes. TooShort n r left bytes ⊎ IllFormed n r left bytes) (utf8_at n)
unfolding utf8_at
utf8-reads n = record {
  ends = λ bytes.
      step (take_at n bytes) ((take-reads n).ends bytes) (λ x b. broken-as b (λ h. inl h)) (λ y t.
      let le : n ≤ length bytes = omega (arith, t.spelled.0, ap length t.whole, ap length t.spelled.1, length-append t.front y.1) in
      let text : take n bytes ≡ y.0 = ap (take n) (t.whole ∙ ap (λ (l : List ℕ). l ++ y.1) t.spelled.1) ∙ take_at_front y.0 y.1 n t.spelled.0 in
      by_test (is_utf8 y.0) (λ p. with_value y (record { front = t.front; whole = t.whole; spelled = (t.spelled, IsUtf8-from_is_utf8 y.0 p) }))
      (λ p.
      with_fault (at rule.Text (length bytes - utf8_valid_len y.0))
      (record { fails = inr (refl, le, rw text (no_text y.0 p), rw text refl); within = omega arith })));
  again = λ text front rest h. rw ((take-reads n).again text front rest h.0, is_utf8-from_IsUtf8 text h.1) refl;
}

pub name-reads : Reads Utf8Text NoName name_at
unfolding name_at
name-reads =
    as-reads (then-reads index-reads (λ whole n. utf8-reads n))
    (λ text bytes h. record { spelled = record { front = h.1.front; back = h.1.back; whole = h.1.whole; first = rw h.1.second.0.0 h.1.first; second = h.1.second.0.1 }; utf8 = h.1.second.1 })
    (λ text bytes h. (length text, behind h.spelled ((refl, h.spelled.second), h.utf8))) (λ r left bytes h. h)

-- a custom section takes all bytes
pub custom-fills : Fills Custom_contents NoName custom_at
unfolding custom_at
custom-fills = record {
  ends = λ bytes.
      step (name_at bytes) (name-reads.ends bytes) (λ x b. b)
      (λ n t. with_value (record { name = n.0; bytes = n.1 }, []) (record { front = bytes; whole = sym (append-nil bytes); spelled = record { front = t.front; back = n.1; whole = t.whole; first = t.spelled; second = refl } }));
  again = λ x bytes h.
      let one : name_at bytes ≡ Ok (x.name, x.bytes) = ap name_at (h.whole ∙ ap (λ (l : List ℕ). h.front ++ l) h.second) ∙ name-reads.again x.name h.front x.bytes h.first in
      rw one refl;
}
