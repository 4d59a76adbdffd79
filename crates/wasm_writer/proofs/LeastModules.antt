-- No spelling of a module is shorter than its shortest one, and what is spelled can be written.
use Rattle.std.proofs.Common.{◌≡◌, ℕ, ◌+◌, ◌<◌, ◌≤◌, ◌^◌, Bool, true, false, cond, eqb, not, List, [], ◌∷◌, ◌++◌, length, Option, Some, None, refl, sym, ap, subst, ◌∙◌, arith, inl, inr}
use Rattle.std.specs.Prelude.{MatchOption, filter}
use Rattle.std.specs.List.{flat_map, AllByRecursion}
use Rattle.std.proofs.lemmas.Bool.{cases_Bool, cases_eq, eq-eqb, ne_eqb}
use Rattle.std.proofs.lemmas.List.{length-append, append-nil}
use Rattle.std.proofs.lemmas.List.Elements.{All-from_recursion, filter-append}
use Rattle.std.proofs.lemmas.List.Concat.{flat_map-append}
use Rattle.wasm_tree.specs.declared.module.Custom.{Custom}
use Rattle.wasm_tree.specs.declared.module.Module.{Module}
use Rattle.wasm_tree.specs.Spelled.{Each, Index, Vector, Raw, RawSection, contents_of, Custom_contents, CustomsAre, sorted_customs, header, Type_of_function, Imported, Memory, Global, IsConstant, Exported, Body, Data, Spelled}
use Rattle.wasm_tree.specs.Valid.{IsBodyWithinLimits}
use Rattle.wasm_writer.specs.Spelling.{unsigned_bytes, vector_bytes, function_type_bytes, import_bytes, memory_bytes, global_bytes, export_bytes, body_bytes, segment_bytes, custom_contents, custom_bytes, spelling, IsWritable}
use Rattle.wasm_writer.proofs.CustomLemmas.{named}
use Rattle.wasm_writer.proofs.Numbers.{unsigned_end}
use Rattle.wasm_writer.proofs.SectionLemmas.{listed, OptionalSection, raw_bytes, bytes_of, IsRising}
use Rattle.wasm_writer.proofs.ModuleLemmas.{sections_of, is_rising, spelling_parts}
use Rattle.wasm_writer.proofs.LeastParts.{Least, begins_least, text_least, vector_least, index_least, function_type_least, import_least, memory_least, global_least, export_least, body_least, segment_least, custom_least}

-- ---- how many bytes the sections of sections take

total : List OptionalSection → ℕ
total [] = 0
total (section ∷ sections) = length (raw_bytes section.0 section.1) + total sections

length-bytes_of : (sections : List OptionalSection) (after : List ℕ) → length (bytes_of sections after) ≡ total sections + length after
unfolding total
length-bytes_of [] after = omega arith
length-bytes_of (section ∷ sections) after = omega (arith, length-append (raw_bytes section.0 section.1) (bytes_of sections after), length-bytes_of sections after)

-- the sections without the section of this id
without : ℕ → List OptionalSection → List OptionalSection
without id [] = []
without id (section ∷ sections) = (section.0, cond (eqb id section.0) None section.1) ∷ without id sections

without_rising : (id before : ℕ) (sections : List OptionalSection) → IsRising before sections → IsRising before (without id sections)
unfolding without
without_rising id before [] h = tt
without_rising id before (section ∷ sections) h = (h.0, h.1, without_rising id section.0 sections h.2)

-- an id before all of them takes none away
without_none : (id before : ℕ) (sections : List OptionalSection) → id ≤ before → IsRising before sections → total (without id sections) ≡ total sections
unfolding without total
without_none id before [] le h = refl
without_none id before (section ∷ sections) le h =
    let other : eqb id section.0 ≡ false = ne_eqb id section.0 (λ e. omega (arith, e, le, h.0)) in
    let rest = without_none id section.0 sections (omega (arith, le, h.0)) h.2 in
    rw (other, rest) refl

-- ---- what sections have is no shorter than what the sections need

Covers : Option (List ℕ) → Option (List ℕ) → Type 0
Covers contents None = Unit {0}
Covers None (Some needed) = ⊥
Covers (Some contents) (Some needed) = length needed ≤ length contents

covers_none : (o : Option (List ℕ)) → Covers o None
unfolding Covers
covers_none o = tt

IsCovered : List Raw → List OptionalSection → Type 0
IsCovered raws sections = AllByRecursion (λ section. Covers (contents_of section.0 raws) section.1) sections

needs_none : (id : ℕ) (o : Option (List ℕ)) → Covers None o → length (raw_bytes id o) ≡ 0
unfolding Covers
needs_none id None h = refl
needs_none id (Some needed) h = absurd h

covered_none : (sections : List OptionalSection) → IsCovered [] sections → total sections ≡ 0
unfolding IsCovered total
covered_none [] h = refl
covered_none (section ∷ sections) h = omega (arith, covered_none sections h.1, needs_none section.0 section.1 h.0)

covered_rest : (raw : Raw) (raws : List Raw) (sections : List OptionalSection) → IsCovered (raw ∷ raws) sections → IsCovered raws (without raw.id sections)
unfolding IsCovered without
covered_rest raw raws [] h = tt
covered_rest raw raws (section ∷ sections) h =
    let here : Covers (contents_of section.0 raws) (cond (eqb raw.id section.0) None section.1) =
    elim (cases_Bool (eqb raw.id section.0)) [
      | inl yes' ↦ rw yes' (covers_none (contents_of section.0 raws))
      | inr other ↦ rw other (rw other at h.0)
    ] in
    (here, covered_rest raw raws sections h.1)

-- a section's bytes, and what the rest needs
section_covers : (raw : Raw) (front : List ℕ) (o : Option (List ℕ)) → RawSection raw front → Covers (Some raw.contents) o → length (raw_bytes raw.id o) ≤ length front
unfolding Covers
section_covers raw front None spelled h = omega arith
section_covers raw front (Some needed) spelled h = (begins_least raw.id (text_least needed raw.contents h)).le front spelled

total_without : (raw : Raw) (raws : List Raw) (front : List ℕ) (before : ℕ) (sections : List OptionalSection) → IsRising before sections → RawSection raw front → IsCovered (raw ∷ raws) sections → total sections ≤ length front + total (without raw.id sections)
unfolding IsCovered without total
total_without raw raws front before [] rising spelled h = omega arith
total_without raw raws front before (section ∷ sections) rising spelled h =
    elim (cases_eq raw.id section.0) [
      | inl e ↦
          let same = eq-eqb raw.id section.0 e in
          let covered : Covers (Some raw.contents) section.1 = rw same at h.0 in
          let within = section_covers raw front section.1 spelled covered in
          let within' : length (raw_bytes section.0 section.1) ≤ length front = subst (λ (id : ℕ). length (raw_bytes id section.1) ≤ length front) e within in
          let rest = without_none raw.id section.0 sections (omega (arith, e)) rising.2 in
          rw same (omega (arith, within', rest))
      | inr ne ↦
          let other = ne_eqb raw.id section.0 ne in
          let rest = total_without raw raws front section.0 sections rising.2 spelled h.1 in
          rw other (omega (arith, rest))
    ]

custom_covers : (raw : Raw) (front : List ℕ) (custom : Custom) → raw.id ≡ 0 → RawSection raw front → Custom_contents custom raw.contents → length (custom_bytes custom) ≤ length front
custom_covers raw front custom e spelled contents =
    (begins_least raw.id (text_least (custom_contents custom) raw.contents ((custom_least custom).le raw.contents contents))).le front spelled

sections_least : (raws : List Raw) (sections : List OptionalSection) (customs : List Custom) (bytes : List ℕ) → IsRising 0 sections → IsCovered raws sections → CustomsAre raws customs → Each RawSection raws bytes → total sections + length (flat_map custom_bytes customs) ≤ length bytes
sections_least [] sections customs bytes rising covered are spelled =
    let none : length (flat_map custom_bytes customs) ≡ 0 = rw are refl in
    omega (arith, covered_none sections covered, none)
sections_least (raw ∷ raws) sections [] bytes rising covered are spelled =
    let rest = sections_least raws (without raw.id sections) [] spelled.back (without_rising raw.id 0 sections rising) (covered_rest raw raws sections covered) are.1 spelled.second in
    omega (arith, rest, total_without raw raws spelled.front 0 sections rising spelled.first covered, ap length spelled.whole, length-append spelled.front spelled.back)
sections_least (raw ∷ raws) sections (custom ∷ customs) bytes rising covered (inl are) spelled =
    let rest = sections_least raws (without raw.id sections) customs spelled.back (without_rising raw.id 0 sections rising) (covered_rest raw raws sections covered) are.2 spelled.second in
    omega (arith, rest, without_none raw.id 0 sections (omega (arith, are.0)) rising, custom_covers raw spelled.front custom are.0 spelled.first are.1, ap length spelled.whole, length-append spelled.front spelled.back, length-append (custom_bytes custom) (flat_map custom_bytes customs))
sections_least (raw ∷ raws) sections (custom ∷ customs) bytes rising covered (inr are) spelled =
    let rest = sections_least raws (without raw.id sections) (custom ∷ customs) spelled.back (without_rising raw.id 0 sections rising) (covered_rest raw raws sections covered) are.1 spelled.second in
    omega (arith, rest, total_without raw raws spelled.front 0 sections rising spelled.first covered, ap length spelled.whole, length-append spelled.front spelled.back)

-- ---- custom sections in another order take as many bytes

kept_apart : {A : Type 0} (p : A → Bool) (part : A → List ℕ) (xs : List A) → length (flat_map part (filter (λ x. not (p x)) xs)) + length (flat_map part (filter p xs)) ≡ length (flat_map part xs)
kept_apart p part [] = refl
kept_apart p part (x ∷ xs) =
    let rest = kept_apart p part xs in
    elim (cases_Bool (p x)) [
      | inl e ↦ rw e (omega (arith, rest, length-append (part x) (flat_map part xs), length-append (part x) (flat_map part (filter p xs))))
      | inr e ↦ rw e (omega (arith, rest, length-append (part x) (flat_map part xs), length-append (part x) (flat_map part (filter (λ y. not (p y)) xs))))
    ]

sorted_length : (customs : List Custom) → length (flat_map custom_bytes (sorted_customs customs)) ≡ length (flat_map custom_bytes customs)
sorted_length customs =
    ap length (flat_map-append custom_bytes (filter (λ custom. not (named custom)) customs) (filter named customs))
    ∙ length-append (flat_map custom_bytes (filter (λ custom. not (named custom)) customs)) (flat_map custom_bytes (filter named customs))
    ∙ kept_apart named custom_bytes customs

-- ---- a module

listed_covered : {A : Type 0} (P : A → List ℕ → Type 0) (part : A → List ℕ) → ((x : A) → Least (P x) (part x)) → (o : Option (List ℕ)) (xs : List A) → MatchOption o (xs ≡ []) (Vector P xs) → Covers o (listed part xs)
unfolding Covers
listed_covered P part least o [] h = tt
listed_covered P part least None (x ∷ xs) h = absurd cc
listed_covered P part least (Some contents) (x ∷ xs) h = (vector_least P part least (x ∷ xs)).le contents h

places_covered : (bytes : List ℕ) (m : Module) (s : Spelled bytes m) → IsCovered s.raws (sections_of m)
unfolding IsCovered sections_of
places_covered bytes m s = (
  listed_covered Type_of_function function_type_bytes function_type_least (contents_of 1 s.raws) m.types s.types,
  (
    listed_covered Imported import_bytes import_least (contents_of 2 s.raws) m.imports s.imports,
    (
      listed_covered Index unsigned_bytes index_least (contents_of 3 s.raws) m.functions s.functions,
      (
        listed_covered Memory memory_bytes memory_least (contents_of 5 s.raws) m.memory s.memory,
        (
          listed_covered Global global_bytes global_least (contents_of 6 s.raws) m.globals s.globals,
          (
            listed_covered Exported export_bytes export_least (contents_of 7 s.raws) m.exports s.exports,
            (
              listed_covered Body body_bytes body_least (contents_of 10 s.raws) m.codes s.codes,
              (listed_covered Data segment_bytes segment_least (contents_of 11 s.raws) m.segments s.segments, tt),
            ),
          ),
        ),
      ),
    ),
  ),
)

length-spelling : (m : Module) → length (spelling m) ≡ 8 + (total (sections_of m) + length (flat_map custom_bytes m.customs))
length-spelling m =
    let after = flat_map custom_bytes m.customs in
    omega (arith, ap length (spelling_parts m), length-append header (bytes_of (sections_of m) after), length-bytes_of (sections_of m) after)

pub spelling_least : (bytes : List ℕ) (m : Module) → Spelled bytes m → length (spelling m) ≤ length bytes
spelling_least bytes m s =
    let sections = sections_least s.raws (sections_of m) s.found s.whole.back (is_rising m) (places_covered bytes m s) s.customs s.whole.second in
    let customs : length (flat_map custom_bytes m.customs) ≡ length (flat_map custom_bytes s.found) = ap (λ customs. length (flat_map custom_bytes customs)) s.sorted ∙ sorted_length s.found in
    let front : length s.whole.front ≡ 8 = ap length s.whole.first in
    omega (arith, sections, customs, front, length-spelling m, ap length s.whole.whole, length-append s.whole.front s.whole.back)

-- ---- what is spelled by fewer than 2 ^ 32 bytes can be written

empty_vector : {A : Type 0} (part : A → List ℕ) → length (vector_bytes part []) ≡ 1
empty_vector part = rw (unsigned_end 0 (omega arith)) refl

listed_small : {A : Type 0} (id : ℕ) (part : A → List ℕ) (xs : List A) → length (raw_bytes id (listed part xs)) < 2 ^ 32 → length (vector_bytes part xs) < 2 ^ 32
listed_small id part [] h = omega (arith, empty_vector part)
listed_small id part (x ∷ xs) h = omega (arith, length-append (unsigned_bytes (length (vector_bytes part (x ∷ xs)))) (vector_bytes part (x ∷ xs)))

customs_small : (customs : List Custom) → length (flat_map custom_bytes customs) < 2 ^ 32 → AllByRecursion (λ custom. length (custom_contents custom) < 2 ^ 32) customs
customs_small [] h = tt
customs_small (custom ∷ customs) h =
    let parts = length-append (custom_bytes custom) (flat_map custom_bytes customs) in
    (omega (arith, parts, length-append (unsigned_bytes (length (custom_contents custom))) (custom_contents custom)), customs_small customs (omega (arith, parts)))

each_all : {A : Type 0} (P : A → List ℕ → Type 0) (Q : A → Type 0) → ((x : A) (bytes : List ℕ) → P x bytes → Q x) → (xs : List A) (bytes : List ℕ) → Each P xs bytes → AllByRecursion Q xs
each_all P Q f [] bytes h = tt
each_all P Q f (x ∷ xs) bytes h = (f x h.front h.first, each_all P Q f xs h.back h.second)

lists_all : {A : Type 0} (P : A → List ℕ → Type 0) (Q : A → Type 0) → ((x : A) (bytes : List ℕ) → P x bytes → Q x) → (o : Option (List ℕ)) (xs : List A) → MatchOption o (xs ≡ []) (Vector P xs) → AllByRecursion Q xs
lists_all P Q f None xs h = rw h tt
lists_all P Q f (Some contents) xs h = each_all P Q f xs h.back h.second

filter_same : {A : Type 0} (p : A → Bool) (xs : List A) → filter p (filter p xs) ≡ filter p xs
filter_same p [] = refl
filter_same p (x ∷ xs) =
    elim (cases_Bool (p x)) [
      | inl e ↦ rw (e, e) (ap (λ (ys : List _). x ∷ ys) (filter_same p xs))
      | inr e ↦ rw e (filter_same p xs)
    ]

-- no element passes both of two tests that never agree
filter_apart : {A : Type 0} (p q : A → Bool) → ((x : A) → p x ≡ not (q x)) → (xs : List A) → filter p (filter q xs) ≡ []
filter_apart p q apart [] = refl
filter_apart p q apart (x ∷ xs) =
    elim (cases_Bool (q x)) [
      | inl e ↦ rw (e, apart x, e) (filter_apart p q apart xs)
      | inr e ↦ rw e (filter_apart p q apart xs)
    ]

not_not : (b : Bool) → b ≡ not (not b)
not_not true = refl
not_not false = refl

sorted_again : (customs : List Custom) → sorted_customs customs ≡ sorted_customs (sorted_customs customs)
sorted_again customs =
    let p = λ (custom : Custom). not (named custom) in
    let first = filter p customs in
    let last = filter named customs in
    let a : filter p (first ++ last) ≡ first = filter-append p first last ∙ ap (λ (ys : List Custom). ys ++ filter p last) (filter_same p customs) ∙ ap (λ (ys : List Custom). first ++ ys) (filter_apart p named (λ x. refl) customs) ∙ append-nil first in
    let b : filter named (first ++ last) ≡ last = filter-append named first last ∙ ap (λ (ys : List Custom). ys ++ filter named last) (filter_apart named p (λ x. not_not (named x)) customs) ∙ filter_same named customs in
    sym (ap (λ (ys : List Custom). ys ++ filter named (first ++ last)) a ∙ ap (λ (ys : List Custom). first ++ ys) b)

pub spelled_writable : (bytes : List ℕ) (m : Module) → Spelled bytes m → length bytes < 2 ^ 32 → IsWritable m
unfolding total sections_of
spelled_writable bytes m s lt =
    let least = spelling_least bytes m s in
    let whole = length-spelling m in
    let small : total (sections_of m) + length (flat_map custom_bytes m.customs) < 2 ^ 32 = omega (arith, least, whole, lt) in
    record {
      lists = record {
        types = listed_small 1 function_type_bytes m.types (omega (arith, small));
        imports = listed_small 2 import_bytes m.imports (omega (arith, small));
        functions = listed_small 3 unsigned_bytes m.functions (omega (arith, small));
        memory = listed_small 5 memory_bytes m.memory (omega (arith, small));
        globals = listed_small 6 global_bytes m.globals (omega (arith, small));
        exports = listed_small 7 export_bytes m.exports (omega (arith, small));
        codes = listed_small 10 body_bytes m.codes (omega (arith, small));
        segments = listed_small 11 segment_bytes m.segments (omega (arith, small));
      };
      customs = All-from_recursion (λ custom. length (custom_contents custom) < 2 ^ 32) m.customs (customs_small m.customs (omega (arith, small)));
      constant = All-from_recursion (λ global. IsConstant global.value) m.globals (lists_all Global (λ global. IsConstant global.value) (λ x bytes h. h.constant) (contents_of 6 s.raws) m.globals s.globals);
      formed = All-from_recursion IsBodyWithinLimits m.codes (lists_all Body IsBodyWithinLimits (λ x bytes h. record { locals = h.2.first.few; nesting = h.2.second.closed }) (contents_of 10 s.raws) m.codes s.codes);
      sorted = rw s.sorted (sorted_again s.found);
      bodies = s.bodies;
    }
