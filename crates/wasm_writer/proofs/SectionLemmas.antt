-- Sections in the order of their ids, and custom sections after them, are spelled as the format says.
use Rattle.std.proofs.Common.{◌≡◌, ℕ, ◌<◌, ◌≤◌, ◌^◌, false, cond, eqb, List, [], ◌∷◌, ◌++◌, length, Option, Some, None, refl, ◌∙◌, arith, inl, inr}
use Rattle.std.specs.Prelude.{MatchOption, Contains}
use Rattle.std.specs.List.{flat_map, AllByRecursion}
use Rattle.std.proofs.lemmas.Bool.{cases_eq, eq-eqb, ne_eqb}
use Rattle.wasm_tree.specs.declared.module.Custom.{Custom}
use Rattle.wasm_tree.specs.Spelled.{Each, Text, Vector, Raw, RawSection, ids, InOrder, contents_of, Custom_contents, CustomsAre}
use Rattle.wasm_writer.specs.Spelling.{vector_bytes, text_bytes, section_bytes, custom_contents, custom_bytes}
use Rattle.wasm_writer.proofs.Parts.{joined, begins, text_spelled}

-- what a section lists, or nothing
abbrev pub listed : {A : Type 0} → (A → List ℕ) → List A → Option (List ℕ)
listed part [] = None
listed part (x ∷ xs) = Some (vector_bytes part (x ∷ xs))

-- an id, and the contents of its section where there is one
abbrev pub OptionalSection : Type 0
OptionalSection = ℕ × Option (List ℕ)

abbrev pub with_raw : ℕ → Option (List ℕ) → List Raw → List Raw
with_raw id None rest = rest
with_raw id (Some contents) rest = record { id = id; contents = contents } ∷ rest

abbrev pub raw_bytes : ℕ → Option (List ℕ) → List ℕ
raw_bytes id None = []
raw_bytes id (Some contents) = id ∷ text_bytes contents

abbrev pub raws_of : List OptionalSection → List Raw → List Raw
raws_of [] customs = customs
raws_of (section ∷ sections) customs = with_raw section.0 section.1 (raws_of sections customs)

abbrev pub bytes_of : List OptionalSection → List ℕ → List ℕ
bytes_of [] after = after
bytes_of (section ∷ sections) after = raw_bytes section.0 section.1 ++ bytes_of sections after

abbrev pub custom_raws : List Custom → List Raw
custom_raws [] = []
custom_raws (custom ∷ customs) = record { id = 0; contents = custom_contents custom } ∷ custom_raws customs

pub section_is : {A : Type 0} (id : ℕ) (part : A → List ℕ) (xs : List A) → section_bytes id part xs ≡ raw_bytes id (listed part xs)
section_is id part [] = refl
section_is id part (x ∷ xs) = refl

-- ---- sizes

abbrev pub IsShort : Option (List ℕ) → Type 0
IsShort o = MatchOption o (Unit {0}) (λ contents. length contents < 2 ^ 32)

pub listed_short : {A : Type 0} (part : A → List ℕ) (xs : List A) → length (vector_bytes part xs) < 2 ^ 32 → IsShort (listed part xs)
listed_short part [] h = tt
listed_short part (x ∷ xs) h = h

-- ---- one after another

raw_spelled : (id : ℕ) (contents : List ℕ) → length contents < 2 ^ 32 → RawSection (record { id = id; contents = contents }) (id ∷ text_bytes contents)
raw_spelled id contents h = begins id (Text contents) (text_bytes contents) (text_spelled contents h)

with_raw_spelled : (id : ℕ) (o : Option (List ℕ)) (rest : List Raw) (bytes : List ℕ) → IsShort o → Each RawSection rest bytes → Each RawSection (with_raw id o rest) (raw_bytes id o ++ bytes)
with_raw_spelled id None rest bytes short h = h
with_raw_spelled id (Some contents) rest bytes short h = joined (RawSection (record { id = id; contents = contents })) (Each RawSection rest) (id ∷ text_bytes contents) bytes (raw_spelled id contents short) h

pub raws_spelled : (sections : List OptionalSection) (customs : List Raw) (after : List ℕ) → AllByRecursion (λ section. IsShort section.1) sections → Each RawSection customs after → Each RawSection (raws_of sections customs) (bytes_of sections after)
raws_spelled [] customs after short h = h
raws_spelled (section ∷ sections) customs after short h = with_raw_spelled section.0 section.1 (raws_of sections customs) (bytes_of sections after) short.0 (raws_spelled sections customs after short.1 h)

pub custom_raws_spelled : (customs : List Custom) → AllByRecursion (λ custom. length (custom_contents custom) < 2 ^ 32) customs → Each RawSection (custom_raws customs) (flat_map custom_bytes customs)
custom_raws_spelled [] h = refl
custom_raws_spelled (custom ∷ customs) h =
    joined (RawSection (record { id = 0; contents = custom_contents custom })) (Each RawSection (custom_raws customs)) (custom_bytes custom) (flat_map custom_bytes customs) (raw_spelled 0 (custom_contents custom) h.0) (custom_raws_spelled customs h.1)

-- ---- the order of the ids

abbrev pub IsRising : ℕ → List OptionalSection → Type 0
IsRising before [] = Unit {0}
IsRising before (section ∷ sections) = (before < section.0) × Contains ids section.0 × IsRising section.0 sections

customs_in_order : (customs : List Custom) (before : ℕ) → InOrder before (custom_raws customs)
customs_in_order [] before = tt
customs_in_order (custom ∷ customs) before = inl (refl, customs_in_order customs before)

with_raw_in_order : (k id : ℕ) (o : Option (List ℕ)) (rest : List Raw) → k < id → Contains ids id → InOrder k rest → InOrder id rest → InOrder k (with_raw id o rest)
with_raw_in_order k id None rest lt known skipped h = skipped
with_raw_in_order k id (Some contents) rest lt known skipped h = inr (lt, known, h)

pub raws_in_order : (sections : List OptionalSection) (customs : List Custom) (before k : ℕ) → k ≤ before → IsRising before sections → InOrder k (raws_of sections (custom_raws customs))
raws_in_order [] customs before k le rising = customs_in_order customs k
raws_in_order (section ∷ sections) customs before k le rising =
    with_raw_in_order k section.0 section.1 (raws_of sections (custom_raws customs)) (omega (arith, rising.0, le)) rising.1
    (raws_in_order sections customs section.0 k (omega (arith, rising.0, le)) rising.2)
    (raws_in_order sections customs section.0 section.0 (omega arith) rising.2)

-- ---- the contents of an id

abbrev pub found : ℕ → List OptionalSection → Option (List ℕ)
found id [] = None
found id (section ∷ sections) = cond (eqb section.0 id) section.1 (found id sections)

found_none : (sections : List OptionalSection) (before id : ℕ) → id ≤ before → IsRising before sections → found id sections ≡ None
found_none [] before id le rising = refl
found_none (section ∷ sections) before id le rising =
    rw (ne_eqb section.0 id (λ e. omega (arith, rising.0, le, e))) (found_none sections section.0 id (omega (arith, rising.0, le)) rising.2)

customs_absent : (customs : List Custom) (id : ℕ) → 0 < id → contents_of id (custom_raws customs) ≡ None
customs_absent [] id lt = refl
customs_absent (custom ∷ customs) id lt = rw (ne_eqb 0 id (λ e. omega (arith, e, lt))) (customs_absent customs id lt)

at_same : (id : ℕ) (o : Option (List ℕ)) (rest : List Raw) → contents_of id rest ≡ None → contents_of id (with_raw id o rest) ≡ o
at_same id None rest h = h
at_same id (Some contents) rest h = rw (eq-eqb id id refl) refl

at_other : (i id : ℕ) (o : Option (List ℕ)) (rest : List Raw) → eqb i id ≡ false → contents_of id (with_raw i o rest) ≡ contents_of id rest
at_other i id None rest h = refl
at_other i id (Some contents) rest h = rw h refl

pub contents_found : (sections : List OptionalSection) (customs : List Custom) (before id : ℕ) → 0 < id → IsRising before sections → contents_of id (raws_of sections (custom_raws customs)) ≡ found id sections
contents_found [] customs before id lt rising = customs_absent customs id lt
contents_found (section ∷ sections) customs before id lt rising =
    let rest = contents_found sections customs section.0 id lt rising.2 in
    elim (cases_eq section.0 id) [
      | inl e ↦
          let absent : contents_of id (raws_of sections (custom_raws customs)) ≡ None = rest ∙ found_none sections section.0 id (omega (arith, e)) rising.2 in
          rw (eq-eqb section.0 id e, e) (at_same id section.1 (raws_of sections (custom_raws customs)) absent)
      | inr ne ↦
          let other = ne_eqb section.0 id ne in
          rw other (at_other section.0 id section.1 (raws_of sections (custom_raws customs)) other ∙ rest)
    ]

pub lists_listed : {A : Type 0} (P : A → List ℕ → Type 0) (part : A → List ℕ) (xs : List A) → Vector P xs (vector_bytes part xs) → MatchOption (listed part xs) (xs ≡ []) (Vector P xs)
lists_listed P part [] h = refl
lists_listed P part (x ∷ xs) h = h

-- ---- the custom sections

customs_after : (id : ℕ) (o : Option (List ℕ)) (rest : List Raw) (customs : List Custom) → 0 < id → CustomsAre rest customs → CustomsAre (with_raw id o rest) customs
customs_after id None rest customs lt h = h
customs_after id (Some contents) rest [] lt h = (lt, h)
customs_after id (Some contents) rest (custom ∷ customs) lt h = inr (lt, h)

custom_raws_are : (customs : List Custom) → AllByRecursion (λ custom. Custom_contents custom (custom_contents custom)) customs → CustomsAre (custom_raws customs) customs
custom_raws_are [] h = refl
custom_raws_are (custom ∷ customs) h = inl (refl, h.0, custom_raws_are customs h.1)

pub raws_customs : (sections : List OptionalSection) (customs : List Custom) (before : ℕ) → IsRising before sections → AllByRecursion (λ custom. Custom_contents custom (custom_contents custom)) customs → CustomsAre (raws_of sections (custom_raws customs)) customs
raws_customs [] customs before rising h = custom_raws_are customs h
raws_customs (section ∷ sections) customs before rising h = customs_after section.0 section.1 (raws_of sections (custom_raws customs)) customs (omega (arith, rising.0)) (raws_customs sections customs section.0 rising.2 h)
