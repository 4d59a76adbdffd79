-- Where a wanted section is found among sections.
use Rattle.std.proofs.Common.{◌≡◌, ℕ, suc, ◌+◌, ◌-◌, ◌≤◌, ◌<◌, Bool, true, false, cond, leb, eq-eqb, List, [], ◌∷◌, ◌++◌, length, Ok, Err, refl, sym, ap, subst, ◌∙◌, append_assoc, length-append, arith, inl, inr}
use Rattle.std.specs.Prelude.{min, drop}
use Rattle.std.proofs.lemmas.Bool.{cases_Bool, eqb-true, ne_eqb, leb-true, leb-false}
use Rattle.std.proofs.lemmas.List.{length-drop, nil_from_length}
use Rattle.wasm_tree.specs.declared.module.Custom.{Custom}
use Rattle.wasm_tree.specs.Spelled.{Each, Raw, RawSection, CustomsAre, Custom_contents, header, is_cmajor}
use Rattle.wasm_tree.specs.Section.{named_cmajor}
use Rattle.wasm_tree.specs.Refusal.{StandsAt, IsSectionAt, IsCmajorAt}
use Rattle.wasm_reader.specs.declared.fault.Fault.{Fault}
use Rattle.wasm_reader.specs.Reading.{byte_at, text_at}
use Rattle.wasm_reader.proofs.Readers.{behind, begins_with}
use Rattle.wasm_reader.proofs.Parts.{text-reads}
use Rattle.wasm_reader.proofs.Sections.{each-append}
use Rattle.section_reader.specs.declared.place.Wanted.{Wanted}
use Rattle.section_reader.specs.declared.place.Wanted.TheVariants as wanted
use Rattle.section_reader.specs.Places.{raw_at, is_wanted, left_at}

-- ---- one section further

some_left : (n i : ℕ) → i < n → n - i ≡ suc (n - (i + 1))
some_left n i lt = omega arith

pub left_fault : (w : Wanted) (others n i : ℕ) (bytes : List ℕ) (fault : Fault) → i < n → raw_at bytes ≡ Err fault → left_at w others (n - i) bytes ≡ 0
unfolding left_at
left_fault w others n i bytes fault lt e = rw (some_left n i lt, e) refl

pub left_here : (w : Wanted) (n i : ℕ) (bytes : List ℕ) (raw : Raw) (rest : List ℕ) → i < n → raw_at bytes ≡ Ok (raw, rest) → is_wanted w raw ≡ true → left_at w 0 (n - i) bytes ≡ length bytes
unfolding left_at
left_here w n i bytes raw rest lt e is = rw (some_left n i lt, e, is) refl

pub left_next : (w : Wanted) (others n i : ℕ) (bytes : List ℕ) (raw : Raw) (rest : List ℕ) → i < n → raw_at bytes ≡ Ok (raw, rest) → is_wanted w raw ≡ true → 0 < others → left_at w others (n - i) bytes ≡ left_at w (others - 1) (n - (i + 1)) rest
unfolding left_at
left_next w others n i bytes raw rest lt e is some = rw (some_left n i lt, e, is, ne_eqb others 0 (λ z. absurd (omega (arith, some, z)))) refl

pub left_other : (w : Wanted) (others n i : ℕ) (bytes : List ℕ) (raw : Raw) (rest : List ℕ) → i < n → raw_at bytes ≡ Ok (raw, rest) → is_wanted w raw ≡ false → left_at w others (n - i) bytes ≡ left_at w others (n - (i + 1)) rest
unfolding left_at
left_other w others n i bytes raw rest lt e is = rw (some_left n i lt, e, is) refl

pub left_none : (w : Wanted) (others n i : ℕ) (bytes : List ℕ) → n ≤ i → left_at w others (n - i) bytes ≡ 0
unfolding left_at
left_none w others n i bytes le = let none : n - i ≡ 0 = omega arith in rw none refl

-- ---- sections that are spelled

-- a section is read again
raw_again : (raw : Raw) (front rest : List ℕ) → RawSection raw front → raw_at (front ++ rest) ≡ Ok (raw, rest)
unfolding raw_at byte_at
raw_again raw front rest h = rw (begins_with h, text-reads.again raw.contents h.back rest h.second) refl

-- how many of the sections are wanted
count : Wanted → List Raw → ℕ
count w [] = 0
count w (raw ∷ raws) = cond (is_wanted w raw) (suc (count w raws)) (count w raws)

one_less : (n : ℕ) → suc n - 1 ≡ n
one_less n = omega arith

all_left : (n : ℕ) → n ≡ n - 0
all_left n = omega arith

-- behind the others that are wanted, the wanted section is found where it begins
found_there : (w : Wanted) (before : List Raw) (raw : Raw) (after : List Raw) (front back : List ℕ) (n : ℕ)
    → Each RawSection before front → Each RawSection (raw ∷ after) back → is_wanted w raw ≡ true → length before < n → left_at w (count w before) n (front ++ back) ≡ length back
unfolding count
found_there w [] raw after front back n f b is lt =
    let e : raw_at back ≡ Ok (raw, b.back) = ap raw_at b.whole ∙ raw_again raw b.front b.back b.first in
    ap (λ (l : List ℕ). left_at w 0 n (l ++ back)) f ∙ ap (λ (m : ℕ). left_at w 0 m back) (all_left n) ∙ left_here w n 0 back raw b.back (omega (arith, lt)) e is
found_there w (r ∷ before) raw after front back n f b is lt =
    let read : raw_at (front ++ back) ≡ Ok (r, f.back ++ back) =
    ap (λ (l : List ℕ). raw_at (l ++ back)) f.whole ∙ ap raw_at (append_assoc f.front f.back back) ∙ raw_again r f.front (f.back ++ back) f.first in
    let later : left_at w (count w before) (n - 1) (f.back ++ back) ≡ length back = found_there w before raw after f.back back (n - 1) f.second b is (omega (arith, lt)) in
    elim (cases_Bool (is_wanted w r)) [
      | inl hit ↦ rw hit (ap (λ (m : ℕ). left_at w (suc (count w before)) m (front ++ back)) (all_left n) ∙ left_next w (suc (count w before)) n 0 (front ++ back) r (f.back ++ back) (omega (arith, lt)) read hit (omega arith) ∙ ap (λ (m : ℕ). left_at w m (n - 1) (f.back ++ back)) (one_less (count w before)) ∙ later)
      | inr miss ↦ rw miss (ap (λ (m : ℕ). left_at w (count w before) m (front ++ back)) (all_left n) ∙ left_other w (count w before) n 0 (front ++ back) r (f.back ++ back) (omega (arith, lt)) read miss ∙ later)
    ]

-- ---- the first one that is wanted

record First (w : Wanted) (bytes : List ℕ) : Type 0 where
  before : List Raw
  raw : Raw
  after : List Raw
  front : List ℕ
  back : List ℕ
  whole : bytes ≡ front ++ back
  firsts : Each RawSection before front
  begins : Each RawSection (raw ∷ after) back
  none : count w before ≡ 0
  is : is_wanted w raw ≡ true

first : (w : Wanted) (before : List Raw) (raw : Raw) (after : List Raw) (front back : List ℕ) → Each RawSection before front → Each RawSection (raw ∷ after) back → is_wanted w raw ≡ true → First w (front ++ back)
unfolding count
first w [] raw after front back f b is = record { before = []; raw = raw; after = after; front = front; back = back; whole = refl; firsts = f; begins = b; none = refl; is = is }
first w (r ∷ before) raw after front back f b is =
    elim (cases_Bool (is_wanted w r)) [
      | inl hit ↦ record { before = []; raw = r; after = before ++ raw ∷ after; front = []; back = front ++ back; whole = refl; firsts = refl; begins = each-append RawSection (r ∷ before) (raw ∷ after) front back f b; none = refl; is = hit }
      | inr miss ↦
          let h = first w before raw after f.back back f.second b is in
          record {
            before = r ∷ h.before;
            raw = h.raw;
            after = h.after;
            front = f.front ++ h.front;
            back = h.back;
            whole = ap (λ (l : List ℕ). l ++ back) f.whole ∙ append_assoc f.front f.back back ∙ ap (λ (l : List ℕ). f.front ++ l) h.whole ∙ sym (append_assoc f.front h.front h.back);
            firsts = record { front = f.front; back = h.front; whole = refl; first = f.first; second = h.firsts };
            begins = h.begins;
            none = rw miss h.none;
            is = h.is;
          }
    ]

-- each section has two bytes at least
many : (raws : List Raw) (bytes : List ℕ) → Each RawSection raws bytes → length raws ≤ length bytes
many [] bytes e = omega arith
many (raw ∷ raws) bytes e =
    let one : length e.front ≡ suc (length e.first.back) = ap length (begins_with e.first) in
    omega (arith, many raws e.back e.second, ap length e.whole, length-append e.front e.back, one)

-- ---- behind the header

-- the sections, and the bytes of the header before them
sections_of : (mid : List ℕ) → drop 8 (header ++ mid) ≡ mid
sections_of mid = refl

record Parts (before : List Raw) (raw : Raw) (there : ℕ) (bytes : List ℕ) : Type 0 where
  after : List Raw
  front : List ℕ
  back : List ℕ
  whole : bytes ≡ header ++ (front ++ back)
  firsts : Each RawSection before front
  begins : Each RawSection (raw ∷ after) back
  place : there ≡ 8 + length front

parts : (before : List Raw) (raw : Raw) (there : ℕ) (bytes : List ℕ) → StandsAt before raw there bytes → Parts before raw there bytes
parts before raw there bytes s =
    let j = s.behind in
    let head : s.front ≡ header ++ j.back = j.whole ∙ ap (λ (l : List ℕ). l ++ j.back) j.first in
    record {
      after = s.after;
      front = j.back;
      back = s.back;
      whole = s.whole ∙ ap (λ (l : List ℕ). l ++ s.back) head ∙ append_assoc header j.back s.back;
      firsts = j.second;
      begins = s.begins;
      place = s.at ∙ ap length head ∙ length-append header j.back;
    }

stands : (before : List Raw) (raw : Raw) (after : List Raw) (front back bytes : List ℕ) → bytes ≡ header ++ (front ++ back) → Each RawSection before front → Each RawSection (raw ∷ after) back → StandsAt before raw (length bytes - length back) bytes
stands before raw after front back bytes e f b = record {
  after = after;
  front = header ++ front;
  back = back;
  whole = e ∙ sym (append_assoc header front back);
  behind = record { front = header; back = front; whole = refl; first = refl; second = f };
  begins = b;
  at = omega (arith, ap length e, length-append header (front ++ back), length-append front back, length-append header front);
}

-- ---- what is found

abbrev pub sections : List ℕ → List ℕ
sections bytes = drop 8 bytes

abbrev pub place_in : Wanted → ℕ → List ℕ → ℕ
place_in w others bytes = length bytes - left_at w others (length (sections bytes)) (sections bytes)

in_sections : (bytes mid : List ℕ) (w : Wanted) (others : ℕ) → bytes ≡ header ++ mid → place_in w others bytes ≡ length bytes - left_at w others (length mid) mid
in_sections bytes mid w others e = ap (λ (l : List ℕ). length bytes - left_at w others (length l) l) (ap sections e ∙ sections_of mid)

few_dropped : (bytes : List ℕ) → drop (min 8 (length bytes)) bytes ≡ drop 8 bytes
few_dropped bytes = by (leb 8 (length bytes)) refl where
  by : (b : Bool) → leb 8 (length bytes) ≡ b → drop (min 8 (length bytes)) bytes ≡ drop 8 bytes
  by true e =
      let eight : min 8 (length bytes) ≡ 8 = omega (arith, leb-true 8 (length bytes) e) in
      ap (λ (n : ℕ). drop n bytes) eight
  by false e =
      let short = leb-false 8 (length bytes) e in
      nil_from_length (drop (min 8 (length bytes)) bytes) (omega (arith, length-drop (min 8 (length bytes)) bytes, short)) ∙ sym (nil_from_length (drop 8 bytes) (omega (arith, length-drop 8 bytes, short)))

-- what the function computes
pub is_place : (w : Wanted) (others : ℕ) (bytes behind : List ℕ) (head left result : ℕ) → head ≡ min 8 (length bytes) → behind ≡ drop head bytes → left ≡ left_at w others (length behind) behind → result ≡ length bytes - left → result ≡ place_in w others bytes
is_place w others bytes behind head left result h b l r =
    let e : behind ≡ sections bytes = b ∙ ap (λ (n : ℕ). drop n bytes) h ∙ few_dropped bytes in
    r ∙ ap (λ (n : ℕ). length bytes - n) l ∙ ap (λ (s : List ℕ). length bytes - left_at w others (length s) s) e

pub section_found : (id there : ℕ) (bytes : List ℕ) → IsSectionAt id there bytes → IsSectionAt id (place_in (wanted.Section id) 0 bytes) bytes
section_found id there bytes s =
    let p = parts s.before s.raw there bytes s.stands in
    let h = first (wanted.Section id) s.before s.raw p.after p.front p.back p.firsts p.begins (eq-eqb s.raw.id id s.has) in
    let e : bytes ≡ header ++ (h.front ++ h.back) = p.whole ∙ ap (λ (l : List ℕ). header ++ l) h.whole in
    let fits : length h.before < length (h.front ++ h.back) = omega (arith, many h.before h.front h.firsts, many (h.raw ∷ h.after) h.back h.begins, length-append h.front h.back) in
    let left : left_at (wanted.Section id) 0 (length (h.front ++ h.back)) (h.front ++ h.back) ≡ length h.back =
    ap (λ (n : ℕ). left_at (wanted.Section id) n (length (h.front ++ h.back)) (h.front ++ h.back)) (sym h.none) ∙ found_there (wanted.Section id) h.before h.raw h.after h.front h.back (length (h.front ++ h.back)) h.firsts h.begins h.is fits in
    let place : place_in (wanted.Section id) 0 bytes ≡ length bytes - length h.back = in_sections bytes (h.front ++ h.back) (wanted.Section id) 0 e ∙ ap (λ (n : ℕ). length bytes - n) left in
    record {
      before = h.before;
      raw = h.raw;
      stands = subst (λ (n : ℕ). StandsAt h.before h.raw n bytes) (sym place) (stands h.before h.raw h.after h.front h.back bytes e h.firsts h.begins);
      has = eqb-true h.raw.id id h.is;
    }

-- a custom section is wanted where its name is
name_is : (raw : Raw) (custom : Custom) → raw.id ≡ 0 → Custom_contents custom raw.contents → is_wanted wanted.Cmajor raw ≡ is_cmajor custom.name
name_is raw custom none h =
    let read : text_at raw.contents ≡ Ok (custom.name, h.back) = ap text_at h.whole ∙ text-reads.again custom.name h.front h.back h.first.spelled in
    rw (eq-eqb raw.id 0 none, read) refl

no_name : (raw : Raw) → 0 < raw.id → is_wanted wanted.Cmajor raw ≡ false
no_name raw some = rw (ne_eqb raw.id 0 (λ e. absurd (omega (arith, some, e)))) refl

counted : (raws : List Raw) (customs : List Custom) → CustomsAre raws customs → count wanted.Cmajor raws ≡ length (named_cmajor customs)
unfolding count
counted [] customs e = rw e refl
counted (raw ∷ raws) [] h = rw (no_name raw h.0) (counted raws [] h.1)
counted (raw ∷ raws) (custom ∷ customs) (inr h) = rw (no_name raw h.0) (counted raws (custom ∷ customs) h.1)
counted (raw ∷ raws) (custom ∷ customs) (inl h) = rw (name_is raw custom h.0 h.1) (by (is_cmajor custom.name) (counted raws customs h.2)) where
  by : (b : Bool) → count wanted.Cmajor raws ≡ length (named_cmajor customs) → cond b (suc (count wanted.Cmajor raws)) (count wanted.Cmajor raws) ≡ length (cond b (custom ∷ named_cmajor customs) (named_cmajor customs))
  by true e = ap suc e
  by false e = e

pub cmajor_found : (others there : ℕ) (bytes : List ℕ) → IsCmajorAt others there bytes → IsCmajorAt others (place_in wanted.Cmajor others bytes) bytes
cmajor_found others there bytes s =
    let p = parts s.before s.raw there bytes s.stands in
    let is : is_wanted wanted.Cmajor s.raw ≡ true = name_is s.raw s.custom s.id s.contents ∙ s.name in
    let fits : length s.before < length (p.front ++ p.back) = omega (arith, many s.before p.front p.firsts, many (s.raw ∷ p.after) p.back p.begins, length-append p.front p.back) in
    let left : left_at wanted.Cmajor others (length (p.front ++ p.back)) (p.front ++ p.back) ≡ length p.back =
    ap (λ (n : ℕ). left_at wanted.Cmajor n (length (p.front ++ p.back)) (p.front ++ p.back)) (sym (counted s.before s.customs s.found ∙ s.behind)) ∙ found_there wanted.Cmajor s.before s.raw p.after p.front p.back (length (p.front ++ p.back)) p.firsts p.begins is fits in
    let place : place_in wanted.Cmajor others bytes ≡ length bytes - length p.back = in_sections bytes (p.front ++ p.back) wanted.Cmajor others p.whole ∙ ap (λ (n : ℕ). length bytes - n) left in
    record {
      before = s.before;
      raw = s.raw;
      stands = subst (λ (n : ℕ). StandsAt s.before s.raw n bytes) (sym place) (stands s.before s.raw p.after p.front p.back bytes p.whole p.firsts p.begins);
      id = s.id;
      custom = s.custom;
      contents = s.contents;
      name = s.name;
      customs = s.customs;
      found = s.found;
      behind = s.behind;
    }
