-- Each part of a module that breaks a rule has its section in the bytes that spell the module, so each rule that is
-- broken can be told with an offset.
use Rattle.std.proofs.Common.{◌≡◌, ℕ, zero, suc, ◌<◌, Bool, true, cond, eqb, List, [], ◌∷◌, ◌++◌, length, Option, Some, None, refl, sym, ap, ◌∙◌, subst, append_assoc, arith, inl, inr}
use Rattle.std.specs.Prelude.{MatchOption, Contains, map, filter, not, codes, slice_get, unwrap_or}
use Rattle.std.specs.List.{AllByRecursion}
use Rattle.std.proofs.lemmas.Bool.{cases_Bool, eqb-true}
use Rattle.std.proofs.lemmas.List.Elements.{filter-append}
use Rattle.wasm_tree.specs.declared.failure.ModuleRule.{ModuleRule}
use Rattle.wasm_tree.specs.declared.failure.ModuleRule.TheVariants as rule
use Rattle.wasm_tree.specs.declared.failure.ModuleRefused.{ModuleRefused}
use Rattle.wasm_tree.specs.declared.module.Custom.{Custom}
use Rattle.wasm_tree.specs.declared.module.FuncType.{FuncType}
use Rattle.wasm_tree.specs.declared.module.FuncBody.{FuncBody}
use Rattle.wasm_tree.specs.declared.module.ExportEntry.{ExportEntry}
use Rattle.wasm_tree.specs.declared.module.Module.{Module}
use Rattle.wasm_tree.specs.declared.instr.Instr.TheVariants as instr
use Rattle.wasm_tree.specs.Spelled.{Joined, Is, Each, Vector, Index, Type_of_function, Imported, Memory, Global, Exported, Body, Data, Raw, RawSection, Lists, contents_of, CustomsAre, Custom_contents, header, is_cmajor, sorted_customs, Spelled}
use Rattle.wasm_tree.specs.Section.{named_cmajor}
use Rattle.wasm_tree.specs.Refusal.{Holder, InTypes, InImports, InFunctions, InMemories, InGlobals, InExports, InCodes, InSegments, InCmajor, InSecondCmajor, Missing, BreaksAt, Breaks, StandsAt, IsSectionAt, IsCmajorAt, IsOffset, IsRefusal, Exports}
use Rattle.wasm_tree.specs.Valid.{EachBody, IsIndexed, IsBody, CallCycle}
use Rattle.wasm_tree.specs.Numbers.{imported_types}

-- ---- sections in order

-- a section with this id stands behind these and before those
pub record HasRaw (id : ℕ) (raws : List Raw) : Type 0 where
  pub before : List Raw
  pub raw : Raw
  pub after : List Raw
  pub whole : raws ≡ before ++ raw ∷ after
  pub has : raw.id ≡ id

found_raw : (id : ℕ) (raws : List Raw) (contents : List ℕ) → contents_of id raws ≡ Some contents → HasRaw id raws
found_raw id [] contents e = absurd cc
found_raw id (raw ∷ raws) contents e =
    elim (cases_Bool (eqb raw.id id)) [
      | inl is ↦ record { before = []; raw = raw; after = raws; whole = refl; has = eqb-true raw.id id is }
      | inr other ↦
          let later : contents_of id raws ≡ Some contents = sym (ap (λ (b : Bool). cond b (Some raw.contents) (contents_of id raws)) other) ∙ e in
          let h = found_raw id raws contents later in
          record { before = raw ∷ h.before; raw = h.raw; after = h.after; whole = ap (λ (l : List Raw). raw ∷ l) h.whole; has = h.has }
    ]

listed_at : {A : Type 0} (P : A → List ℕ → Type 0) (id : ℕ) (raws : List Raw) (xs : List A) (o : Option (List ℕ)) → contents_of id raws ≡ o →
    MatchOption o (xs ≡ []) (Vector P xs) → (xs ≡ [] → ⊥) → HasRaw id raws
listed_at P id raws xs None e l some = absurd (some l)
listed_at P id raws xs (Some contents) e l some = found_raw id raws contents e

-- what lists something is there
listed : {A : Type 0} (P : A → List ℕ → Type 0) (id : ℕ) (raws : List Raw) (xs : List A) → Lists P id raws xs → (xs ≡ [] → ⊥) → HasRaw id raws
listed P id raws xs l some = listed_at P id raws xs (contents_of id raws) refl l some

each_split : (before later : List Raw) (bytes : List ℕ) → Each RawSection (before ++ later) bytes → Joined (Each RawSection before) (Each RawSection later) bytes
each_split [] later bytes e = record { front = []; back = bytes; whole = refl; first = refl; second = e }
each_split (raw ∷ before) later bytes e =
    let s = each_split before later e.back e.second in
    record {
      front = e.front ++ s.front;
      back = s.back;
      whole = e.whole ∙ (ap (λ (l : List ℕ). e.front ++ l) s.whole ∙ sym (append_assoc e.front s.front s.back));
      first = record { front = e.front; back = s.front; whole = refl; first = e.first; second = s.first };
      second = s.second;
    }

stands : (raws before : List Raw) (raw : Raw) (after : List Raw) (bytes : List ℕ) → raws ≡ before ++ raw ∷ after → Joined (Is header) (Each RawSection raws) bytes → (offset : ℕ) × StandsAt before raw offset bytes
stands raws before raw after bytes e w =
    let s = each_split before (raw ∷ after) w.back (subst (λ (l : List Raw). Each RawSection l w.back) e w.second) in (
      length (w.front ++ s.front),
      record {
        after = after;
        front = w.front ++ s.front;
        back = s.back;
        whole = w.whole ∙ (ap (λ (l : List ℕ). w.front ++ l) s.whole ∙ sym (append_assoc w.front s.front s.back));
        behind = record { front = w.front; back = s.front; whole = refl; first = w.first; second = s.first };
        begins = s.second;
        at = refl;
      },
    )

section_at : (id : ℕ) (raws : List Raw) (bytes : List ℕ) → Joined (Is header) (Each RawSection raws) bytes → HasRaw id raws → (offset : ℕ) × IsSectionAt id offset bytes
section_at id raws bytes w h =
    let s = stands raws h.before h.raw h.after bytes h.whole w in
    (s.0, record { before = h.before; raw = h.raw; stands = s.1; has = h.has })

-- ---- sections `cmajor`

-- a section `cmajor` stands behind so many others of its name
pub record HasCmajor (others : ℕ) (raws : List Raw) : Type 0 where
  pub before : List Raw
  pub raw : Raw
  pub after : List Raw
  pub whole : raws ≡ before ++ raw ∷ after
  pub id : raw.id ≡ 0
  pub custom : Custom
  pub contents : Custom_contents custom raw.contents
  pub name : is_cmajor custom.name ≡ true
  pub customs : List Custom
  pub found : CustomsAre before customs
  pub behind : length (named_cmajor customs) ≡ others

not_empty : (front : List Custom) (custom : Custom) (rest : List Custom) → [] ≡ front ++ custom ∷ rest → ⊥
not_empty [] custom rest e = cc
not_empty (c ∷ front) custom rest e = cc

other_first : (raw : Raw) (before : List Raw) (customs : List Custom) → 0 < raw.id → CustomsAre before customs → CustomsAre (raw ∷ before) customs
other_first raw before [] lt c = (lt, c)
other_first raw before (custom ∷ customs) lt c = inr (lt, c)

-- a section of another kind in front
behind_other : (others : ℕ) (raw : Raw) (raws : List Raw) → 0 < raw.id → HasCmajor others raws → HasCmajor others (raw ∷ raws)
behind_other others raw raws lt h =
    record {
      before = raw ∷ h.before;
      raw = h.raw;
      after = h.after;
      whole = ap (λ (l : List Raw). raw ∷ l) h.whole;
      id = h.id;
      custom = h.custom;
      contents = h.contents;
      name = h.name;
      customs = h.customs;
      found = other_first raw h.before h.customs lt h.found;
      behind = h.behind;
    }

-- a custom section in front, which may be one `cmajor` more
behind_custom : (others more : ℕ) (raw : Raw) (raws : List Raw) (c : Custom) → raw.id ≡ 0 → Custom_contents c raw.contents →
    ((customs : List Custom) → length (named_cmajor customs) ≡ others → length (named_cmajor (c ∷ customs)) ≡ more) → HasCmajor others raws → HasCmajor more (raw ∷ raws)
behind_custom others more raw raws c custom spelled counts h =
    record {
      before = raw ∷ h.before;
      raw = h.raw;
      after = h.after;
      whole = ap (λ (l : List Raw). raw ∷ l) h.whole;
      id = h.id;
      custom = h.custom;
      contents = h.contents;
      name = h.name;
      customs = c ∷ h.customs;
      found = inl (custom, spelled, h.found);
      behind = counts h.customs h.behind;
    }

-- one of the sections `cmajor` that are found
nth_cmajor : (raws : List Raw) (found front : List Custom) (custom : Custom) (rest : List Custom) → CustomsAre raws found → named_cmajor found ≡ front ++ custom ∷ rest → HasCmajor (length front) raws
nth_cmajor [] found front custom rest c e = absurd (not_empty front custom rest (sym (ap named_cmajor c) ∙ e))
nth_cmajor (raw ∷ raws) [] front custom rest c e = absurd (not_empty front custom rest e)
nth_cmajor (raw ∷ raws) (x ∷ found) front custom rest (inr c) e = behind_other (length front) raw raws c.0 (nth_cmajor raws (x ∷ found) front custom rest c.1 e)
nth_cmajor (raw ∷ raws) (x ∷ found) [] custom rest (inl c) e =
    elim (cases_Bool (is_cmajor x.name)) [
      | inl is ↦
          record { before = []; raw = raw; after = raws; whole = refl; id = c.0; custom = x; contents = c.1; name = is; customs = []; found = refl; behind = refl }
      | inr other ↦
          let later : named_cmajor found ≡ custom ∷ rest = sym (ap (λ (b : Bool). cond b (x ∷ named_cmajor found) (named_cmajor found)) other) ∙ e in
          behind_custom 0 0 raw raws x c.0 c.1 (λ customs same. ap (λ (b : Bool). length (cond b (x ∷ named_cmajor customs) (named_cmajor customs))) other ∙ same)
          (nth_cmajor raws found [] custom rest c.2 later)
    ]
nth_cmajor (raw ∷ raws) (x ∷ found) (f ∷ front) custom rest (inl c) e =
    elim (cases_Bool (is_cmajor x.name)) [
      | inl is ↦
          let one : x ∷ named_cmajor found ≡ f ∷ (front ++ custom ∷ rest) = sym (ap (λ (b : Bool). cond b (x ∷ named_cmajor found) (named_cmajor found)) is) ∙ e in
          let later : named_cmajor found ≡ front ++ custom ∷ rest = cc one in
          behind_custom (length front) (length (f ∷ front)) raw raws x c.0 c.1
          (λ customs same.
          let more : length (named_cmajor (x ∷ customs)) ≡ length (x ∷ named_cmajor customs) = ap (λ (b : Bool). length (cond b (x ∷ named_cmajor customs) (named_cmajor customs))) is in
          omega (arith, more, same))
          (nth_cmajor raws found front custom rest c.2 later)
      | inr other ↦
          let later : named_cmajor found ≡ (f ∷ front) ++ custom ∷ rest = sym (ap (λ (b : Bool). cond b (x ∷ named_cmajor found) (named_cmajor found)) other) ∙ e in
          behind_custom (length (f ∷ front)) (length (f ∷ front)) raw raws x c.0 c.1 (λ customs same. ap (λ (b : Bool). length (cond b (x ∷ named_cmajor customs) (named_cmajor customs))) other ∙ same)
          (nth_cmajor raws found (f ∷ front) custom rest c.2 later)
    ]

none_named : (customs : List Custom) → named_cmajor (filter (λ custom. not (is_cmajor custom.name)) customs) ≡ []
none_named [] = refl
none_named (c ∷ customs) =
    elim (cases_Bool (is_cmajor c.name)) [
      | inl is ↦ rw is (none_named customs)
      | inr other ↦ rw other (rw other (none_named customs))
    ]

all_named : (customs : List Custom) → named_cmajor (named_cmajor customs) ≡ named_cmajor customs
all_named [] = refl
all_named (c ∷ customs) =
    elim (cases_Bool (is_cmajor c.name)) [
      | inl is ↦ rw is (rw is (ap (λ (l : List Custom). c ∷ l) (all_named customs)))
      | inr other ↦ rw other (all_named customs)
    ]

sorted_named : (customs : List Custom) → named_cmajor (sorted_customs customs) ≡ named_cmajor customs
sorted_named customs =
    filter-append (λ custom. is_cmajor custom.name) (filter (λ custom. not (is_cmajor custom.name)) customs) (named_cmajor customs)
    ∙ (ap (λ (l : List Custom). l ++ named_cmajor (named_cmajor customs)) (none_named customs) ∙ all_named customs)

cmajor_at : (bytes : List ℕ) (m : Module) (front : List Custom) (custom : Custom) (rest : List Custom) → Spelled bytes m → named_cmajor m.customs ≡ front ++ custom ∷ rest → (offset : ℕ) × IsCmajorAt (length front) offset bytes
cmajor_at bytes m front custom rest s e =
    let h = nth_cmajor s.raws s.found front custom rest s.customs (sym (ap named_cmajor s.sorted ∙ sorted_named s.found) ∙ e) in
    let t = stands s.raws h.before h.raw h.after bytes h.whole s.whole in
    (t.0, record { before = h.before; raw = h.raw; stands = t.1; id = h.id; custom = h.custom; contents = h.contents; name = h.name; customs = h.customs; found = h.found; behind = h.behind })

-- ---- parts

empty_list : {A : Type 0} (xs : List A) → length xs ≡ 0 → xs ≡ []
empty_list [] e = refl
empty_list (x ∷ xs) e = absurd (omega (arith, e))

-- a fact that holds of the empty list and fails of this one
not_nothing : {A : Type 0} (P : List A → Type 0) (xs : List A) → P [] → (P xs → ⊥) → xs ≡ [] → ⊥
not_nothing P xs nothing fails e = fails (subst P (sym e) nothing)

no_elements : {A : Type 0} (P : A → Type 0) (xs : List A) → (AllByRecursion P xs → ⊥) → xs ≡ [] → ⊥
no_elements P xs fails e = not_nothing (AllByRecursion P) xs tt fails e

-- there are as many codes as functions
no_functions : (m : Module) → length m.functions ≡ length m.codes → m.codes ≡ [] → m.functions ≡ []
no_functions m same e = empty_list m.functions (same ∙ ap length e)

no_bodies : (P : FuncType → FuncBody → Type 0) (m : Module) → length m.functions ≡ length m.codes → (EachBody P m m.functions m.codes → ⊥) → m.codes ≡ [] → ⊥
no_bodies P m same fails e = fails (rw (no_functions m same e, e) refl)

nothing_called : (types : List FuncType) (f g : ℕ) → Contains (unwrap_or (slice_get (map (λ type. []) types ++ []) f) []) (instr.Call g) → ⊥
nothing_called [] f g c = omega (arith, c.1)
nothing_called (type ∷ types) zero g c = omega (arith, c.1)
nothing_called (type ∷ types) (suc f) g c = nothing_called types f g c

-- where there is no code there is no call
no_calls : (m : Module) → m.codes ≡ [] → CallCycle m
no_calls m e f [] c = nothing_called (imported_types m) f f (subst (λ (codes : List FuncBody). Contains (unwrap_or (slice_get (map (λ type. []) (imported_types m) ++ map (λ body. body.code) codes) f) []) (instr.Call f)) e c)
no_calls m e f (h ∷ hs) c = nothing_called (imported_types m) f h (subst (λ (codes : List FuncBody). Contains (unwrap_or (slice_get (map (λ type. []) (imported_types m) ++ map (λ body. body.code) codes) f) []) (instr.Call h)) e c.0)

-- a module that exports under some name has exports
some_export : (m : Module) (name : List ℕ) → Exports m name → m.exports ≡ [] → ⊥
some_export m name c e =
    let none : Contains {X = List ℕ} [] name = subst (λ (exports : List ExportEntry). Contains (map (λ entry. entry.name) exports) name) e c in
    omega (arith, none.1)

codes_at : (bytes : List ℕ) (m : Module) → Spelled bytes m → (m.codes ≡ [] → ⊥) → (offset : ℕ) × IsSectionAt 10 offset bytes
codes_at bytes m s some = section_at 10 s.raws bytes s.whole (listed Body 10 s.raws m.codes s.codes some)

exports_at : (bytes : List ℕ) (m : Module) → Spelled bytes m → (m.exports ≡ [] → ⊥) → (offset : ℕ) × IsSectionAt 7 offset bytes
exports_at bytes m s some = section_at 7 s.raws bytes s.whole (listed Exported 7 s.raws m.exports s.exports some)

imports_at : (bytes : List ℕ) (m : Module) → Spelled bytes m → (m.imports ≡ [] → ⊥) → (offset : ℕ) × IsSectionAt 2 offset bytes
imports_at bytes m s some = section_at 2 s.raws bytes s.whole (listed Imported 2 s.raws m.imports s.imports some)

segments_at : (bytes : List ℕ) (m : Module) → Spelled bytes m → (m.segments ≡ [] → ⊥) → (offset : ℕ) × IsSectionAt 11 offset bytes
segments_at bytes m s some = section_at 11 s.raws bytes s.whole (listed Data 11 s.raws m.segments s.segments some)

offset_at : (bytes : List ℕ) (m : Module) (rule : ModuleRule) (part : Holder) → Spelled bytes m → BreaksAt m rule part → (offset : ℕ) × IsOffset part offset bytes
offset_at bytes m rule.Index InImports s b = imports_at bytes m s (no_elements _ m.imports b)
offset_at bytes m rule.Index InFunctions s b = section_at 3 s.raws bytes s.whole (listed Index 3 s.raws m.functions s.functions (no_elements _ m.functions b))
offset_at bytes m rule.Index InExports s b = exports_at bytes m s (no_elements _ m.exports b)
offset_at bytes m rule.Index InCodes s b = codes_at bytes m s (no_bodies (IsIndexed m) m s.bodies b)
offset_at bytes m rule.Index InSegments s b = segments_at bytes m s (no_elements _ m.segments b)
offset_at bytes m rule.Limit InMemories s b = section_at 5 s.raws bytes s.whole (listed Memory 5 s.raws m.memory s.memory b.0)
offset_at bytes m rule.Limit Missing s b = (length bytes, refl)
offset_at bytes m rule.Limit InCodes s b = codes_at bytes m s (no_elements _ m.codes b)
offset_at bytes m rule.Typing InTypes s b = section_at 1 s.raws bytes s.whole (listed Type_of_function 1 s.raws m.types s.types (no_elements _ m.types b))
offset_at bytes m rule.Typing InGlobals s b = section_at 6 s.raws bytes s.whole (listed Global 6 s.raws m.globals s.globals (no_elements _ m.globals b))
offset_at bytes m rule.Typing InCodes s b = codes_at bytes m s (no_bodies (IsBody m) m s.bodies b)
offset_at bytes m rule.CallCycle InCodes s b = codes_at bytes m s (λ none. b (no_calls m none))
offset_at bytes m rule.Segment InSegments s b = segments_at bytes m s (no_elements _ m.segments b)
offset_at bytes m rule.Interface InImports s b = imports_at bytes m s b.0
offset_at bytes m rule.Interface InExports s b = exports_at bytes m s (some_export m (codes "memory") b.complete.0)
offset_at bytes m rule.Interface Missing s b = (length bytes, refl)
offset_at bytes m rule.Cmajor InCmajor s b = cmajor_at bytes m [] b.custom [] s b.only
offset_at bytes m rule.Cmajor InSecondCmajor s b = cmajor_at bytes m (b.first ∷ []) b.second b.others s b.more
offset_at bytes m rule.Cmajor Missing s b = (length bytes, refl)
offset_at bytes m rule part s b = absurd b

pub refusable : (bytes : List ℕ) (m : Module) (rule : ModuleRule) → Spelled bytes m → Breaks rule m → (refused : ModuleRefused) × (refused.rule ≡ rule) × IsRefusal refused m bytes
refusable bytes m rule s b =
    let o = offset_at bytes m rule b.0 s b.1 in
    (record { offset = o.0; rule = rule }, refl, record { holder = b.0; breaks = b.1; place = o.1 })
