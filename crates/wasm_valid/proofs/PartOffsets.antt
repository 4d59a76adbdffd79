-- The section of a part that breaks a rule stands in the bytes that spell the module.
use Rattle.std.proofs.Common.{◌≡◌, ℕ, Bool, cond, eqb, List, [], ◌∷◌, ◌++◌, length, Option, Some, None, refl, sym, ap, ◌∙◌, subst, append_assoc, arith, inl, inr}
use Rattle.std.specs.Prelude.{MatchOption, Contains, map, codes}
use Rattle.std.specs.List.{AllByRecursion}
use Rattle.std.proofs.lemmas.Bool.{cases_Bool, eqb-true}
use Rattle.wasm_tree.specs.declared.failure.ModuleRule.{ModuleRule}
use Rattle.wasm_tree.specs.declared.failure.ModuleRule.TheVariants as rule
use Rattle.wasm_tree.specs.declared.module.Custom.{Custom}
use Rattle.wasm_tree.specs.declared.module.FuncType.{FuncType}
use Rattle.wasm_tree.specs.declared.module.FuncBody.{FuncBody}
use Rattle.wasm_tree.specs.declared.module.Module.{Module}
use Rattle.wasm_tree.specs.Spelled.{Joined, Is, Each, Vector, Index, Type_of_function, Imported, Memory, Global, Exported, Body, Data, Raw, RawSection, Lists, contents_of, header, Spelled}
use Rattle.wasm_tree.specs.Section.{named_cmajor}
use Rattle.wasm_tree.specs.Refusal.{Holder, InTypes, InImports, InFunctions, InMemories, InGlobals, InExports, InCodes, InSegments, InCmajor, InSecondCmajor, Missing, BreaksAt, StandsAt, IsSectionAt, IsCmajorAt, IsOffset, IsMisdescribed, HasSecondCmajor}
use Rattle.wasm_tree.specs.Valid.{EachBody, IsIndexed, IsBody}
use Rattle.wasm_tree.proofs.Offsets.{HasRaw, refusable}
use Rattle.wasm_valid.proofs.NameLemmas.{contains_none}

-- ---- sections that list something

found_raw : (id : ℕ) (raws : List Raw) (contents : List ℕ) → contents_of id raws ≡ Some contents → HasRaw id raws
found_raw id [] contents e = absurd cc
found_raw id (raw ∷ raws) contents e =
    elim (cases_Bool (eqb raw.id id)) [
      | inl is ↦ record { before = []; raw = raw; after = raws; whole = refl; has = eqb-true raw.id id is }
      | inr other ↦
          let later : contents_of id raws ≡ Some contents = sym (ap (λ (b : Bool). cond b (Some raw.contents) (contents_of id raws)) other) ∙ e in
          let h = found_raw id raws contents later in
          record { before = raw ∷ h.before; raw = h.raw; after = h.after; whole = ap (λ (l : List Raw). raw ∷ l) h.whole; has = h.has }
    ]

listed_at : {A : Type 0} (P : A → List ℕ → Type 0) (id : ℕ) (raws : List Raw) (xs : List A) (o : Option (List ℕ)) → contents_of id raws ≡ o →
    MatchOption o (xs ≡ []) (Vector P xs) → (xs ≡ [] → ⊥) → HasRaw id raws
listed_at P id raws xs None e l some = absurd (some l)
listed_at P id raws xs (Some contents) e l some = found_raw id raws contents e

-- what lists something is there
listed : {A : Type 0} (P : A → List ℕ → Type 0) (id : ℕ) (raws : List Raw) (xs : List A) → Lists P id raws xs → (xs ≡ [] → ⊥) → HasRaw id raws
listed P id raws xs l some = listed_at P id raws xs (contents_of id raws) refl l some

each_split : (before later : List Raw) (bytes : List ℕ) → Each RawSection (before ++ later) bytes → Joined (Each RawSection before) (Each RawSection later) bytes
each_split [] later bytes e = record { front = []; back = bytes; whole = refl; first = refl; second = e }
each_split (raw ∷ before) later bytes e =
    let s = each_split before later e.back e.second in
    record {
      front = e.front ++ s.front;
      back = s.back;
      whole = e.whole ∙ (ap (λ (l : List ℕ). e.front ++ l) s.whole ∙ sym (append_assoc e.front s.front s.back));
      first = record { front = e.front; back = s.front; whole = refl; first = e.first; second = s.first };
      second = s.second;
    }

stands : (raws before : List Raw) (raw : Raw) (after : List Raw) (bytes : List ℕ) → raws ≡ before ++ raw ∷ after → Joined (Is header) (Each RawSection raws) bytes → (offset : ℕ) × StandsAt before raw offset bytes
stands raws before raw after bytes e w =
    let s = each_split before (raw ∷ after) w.back (subst (λ (l : List Raw). Each RawSection l w.back) e w.second) in (
      length (w.front ++ s.front),
      record {
        after = after;
        front = w.front ++ s.front;
        back = s.back;
        whole = w.whole ∙ (ap (λ (l : List ℕ). w.front ++ l) s.whole ∙ sym (append_assoc w.front s.front s.back));
        behind = record { front = w.front; back = s.front; whole = refl; first = w.first; second = s.first };
        begins = s.second;
        at = refl;
      },
    )

section_at : (id : ℕ) (raws : List Raw) (bytes : List ℕ) → Joined (Is header) (Each RawSection raws) bytes → HasRaw id raws → (offset : ℕ) × IsSectionAt id offset bytes
section_at id raws bytes w h =
    let s = stands raws h.before h.raw h.after bytes h.whole w in
    (s.0, record { before = h.before; raw = h.raw; stands = s.1; has = h.has })

-- ---- the section `cmajor`

other_cmajor : (x first second : Custom) (others : List Custom) (l : List Custom) → l ≡ x ∷ [] → l ≡ first ∷ second ∷ others → ⊥
other_cmajor x first second others l e f = let n = ap (λ (l : List Custom). length l) (sym e ∙ f) in absurd (omega (arith, n))

no_cmajor : (x : Custom) (others l : List Custom) → l ≡ x ∷ others → l ≡ [] → ⊥
no_cmajor x others l e f = let n = ap (λ (l : List Custom). length l) (sym e ∙ f) in absurd (omega (arith, n))

one_at : (bytes : List ℕ) (m : Module) (holder : Holder) (offset : ℕ) → IsMisdescribed m → BreaksAt m rule.Cmajor holder → IsOffset holder offset bytes → IsCmajorAt 0 offset bytes
one_at bytes m InCmajor offset b h place = place
one_at bytes m InSecondCmajor offset b h place = absurd (other_cmajor b.custom h.first h.second h.others (named_cmajor m.customs) b.only h.more)
one_at bytes m Missing offset b h place = absurd (no_cmajor b.custom [] (named_cmajor m.customs) b.only h)
one_at bytes m _ offset b h place = absurd h

second_at : (bytes : List ℕ) (m : Module) (holder : Holder) (offset : ℕ) → HasSecondCmajor m → BreaksAt m rule.Cmajor holder → IsOffset holder offset bytes → IsCmajorAt 1 offset bytes
second_at bytes m InSecondCmajor offset b h place = place
second_at bytes m InCmajor offset b h place = absurd (other_cmajor h.custom b.first b.second b.others (named_cmajor m.customs) h.only b.more)
second_at bytes m Missing offset b h place = absurd (no_cmajor b.first (b.second ∷ b.others) (named_cmajor m.customs) b.more h)
second_at bytes m _ offset b h place = absurd h

-- ---- call cycles

code_at : (bytes : List ℕ) (m : Module) (holder : Holder) (offset : ℕ) → BreaksAt m rule.CallCycle holder → IsOffset holder offset bytes → IsSectionAt 10 offset bytes
code_at bytes m InCodes offset h place = place
code_at bytes m _ offset h place = absurd h

-- ---- parts

no_elements : {A : Type 0} (P : A → Type 0) (xs : List A) → (AllByRecursion P xs → ⊥) → xs ≡ [] → ⊥
no_elements P [] fails e = fails tt
no_elements P (x ∷ xs) fails e = absurd cc

no_bodies : (P : FuncType → FuncBody → Type 0) (m : Module) (functions : List ℕ) (codes : List FuncBody) → length functions ≡ length codes → (EachBody P m functions codes → ⊥) → codes ≡ [] → ⊥
no_bodies P m [] codes n fails e = fails e
no_bodies P m (type ∷ functions) [] n fails e = absurd (omega (arith, n))
no_bodies P m (type ∷ functions) (body ∷ codes) n fails e = absurd cc

lists_at : {A : Type 0} (P : A → List ℕ → Type 0) (id : ℕ) (bytes : List ℕ) (m : Module) (xs : List A) (s : Spelled bytes m) → Lists P id s.raws xs → (xs ≡ [] → ⊥) → (offset : ℕ) × IsSectionAt id offset bytes
lists_at P id bytes m xs s l some = section_at id s.raws bytes s.whole (listed P id s.raws xs l some)

pub part_offset : (bytes : List ℕ) (m : Module) (rule : ModuleRule) (part : Holder) → Spelled bytes m → BreaksAt m rule part → (offset : ℕ) × IsOffset part offset bytes
part_offset bytes m rule Missing s b = (length bytes, refl)
part_offset bytes m rule.Index InImports s b = lists_at Imported 2 bytes m m.imports s s.imports (no_elements _ m.imports b)
part_offset bytes m rule.Index InFunctions s b = lists_at Index 3 bytes m m.functions s s.functions (no_elements _ m.functions b)
part_offset bytes m rule.Index InExports s b = lists_at Exported 7 bytes m m.exports s s.exports (no_elements _ m.exports b)
part_offset bytes m rule.Index InCodes s b = lists_at Body 10 bytes m m.codes s s.codes (no_bodies (IsIndexed m) m m.functions m.codes s.bodies b)
part_offset bytes m rule.Index InSegments s b = lists_at Data 11 bytes m m.segments s s.segments (no_elements _ m.segments b)
part_offset bytes m rule.Limit InMemories s b = lists_at Memory 5 bytes m m.memory s s.memory b.0
part_offset bytes m rule.Limit InCodes s b = lists_at Body 10 bytes m m.codes s s.codes (no_elements _ m.codes b)
part_offset bytes m rule.Typing InTypes s b = lists_at Type_of_function 1 bytes m m.types s s.types (no_elements _ m.types b)
part_offset bytes m rule.Typing InGlobals s b = lists_at Global 6 bytes m m.globals s s.globals (no_elements _ m.globals b)
part_offset bytes m rule.Typing InCodes s b = lists_at Body 10 bytes m m.codes s s.codes (no_bodies (IsBody m) m m.functions m.codes s.bodies b)
part_offset bytes m rule.CallCycle InCodes s b = let r = refusable bytes m rule.CallCycle s (InCodes, b) in (r.0.offset, code_at bytes m r.2.holder r.0.offset (subst (λ w. BreaksAt m w r.2.holder) r.1 r.2.breaks) r.2.place)
part_offset bytes m rule.Segment InSegments s b = lists_at Data 11 bytes m m.segments s s.segments (no_elements _ m.segments b)
part_offset bytes m rule.Interface InImports s b = lists_at Imported 2 bytes m m.imports s s.imports b.0
part_offset bytes m rule.Interface InExports s b = lists_at Exported 7 bytes m m.exports s s.exports (λ none. contains_none (codes "memory") (subst (λ l. Contains (map (λ entry. entry.name) l) (codes "memory")) none b.complete.0))
part_offset bytes m rule.Cmajor InCmajor s b = let r = refusable bytes m rule.Cmajor s (InCmajor, b) in (r.0.offset, one_at bytes m r.2.holder r.0.offset b (subst (λ w. BreaksAt m w r.2.holder) r.1 r.2.breaks) r.2.place)
part_offset bytes m rule.Cmajor InSecondCmajor s b = let r = refusable bytes m rule.Cmajor s (InSecondCmajor, b) in (r.0.offset, second_at bytes m r.2.holder r.0.offset b (subst (λ w. BreaksAt m w r.2.holder) r.1 r.2.breaks) r.2.place)
part_offset bytes m rule part s b = absurd b
