-- The section `cmajor`: custom sections of its name, the slots of endpoints, and what is refused.
use Rattle.std.proofs.Common.{◌≡◌, ◌<◌, ◌≤◌, ◌+◌, ◌↔◌, ℕ, zero, suc, List, [], ◌∷◌, ◌++◌, length, get_or, take, true, false, Bool, refl, sym, ap, ◌∙◌, subst, arith, cond}
use Rattle.std.specs.Prelude.{sum_by, IsTrue}
use Rattle.std.specs.List.{AllByRecursion}
use Rattle.std.proofs.lemmas.List.{take_more}
use Rattle.std.proofs.lemmas.List.Sums.{sum_by-cons}
use Rattle.cm_base.specs.HostEnds.{IsLawful}
use Rattle.cm_base.specs.declared.host.HostEnd.{HostEnd}
use Rattle.wasm_tree.specs.declared.module.Custom.{Custom}
use Rattle.wasm_tree.specs.declared.module.Limits.{Limits}
use Rattle.wasm_tree.specs.declared.module.Module.{Module}
use Rattle.wasm_tree.specs.Spelled.{is_cmajor}
use Rattle.wasm_tree.specs.Section.{Slot, CmajorSection, Spelled_section, slots_of, named_cmajor, block_length, IsBlockLength, IsSection}
use Rattle.wasm_tree.specs.Valid.{memory_size}
use Rattle.wasm_tree.specs.Refusal.{IsMisdescribed}
use Rattle.section_reader.specs.declared.section.Section.{Section}
use Rattle.section_reader.specs.Raw.{said, AreFew, IsSaid}
use Rattle.wasm_valid.specs.Described.{IsNamed, LiesWithin, IsRight, IsDescribed}
use Rattle.wasm_valid.specs.declared.described.Named.{Named}
use Rattle.wasm_valid.specs.declared.described.Named.TheVariants as named
use Rattle.wasm_valid.proofs.SlotLemmas.{ends_are}
use Rattle.wasm_valid.proofs.NameLemmas.{all_more}

-- ---- custom sections of the name

pub named_other : (x : Custom) → is_cmajor x.name ≡ false → (customs : List Custom) → named_cmajor (customs ++ x ∷ []) ≡ named_cmajor customs
named_other x differs [] = rw differs refl
named_other x differs (y ∷ customs) = ap (λ (l : List Custom). cond (is_cmajor y.name) (y ∷ l) l) (named_other x differs customs)

push_cond : (b : Bool) (y x : Custom) (l : List Custom) → cond b (y ∷ (l ++ x ∷ [])) (l ++ x ∷ []) ≡ cond b (y ∷ l) l ++ x ∷ []
push_cond true y x l = refl
push_cond false y x l = refl

pub named_push : (x : Custom) → is_cmajor x.name ≡ true → (customs : List Custom) → named_cmajor (customs ++ x ∷ []) ≡ named_cmajor customs ++ x ∷ []
named_push x same_name [] = rw same_name refl
named_push x same_name (y ∷ customs) = ap (λ (l : List Custom). cond (is_cmajor y.name) (y ∷ l) l) (named_push x same_name customs) ∙ push_cond (is_cmajor y.name) y x (named_cmajor customs)

pub other_custom : (x : Custom) (found : Named) → is_cmajor x.name ≡ false → (customs : List Custom) → IsNamed (named_cmajor customs) found → IsNamed (named_cmajor (customs ++ x ∷ [])) found
other_custom x found differs customs h = subst (λ l. IsNamed l found) (sym (named_other x differs customs)) h

pub first_custom : (x : Custom) → is_cmajor x.name ≡ true → (customs : List Custom) → named_cmajor customs ≡ [] → named_cmajor (customs ++ x ∷ []) ≡ x ∷ []
first_custom x same_name customs h = named_push x same_name customs ∙ ap (λ (l : List Custom). l ++ x ∷ []) h

pub second_custom : (x y : Custom) → is_cmajor x.name ≡ true → (customs : List Custom) → named_cmajor customs ≡ y ∷ [] → IsNamed (named_cmajor (customs ++ x ∷ [])) named.More
second_custom x y same_name customs h = (y, x, [], named_push x same_name customs ∙ ap (λ (l : List Custom). l ++ x ∷ []) h)

pub further_custom : (x : Custom) → is_cmajor x.name ≡ true → (customs : List Custom) → IsNamed (named_cmajor customs) named.More → IsNamed (named_cmajor (customs ++ x ∷ [])) named.More
further_custom x same_name customs h = (h.0, h.1, h.2 ++ x ∷ [], named_push x same_name customs ∙ ap (λ (l : List Custom). l ++ x ∷ []) h.3)

pub next_custom : (customs : List Custom) (k : ℕ) (x : Custom) (found next : Named) → k < length customs → x ≡ get_or customs k x → IsNamed (named_cmajor (take k customs)) found →
    ((front : List Custom) → IsNamed (named_cmajor front) found → IsNamed (named_cmajor (front ++ x ∷ [])) next) → IsNamed (named_cmajor (take (k + 1) customs)) next
next_custom customs k x found next lt e h more =
    subst (λ l. IsNamed (named_cmajor l) next) (sym (take_more customs k x lt ∙ ap (λ (y : Custom). take k customs ++ y ∷ []) (sym e))) (more (take k customs) h)

-- ---- slots

pub count_slots : (ends : List HostEnd) (addresses : List ℕ) → length ends ≡ length addresses → length (slots_of ends addresses) ≡ length ends
count_slots [] addresses e = refl
count_slots (end ∷ ends) [] e = absurd (omega (arith, e))
count_slots (end ∷ ends) (address ∷ addresses) e = ap suc (count_slots ends addresses (omega (arith, e)))

slot_there : (ends : List HostEnd) (addresses : List ℕ) (k : ℕ) (d : HostEnd) (a : ℕ) → length ends ≡ length addresses → k < length ends → get_or (slots_of ends addresses) k (record { end = d; address = a }) ≡ record { end = get_or ends k d; address = get_or addresses k a }
slot_there [] addresses k d a e lt = absurd (omega (arith, lt))
slot_there (end ∷ ends) [] k d a e lt = absurd (omega (arith, e))
slot_there (end ∷ ends) (address ∷ addresses) zero d a e lt = refl
slot_there (end ∷ ends) (address ∷ addresses) (suc k) d a e lt = slot_there ends addresses k d a (omega (arith, e)) (omega (arith, lt))

pub few_there : (ends : List HostEnd) (addresses : List ℕ) (k : ℕ) (d : HostEnd) → length ends ≡ length addresses → k < length ends → length (get_or ends k d).shape ≤ sum_by (λ slot. length slot.end.shape) (slots_of ends addresses)
few_there [] addresses k d e lt = absurd (omega (arith, lt))
few_there (end ∷ ends) [] k d e lt = absurd (omega (arith, e))
few_there (end ∷ ends) (address ∷ addresses) zero d e lt =
    let s = sum_by-cons (λ (slot : Slot). length slot.end.shape) (record { end = end; address = address }) (slots_of ends addresses) in omega arith
few_there (end ∷ ends) (address ∷ addresses) (suc k) d e lt =
    let s = sum_by-cons (λ (slot : Slot). length slot.end.shape) (record { end = end; address = address }) (slots_of ends addresses) in
    let i = few_there ends addresses k d (omega (arith, e)) (omega (arith, lt)) in
    omega arith

pub slot_more : (ends : List HostEnd) (addresses : List ℕ) (k : ℕ) (end : HostEnd) (address : ℕ) → length ends ≡ length addresses → k < length ends → end ≡ get_or ends k end → address ≡ get_or addresses k 0 →
    take (k + 1) (slots_of ends addresses) ≡ take k (slots_of ends addresses) ++ record { end = end; address = address } ∷ []
slot_more ends addresses k end address e lt is at =
    take_more (slots_of ends addresses) k (record { end = end; address = 0 }) (subst (λ n. k < n) (sym (count_slots ends addresses e)) lt)
    ∙ ap (λ (s : Slot). take k (slots_of ends addresses) ++ s ∷ []) (slot_there ends addresses k end 0 e lt)
    ∙ ap (λ (x : HostEnd). take k (slots_of ends addresses) ++ record { end = x; address = get_or addresses k 0 } ∷ []) (sym is)
    ∙ ap (λ (a : ℕ). take k (slots_of ends addresses) ++ record { end = end; address = a } ∷ []) (sym at)

pub lies_more : (P : Slot → Type 0) (ends : List HostEnd) (addresses : List ℕ) (k : ℕ) (end : HostEnd) (address : ℕ) → length ends ≡ length addresses → k < length ends → end ≡ get_or ends k end → address ≡ get_or addresses k 0 →
    AllByRecursion P (take k (slots_of ends addresses)) → P (record { end = end; address = address }) → AllByRecursion P (take (k + 1) (slots_of ends addresses))
lies_more P ends addresses k end address e lt is at all p = subst (AllByRecursion P) (sym (slot_more ends addresses k end address e lt is at)) (all_more P (take k (slots_of ends addresses)) (record { end = end; address = address }) all p)

pub all_at : {A : Type 0} (P : A → Type 0) (xs : List A) (k : ℕ) (d : A) → k < length xs → AllByRecursion P xs → P (get_or xs k d)
all_at P [] k d lt all = absurd (omega (arith, lt))
all_at P (x ∷ xs) zero d lt all = all.0
all_at P (x ∷ xs) (suc k) d lt all = all_at P xs k d (omega (arith, lt)) all.1

pub lies_there : (P : Slot → Type 0) (ends : List HostEnd) (addresses : List ℕ) (k : ℕ) (end : HostEnd) (address : ℕ) → length ends ≡ length addresses → k < length ends → end ≡ get_or ends k end → address ≡ get_or addresses k 0 →
    AllByRecursion P (slots_of ends addresses) → P (record { end = end; address = address })
lies_there P ends addresses k end address e lt is at all =
    let there = all_at P (slots_of ends addresses) k (record { end = end; address = 0 }) (subst (λ n. k < n) (sym (count_slots ends addresses e)) lt) all in
    let same = slot_there ends addresses k end 0 e lt ∙ ap (λ (x : HostEnd). record { end = x; address = get_or addresses k 0 }) (sym is) ∙ ap (λ (a : ℕ). record { end = end; address = a }) (sym at) in
    subst P same there

pub whole_take : {A : Type 0} (xs : List A) (k : ℕ) → length xs ≤ k → take k xs ≡ xs
whole_take [] zero le = refl
whole_take [] (suc k) le = refl
whole_take (x ∷ xs) zero le = absurd (omega (arith, le))
whole_take (x ∷ xs) (suc k) le = ap (λ l. x ∷ l) (whole_take xs k (omega (arith, le)))

pub lie_all : (P : Slot → Type 0) (ends : List HostEnd) (addresses : List ℕ) (k : ℕ) → length ends ≡ length addresses → length ends ≤ k → AllByRecursion P (take k (slots_of ends addresses)) → AllByRecursion P (slots_of ends addresses)
lie_all P ends addresses k e le all = subst (AllByRecursion P) (whole_take (slots_of ends addresses) k (subst (λ n. n ≤ k) (sym (count_slots ends addresses e)) le)) all

-- ---- a section that was read

pub right_is : (memory : List Limits) (s : Section) (block bytes : ℕ) → length s.host ≡ length s.addresses → block ≡ block_length s.interface → bytes ≡ memory_size memory →
    IsBlockLength block → IsLawful s.host → AllByRecursion (λ slot. LiesWithin bytes block slot.end slot.address) (slots_of s.host s.addresses) → IsRight memory (said s)
right_is memory s block bytes paired b m length_is lawful all =
    record {
      block = subst IsBlockLength b length_is;
      lawful = subst IsLawful (sym (ends_are s.host s.addresses paired)) lawful;
      slots = subst (λ n. AllByRecursion (λ slot. LiesWithin n (block_length s.interface) slot.end slot.address) (slots_of s.host s.addresses)) m (subst (λ n. AllByRecursion (λ slot. LiesWithin bytes n slot.end slot.address) (slots_of s.host s.addresses)) b all);
    }

pub right_was : (memory : List Limits) (s : Section) (block bytes : ℕ) → length s.host ≡ length s.addresses → block ≡ block_length s.interface → bytes ≡ memory_size memory → IsRight memory (said s) →
    IsBlockLength block × IsLawful s.host × AllByRecursion (λ slot. LiesWithin bytes block slot.end slot.address) (slots_of s.host s.addresses)
right_was memory s block bytes paired b m right = (
  subst IsBlockLength (sym b) right.block,
  subst IsLawful (ends_are s.host s.addresses paired) right.lawful,
  subst (λ n. AllByRecursion (λ slot. LiesWithin bytes n slot.end slot.address) (slots_of s.host s.addresses)) (sym b) (subst (λ n. AllByRecursion (λ slot. LiesWithin n (block_length s.interface) slot.end slot.address) (slots_of s.host s.addresses)) (sym m) right.slots),
)

-- ---- what is refused

pub described_is : (m : Module) (custom : Custom) (s : Section) → named_cmajor m.customs ≡ custom ∷ [] → IsSaid s custom.bytes → IsRight m.memory (said s) → IsDescribed m s
described_is m custom s only h right =
    record {
      cmajor = record {
        described = record { custom = custom; only = only; spelled = h.spelled; block = right.block; lawful = right.lawful; few = h.few };
        slots = right.slots;
      };
      paired = h.paired;
    }

one_same : (x y : Custom) → x ∷ [] ≡ y ∷ [] → x ≡ y
one_same x y e = ap (λ (l : List Custom). get_or l 0 x) e

spelled_by : (m : Module) (custom : Custom) (section : CmajorSection) → named_cmajor m.customs ≡ custom ∷ [] → IsSection m section → Spelled_section section custom.bytes
spelled_by m custom section only is = subst (λ (c : Custom). Spelled_section section c.bytes) (one_same is.custom custom (sym is.only ∙ only)) is.spelled

pub misdescribed_unread : (m : Module) (custom : Custom) → named_cmajor m.customs ≡ custom ∷ [] → ((section : CmajorSection) → Spelled_section section custom.bytes → AreFew section → ⊥) → IsMisdescribed m
misdescribed_unread m custom only none =
    record { custom = custom; only = only; misdescribes = λ section h. none section (spelled_by m custom section only h.described) h.described.few }

pub misdescribed_wrong : (m : Module) (custom : Custom) (s : Section) → named_cmajor m.customs ≡ custom ∷ [] → ((section : CmajorSection) → Spelled_section section custom.bytes → AreFew section → said s ≡ section) → (IsRight m.memory (said s) → ⊥) → IsMisdescribed m
misdescribed_wrong m custom s only read wrong =
    record {
      custom = custom;
      only = only;
      misdescribes = λ section h.
          let same : section ≡ said s = sym (read section (spelled_by m custom section only h.described) h.described.few) in
          wrong (subst (IsRight m.memory) same (record { block = h.described.block; lawful = h.described.lawful; slots = h.slots }));
    }

pub right_told : (memory : List Limits) (s : Section) (block bytes : ℕ) (host : List HostEnd) (addresses : List ℕ) (lies : Bool) → length s.host ≡ length s.addresses → block ≡ block_length s.interface → bytes ≡ memory_size memory →
    host ≡ s.host → addresses ≡ s.addresses → (IsTrue lies ↔ AllByRecursion (λ slot. LiesWithin bytes block slot.end slot.address) (slots_of host addresses)) → IsBlockLength block → IsLawful host → IsTrue lies ↔ IsRight memory (said s)
right_told memory s block bytes host addresses lies paired b m h a told few lawful =
    let same : slots_of host addresses ≡ slots_of s.host s.addresses = ap (λ (l : List HostEnd). slots_of l addresses) h ∙ ap (λ (l : List ℕ). slots_of s.host l) a in (
      λ t. right_is memory s block bytes paired b m few (subst IsLawful h lawful) (subst (AllByRecursion (λ slot. LiesWithin bytes block slot.end slot.address)) same (told.0 t)),
      λ right. told.1 (subst (AllByRecursion (λ slot. LiesWithin bytes block slot.end slot.address)) (sym same) (right_was memory s block bytes paired b m right).2),
    )
