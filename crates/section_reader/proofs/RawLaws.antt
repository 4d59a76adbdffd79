-- Endpoints with runs of scalars stand for slots of the section, and each section is told by such endpoints.
use Rattle.std.proofs.Common.{◌≡◌, ℕ, suc, ◌≤◌, List, [], ◌∷◌, ◌++◌, length, Ok, Err, Result, refl, sym, ap, subst, ◌∙◌, arith, length-append}
use Rattle.std.specs.Prelude.{map, replicate, sum_by}
use Rattle.std.specs.List.{AllByRecursion, flat_map}
use Rattle.std.proofs.lemmas.List.{append-nil, length-map, length-replicate}
use Rattle.std.proofs.lemmas.List.Sums.{sum_by-cons}
use Rattle.cm_base.specs.declared.host.Scalar.{Scalar}
use Rattle.wasm_tree.specs.Spelled.{Each, Vector, Index}
use Rattle.wasm_tree.specs.Section.{Slot, CmajorSection, KindRun, Runs, Spelled_run, Spelled_slot, Spelled_section, slots_of}
use Rattle.wasm_reader.specs.declared.fault.Fault.{Fault}
use Rattle.wasm_reader.specs.Reading.{◌>>=◌}
use Rattle.wasm_reader.proofs.Ends.{ok_is}
use Rattle.wasm_reader.proofs.Readers.{behind}
use Rattle.section_reader.specs.declared.raw.ScalarRun.{ScalarRun}
use Rattle.section_reader.specs.declared.raw.RawSlot.{RawSlot}
use Rattle.section_reader.specs.declared.raw.Head.{Head}
use Rattle.section_reader.specs.declared.section.Section.{Section}
use Rattle.section_reader.specs.Reading.{section_at, ended, whole_at}
use Rattle.section_reader.specs.Raw.{Run, SpelledSlot, SpelledParts, IsRun, HaveRuns, shape_of, scalars_in, scalars_of, end_of, slot_of, section_of, said, AreFew, IsSaid}
use Rattle.section_reader.proofs.ReadingLaws.{section-reads}

-- ---- runs

abbrev pub of_kinds : KindRun → ScalarRun
of_kinds run = record { count = run.count; kind = run.kind }

-- the runs with the test that each has a scalar
record Kinds (runs : List ScalarRun) (bytes : List ℕ) : Type 0 where
  kinds : List KindRun
  many : length kinds ≡ length runs
  spelled : Each Spelled_run kinds bytes
  shape : flat_map (λ run. replicate run.count run.kind) kinds ≡ shape_of runs

kinds_of : (runs : List ScalarRun) (bytes : List ℕ) → AllByRecursion IsRun runs → Each Run runs bytes → Kinds runs bytes
kinds_of [] bytes each h = record { kinds = []; many = refl; spelled = h; shape = refl }
kinds_of (run ∷ runs) bytes each h =
    let others = kinds_of runs h.back each.1 h.second in
    record {
      kinds = record { count = run.count; kind = run.kind; some = each.0 } ∷ others.kinds;
      many = ap suc others.many;
      spelled = behind h others.spelled;
      shape = ap (λ (l : List Scalar). replicate run.count run.kind ++ l) others.shape;
    }

runs_to : (runs : List ScalarRun) (bytes : List ℕ) → AllByRecursion IsRun runs → Vector Run runs bytes → Runs (shape_of runs) bytes
runs_to runs bytes each h =
    let k = kinds_of runs h.back each h.second in
    record {
      runs = k.kinds;
      spelled = record { front = h.front; back = h.back; whole = h.whole; first = subst (λ (n : ℕ). Index n h.front) (sym k.many) h.first; second = k.spelled };
      whole = sym k.shape;
    }

each_raw : (kinds : List KindRun) (bytes : List ℕ) → Each Spelled_run kinds bytes → Each Run (map of_kinds kinds) bytes
each_raw [] bytes h = h
each_raw (run ∷ runs) bytes h = behind h (each_raw runs h.back h.second)

each_some : (kinds : List KindRun) → AllByRecursion IsRun (map of_kinds kinds)
each_some [] = tt
each_some (run ∷ runs) = (run.some, each_some runs)

shape_again : (kinds : List KindRun) → shape_of (map of_kinds kinds) ≡ flat_map (λ run. replicate run.count run.kind) kinds
shape_again [] = refl
shape_again (run ∷ runs) = ap (λ (l : List Scalar). replicate run.count run.kind ++ l) (shape_again runs)

runs_of : (shape : List Scalar) (bytes : List ℕ) → Runs shape bytes → (runs : List ScalarRun) × AllByRecursion IsRun runs × Vector Run runs bytes × (shape_of runs ≡ shape)
runs_of shape bytes r =
    let h = r.spelled in (
      map of_kinds r.runs,
      each_some r.runs,
      record { front = h.front; back = h.back; whole = h.whole; first = subst (λ (n : ℕ). Index n h.front) (sym (length-map r.runs of_kinds)) h.first; second = each_raw r.runs h.back h.second },
      shape_again r.runs ∙ sym r.whole,
    )

-- how many scalars they are
length_of_shape : (runs : List ScalarRun) → length (shape_of runs) ≡ scalars_in runs
length_of_shape [] = refl
length_of_shape (run ∷ runs) = omega (arith, length-append (replicate run.count run.kind) (shape_of runs), length-replicate run.count run.kind, length_of_shape runs, sum_by-cons (λ (r : ScalarRun). r.count) run runs)

scalars_are : (raws : List RawSlot) → sum_by (λ (slot : Slot). length slot.end.shape) (map slot_of raws) ≡ scalars_of raws
scalars_are [] = refl
scalars_are (raw ∷ raws) =
    omega (arith, length_of_shape raw.runs, scalars_are raws, sum_by-cons (λ (slot : Slot). length slot.end.shape) (slot_of raw) (map slot_of raws), sum_by-cons (λ (r : RawSlot). scalars_in r.runs) raw raws)

-- ---- endpoints

slot_to : (raw : RawSlot) (bytes : List ℕ) → AllByRecursion IsRun raw.runs → SpelledSlot raw bytes → Spelled_slot (slot_of raw) bytes
slot_to raw bytes each h =
    let r = h.second.second.second.second in
    behind h (behind h.second (behind h.second.second (behind h.second.second.second
    (record { front = r.front; back = r.back; whole = r.whole; first = runs_to raw.runs r.front each r.first; second = r.second }))))

abbrev shaped : Slot → List Scalar → Slot
shaped slot shape = record { end = record { flow = slot.end.flow; kind = slot.end.kind; name = slot.end.name; shape = shape; parameter = slot.end.parameter }; address = slot.address }

raw_of : (slot : Slot) (bytes : List ℕ) → Spelled_slot slot bytes → (raw : RawSlot) × AllByRecursion IsRun raw.runs × SpelledSlot raw bytes × (slot_of raw ≡ slot)
raw_of slot bytes h =
    let r = h.second.second.second.second in
    let found = runs_of slot.end.shape r.front r.first in (
      record { flow = slot.end.flow; kind = slot.end.kind; name = slot.end.name; address = slot.address; runs = found.0; parameter = slot.end.parameter },
      found.1,
      behind h (behind h.second (behind h.second.second (behind h.second.second.second
          (record { front = r.front; back = r.back; whole = r.whole; first = found.2; second = r.second })))),
      ap (shaped slot) found.3,
    )

slots_to : (raws : List RawSlot) (bytes : List ℕ) → HaveRuns raws → Each SpelledSlot raws bytes → Each Spelled_slot (map slot_of raws) bytes
slots_to [] bytes each h = h
slots_to (raw ∷ raws) bytes each h =
    record { front = h.front; back = h.back; whole = h.whole; first = slot_to raw h.front each.0 h.first; second = slots_to raws h.back each.1 h.second }

raws_of : (slots : List Slot) (bytes : List ℕ) → Each Spelled_slot slots bytes → (raws : List RawSlot) × HaveRuns raws × Each SpelledSlot raws bytes × (map slot_of raws ≡ slots)
raws_of [] bytes h = ([], tt, h, refl)
raws_of (slot ∷ slots) bytes h =
    let one = raw_of slot h.front h.first in
    let others = raws_of slots h.back h.second in (
      one.0 ∷ others.0,
      (one.1, others.1),
      record { front = h.front; back = h.back; whole = h.whole; first = one.2; second = others.2 },
      ap (λ (s : Slot). s ∷ map slot_of others.0) one.3 ∙ ap (λ (l : List Slot). slot ∷ l) others.3,
    )

-- ---- the section

said_by : (head : Head) (raws : List RawSlot) (bytes : List ℕ) → HaveRuns raws → SpelledParts (head, raws) bytes → Spelled_section (section_of head raws) bytes
said_by head raws bytes each h =
    let v = h.second in
    behind h (record { front = v.front; back = v.back; whole = v.whole; first = subst (λ (n : ℕ). Index n v.front) (sym (length-map raws slot_of)) v.first; second = slots_to raws v.back each v.second })

parts_of : (section : CmajorSection) (bytes : List ℕ) → Spelled_section section bytes
    → (head : Head) × (raws : List RawSlot) × HaveRuns raws × SpelledParts (head, raws) bytes × (section_of head raws ≡ section)
parts_of section bytes h =
    let v = h.second in
    let found = raws_of section.slots v.back v.second in
    let many : length section.slots ≡ length found.0 = sym (ap length found.3) ∙ length-map found.0 slot_of in (
      record { interface = section.interface; latency = section.latency },
      found.0,
      found.1,
      behind h (record { front = v.front; back = v.back; whole = v.whole; first = subst (λ (n : ℕ). Index n v.front) many v.first; second = found.2 }),
      ap (λ (slots : List Slot). record { interface = section.interface; latency = section.latency; slots = slots }) found.3,
    )

-- what is read is spelled, by all of the bytes
whole_found : (bytes : List ℕ) (x : Head × List RawSlot) → whole_at bytes ≡ Ok x → SpelledParts x bytes
unfolding whole_at
whole_found bytes x e = by (section_at bytes) refl e where
  by : (r : Result ((Head × List RawSlot) × List ℕ) Fault) → section_at bytes ≡ r → (r >>= ended) ≡ Ok x → SpelledParts x bytes
  by (Err f) p e = absurd cc
  by (Ok (y, [])) p e =
      let t = (section-reads.ends bytes).ok (y, []) p in
      subst (λ z. SpelledParts z bytes) (ok_is y x e) (subst (SpelledParts y) (sym (t.whole ∙ append-nil t.front)) t.spelled)
  by (Ok (y, b ∷ l)) p e = absurd cc

-- and what is spelled is read
whole_again : (bytes : List ℕ) (x : Head × List RawSlot) → SpelledParts x bytes → whole_at bytes ≡ Ok x
unfolding whole_at
whole_again bytes x h =
    ap (λ (l : List ℕ). section_at l >>= ended) (sym (append-nil bytes)) ∙ ap (λ (r : Result ((Head × List RawSlot) × List ℕ) Fault). r >>= ended) (section-reads.again x bytes [] h)

-- ---- what the function answers

-- endpoints and addresses make the slots again
pub slots_are : (raws : List RawSlot) → slots_of (map end_of raws) (map (λ raw. raw.address) raws) ≡ map slot_of raws
slots_are [] = refl
slots_are (raw ∷ raws) = ap (λ (l : List Slot). slot_of raw ∷ l) (slots_are raws)

pub paired : (raws : List RawSlot) → length (map end_of raws) ≡ length (map (λ (raw : RawSlot). raw.address) raws)
paired raws = length-map raws end_of ∙ sym (length-map raws (λ (raw : RawSlot). raw.address))

pub is_said : (s : Section) (head : Head) (raws : List RawSlot) (bytes : List ℕ) → whole_at bytes ≡ Ok (head, raws) → HaveRuns raws → scalars_of raws ≤ 1048576 → said s ≡ section_of head raws → length s.host ≡ length s.addresses → IsSaid s bytes
is_said s head raws bytes read each few says pairs = record {
  spelled = subst (λ section. Spelled_section section bytes) (sym says) (said_by head raws bytes each (whole_found bytes (head, raws) read));
  few = subst AreFew (sym says) (subst (λ (n : ℕ). n ≤ 1048576) (sym (scalars_are raws)) few);
  paired = pairs;
}

-- a section that the bytes say is read as these parts
pub record Told (section : CmajorSection) (bytes : List ℕ) : Type 0 where
  pub head : Head
  pub raws : List RawSlot
  pub read : whole_at bytes ≡ Ok (head, raws)
  pub each : HaveRuns raws
  pub few : scalars_of raws ≤ 1048576
  pub says : section_of head raws ≡ section

pub told : (section : CmajorSection) (bytes : List ℕ) → Spelled_section section bytes → AreFew section → Told section bytes
told section bytes h few =
    let p = parts_of section bytes h in
    record {
      head = p.0;
      raws = p.1;
      read = whole_again bytes (p.0, p.1) p.3;
      each = p.2;
      few = subst (λ (n : ℕ). n ≤ 1048576) (scalars_are p.1) (subst AreFew (sym p.4) few);
      says = p.4;
    }

-- a section that the bytes say is the one that was read
pub read_as : (s : Section) (head : Head) (raws : List RawSlot) (section : CmajorSection) (bytes : List ℕ) → whole_at bytes ≡ Ok (head, raws) → said s ≡ section_of head raws → Spelled_section section bytes → AreFew section → said s ≡ section
read_as s head raws section bytes read says h few =
    let t = told section bytes h few in
    says ∙ ap (λ (p : Head × List RawSlot). section_of p.0 p.1) (ok_is (head, raws) (t.head, t.raws) (sym read ∙ t.read)) ∙ t.says

-- each run has a scalar, and they are few
abbrev pub Accepted : List RawSlot → Type 0
Accepted raws = HaveRuns raws × (scalars_of raws ≤ 1048576)

-- where the runs or their scalars are refused, the bytes say no such section
pub refused_none : (head : Head) (raws : List RawSlot) (section : CmajorSection) (bytes : List ℕ) → whole_at bytes ≡ Ok (head, raws) → (Accepted raws → ⊥) → Spelled_section section bytes → AreFew section → ⊥
refused_none head raws section bytes read none h few =
    let t = told section bytes h few in
    none (subst (λ (p : Head × List RawSlot). Accepted p.1) (ok_is (t.head, t.raws) (head, raws) (sym t.read ∙ read)) (t.each, t.few))

-- and where there is a fault
pub fault_none : (fault : Fault) (section : CmajorSection) (bytes : List ℕ) → whole_at bytes ≡ Err fault → Spelled_section section bytes → AreFew section → ⊥
fault_none fault section bytes read h few = absurd (cc ((told section bytes h few).read, read))
