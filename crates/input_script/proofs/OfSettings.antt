-- What is set or sent belongs to the endpoints, and no frame has too many events.
use Rattle.std.proofs.Common.{◌≡◌, ℕ, ◌+◌, ◌-◌, ◌≤◌, ◌<◌, ◌==◌, nat_le, nat_lt, List, [], ◌∷◌, length, Bool, true, false, ◌&&◌, cond, if◌then◌else◌, Option, Some, None, option_and_then, Ok, Err, refl, sym, ap, subst, ◌∙◌, arith}
use Rattle.std.specs.Prelude.{filter}
use Rattle.std.specs.List.{AllByRecursion}
use Rattle.std.proofs.lemmas.Bool.Decides.{nat_tests}
use Rattle.serde_json.specs.Data.{Data, Items, no_items, item}
use Rattle.serde_json.specs.Find.{as_array, as_number, as_u64, as_str}
use Rattle.cm_base.specs.declared.forms.FormRule.TheVariants as rule
use Rattle.cm_base.specs.declared.host.Flow.{Flow}
use Rattle.cm_base.specs.declared.host.Flow.TheVariants.{Input, Output}
use Rattle.cm_base.specs.declared.host.Kind.{Kind}
use Rattle.cm_base.specs.declared.host.Kind.TheVariants as kinds
use Rattle.cm_base.specs.declared.host.HostEnd.{HostEnd}
use Rattle.cm_base.specs.declared.play.Setting.{Setting}
use Rattle.cm_base.specs.HostEnds.{IsLawfulEnd}
use Rattle.cm_base.specs.Parts.{is_input}
use Rattle.cm_base.specs.Scripts.{IsSetting, AreFrom, IsWithinEvents}
use Rattle.json_value.specs.Form.{after, or_fault, fault, followed}
use Rattle.input_script.specs.declared.at.At.{At}
use Rattle.input_script.specs.Script.{fails, at_entry, part_of, value_for, entry_of, frame_within, frame_of, setting_of, is_past, first_index, settings_from, settings_of, is_kind, input_named}
use Rattle.input_script.proofs.Ends.{lawful_at}
use Rattle.input_script.proofs.Found.{went, there, not_passed, both, ok_is}
use Rattle.input_script.proofs.OfStreams.{input_is}
use Rattle.input_script.proofs.OfKinds.{value_fits}

-- ---- one setting

flow_is : (flow : Flow) (rest : Bool) → (is_input flow && rest) ≡ true → (flow ≡ Input) × (rest ≡ true)
flow_is Input rest h = (refl, h)
flow_is Output rest h = absurd (cc)

kind_is : (kind other : Kind) → is_kind kind other ≡ true → other ≡ kind
kind_is kinds.Stream kinds.Stream h = refl
kind_is kinds.Stream kinds.Value h = absurd (cc)
kind_is kinds.Stream kinds.Event h = absurd (cc)
kind_is kinds.Value kinds.Stream h = absurd (cc)
kind_is kinds.Value kinds.Value h = refl
kind_is kinds.Value kinds.Event h = absurd (cc)
kind_is kinds.Event kinds.Stream h = absurd (cc)
kind_is kinds.Event kinds.Value h = absurd (cc)
kind_is kinds.Event kinds.Event h = refl

pub record IsWithin (first end frame : ℕ) : Type 0 where
  pub above : first ≤ frame
  pub below : frame < end

some_is : (one other : ℕ) → Some one ≡ Some other → one ≡ other
some_is one other h = cc

within_is : (first end n frame : ℕ) (above below : Bool) → nat_le first n ≡ above → nat_lt n end ≡ below → (if above && below then Some n else None) ≡ Some frame → IsWithin first end frame
within_is first end n frame true true one other h =
    subst (IsWithin first end) (some_is n frame h) (record { above = grind (arith, nat_tests, one); below = grind (arith, nat_tests, other) })
within_is first end n frame true false one other h = absurd (cc)
within_is first end n frame false below one other h = absurd (cc)

frame_is_within : (first end frame : ℕ) (number : Option ℕ) → option_and_then (frame_within first end) number ≡ Some frame → IsWithin first end frame
frame_is_within first end frame None h = absurd (cc)
frame_is_within first end frame (Some n) h = within_is first end n frame (nat_le first n) (nat_lt n end) refl refl h

pub record Belongs (kind : Kind) (frames first : ℕ) (ends : List HostEnd) (setting : Setting) : Type 0 where
  pub is : IsSetting kind frames ends setting
  pub above : first ≤ setting.frame

setting_belongs : (kind : Kind) (ends : List HostEnd) (frames : ℕ) (at : At) (first : ℕ) (value : Data) (setting : Setting) → AllByRecursion IsLawfulEnd ends → setting_of kind ends frames at first value ≡ Ok setting
    → Belongs kind frames first ends setting
setting_belongs kind ends frames at first value setting lawful h =
    let entry = went (or_fault (fails at rule.Shape) (entry_of value)) (λ entry. after (or_fault (fails at rule.Shape) (as_str entry.name)) (λ name. after (or_fault (fails at rule.Endpoint) (input_named kind ends name)) (λ found. after (or_fault (fails at rule.Frame) (frame_of first frames entry.frame)) (λ frame. after (value_for at found.end entry.value) (λ zs. Ok (let one : Setting = record { frame = frame; endpoint = found.number; value = zs } in one)))))) setting h in
    let name = went (or_fault (fails at rule.Shape) (as_str entry.x.name)) (λ name. after (or_fault (fails at rule.Endpoint) (input_named kind ends name)) (λ found. after (or_fault (fails at rule.Frame) (frame_of first frames entry.x.frame)) (λ frame. after (value_for at found.end entry.x.value) (λ zs. Ok (let one : Setting = record { frame = frame; endpoint = found.number; value = zs } in one))))) setting entry.gives in
    let found = went (or_fault (fails at rule.Endpoint) (input_named kind ends name.x)) (λ found. after (or_fault (fails at rule.Frame) (frame_of first frames entry.x.frame)) (λ frame. after (value_for at found.end entry.x.value) (λ zs. Ok (let one : Setting = record { frame = frame; endpoint = found.number; value = zs } in one)))) setting name.gives in
    let frame = went (or_fault (fails at rule.Frame) (frame_of first frames entry.x.frame)) (λ frame. after (value_for at found.x.end entry.x.value) (λ zs. Ok (let one : Setting = record { frame = frame; endpoint = found.x.number; value = zs } in one))) setting found.gives in
    let zs = went (value_for at found.x.end entry.x.value) (λ zs. Ok (let one : Setting = record { frame = frame.x; endpoint = found.x.number; value = zs } in one)) setting frame.gives in
    let input = input_is kind ends name.x found.x (there (fails at rule.Endpoint) (input_named kind ends name.x) found.x found.first) in
    let both_are = flow_is found.x.end.flow (is_kind kind found.x.end.kind) input.input in
    let within = frame_is_within first frames frame.x (option_and_then as_u64 (as_number entry.x.frame)) (there (fails at rule.Frame) (frame_of first frames entry.x.frame) frame.x frame.first) in
    let fits = value_fits at found.x.end entry.x.value zs.x (lawful_at ends found.x.number found.x.end input.entry lawful) zs.first in
    let one : Setting = record { frame = frame.x; endpoint = found.x.number; value = zs.x } in
    subst (Belongs kind frames first ends) (ok_is one setting zs.gives)
    (record {
      is = record {
        frame = within.below;
        end = found.x.end;
        found = input.entry;
        takes = record { flow = both_are.0; right_kind = kind_is kind found.x.end.kind both_are.1; shape = fits.0; range = fits.1 };
      };
      above = within.above;
    })

-- ---- all settings

-- what is read of an entry and of those behind it
pub record Step (kind : Kind) (ends : List HostEnd) (frames index frame first : ℕ) (value : Data) (items : Items) (all : List Setting) : Type 0 where
  pub setting : Setting
  pub others : List Setting
  pub one : setting_of kind ends frames (at_entry (part_of kind) index) frame value ≡ Ok setting
  pub few : is_past kind (index - first_index index frame first setting.frame) ≡ false
  pub rest : settings_from kind ends frames (index + 1) setting.frame (first_index index frame first setting.frame) items ≡ Ok others
  pub whole : all ≡ setting ∷ others

step_of : (kind : Kind) (ends : List HostEnd) (frames index frame first : ℕ) (value : Data) (items : Items) (all : List Setting)
    → settings_from kind ends frames index frame first (item value items) ≡ Ok all → Step kind ends frames index frame first value items all
step_of kind ends frames index frame first value items all h =
    let read = setting_of kind ends frames (at_entry (part_of kind) index) frame value in
    let step = went read (λ setting.
    if is_past kind (index - first_index index frame first setting.frame) then Err (fails (at_entry (part_of kind) index) rule.EventLimit) else
    followed (Ok setting) (settings_from kind ends frames (index + 1) setting.frame (first_index index frame first setting.frame) items)) all h in
    let begin = first_index index frame first step.x.frame in
    let rest = settings_from kind ends frames (index + 1) step.x.frame begin items in
    let few = not_passed (is_past kind (index - begin)) (followed (Ok step.x) rest) (fails (at_entry (part_of kind) index) rule.EventLimit) all step.gives in
    let parts = both (Ok step.x) rest all few.1 in
    let same = ok_is step.x parts.head parts.one in
    record { setting = step.x; others = parts.tail; one = step.first; few = few.0; rest = parts.rest; whole = parts.whole ∙ ap (λ s. s ∷ parts.tail) (sym same) }

abbrev none_read : List Setting
none_read = []

all_are : (kind : Kind) (ends : List HostEnd) (frames index frame first : ℕ) (items : Items) (all : List Setting) → AllByRecursion IsLawfulEnd ends → settings_from kind ends frames index frame first items ≡ Ok all
    → AllByRecursion (IsSetting kind frames ends) all
all_are kind ends frames index frame first no_items all lawful h = subst (AllByRecursion (IsSetting kind frames ends)) (ok_is none_read all h) tt
all_are kind ends frames index frame first (item value items) all lawful h =
    let step = step_of kind ends frames index frame first value items all h in
    let one = setting_belongs kind ends frames (at_entry (part_of kind) index) frame value step.setting lawful step.one in
    subst (AllByRecursion (IsSetting kind frames ends)) (sym step.whole)
    (one.is, all_are kind ends frames (index + 1) step.setting.frame (first_index index frame first step.setting.frame) items step.others lawful step.rest)

they_rise : (kind : Kind) (ends : List HostEnd) (frames index frame first : ℕ) (items : Items) (all : List Setting) → AllByRecursion IsLawfulEnd ends → settings_from kind ends frames index frame first items ≡ Ok all
    → AreFrom frame all
they_rise kind ends frames index frame first no_items all lawful h = subst (AreFrom frame) (ok_is none_read all h) tt
they_rise kind ends frames index frame first (item value items) all lawful h =
    let step = step_of kind ends frames index frame first value items all h in
    let one = setting_belongs kind ends frames (at_entry (part_of kind) index) frame value step.setting lawful step.one in
    subst (AreFrom frame) (sym step.whole)
    (one.above, they_rise kind ends frames (index + 1) step.setting.frame (first_index index frame first step.setting.frame) items step.others lawful step.rest)

-- ---- how many events a frame has

abbrev count_at : ℕ → List Setting → ℕ
count_at frame settings = length (filter (λ setting. setting.frame == frame) settings)

-- how many of the entries before are for this frame
abbrev before_at : ℕ → ℕ → ℕ → ℕ → ℕ
before_at at index frame first = if at == frame then index - first else 0

none_below : (at from : ℕ) (settings : List Setting) → AreFrom from settings → at < from → count_at at settings ≡ 0
none_below at from [] rise below = refl
none_below at from (setting ∷ settings) rise below =
    let other : (setting.frame == at) ≡ false = grind (arith, nat_tests, rise.0) in
    rw other (none_below at setting.frame settings rise.1 (omega (arith, rise.0)))

count_more : (at : ℕ) (setting : Setting) (settings : List Setting) → count_at at (setting ∷ settings) ≡ (if setting.frame == at then 1 else 0) + count_at at settings
count_more at setting settings = count_by (setting.frame == at) setting (filter (λ s. s.frame == at) settings)
  where
    count_by : (test : Bool) (one : Setting) (kept : List Setting) → length (cond test (one ∷ kept) kept) ≡ (if test then 1 else 0) + length kept
    count_by true one kept = omega arith
    count_by false one kept = omega arith

few_more : (at index frame first now rest : ℕ) → first ≤ index → index - first ≤ 1024 → frame ≤ now → index - first_index index frame first now < 1024
    → (at < now → rest ≡ 0) → rest + before_at at (index + 1) now (first_index index frame first now) ≤ 1024
    → (if now == at then 1 else 0) + rest + before_at at index frame first ≤ 1024
few_more at index frame first now rest not_after before rises few none held = grind (arith, nat_tests)

event_few : (before : ℕ) → is_past kinds.Event before ≡ false → before < 1024
event_few before h = grind (arith, nat_tests)

first_before : (index frame first now : ℕ) → first ≤ index → first_index index frame first now ≤ index
first_before index frame first now le = grind (arith, nat_tests)

few_at : (at : ℕ) (ends : List HostEnd) (frames index frame first : ℕ) (items : Items) (all : List Setting) → AllByRecursion IsLawfulEnd ends → first ≤ index → index - first ≤ 1024
    → settings_from kinds.Event ends frames index frame first items ≡ Ok all → count_at at all + before_at at index frame first ≤ 1024
few_at at ends frames index frame first no_items all lawful not_after before h =
    subst (λ settings. count_at at settings + before_at at index frame first ≤ 1024) (ok_is none_read all h) (grind (arith, nat_tests))
few_at at ends frames index frame first (item value items) all lawful not_after before h =
    let step = step_of kinds.Event ends frames index frame first value items all h in
    let now = step.setting.frame in
    let begin = first_index index frame first now in
    let one = setting_belongs kinds.Event ends frames (at_entry (part_of kinds.Event) index) frame value step.setting lawful step.one in
    let few = event_few (index - begin) step.few in
    let begins = first_before index frame first now not_after in
    let rise = they_rise kinds.Event ends frames (index + 1) now begin items step.others lawful step.rest in
    let rest = few_at at ends frames (index + 1) now begin items step.others lawful (omega (arith, begins)) (omega (arith, begins, few)) step.rest in
    let total = few_more at index frame first now (count_at at step.others) not_after before one.above few (λ below. none_below at now step.others rise below) rest in
    subst (λ settings. count_at at settings + before_at at index frame first ≤ 1024) (sym step.whole) (rw (count_more at step.setting step.others) total)

-- ---- the members `values` and `events`

pub settings_are : (kind : Kind) (ends : List HostEnd) (frames : ℕ) (value : Option Data) (all : List Setting) → AllByRecursion IsLawfulEnd ends → settings_of kind ends frames value ≡ Ok all
    → AllByRecursion (IsSetting kind frames ends) all × AreFrom 0 all
settings_are kind ends frames None all lawful h =
    let P : List Setting → Type 0 = λ settings. AllByRecursion (IsSetting kind frames ends) settings × AreFrom 0 settings in
    subst P (ok_is none_read all h) (tt, tt)
settings_are kind ends frames (Some value) all lawful h =
    let step = went (or_fault (fault rule.Shape (part_of kind) 0) (as_array value)) (settings_from kind ends frames 0 0 0) all h in
    (all_are kind ends frames 0 0 0 step.x all lawful step.gives, they_rise kind ends frames 0 0 0 step.x all lawful step.gives)

pub events_few : (ends : List HostEnd) (frames : ℕ) (value : Option Data) (all : List Setting) → AllByRecursion IsLawfulEnd ends → settings_of kinds.Event ends frames value ≡ Ok all → IsWithinEvents all
events_few ends frames None all lawful h = λ at. subst (λ settings. count_at at settings ≤ 1024) (ok_is none_read all h) (omega arith)
events_few ends frames (Some value) all lawful h = λ at.
    let step = went (or_fault (fault rule.Shape (part_of kinds.Event) 0) (as_array value)) (settings_from kinds.Event ends frames 0 0 0) all h in
    let few = few_at at ends frames 0 0 0 step.x all lawful (omega arith) (omega arith) step.gives in
    omega (arith, few)
