-- What a host keeps, and what it writes of it.
use Rattle.std.proofs.Common.{◌≡◌, ◌<◌, ◌≤◌, ◌+◌, ◌*◌, ◌++◌, ℕ, zero, suc, List, [], ◌∷◌, length, take, drop, replicate, get_or, Bool, true, false, Option, Some, None, refl, sym, ap, ◌∙◌, subst, arith, ℤ, pos}
use Rattle.std.specs.Prelude.{slice_get, slice_set, filter, ◌&&◌, if◌then◌else◌}
use Rattle.std.specs.Option.{IfSome, IsSomeAnd, option_map_or}
use Rattle.std.specs.List.{AllByRecursion}
use Rattle.std.proofs.lemmas.List.{take_all, length-replicate}
use Rattle.cm_base.specs.declared.host.Scalar.{Scalar}
use Rattle.cm_base.specs.declared.host.Kind.{Kind}
use Rattle.cm_base.specs.declared.host.Kind.TheVariants as kinds
use Rattle.cm_base.specs.declared.host.HostEnd.{HostEnd}
use Rattle.cm_base.specs.HostEnds.{IsLawful, IsLawfulEnd, IsLawfulScalar}
use Rattle.cm_base.specs.declared.host.Flow.{Flow}
use Rattle.cm_base.specs.Parts.{is_stream, is_input, is_event, given_at}
use Rattle.cm_base.specs.Scripts.{HasShape}
use Rattle.cm_base.specs.Tasks.{IsTaken}
use Rattle.cm_base.proofs.TaskLemmas.{given_fits, drop_none, shape_length}
use Rattle.wasm_tree.specs.HostRun.{zeros_of}
use Rattle.wasm_tree.specs.Section.{Slot, CmajorSection, block_length, entries}
use Rattle.wasm_tree.specs.Host.{event_inputs}
use Rattle.wasm_tree.specs.Slots.{write_slot, write_event, event_number}
use Rattle.wasm_runner.specs.Entries.{HasEntry}
use Rattle.module_player.specs.Given.{numbers_from, AreGiven}
use Rattle.module_player.specs.Rooms.{HaveRooms}
use Rattle.module_player.specs.Writing.{ends_in, AreValues}
use Rattle.module_player.proofs.Written.{if_some, of_some, some_and}

abbrev is_event_input : HostEnd → Bool
is_event_input end = is_input end.flow && is_event end.kind

-- ---- zeros

pub zeros_shaped : (shape : List Scalar) → AllByRecursion IsLawfulScalar shape → HasShape shape (replicate (length shape) (pos 0))
zeros_shaped shape lawful =
    let n : ℕ = length shape in
    let all : take n (replicate n (pos 0)) ≡ replicate n (pos 0) = take_all n (replicate n (pos 0)) (omega (arith, length-replicate n (pos 0))) in
    subst (HasShape shape) (ap (λ given. take n (given ++ replicate n (pos 0))) (drop_none (0 * n)) ∙ all) (given_fits shape 0 [] lawful tt)

zeros_are : (slots : List Slot) → AllByRecursion IsLawfulEnd (ends_in slots) → AreValues slots (zeros_of (ends_in slots))
zeros_are [] lawful = refl
zeros_are (slot ∷ slots) lawful = (zeros_shaped slot.end.shape lawful.0.scalars, zeros_are slots lawful.1)

pub zeros_long : (slots : List Slot) → HaveRooms slots (zeros_of (ends_in slots))
zeros_long [] = tt
zeros_long (slot ∷ slots) = (length-replicate (length slot.end.shape) (pos 0), zeros_long slots)

pub given_first : (slots : List Slot) (current rooms : List (List ℤ)) (numbers : List ℕ) → IsLawful (ends_in slots) → current ≡ zeros_of (ends_in slots) → rooms ≡ zeros_of (ends_in slots) → numbers ≡ numbers_from 0 slots → AreGiven slots current rooms numbers
given_first slots current rooms numbers lawful c r n = record {
  values = subst (AreValues slots) (sym c) (zeros_are slots lawful.each);
  long = subst (HaveRooms slots) (sym r) (zeros_long slots);
  numbered = n;
}

-- ---- an endpoint that takes a value

pub record TakenSlot (kind : Kind) (slots : List Slot) (number : ℕ) (value : List ℤ) : Type 0 where
  pub slot : Slot
  pub found : slice_get slots number ≡ Some slot
  pub below : number < length slots
  pub is : slot.end.kind ≡ kind
  pub shape : HasShape slot.end.shape value

slot_of : (slots : List Slot) (number : ℕ) (end : HostEnd) → slice_get (ends_in slots) number ≡ Some end → (slot : Slot) × (slice_get slots number ≡ Some slot) × (slot.end ≡ end) × (number < length slots)
slot_of [] zero end e = absurd (cc (e))
slot_of [] (suc number) end e = absurd (cc (e))
slot_of (slot ∷ slots) zero end e = (slot, refl, cc (e), omega arith)
slot_of (slot ∷ slots) (suc number) end e = let rest = slot_of slots number end e in (rest.0, rest.1, rest.2, omega (arith, rest.3))

pub taken_slot : (kind : Kind) (slots : List Slot) (number : ℕ) (value : List ℤ) → IsTaken kind (ends_in slots) number value → TakenSlot kind slots number value
taken_slot kind slots number value taken =
    let at = slot_of slots number taken.end taken.found in
    record {
      slot = at.0;
      found = at.1;
      below = at.3;
      is = ap (λ (e : HostEnd). e.kind) at.2 ∙ taken.takes.right_kind;
      shape = subst (λ (e : HostEnd). HasShape e.shape value) (sym at.2) taken.takes.shape;
    }

-- ---- an event

pub event_entry : (section : CmajorSection) (number : ℕ) (value : List ℤ) → TakenSlot kinds.Event section.slots number value → HasEntry section number 0
event_entry section number value taken =
    let one : entries section taken.slot.end ≡ 1 = ap (λ k. if is_stream k then block_length section.interface else 1) taken.is in
    some_and (slice_get section.slots number) (λ slot. 0 < entries section slot.end) taken.slot taken.found (omega (arith, one))

pub event_shaped : (slots : List Slot) (number : ℕ) (value : List ℤ) → TakenSlot kinds.Event slots number value → IfSome (slice_get slots number) (λ slot. HasShape slot.end.shape value)
event_shaped slots number value taken =
    subst (λ (o : Option Slot). IfSome o (λ slot. HasShape slot.end.shape value)) (sym taken.found) taken.shape

pub event_written : (slots : List Slot) (number : ℕ) (value : List ℤ) (memory before : List ℕ) → TakenSlot kinds.Event slots number value → IfSome (slice_get slots number) (λ slot. memory ≡ write_slot slot 0 value before) →
    memory ≡ write_event slots number value before
event_written slots number value memory before taken h =
    of_some (slice_get slots number) (λ slot. memory ≡ write_slot slot 0 value before) taken.slot taken.found h
    ∙ ap (λ (o : Option Slot). option_map_or (λ slot. write_slot slot 0 value before) o before) (sym taken.found)

pub one_scalar : (old new : List ℤ) (z : ℤ) → length old ≡ 1 → new ≡ slice_set old 0 z → new ≡ z ∷ []
one_scalar [] new z l e = absurd (omega (arith, l))
one_scalar (x ∷ []) new z l e = e
one_scalar (x ∷ (y ∷ old)) new z l e = absurd (omega (arith, l))

-- ---- numbers

pub counted_one : (b r : Bool) (number next : ℕ) → r ≡ b → r ≡ true → next ≡ number + 1 → next ≡ (if b then 1 else 0) + number
counted_one true r number next e t n = omega (arith, n)
counted_one false r number next e t n = absurd (cc (e, t))

pub counted_none : (b r : Bool) (number next : ℕ) → r ≡ b → r ≡ false → next ≡ number → next ≡ (if b then 1 else 0) + number
counted_none true r number next e t n = absurd (cc (e, t))
counted_none false r number next e t n = omega (arith, n)

-- an event input has a number among them
pub event_below : (slots : List Slot) (at : ℕ) (slot : Slot) → slice_get slots at ≡ Some slot → (is_input slot.end.flow && is_event slot.end.kind) ≡ true → event_number slots at < event_inputs (ends_in slots)
event_below [] zero slot e t = absurd (cc (e))
event_below [] (suc at) slot e t = absurd (cc (e))
event_below (first ∷ slots) zero slot e t =
    let same : first ≡ slot = cc (e) in
    let b : (is_input first.end.flow && is_event first.end.kind) ≡ true = ap (λ (s : Slot). is_input s.end.flow && is_event s.end.kind) same ∙ t in
    first_below (is_input first.end.flow && is_event first.end.kind) first.end (filter is_event_input (ends_in slots)) b
  where
    first_below : (b : Bool) (end : HostEnd) (others : List HostEnd) → b ≡ true → 0 < length (if b then end ∷ others else others)
    first_below true end others t = omega arith
    first_below false end others t = absurd (cc (t))
event_below (first ∷ slots) (suc at) slot e t =
    later_below (is_input first.end.flow && is_event first.end.kind) first.end (filter is_event_input (ends_in slots)) (event_number slots at) (event_below slots at slot e t)
  where
    later_below : (b : Bool) (end : HostEnd) (others : List HostEnd) (n : ℕ) → n < length others → (if b then 1 else 0) + n < length (if b then end ∷ others else others)
    later_below true end others n l = omega (arith, l)
    later_below false end others n l = omega (arith, l)

pub taken_below : (slots : List Slot) (at : ℕ) (value : List ℤ) → IsTaken kinds.Event (ends_in slots) at value → event_number slots at < event_inputs (ends_in slots)
taken_below slots at value taken =
    let found = slot_of slots at taken.end taken.found in
    event_below slots at found.0 found.1
    (ap (λ (e : HostEnd). is_input e.flow && is_event e.kind) found.2 ∙ (ap (λ (f : Flow). is_input f && is_event taken.end.kind) taken.takes.flow ∙ ap is_event taken.takes.right_kind))

pub taken_inside : (slots : List Slot) (at : ℕ) (value : List ℤ) → IsTaken kinds.Event (ends_in slots) at value → at < length slots
taken_inside slots at value taken = (slot_of slots at taken.end taken.found).3
