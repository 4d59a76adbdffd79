-- Rooms for what a host reads.
use Rattle.std.proofs.Common.{◌≡◌, ◌+◌, ◌<◌, ◌≤◌, ◌^◌, ◌++◌, ℕ, zero, suc, List, [], ◌∷◌, length, length-append, take, drop, get_or, Bool, true, false, Option, Some, None, add-one, refl, sym, ap, ◌∙◌, subst, append_assoc, ℤ, arith}
use Rattle.std.specs.Prelude.{map, sum_by, slice_get, slice_set, if◌then◌else◌}
use Rattle.std.specs.Option.{is_some, IfSome}
use Rattle.std.proofs.Math.ListN.{length-set}
use Rattle.std.proofs.lemmas.List.{set-set}
use Rattle.std.specs.List.{AllByRecursion}
use Rattle.std.proofs.lemmas.List.Sums.{sum_by-cons}
use Rattle.cm_base.specs.declared.host.Scalar.{Scalar}
use Rattle.cm_base.specs.declared.host.HostEnd.{HostEnd}
use Rattle.wasm_tree.specs.Section.{Slot, scalar_size}
use Rattle.wasm_tree.specs.Slots.{scalars_of, read_slot, is_told, is_event_output, event_slot, outputs_at}
use Rattle.wasm_runner.specs.Entries.{IsShaped}
use Rattle.module_player.specs.Rooms.{HaveRooms, AreRooms, output_size, frame_size, read_entry_of, output_at}

pub scalars_length : (kinds : List Scalar) (bytes : List ℕ) → length (scalars_of kinds bytes) ≡ length kinds
scalars_length [] bytes = refl
scalars_length (kind ∷ kinds) bytes = ap (λ n. suc n) (scalars_length kinds (drop (scalar_size kind) bytes))

-- ---- rooms

pub rooms_length : (slots : List Slot) (rooms : List (List ℤ)) → HaveRooms slots rooms → length rooms ≡ length slots
rooms_length [] [] have = refl
rooms_length [] (room ∷ rooms) have = absurd have
rooms_length (slot ∷ slots) [] have = absurd have
rooms_length (slot ∷ slots) (room ∷ rooms) have = ap (λ n. suc n) (rooms_length slots rooms have.1)

-- the room of an endpoint
pub room_at : (slots : List Slot) (rooms : List (List ℤ)) (at : ℕ) (slot : Slot) (room : List ℤ) → HaveRooms slots rooms → slice_get slots at ≡ Some slot → slice_get rooms at ≡ Some room → length room ≡ length slot.end.shape
room_at [] rooms at slot room have found here = absurd (cc found)
room_at (first ∷ slots) [] at slot room have found here = absurd have
room_at (first ∷ slots) (other ∷ rooms) zero slot room have found here =
    let r : other ≡ room = cc here in
    let s : first ≡ slot = cc found in
    ap length (sym r) ∙ (have.0 ∙ ap (λ x. length x.end.shape) s)
room_at (first ∷ slots) (other ∷ rooms) (suc at) slot room have found here = room_at slots rooms at slot room have.1 found here

-- a room is put back
pub room_set : (slots : List Slot) (rooms : List (List ℤ)) (at : ℕ) (slot : Slot) (room : List ℤ) → HaveRooms slots rooms → slice_get slots at ≡ Some slot → length room ≡ length slot.end.shape → HaveRooms slots (slice_set rooms at room)
room_set [] rooms at slot room have found long = absurd (cc found)
room_set (first ∷ slots) [] at slot room have found long = absurd have
room_set (first ∷ slots) (other ∷ rooms) zero slot room have found long = let s : first ≡ slot = cc found in (long ∙ ap (λ x. length x.end.shape) (sym s), have.1)
room_set (first ∷ slots) (other ∷ rooms) (suc at) slot room have found long = (have.0, room_set slots rooms at slot room have.1 found long)

pub rooms_of_ends : (slots : List Slot) (rooms : List (List ℤ)) → AreRooms (map (λ slot. slot.end) slots) rooms → HaveRooms slots rooms
rooms_of_ends [] [] are = tt
rooms_of_ends [] (room ∷ rooms) are = absurd are
rooms_of_ends (slot ∷ slots) [] are = absurd are
rooms_of_ends (slot ∷ slots) (room ∷ rooms) are = (are.0, rooms_of_ends slots rooms are.1)

-- one room more
pub rooms_more : (ends : List HostEnd) (rooms : List (List ℤ)) (end : HostEnd) (room : List ℤ) → AreRooms ends rooms → length room ≡ length end.shape → AreRooms (ends ++ end ∷ []) (rooms ++ room ∷ [])
rooms_more [] [] end room are long = (long, tt)
rooms_more [] (other ∷ rooms) end room are long = absurd are
rooms_more (first ∷ ends) [] end room are long = absurd are
rooms_more (first ∷ ends) (other ∷ rooms) end room are long = (are.0, rooms_more ends rooms end room are.1 long)

-- ---- a frame

pub frame_sum : (slots : List Slot) → sum_by output_size (map (λ slot. slot.end) slots) ≡ frame_size slots
frame_sum [] = refl
frame_sum (slot ∷ slots) = sum_by-cons output_size slot.end (map (λ slot. slot.end) slots) ∙ ap (λ n. output_size slot.end + n) (frame_sum slots)

pub small_ends : (slots : List Slot) → AllByRecursion IsShaped slots → AllByRecursion (λ end. length end.shape < 2 ^ 24) (map (λ slot. slot.end) slots)
small_ends [] shaped = tt
small_ends (slot ∷ slots) shaped = (shaped.0.few, small_ends slots shaped.1)

pub drop_slot : (slots : List Slot) (at : ℕ) (slot : Slot) → slice_get slots at ≡ Some slot → drop at slots ≡ slot ∷ drop (suc at) slots
drop_slot [] at slot found = absurd (cc found)
drop_slot (first ∷ slots) zero slot found = let s : first ≡ slot = cc found in ap (λ x. x ∷ slots) s
drop_slot (first ∷ slots) (suc at) slot found = drop_slot slots at slot found

-- how far a frame is read
pub record IsRead (slots : List Slot) (entry : ℕ) (memory : List ℕ) (at place : ℕ) (into : List ℤ) : Type 0 where
  pub sum : place + frame_size (drop at slots) ≡ length into
  pub read : take place into ++ outputs_at (drop at slots) entry memory ≡ outputs_at slots entry memory

pub read_room : (slots : List Slot) (entry : ℕ) (memory : List ℕ) (at place : ℕ) (into : List ℤ) (slot : Slot) → slice_get slots at ≡ Some slot → IsRead slots entry memory at place into → place + output_size slot.end ≤ length into
read_room slots entry memory at place into slot found is =
    let e : frame_size (drop at slots) ≡ output_size slot.end + frame_size (drop (suc at) slots) = ap frame_size (drop_slot slots at slot found) in
    let s = is.sum in
    omega arith

pub read_more : (slots : List Slot) (entry : ℕ) (memory : List ℕ) (at place next : ℕ) (into after : List ℤ) (slot : Slot) → slice_get slots at ≡ Some slot → IsRead slots entry memory at place into →
    next ≡ place + output_size slot.end → length after ≡ length into → take next after ≡ take place into ++ output_at slot entry memory → IsRead slots entry memory (suc at) next after
read_more slots entry memory at place next into after slot found is next_is long read = record {
  sum =
      let e : frame_size (drop at slots) ≡ output_size slot.end + frame_size (drop (suc at) slots) = ap frame_size (drop_slot slots at slot found) in
      let s = is.sum in
      omega arith;
  read =
      ap (λ l. l ++ outputs_at (drop (suc at) slots) entry memory) read
      ∙ (append_assoc (take place into) (output_at slot entry memory) (outputs_at (drop (suc at) slots) entry memory)
      ∙ (ap (λ l. take place into ++ outputs_at l entry memory) (sym (drop_slot slots at slot found)) ∙ is.read));
}

-- ---- one endpoint

pub all_at : {X : Type 0} (P : X → Type 0) (xs : List X) (at : ℕ) (x : X) → AllByRecursion P xs → slice_get xs at ≡ Some x → P x
all_at P [] at x all found = absurd (cc found)
all_at P (first ∷ xs) zero x all found = let same : first ≡ x = cc found in subst P same all.0
all_at P (first ∷ xs) (suc at) x all found = all_at P xs at x all.1 found

slot_found : (slots : List Slot) (at : ℕ) (end : HostEnd) → at < length slots → end ≡ get_or (map (λ slot. slot.end) slots) at end →
    slice_get slots at ≡ Some (record { end = end; address = get_or (map (λ slot. slot.address) slots) at 0 })
slot_found [] at end there is = absurd (omega (arith, there))
slot_found (slot ∷ slots) zero end there is = ap (λ e. Some (record { end = e; address = slot.address })) (sym is)
slot_found (slot ∷ slots) (suc at) end there is = slot_found slots at end (omega (arith, there)) is

-- the slot of this number, by the lists of endpoints and addresses
pub slot_read : (slots : List Slot) (ends : List HostEnd) (addresses : List ℕ) (at : ℕ) (end : HostEnd) → ends ≡ map (λ slot. slot.end) slots → addresses ≡ map (λ slot. slot.address) slots → at < length slots → end ≡ get_or ends at end →
    slice_get slots at ≡ Some (record { end = end; address = get_or addresses at 0 })
slot_read slots ends addresses at end same like there is =
    subst (λ l. slice_get slots at ≡ Some (record { end = end; address = get_or l at 0 })) (sym like)
    (slot_found slots at end there (subst (λ l. end ≡ get_or l at end) same is))

pub size_told : (end : HostEnd) → is_told end ≡ true → output_size end ≡ length end.shape
size_told end told = ap (λ b. if b then length end.shape else 0) told

pub size_untold : (end : HostEnd) → is_told end ≡ false → output_size end ≡ 0
size_untold end told = ap (λ b. if b then length end.shape else 0) told

pub output_told : (slot : Slot) (entry : ℕ) (memory : List ℕ) → is_told slot.end ≡ true → output_at slot entry memory ≡ read_slot slot (read_entry_of slot.end entry) memory
output_told slot entry memory told = ap (λ b. if b then read_slot slot (read_entry_of slot.end entry) memory else []) told

pub output_untold : (slot : Slot) (entry : ℕ) (memory : List ℕ) → is_told slot.end ≡ false → output_at slot entry memory ≡ []
output_untold slot entry memory told = ap (λ b. if b then read_slot slot (read_entry_of slot.end entry) memory else []) told

-- a room is taken and put back
pub rooms_back : (slots : List Slot) (rooms taken after : List (List ℤ)) (at : ℕ) (slot : Slot) (room : List ℤ) → HaveRooms slots rooms → slice_get slots at ≡ Some slot → taken ≡ slice_set rooms at [] → after ≡ slice_set taken at room →
    length room ≡ length slot.end.shape → HaveRooms slots after
rooms_back slots rooms taken after at slot room have found took put long =
    subst (HaveRooms slots) (sym (put ∙ (ap (λ l. slice_set l at room) took ∙ set-set rooms at [] room))) (room_set slots rooms at slot room have found long)

-- ---- events

pub event_there : (slots : List Slot) (k : ℕ) → is_some (event_slot slots k) ≡ true → k < length slots
event_there [] k is = absurd (cc is)
event_there (slot ∷ slots) zero is = omega arith
event_there (slot ∷ slots) (suc k) is = let less = event_there slots k is in omega arith

chosen : (b : Bool) (first slot : Slot) → (if b then Some first else None) ≡ Some slot → Some first ≡ Some slot
chosen true first slot is = is
chosen false first slot is = absurd (cc is)

pub event_is : (slots : List Slot) (k : ℕ) (slot : Slot) → event_slot slots k ≡ Some slot → slice_get slots k ≡ Some slot
event_is [] k slot is = absurd (cc is)
event_is (first ∷ slots) zero slot is = chosen (is_event_output first.end) first slot is
event_is (first ∷ slots) (suc k) slot is = event_is slots k slot is

-- ---- the whole frame

told_length : (b : Bool) (slot : Slot) (values : List ℤ) → length values ≡ length slot.end.shape → length (if b then values else []) ≡ (if b then length slot.end.shape else 0)
told_length true slot values long = long
told_length false slot values long = refl

pub outputs_length : (slots : List Slot) (entry : ℕ) (memory : List ℕ) → length (outputs_at slots entry memory) ≡ frame_size slots
outputs_length [] entry memory = refl
outputs_length (slot ∷ slots) entry memory =
    let here = told_length (is_told slot.end) slot (read_slot slot (read_entry_of slot.end entry) memory) (scalars_length slot.end.shape _) in
    let more = outputs_length slots entry memory in
    let joined : length (output_at slot entry memory ++ outputs_at slots entry memory) ≡ length (output_at slot entry memory) + length (outputs_at slots entry memory) = length-append (output_at slot entry memory) (outputs_at slots entry memory) in
    joined ∙ (ap (λ n. n + length (outputs_at slots entry memory)) here ∙ ap (λ n. output_size slot.end + n) more)

-- ---- an endpoint by its number

pub if_some : {X : Type 0} (o : Option X) (P : X → Type 0) → ((x : X) → o ≡ Some x → P x) → IfSome o P
if_some None P each = tt
if_some (Some x) P each = each x refl

pub some_of : {X : Type 0} (o : Option X) (P : X → Type 0) (x : X) → IfSome o P → o ≡ Some x → P x
some_of o P x holds is = subst (λ k. IfSome k P) is holds

pub slot_there : (slots : List Slot) (at : ℕ) → at < length slots → (slot : Slot) × (slice_get slots at ≡ Some slot)
slot_there [] at less = absurd (omega (arith, less))
slot_there (slot ∷ slots) zero less = (slot, refl)
slot_there (slot ∷ slots) (suc at) less = slot_there slots at (omega (arith, less))

pub read_next : (slots : List Slot) (entry : ℕ) (memory : List ℕ) (at place next : ℕ) (into after : List ℤ) → at < length slots → IsRead slots entry memory at place into →
    IfSome (slice_get slots at) (λ slot. next ≡ place + output_size slot.end) → length after ≡ length into → IfSome (slice_get slots at) (λ slot. take next after ≡ take place into ++ output_at slot entry memory) →
    IsRead slots entry memory (at + 1) next after
read_next slots entry memory at place next into after less is next_is long read =
    let there = slot_there slots at less in
    subst (λ k. IsRead slots entry memory k next after) (sym (add-one at))
    (read_more slots entry memory at place next into after there.0 there.1 is
    (some_of (slice_get slots at) (λ slot. next ≡ place + output_size slot.end) there.0 next_is there.1) long
    (some_of (slice_get slots at) (λ slot. take next after ≡ take place into ++ output_at slot entry memory) there.0 read there.1))

pub some_same : (a b : Slot) → Some a ≡ Some b → a ≡ b
some_same a b is = cc is

pub taken_length : (rooms taken : List (List ℤ)) (at : ℕ) → taken ≡ slice_set rooms at [] → length taken ≡ length rooms
taken_length rooms taken at is = ap length is ∙ length-set rooms at []

-- the slot of an output event endpoint, by the lists of endpoints and addresses
pub sent_slot : (slots seen : List Slot) (ends : List HostEnd) (addresses : List ℕ) (k : ℕ) (end : HostEnd) → slots ≡ seen → is_some (event_slot seen k) ≡ true → ends ≡ map (λ slot. slot.end) slots → addresses ≡ map (λ slot. slot.address) slots →
    end ≡ get_or ends k end → slice_get slots k ≡ Some (record { end = end; address = get_or addresses k 0 })
sent_slot slots seen ends addresses k end same sends are lie is =
    slot_read slots ends addresses k end are lie (event_there slots k (subst (λ s. is_some (event_slot s k) ≡ true) (sym same) sends)) is

-- there is room for it
pub sent_room : (slots seen : List Slot) (rooms : List (List ℤ)) (k : ℕ) → slots ≡ seen → is_some (event_slot seen k) ≡ true → HaveRooms slots rooms → k < length rooms
sent_room slots seen rooms k same sends have =
    let there = event_there slots k (subst (λ s. is_some (event_slot s k) ≡ true) (sym same) sends) in
    let long = rooms_length slots rooms have in
    omega arith
