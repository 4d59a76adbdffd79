-- Slots that are written one after another.
use Rattle.std.proofs.Common.{◌≡◌, ◌<◌, ◌≤◌, ◌+◌, ◌-◌, ℕ, zero, suc, List, [], ◌∷◌, length, take, drop, get_or, map, Bool, true, false, Option, Some, None, refl, sym, ap, ◌∙◌, subst, ℤ, arith}
use Rattle.std.specs.Prelude.{slice_get, slice_set, if◌then◌else◌}
use Rattle.std.specs.Option.{IfSome, IsSomeAnd}
use Rattle.std.specs.Bool.{OnTrue, OnFalse}
use Rattle.std.proofs.lemmas.List.{drop_more, drop_all, drop-drop}
use Rattle.std.proofs.lemmas.Option.{slice_get-get_or, get_or_from_slice_get, slice_get_past}
use Rattle.cm_base.specs.declared.host.HostEnd.{HostEnd}
use Rattle.cm_base.specs.Parts.{Inputs, is_stream_input, input_of, inputs_at, first_of}
use Rattle.cm_base.specs.Scripts.{HasShape}
use Rattle.cm_base.specs.Tasks.{AreInputs}
use Rattle.wasm_tree.specs.Section.{Slot}
use Rattle.wasm_tree.specs.Slots.{write_streams, write_values, write_inputs, write_block, write_slot, others_of}
use Rattle.wasm_runner.specs.Running.{Running, running}
use Rattle.cm_base.proofs.TaskLemmas.{shape_length}
use Rattle.module_player.specs.Given.{inputs_from}
use Rattle.module_player.specs.Rooms.{HaveRooms}
use Rattle.module_player.specs.Writing.{ends_in, stream_written, value_written, input_written, AreValues}

-- ---- what an option holds

pub if_some : {T : Type 0} (o : Option T) (P : T → Type 0) → ((x : T) → o ≡ Some x → P x) → IfSome o P
if_some None P f = tt
if_some (Some x) P f = f x refl

pub of_some : {T : Type 0} (o : Option T) (P : T → Type 0) (x : T) → o ≡ Some x → IfSome o P → P x
of_some o P x e h = subst (λ (q : Option _). IfSome q P) e h

pub some_and : {T : Type 0} (o : Option T) (P : T → Type 0) (x : T) → o ≡ Some x → P x → IsSomeAnd o P
some_and o P x e h = subst (λ (q : Option _). IsSomeAnd q P) (sym e) h

-- ---- one slot

-- the slot of an endpoint that is read
pub record IsRead (slots : List Slot) (number : ℕ) (end : HostEnd) : Type 0 where
  pub slot : Slot
  pub found : slice_get slots number ≡ Some slot
  pub same : slot.end ≡ end

pub slot_read : (slots : List Slot) (number : ℕ) (end : HostEnd) → number < length slots → end ≡ get_or (ends_in slots) number end → IsRead slots number end
slot_read [] number end l e = absurd (omega (arith, l))
slot_read (slot ∷ slots) zero end l e = record { slot = slot; found = refl; same = sym e }
slot_read (slot ∷ slots) (suc number) end l e =
    let rest = slot_read slots number end (omega (arith, l)) e in
    record { slot = rest.slot; found = rest.found; same = rest.same }

pub slot_there : (slots : List Slot) (number : ℕ) → number < length slots → (slot : Slot) × (slice_get slots number ≡ Some slot)
slot_there [] number l = absurd (omega (arith, l))
slot_there (slot ∷ slots) zero l = (slot, refl)
slot_there (slot ∷ slots) (suc number) l = slot_there slots number (omega (arith, l))

-- ---- what is left of lists

one_after : (n : ℕ) → suc (n + 1) ≡ suc n + 1
one_after n = omega arith

pub left_of : {X : Type 0} (xs : List X) (number : ℕ) (x : X) → slice_get xs number ≡ Some x → drop number xs ≡ x ∷ drop (number + 1) xs
left_of [] zero x e = absurd (cc (e))
left_of [] (suc number) x e = absurd (cc (e))
left_of (first ∷ xs) zero x e = let same : first ≡ x = cc (e) in ap (λ y. y ∷ xs) same
left_of (first ∷ xs) (suc number) x e = left_of xs number x e ∙ ap (λ n. x ∷ drop n (first ∷ xs)) (one_after number)

one_less : {X : Type 0} (xs : List X) (number : ℕ) → drop 1 (drop number xs) ≡ drop (number + 1) xs
one_less xs number = drop-drop 1 number xs

pub first_left : (streams : List (List ℤ)) (number : ℕ) → first_of (drop number streams) ≡ get_or streams number []
first_left [] zero = refl
first_left [] (suc number) = refl
first_left (given ∷ streams) zero = refl
first_left (given ∷ streams) (suc number) = first_left streams number

-- ---- the streams of a frame

get_rest : (streams : List (List ℤ)) (number : ℕ) → get_or (drop 1 streams) number [] ≡ get_or streams (suc number) []
get_rest [] zero = refl
get_rest [] (suc number) = refl
get_rest (given ∷ streams) number = refl

-- what a stream carries has the shape of its endpoint
abbrev IsCarried : HostEnd → List ℤ → ℕ → Type 0
IsCarried end given frame = OnTrue (is_stream_input end) (HasShape end.shape (input_of end given frame))

pub stream_shaped : (slots : List Slot) (streams : List (List ℤ)) (frame number : ℕ) (slot : Slot) → slice_get slots number ≡ Some slot → AreInputs (ends_in slots) (inputs_at (ends_in slots) streams frame) →
    IsCarried slot.end (get_or streams number []) frame
stream_shaped [] streams frame zero slot e are = absurd (cc (e))
stream_shaped [] streams frame (suc number) slot e are = absurd (cc (e))
stream_shaped (first ∷ slots) streams frame zero slot e are =
    let same : first ≡ slot = cc (e) in
    subst (λ (s : Slot). IsCarried s.end (get_or streams 0 []) frame) same (subst (λ g. IsCarried first.end g frame) (first_left streams 0) are.0)
stream_shaped (first ∷ slots) streams frame (suc number) slot e are =
    subst (λ g. IsCarried slot.end g frame) (get_rest streams number) (stream_shaped slots (drop 1 streams) frame number slot e are.2)

-- ---- streams

abbrev streams_left : ℕ → ℕ → List Slot → List (List ℤ) → List ℕ → List ℕ
streams_left entry frame slots streams memory = write_streams slots entry (inputs_at (ends_in slots) streams frame) memory

-- what is left to write, from an endpoint on, leads to the whole
pub record StreamsAt (slots : List Slot) (streams : List (List ℤ)) (entry frame number : ℕ) (memory before : List ℕ) : Type 0 where
  pub left : streams_left entry frame (drop number slots) (drop number streams) memory ≡ streams_left entry frame slots streams before

pub first_stream : (slots : List Slot) (streams : List (List ℤ)) (entry frame : ℕ) (memory : List ℕ) → StreamsAt slots streams entry frame 0 memory memory
first_stream slots streams entry frame memory = record { left = refl }

pub next_stream : (slots : List Slot) (streams : List (List ℤ)) (entry frame number : ℕ) (slot : Slot) (memory next before : List ℕ) → slice_get slots number ≡ Some slot →
    next ≡ stream_written slot entry (input_of slot.end (get_or streams number []) frame) memory → StreamsAt slots streams entry frame number memory before → StreamsAt slots streams entry frame (number + 1) next before
next_stream slots streams entry frame number slot memory next before e w h = record {
  left =
      ap (λ given. streams_left entry frame (drop (number + 1) slots) given next) (sym (one_less streams number))
      ∙ (ap (λ m. streams_left entry frame (drop (number + 1) slots) (drop 1 (drop number streams)) m) (w ∙ ap (λ g. stream_written slot entry (input_of slot.end g frame) memory) (sym (first_left streams number)))
      ∙ (ap (λ rest. streams_left entry frame rest (drop number streams) memory) (sym (left_of slots number slot e)) ∙ h.left));
}

pub all_streams : (slots : List Slot) (streams : List (List ℤ)) (entry frame number : ℕ) (memory before : List ℕ) → length slots ≤ number → StreamsAt slots streams entry frame number memory before →
    memory ≡ write_streams slots entry (inputs_at (ends_in slots) streams frame) before
all_streams slots streams entry frame number memory before l h =
    ap (λ rest. streams_left entry frame rest (drop number streams) memory) (sym (drop_all number slots l)) ∙ h.left

-- ---- values

pub others_left : (current : List (List ℤ)) (number : ℕ) → others_of (drop number current) ≡ drop (number + 1) current
others_left [] zero = refl
others_left [] (suc number) = ap (λ n. drop n []) (one_after number)
others_left (value ∷ current) zero = refl
others_left (value ∷ current) (suc number) = others_left current number ∙ ap (λ n. drop n (value ∷ current)) (one_after number)

pub record ValuesAt (slots : List Slot) (current : List (List ℤ)) (number : ℕ) (memory before : List ℕ) : Type 0 where
  pub left : write_values (drop number slots) (drop number current) memory ≡ write_values slots current before

pub first_value : (slots : List Slot) (current : List (List ℤ)) (memory : List ℕ) → ValuesAt slots current 0 memory memory
first_value slots current memory = record { left = refl }

pub next_value : (slots : List Slot) (current : List (List ℤ)) (number : ℕ) (slot : Slot) (memory next before : List ℕ) → slice_get slots number ≡ Some slot →
    next ≡ value_written slot (get_or current number []) memory → ValuesAt slots current number memory before → ValuesAt slots current (number + 1) next before
next_value slots current number slot memory next before e w h = record {
  left =
      ap (λ values. write_values (drop (number + 1) slots) values next) (sym (others_left current number))
      ∙ (ap (λ m. write_values (drop (number + 1) slots) (others_of (drop number current)) m) (w ∙ ap (λ v. value_written slot v memory) (sym (first_left current number)))
      ∙ (ap (λ rest. write_values rest (drop number current) memory) (sym (left_of slots number slot e)) ∙ h.left));
}

pub all_values : (slots : List Slot) (current : List (List ℤ)) (number : ℕ) (memory before : List ℕ) → length slots ≤ number → ValuesAt slots current number memory before → memory ≡ write_values slots current before
all_values slots current number memory before l h = ap (λ rest. write_values rest (drop number current) memory) (sym (drop_all number slots l)) ∙ h.left

-- ---- streams and values

abbrev inputs_left : ℕ → List Slot → List (List ℤ) → List (List ℤ) → List ℕ → List ℕ
inputs_left frame slots streams current memory = write_inputs slots (inputs_at (ends_in slots) streams frame) current memory

pub record InputsAt (slots : List Slot) (streams : List (List ℤ)) (frame : ℕ) (current : List (List ℤ)) (number : ℕ) (memory before : List ℕ) : Type 0 where
  pub left : inputs_left frame (drop number slots) (drop number streams) (drop number current) memory ≡ inputs_left frame slots streams current before

pub first_input : (slots : List Slot) (streams : List (List ℤ)) (frame : ℕ) (current : List (List ℤ)) (memory : List ℕ) → InputsAt slots streams frame current 0 memory memory
first_input slots streams frame current memory = record { left = refl }

pub next_input : (slots : List Slot) (streams : List (List ℤ)) (frame : ℕ) (current : List (List ℤ)) (number : ℕ) (slot : Slot) (memory next before : List ℕ) → slice_get slots number ≡ Some slot →
    next ≡ input_written slot (input_of slot.end (get_or streams number []) frame) (get_or current number []) memory → InputsAt slots streams frame current number memory before →
    InputsAt slots streams frame current (number + 1) next before
next_input slots streams frame current number slot memory next before e w h = record {
  left =
      ap (λ given. inputs_left frame (drop (number + 1) slots) given (drop (number + 1) current) next) (sym (one_less streams number))
      ∙ (ap (λ values. inputs_left frame (drop (number + 1) slots) (drop 1 (drop number streams)) values next) (sym (others_left current number))
      ∙ (ap (λ m. inputs_left frame (drop (number + 1) slots) (drop 1 (drop number streams)) (others_of (drop number current)) m)
      (w ∙ (ap (λ g. input_written slot (input_of slot.end g frame) (get_or current number []) memory) (sym (first_left streams number))
      ∙ ap (λ v. input_written slot (input_of slot.end (first_of (drop number streams)) frame) v memory) (sym (first_left current number))))
      ∙ (ap (λ rest. inputs_left frame rest (drop number streams) (drop number current) memory) (sym (left_of slots number slot e)) ∙ h.left)));
}

pub all_inputs : (slots : List Slot) (streams : List (List ℤ)) (frame : ℕ) (current : List (List ℤ)) (number : ℕ) (memory before : List ℕ) → length slots ≤ number → InputsAt slots streams frame current number memory before →
    memory ≡ write_inputs slots (inputs_at (ends_in slots) streams frame) current before
all_inputs slots streams frame current number memory before l h =
    ap (λ rest. inputs_left frame rest (drop number streams) (drop number current) memory) (sym (drop_all number slots l)) ∙ h.left

-- ---- room and values

pub rooms_length : (slots : List Slot) (rooms : List (List ℤ)) → HaveRooms slots rooms → length rooms ≡ length slots
rooms_length [] [] h = refl
rooms_length [] (room ∷ rooms) h = absurd h
rooms_length (slot ∷ slots) [] h = absurd h
rooms_length (slot ∷ slots) (room ∷ rooms) h = ap suc (rooms_length slots rooms h.1)

pub room_long : (slots : List Slot) (rooms : List (List ℤ)) (number : ℕ) (slot : Slot) (room : List ℤ) → HaveRooms slots rooms → slice_get slots number ≡ Some slot → room ≡ get_or rooms number room → length room ≡ length slot.end.shape
room_long [] rooms zero slot room h e r = absurd (cc (e))
room_long [] rooms (suc number) slot room h e r = absurd (cc (e))
room_long (first ∷ slots) [] number slot room h e r = absurd h
room_long (first ∷ slots) (other ∷ rooms) zero slot room h e r =
    let same : first ≡ slot = cc (e) in
    ap length r ∙ (h.0 ∙ ap (λ (s : Slot). length s.end.shape) same)
room_long (first ∷ slots) (other ∷ rooms) (suc number) slot room h e r = room_long slots rooms number slot room h.1 e r

pub room_set : (slots : List Slot) (rooms : List (List ℤ)) (number : ℕ) (slot : Slot) (room : List ℤ) → HaveRooms slots rooms → slice_get slots number ≡ Some slot → length room ≡ length slot.end.shape → HaveRooms slots (slice_set rooms number room)
room_set [] rooms zero slot room h e r = absurd (cc (e))
room_set [] rooms (suc number) slot room h e r = absurd (cc (e))
room_set (first ∷ slots) [] number slot room h e r = absurd h
room_set (first ∷ slots) (other ∷ rooms) zero slot room h e r =
    let same : first ≡ slot = cc (e) in
    (r ∙ ap (λ (s : Slot). length s.end.shape) (sym same), h.1)
room_set (first ∷ slots) (other ∷ rooms) (suc number) slot room h e r = (h.0, room_set slots rooms number slot room h.1 e r)

pub values_length : (slots : List Slot) (values : List (List ℤ)) → AreValues slots values → length values ≡ length slots
values_length [] values h = ap length h
values_length (slot ∷ slots) [] h = absurd h
values_length (slot ∷ slots) (value ∷ values) h = ap suc (values_length slots values h.1)

pub value_shaped : (slots : List Slot) (values : List (List ℤ)) (number : ℕ) (slot : Slot) (value : List ℤ) → AreValues slots values → slice_get slots number ≡ Some slot → value ≡ get_or values number value → HasShape slot.end.shape value
value_shaped [] values zero slot value h e r = absurd (cc (e))
value_shaped [] values (suc number) slot value h e r = absurd (cc (e))
value_shaped (first ∷ slots) [] number slot value h e r = absurd h
value_shaped (first ∷ slots) (other ∷ values) zero slot value h e r =
    let same : first ≡ slot = cc (e) in
    subst (λ v. HasShape slot.end.shape v) (sym r) (subst (λ (s : Slot). HasShape s.end.shape other) same h.0)
value_shaped (first ∷ slots) (other ∷ values) (suc number) slot value h e r = value_shaped slots values number slot value h.1 e r

pub value_set : (slots : List Slot) (values : List (List ℤ)) (number : ℕ) (slot : Slot) (value : List ℤ) → AreValues slots values → slice_get slots number ≡ Some slot → HasShape slot.end.shape value → AreValues slots (slice_set values number value)
value_set [] values zero slot value h e r = absurd (cc (e))
value_set [] values (suc number) slot value h e r = absurd (cc (e))
value_set (first ∷ slots) [] number slot value h e r = absurd h
value_set (first ∷ slots) (other ∷ values) zero slot value h e r =
    let same : first ≡ slot = cc (e) in
    (subst (λ (s : Slot). HasShape s.end.shape value) (sym same) r, h.1)
value_set (first ∷ slots) (other ∷ values) (suc number) slot value h e r = (h.0, value_set slots values number slot value h.1 e r)

-- ---- as far as a loop has come

-- only the memory changed
pub record IsKept (before now : Running) : Type 0 where
  pub is : now ≡ running before.of before.globals now.memory before.live

pub kept_none : (r : Running) → IsKept r r
kept_none r = record { is = refl }

pub kept_both : (a b c : Running) → IsKept a b → c ≡ running b.of b.globals c.memory b.live → IsKept a c
kept_both a b c first second =
    record { is = second ∙ ap (λ (r : Running). running r.of r.globals c.memory r.live) first.is }

pub record StreamsDone (slots : List Slot) (streams : List (List ℤ)) (entry frame number : ℕ) (now before : Running) (rooms : List (List ℤ)) : Type 0 where
  pub at : StreamsAt slots streams entry frame number now.memory before.memory
  pub kept : IsKept before now
  pub long : HaveRooms slots rooms

pub streams_first : (slots : List Slot) (streams : List (List ℤ)) (entry frame : ℕ) (r : Running) (rooms : List (List ℤ)) → HaveRooms slots rooms → StreamsDone slots streams entry frame 0 r r rooms
streams_first slots streams entry frame r rooms long = record { at = first_stream slots streams entry frame r.memory; kept = kept_none r; long = long }

pub streams_next : (slots : List Slot) (streams : List (List ℤ)) (entry frame number : ℕ) (now before next : Running) (rooms : List (List ℤ)) (old room given : List ℤ) → number < length slots → StreamsDone slots streams entry frame number now before rooms →
    given ≡ get_or streams number [] → old ≡ get_or rooms number old → length room ≡ length old →
    IfSome (slice_get slots number) (λ slot. next.memory ≡ stream_written slot entry (input_of slot.end given frame) now.memory) → next ≡ running now.of now.globals next.memory now.live →
    StreamsDone slots streams entry frame (number + 1) next before (slice_set rooms number room)
streams_next slots streams entry frame number now before next rooms old room given l done g o r w k =
    let there = slot_there slots number l in
    let slot = there.0 in
    let written = of_some (slice_get slots number) (λ s. next.memory ≡ stream_written s entry (input_of s.end given frame) now.memory) slot there.1 w in
    record {
      at = next_stream slots streams entry frame number slot now.memory next.memory before.memory there.1 (written ∙ ap (λ x. stream_written slot entry (input_of slot.end x frame) now.memory) g) done.at;
      kept = kept_both before now next done.kept k;
      long = room_set slots rooms number slot room done.long there.1 (r ∙ room_long slots rooms number slot old done.long there.1 o);
    }

pub record ValuesDone (slots : List Slot) (current : List (List ℤ)) (number : ℕ) (now before : Running) : Type 0 where
  pub at : ValuesAt slots current number now.memory before.memory
  pub kept : IsKept before now

pub values_first : (slots : List Slot) (current : List (List ℤ)) (r : Running) → ValuesDone slots current 0 r r
values_first slots current r = record { at = first_value slots current r.memory; kept = kept_none r }

-- an element that is there, whatever else stands for one that isn't
pub same_element : (xs : List (List ℤ)) (at : ℕ) (x : List ℤ) → at < length xs → x ≡ get_or xs at x → x ≡ get_or xs at []
same_element [] at x l e = absurd (omega (arith, l))
same_element (first ∷ xs) zero x l e = e
same_element (first ∷ xs) (suc at) x l e = same_element xs at x (omega (arith, l)) e

pub values_next : (slots : List Slot) (current : List (List ℤ)) (number : ℕ) (now before next : Running) (value : List ℤ) → number < length slots → AreValues slots current → ValuesDone slots current number now before →
    value ≡ get_or current number value →
    IfSome (slice_get slots number) (λ slot. next.memory ≡ value_written slot value now.memory) → next ≡ running now.of now.globals next.memory now.live →
    ValuesDone slots current (number + 1) next before
values_next slots current number now before next value l are done v w k =
    let there = slot_there slots number l in
    let slot = there.0 in
    let written = of_some (slice_get slots number) (λ s. next.memory ≡ value_written s value now.memory) slot there.1 w in
    let same = same_element current number value (omega (arith, l, values_length slots current are)) v in
    record {
      at = next_value slots current number slot now.memory next.memory before.memory there.1 (written ∙ ap (λ x. value_written slot x now.memory) same) done.at;
      kept = kept_both before now next done.kept k;
    }

pub record InputsDone (slots : List Slot) (streams : List (List ℤ)) (frame : ℕ) (current : List (List ℤ)) (number : ℕ) (now before : Running) (rooms : List (List ℤ)) : Type 0 where
  pub at : InputsAt slots streams frame current number now.memory before.memory
  pub kept : IsKept before now
  pub long : HaveRooms slots rooms

pub inputs_first : (slots : List Slot) (streams : List (List ℤ)) (frame : ℕ) (current : List (List ℤ)) (r : Running) (rooms : List (List ℤ)) → HaveRooms slots rooms → InputsDone slots streams frame current 0 r r rooms
inputs_first slots streams frame current r rooms long = record { at = first_input slots streams frame current r.memory; kept = kept_none r; long = long }

pub inputs_next : (slots : List Slot) (streams : List (List ℤ)) (frame : ℕ) (current : List (List ℤ)) (number : ℕ) (now before next : Running) (rooms : List (List ℤ)) (old room given value : List ℤ) → number < length slots → AreValues slots current →
    InputsDone slots streams frame current number now before rooms →
    given ≡ get_or streams number [] → value ≡ get_or current number value → old ≡ get_or rooms number old → length room ≡ length old →
    IfSome (slice_get slots number) (λ slot. next.memory ≡ input_written slot (input_of slot.end given frame) value now.memory) → next ≡ running now.of now.globals next.memory now.live →
    InputsDone slots streams frame current (number + 1) next before (slice_set rooms number room)
inputs_next slots streams frame current number now before next rooms old room given value l are done g v o r w k =
    let there = slot_there slots number l in
    let slot = there.0 in
    let written = of_some (slice_get slots number) (λ s. next.memory ≡ input_written s (input_of s.end given frame) value now.memory) slot there.1 w in
    let same = same_element current number value (omega (arith, l, values_length slots current are)) v in
    record {
      at =
          next_input slots streams frame current number slot now.memory next.memory before.memory there.1
          (written ∙ (ap (λ x. input_written slot (input_of slot.end x frame) value now.memory) g ∙ ap (λ x. input_written slot (input_of slot.end (get_or streams number []) frame) x now.memory) same)) done.at;
      kept = kept_both before now next done.kept k;
      long = room_set slots rooms number slot room done.long there.1 (r ∙ room_long slots rooms number slot old done.long there.1 o);
    }

ends_many : (slots : List Slot) → length (ends_in slots) ≡ length slots
ends_many [] = refl
ends_many (slot ∷ slots) = ap suc (ends_many slots)

-- the index of a loop over the endpoints
pub inside : (slots : List Slot) (host : List HostEnd) (count i : ℕ) → i < count → count ≡ length host → host ≡ ends_in slots → i < length slots
inside slots host count i l e h = (let same : length host ≡ length slots = ap length h ∙ ends_many slots in omega (arith, l, e, same))

-- ---- what a loop passes on

pub room_at : (slots : List Slot) (rooms : List (List ℤ)) (number : ℕ) (room : List ℤ) → number < length slots → HaveRooms slots rooms → room ≡ get_or rooms number room →
    IfSome (slice_get slots number) (λ slot. length room ≡ length slot.end.shape)
room_at slots rooms number room l h e = if_some (slice_get slots number) (λ slot. length room ≡ length slot.end.shape) (λ slot found. room_long slots rooms number slot room h found e)

pub stream_at : (slots : List Slot) (streams : List (List ℤ)) (frame number : ℕ) (given : List ℤ) → AreInputs (ends_in slots) (inputs_at (ends_in slots) streams frame) → given ≡ get_or streams number [] →
    IfSome (slice_get slots number) (λ slot. IsCarried slot.end given frame)
stream_at slots streams frame number given are e =
    if_some (slice_get slots number) (λ slot. IsCarried slot.end given frame) (λ slot found. subst (λ g. IsCarried slot.end g frame) (sym e) (stream_shaped slots streams frame number slot found are))

pub value_at : (slots : List Slot) (current : List (List ℤ)) (number : ℕ) (value : List ℤ) → AreValues slots current → value ≡ get_or current number value → IfSome (slice_get slots number) (λ slot. HasShape slot.end.shape value)
value_at slots current number value are e = if_some (slice_get slots number) (λ slot. HasShape slot.end.shape value) (λ slot found. value_shaped slots current number slot value are found e)

-- ---- the frames of a block

pub record BlockDone (slots : List Slot) (streams : List (List ℤ)) (frame count entry : ℕ) (now before : Running) (rooms : List (List ℤ)) : Type 0 where
  pub at : write_block slots entry (inputs_from (ends_in slots) streams (frame + entry) (count - entry)) now.memory ≡ write_block slots 0 (inputs_from (ends_in slots) streams frame count) before.memory
  pub kept : IsKept before now
  pub long : HaveRooms slots rooms

pub block_first : (slots : List Slot) (streams : List (List ℤ)) (frame count : ℕ) (r : Running) (rooms : List (List ℤ)) → HaveRooms slots rooms → BlockDone slots streams frame count 0 r r rooms
block_first slots streams frame count r rooms long =
    let here : frame + 0 ≡ frame = omega arith in
    let all : count - 0 ≡ count = omega arith in
    record {
      at = ap (λ f. write_block slots 0 (inputs_from (ends_in slots) streams f (count - 0)) r.memory) here ∙ ap (λ n. write_block slots 0 (inputs_from (ends_in slots) streams frame n) r.memory) all;
      kept = kept_none r;
      long = long;
    }

pub block_next : (slots : List Slot) (streams : List (List ℤ)) (frame count entry : ℕ) (now before next : Running) (rooms others : List (List ℤ)) → entry < count → BlockDone slots streams frame count entry now before rooms →
    next.memory ≡ write_streams slots entry (inputs_at (ends_in slots) streams (frame + entry)) now.memory → next ≡ running now.of now.globals next.memory now.live → HaveRooms slots others →
    BlockDone slots streams frame count (entry + 1) next before others
block_next slots streams frame count entry now before next rooms others l done w k long =
    let ends = ends_in slots in
    let left : ℕ = count - (entry + 1) in
    let more : count - entry ≡ suc left = omega (arith, l) in
    let here : frame + (entry + 1) ≡ frame + entry + 1 = omega arith in
    record {
      at =
          ap (λ f. write_block slots (entry + 1) (inputs_from ends streams f left) next.memory) here
          ∙ (ap (λ m. write_block slots (entry + 1) (inputs_from ends streams (frame + entry + 1) left) m) w
          ∙ (ap (λ n. write_block slots entry (inputs_from ends streams (frame + entry) n) now.memory) (sym more) ∙ done.at));
      kept = kept_both before now next done.kept k;
      long = long;
    }

pub block_last : (slots : List Slot) (streams : List (List ℤ)) (frame count entry : ℕ) (now before : Running) (rooms : List (List ℤ)) → count ≤ entry → BlockDone slots streams frame count entry now before rooms →
    now.memory ≡ write_block slots 0 (inputs_from (ends_in slots) streams frame count) before.memory
block_last slots streams frame count entry now before rooms l done =
    let none : count - entry ≡ 0 = omega (arith, l) in
    ap (λ n. write_block slots entry (inputs_from (ends_in slots) streams (frame + entry) n) now.memory) (sym none) ∙ done.at

-- ---- values that are set

-- a value of an endpoint goes into the room of another one
pub taken_long : (slots : List Slot) (values : List (List ℤ)) (number : ℕ) (slot : Slot) (value old : List ℤ) → AreValues slots values → slice_get slots number ≡ Some slot → HasShape slot.end.shape value → old ≡ get_or values number old → length value ≡ length old
taken_long slots values number slot value old are e s o =
    shape_length slot.end.shape value s ∙ sym (shape_length slot.end.shape old (value_shaped slots values number slot old are e o))
