-- The event's one scalar stands in its room.
use Rattle.std.proofs.Common.{◌≡◌, ◌<◌, ◌∷◌, [], List, length, get_or, ap, sym, ◌∙◌, subst, rules, arith, vec_len, to_z, of_z}
use Rattle.std.specs.Int.{w64}
use Rattle.std.specs.Prelude.{slice_get, slice_set}
use Rattle.std.specs.Option.{IfSome}
use Rattle.cm_base.specs.declared.host.Kind.TheVariants as kinds
use Rattle.cm_base.specs.Scripts.{HasShape}
use Rattle.cm_base.specs.Tasks.{IsTaken}
use Rattle.cm_base.proofs.TaskLemmas.{shape_length}
use Rattle.wasm_tree.specs.Section.{Slot}
use Rattle.wasm_tree.specs.Slots.{write_slot, write_event}
use Rattle.module_player.specs.Given.{Given, given_by}
use Rattle.module_player.specs.Writing.{ends_in}
use Rattle.module_player.proofs.States.{TakenSlot, taken_slot, event_entry, event_shaped, event_written, one_scalar}
use Rattle.module_player.proofs.Written.{rooms_length, room_long, room_set}
use Rattle.module_player.proofs.given.InputState.write_scalar.Goals as goal

pub index_mut-room-requires : goal.index_mut-room-requires
index_mut-room-requires c =
    let t = taken_slot kinds.Event c.self.inside.slots c.args.end (c.args.value ∷ []) (subst (λ (g : Given). IsTaken kinds.Event (ends_in g.slots) c.args.end (c.args.value ∷ [])) (sym c.self.view_is) c.requires.taken) in
    let many : length c.self.inside.rooms.items ≡ length c.self.inside.slots = rooms_length c.self.inside.slots c.self.inside.rooms.items c.self.invariant.long in
    let size : vec_len c.self.inside.rooms ≡ length c.self.inside.rooms.items = search rules in
    omega (arith, t.below, many, size)

pub set-requires : goal.set-requires
set-requires c =
    let t = taken_slot kinds.Event c.self.inside.slots c.args.end (c.args.value ∷ []) (subst (λ (g : Given). IsTaken kinds.Event (ends_in g.slots) c.args.end (c.args.value ∷ [])) (sym c.self.view_is) c.requires.taken) in
    let old : c.index_mut-room.result.now ≡ get_or c.self.inside.rooms.items c.args.end c.index_mut-room.result.now = search rules in
    let long = room_long c.self.inside.slots c.self.inside.rooms.items c.args.end t.slot c.index_mut-room.result.now c.self.invariant.long t.found old in
    let one = shape_length t.slot.end.shape (c.args.value ∷ []) t.shape in
    omega (arith, long, one)

pub write_slot-requires-clause-entry : goal.write_slot-requires-clause-entry
write_slot-requires-clause-entry c =
    let taken = subst (λ (slots : List Slot). IsTaken kinds.Event (ends_in slots) c.args.end (c.args.value ∷ [])) c.requires.same c.requires.taken in
    event_entry c.args.runner.now.of.section c.args.end (c.args.value ∷ []) (taken_slot kinds.Event c.args.runner.now.of.section.slots c.args.end (c.args.value ∷ []) taken)

pub write_slot-requires-clause-shaped : goal.write_slot-requires-clause-shaped
write_slot-requires-clause-shaped c =
    let t = taken_slot kinds.Event c.self.inside.slots c.args.end (c.args.value ∷ []) (subst (λ (g : Given). IsTaken kinds.Event (ends_in g.slots) c.args.end (c.args.value ∷ [])) (sym c.self.view_is) c.requires.taken) in
    let old : c.index_mut-room.result.now ≡ get_or c.self.inside.rooms.items c.args.end c.index_mut-room.result.now = search rules in
    let long = room_long c.self.inside.slots c.self.inside.rooms.items c.args.end t.slot c.index_mut-room.result.now c.self.invariant.long t.found old in
    let one = shape_length t.slot.end.shape (c.args.value ∷ []) t.shape in
    let round : to_z w64 (of_z w64 c.args.value) ≡ c.args.value = search rules in
    let is : c.set.new.self ≡ c.args.value ∷ [] = one_scalar c.index_mut-room.result.now c.set.new.self (to_z w64 (of_z w64 c.args.value)) (long ∙ sym one) c.set.ensures ∙ ap (λ z. z ∷ []) round in
    let taken = subst (λ (slots : List Slot). IsTaken kinds.Event (ends_in slots) c.args.end (c.args.value ∷ [])) c.requires.same c.requires.taken in
    subst (λ v. IfSome (slice_get c.args.runner.now.of.section.slots c.args.end) (λ slot. HasShape slot.end.shape v)) (sym is)
    (event_shaped c.args.runner.now.of.section.slots c.args.end (c.args.value ∷ []) (taken_slot kinds.Event c.args.runner.now.of.section.slots c.args.end (c.args.value ∷ []) taken))

pub invariant_of-self : goal.invariant_of-self
invariant_of-self c =
    let t = taken_slot kinds.Event c.self.inside.slots c.args.end (c.args.value ∷ []) (subst (λ (g : Given). IsTaken kinds.Event (ends_in g.slots) c.args.end (c.args.value ∷ [])) (sym c.self.view_is) c.requires.taken) in
    let old : c.index_mut-room.result.now ≡ get_or c.self.inside.rooms.items c.args.end c.index_mut-room.result.now = search rules in
    let long = room_long c.self.inside.slots c.self.inside.rooms.items c.args.end t.slot c.index_mut-room.result.now c.self.invariant.long t.found old in
    let one = shape_length t.slot.end.shape (c.args.value ∷ []) t.shape in
    let is = one_scalar c.index_mut-room.result.now c.set.new.self (to_z w64 (of_z w64 c.args.value)) (long ∙ sym one) c.set.ensures in
    record {
      values = c.self.invariant.values;
      long = room_set c.self.inside.slots c.self.inside.rooms.items c.args.end t.slot c.set.new.self c.self.invariant.long t.found (ap length is ∙ one);
      numbered = c.self.invariant.numbered;
    }

pub returns-clause-written : goal.returns-clause-written
returns-clause-written c =
    let t = taken_slot kinds.Event c.self.inside.slots c.args.end (c.args.value ∷ []) (subst (λ (g : Given). IsTaken kinds.Event (ends_in g.slots) c.args.end (c.args.value ∷ [])) (sym c.self.view_is) c.requires.taken) in
    let old : c.index_mut-room.result.now ≡ get_or c.self.inside.rooms.items c.args.end c.index_mut-room.result.now = search rules in
    let long = room_long c.self.inside.slots c.self.inside.rooms.items c.args.end t.slot c.index_mut-room.result.now c.self.invariant.long t.found old in
    let one = shape_length t.slot.end.shape (c.args.value ∷ []) t.shape in
    let round : to_z w64 (of_z w64 c.args.value) ≡ c.args.value = search rules in
    let is : c.set.new.self ≡ c.args.value ∷ [] = one_scalar c.index_mut-room.result.now c.set.new.self (to_z w64 (of_z w64 c.args.value)) (long ∙ sym one) c.set.ensures ∙ ap (λ z. z ∷ []) round in
    let taken = subst (λ (slots : List Slot). IsTaken kinds.Event (ends_in slots) c.args.end (c.args.value ∷ [])) c.requires.same c.requires.taken in
    event_written c.args.runner.now.of.section.slots c.args.end (c.args.value ∷ []) c.write_slot.new.self.memory c.args.runner.now.memory (taken_slot kinds.Event c.args.runner.now.of.section.slots c.args.end (c.args.value ∷ []) taken)
    (subst (λ v. IfSome (slice_get c.args.runner.now.of.section.slots c.args.end) (λ slot. c.write_slot.new.self.memory ≡ write_slot slot 0 v c.args.runner.now.memory)) is c.write_slot.ensures.memory)
    ∙ ap (λ slots. write_event slots c.args.end (c.args.value ∷ []) c.args.runner.now.memory) (sym c.requires.same)
