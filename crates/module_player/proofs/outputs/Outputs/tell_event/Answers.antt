use Rattle.std.proofs.Common.{◌≡◌, ◌∙◌, ap, sym, subst, arith, length}
use Rattle.std.specs.Prelude.{Some}
use Rattle.cm_base.specs.declared.play.Item.TheVariants as item
use Rattle.wasm_tree.specs.Slots.{event_slot, read_slot}
use Rattle.wasm_runner.specs.Entries.{IsShaped}
use Rattle.module_player.proofs.RoomLemmas as R
use Rattle.module_player.proofs.outputs.Outputs.tell_event.Goals as goal

pub take_room-value-requires : goal.take_room-value-requires
take_room-value-requires g c = R.sent_room c.self.inside.slots c.args.self.now c.self.inside.rooms.items c.args.endpoint c.self.view_is c.requires c.self.invariant.each

pub read_entry-requires-clause-lawful : goal.read_entry-requires-clause-lawful
read_entry-requires-clause-lawful g c =
    let found = R.sent_slot c.self.inside.slots c.args.self.now c.as_slice.result.now c.as_slice-2.result.now c.args.endpoint c.index-as_slice-at.result c.self.view_is c.requires (c.as_slice.ensures ∙ c.host.ensures.same) (c.as_slice-2.ensures ∙ c.addresses.ensures) c.index-as_slice-at.is in
    (R.all_at IsShaped c.self.inside.slots c.args.endpoint _ c.self.invariant.shaped found).lawful

pub read_entry-requires-clause-few : goal.read_entry-requires-clause-few
read_entry-requires-clause-few g c =
    let found = R.sent_slot c.self.inside.slots c.args.self.now c.as_slice.result.now c.as_slice-2.result.now c.args.endpoint c.index-as_slice-at.result c.self.view_is c.requires (c.as_slice.ensures ∙ c.host.ensures.same) (c.as_slice-2.ensures ∙ c.addresses.ensures) c.index-as_slice-at.is in
    (R.all_at IsShaped c.self.inside.slots c.args.endpoint _ c.self.invariant.shaped found).few

pub read_entry-requires-clause-long : goal.read_entry-requires-clause-long
read_entry-requires-clause-long g c =
    let found = R.sent_slot c.self.inside.slots c.args.self.now c.as_slice.result.now c.as_slice-2.result.now c.args.endpoint c.index-as_slice-at.result c.self.view_is c.requires (c.as_slice.ensures ∙ c.host.ensures.same) (c.as_slice-2.ensures ∙ c.addresses.ensures) c.index-as_slice-at.is in
    R.room_at c.self.inside.slots c.self.inside.rooms.items c.args.endpoint _ c.take_room-value.result c.self.invariant.each found c.take_room-value.ensures.room

pub put_room-requires : goal.put_room-requires
put_room-requires g c =
    let there = R.sent_room c.self.inside.slots c.args.self.now c.self.inside.rooms.items c.args.endpoint c.self.view_is c.requires c.self.invariant.each in
    let taken = R.taken_length c.self.inside.rooms.items c.take_room-value.new.rooms.items c.args.endpoint c.take_room-value.ensures.others in
    omega arith

pub invariant_of-self : goal.invariant_of-self
invariant_of-self g c =
    let found = R.sent_slot c.self.inside.slots c.args.self.now c.as_slice.result.now c.as_slice-2.result.now c.args.endpoint c.index-as_slice-at.result c.self.view_is c.requires (c.as_slice.ensures ∙ c.host.ensures.same) (c.as_slice-2.ensures ∙ c.addresses.ensures) c.index-as_slice-at.is in
    let same : c.value_of.result ≡ c.read_entry.new.into = c.value_of.ensures in
    record {
      shaped = c.self.invariant.shaped;
      each = R.rooms_back c.self.inside.slots c.self.inside.rooms.items c.take_room-value.new.rooms.items c.put_room.new.rooms.items c.args.endpoint _ c.value_of.result c.self.invariant.each found c.take_room-value.ensures.others c.put_room.ensures
          (ap length (same ∙ c.read_entry.ensures) ∙ R.scalars_length c.index-as_slice-at.result.shape _);
      whole = c.self.invariant.whole;
    }

pub returns-clause-told : goal.returns-clause-told
returns-clause-told g c = λ slot sends.
    let found = R.sent_slot c.self.inside.slots c.args.self.now c.as_slice.result.now c.as_slice-2.result.now c.args.endpoint c.index-as_slice-at.result c.self.view_is c.requires (c.as_slice.ensures ∙ c.host.ensures.same) (c.as_slice-2.ensures ∙ c.addresses.ensures) c.index-as_slice-at.is in
    let is = R.event_is c.self.inside.slots c.args.endpoint slot (subst (λ s. event_slot s c.args.endpoint ≡ Some slot) (sym c.self.view_is) sends) in
    let same = R.some_same _ _ (sym found ∙ is) in
    subst (λ v. g.T.Teller.tells c.args.teller.now (item.Event c.args.frame c.args.endpoint v) c.tell-on.result c.tell-on.new.self)
    (c.read_entry.ensures ∙ ap (λ s. read_slot s 0 c.args.memory.now) same) c.tell-on.ensures
