use Rattle.std.proofs.Common.{◌<◌, ◌≤◌, length, get_or, sym, arith}
use Rattle.std.proofs.lemmas.List.{take_all}
use Rattle.std.proofs.lemmas.List.Elements.{All-same}
use Rattle.wasm_tree.specs.Section.{Slot, slots_of, Spelled_slot}
use Rattle.wasm_writer.specs.Description.{slot_bytes}
use Rattle.wasm_writer.proofs.DescriptionLemmas.{slots_length, slot_at, written_slots}
use Rattle.wasm_writer.proofs.Parts.{each_spelled, appended_more, all_more}
use Rattle.wasm_writer.proofs.description.put_slots.Goals as goal

pub loop-index-preserved : goal.loop-index-preserved
loop-index-preserved c =
    let ends = c.args.host.now in
    let addresses = c.args.addresses.now in
    let i = c.loop-index.index in
    let end = c.index-host-index.result in
    let slots = slots_of ends addresses in
    let slot : Slot = record { end = end; address = get_or addresses i 0 } in
    let lt : i < length ends = omega arith in
    let within : i < length slots = omega (arith, slots_length ends addresses c.requires.paired) in
    let is = slot_at ends addresses i end c.requires.paired lt c.index-host-index.is in
    record {
      appended = appended_more slot_bytes slots i slot c.args.out.now.items c.loop-index.out.items c.put_slot.new.out.items within is c.loop-index.invariant.appended c.in_ok-put_slot.ensures.appended;
      spelled = all_more (λ slot. Spelled_slot slot (slot_bytes slot)) slots i slot within is c.loop-index.invariant.spelled c.in_ok-put_slot.ensures.spelled;
    }

pub returns-clause-appended : goal.returns-clause-appended
returns-clause-appended c = written_slots c.args.host.now c.args.addresses.now c.loop-index.index c.loop-index.out.items c.args.out.now.items c.requires.paired c.loop-index-test.false c.loop-index.invariant.appended

pub returns-clause-spelled : goal.returns-clause-spelled
returns-clause-spelled c =
    let slots = slots_of c.args.host.now c.args.addresses.now in
    let over : length slots ≤ c.loop-index.index = omega (arith, slots_length c.args.host.now c.args.addresses.now c.requires.paired) in
    each_spelled Spelled_slot slot_bytes slots (All-same (λ slot. Spelled_slot slot (slot_bytes slot)) slots _ (sym (take_all c.loop-index.index slots over)) c.loop-index.invariant.spelled)
