use Rattle.std.proofs.Common.{◌≡◌, ◌<◌, ◌^◌, length, ◌∙◌, arith}
use Rattle.wasm_tree.specs.Section.{slots_of}
use Rattle.wasm_writer.specs.Description.{section_contents}
use Rattle.wasm_writer.proofs.DescriptionLemmas.{slots_length, contents_at, section_spelled, section_bound}
use Rattle.wasm_writer.proofs.description.write_section.Goals as goal

pub returns-clause-shortest : goal.returns-clause-shortest
returns-clause-shortest c =
    let slots = slots_of c.args.host.now c.args.addresses.now in
    c.from_vec.ensures
    ∙ contents_at c.args.interface c.args.latency slots (length c.args.host.now) c.new-out.result.items c.put_interface.new.out.items c.put_unsigned.new.out.items c.put_slots.new.out.items c.new-out.ensures.items c.in_ok-put_interface.ensures.appended c.in_ok-put_unsigned.ensures.appended c.in_ok-put_slots.ensures.appended (slots_length c.args.host.now c.args.addresses.now c.requires.paired)

pub returns-clause-spelled : goal.returns-clause-spelled
returns-clause-spelled c =
    let slots = slots_of c.args.host.now c.args.addresses.now in
    let is : c.from_vec.result ≡ section_contents c.args.interface c.args.latency slots = returns-clause-shortest c in
    let short : length slots < 2 ^ 32 = omega (arith, slots_length c.args.host.now c.args.addresses.now c.requires.paired, c.requires.describable.count) in
    rw is (section_spelled c.args.interface c.args.latency slots c.in_ok-put_interface.ensures.spelled short c.in_ok-put_slots.ensures.spelled)

pub returns-clause-bounded : goal.returns-clause-bounded
returns-clause-bounded c =
    let slots = slots_of c.args.host.now c.args.addresses.now in
    let is : c.from_vec.result ≡ section_contents c.args.interface c.args.latency slots = returns-clause-shortest c in
    rw is (section_bound c.args.interface c.args.latency c.args.host.now c.args.addresses.now)
