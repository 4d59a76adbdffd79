use Rattle.std.proofs.Common.{◌≡◌, ◌∙◌, ap, sym, rules, arith, length, true}
use Rattle.wasm_tree.specs.Slots.{is_told}
use Rattle.module_player.proofs.RoomLemmas as R
use Rattle.module_player.proofs.outputs.read_output.Goals as goal

pub copy_into-requires : goal.copy_into-requires
copy_into-requires c =
    let t : is_told c.args.end.now ≡ true = search rules in
    let z = R.size_told c.args.end.now t in
    let l : length c.read_entry.new.into ≡ length c.args.end.now.shape = ap length c.read_entry.ensures ∙ R.scalars_length c.args.end.now.shape _ in
    let s : length c.as_slice.result.now ≡ length c.read_entry.new.into = ap length c.as_slice.ensures in
    let p = c.requires.place in
    omega arith

pub returns-clause-next : goal.returns-clause-next
returns-clause-next c =
    let t : is_told c.args.end.now ≡ true = search rules in
    let z = R.size_told c.args.end.now t in
    let l : length c.read_entry.new.into ≡ length c.args.end.now.shape = ap length c.read_entry.ensures ∙ R.scalars_length c.args.end.now.shape _ in
    let s : length c.as_slice.result.now ≡ length c.read_entry.new.into = ap length c.as_slice.ensures in
    let n = c.copy_into.ensures.next in
    omega arith

pub returns-clause-room : goal.returns-clause-room
returns-clause-room c = ap length c.read_entry.ensures ∙ (R.scalars_length c.args.end.now.shape _ ∙ sym c.requires.room)
