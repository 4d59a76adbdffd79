use Rattle.std.proofs.Common.{◌≡◌, inl, inr}
use Rattle.wasm_tree.specs.Spelled.{sorted_customs}
use Rattle.wasm_writer.proofs.CustomLemmas.{sorted_more}
use Rattle.wasm_writer.proofs.writable.are_sorted.Goals as goal
use Rattle.wasm_writer.proofs.writable.are_sorted.Goals.{else-last-via-then-last+else-not-named, else-last-via-else-last}

pub loop-custom-preserved : goal.loop-custom-preserved
loop-custom-preserved c =
    let turn = sorted_more (c.args.customs.now ≡ sorted_customs c.args.customs.now) c.args.customs.now c.loop-custom.custom-index c.custom-item.result c.loop-custom.last c.is_cmajor-named.result c.loop-custom-test.true c.custom-item.is c.is_cmajor-named.ensures in
    elim c.else-last.branch [
      | else-last-via-then-last+else-not-named w ↦ turn (inr w.if-not-named.false) c.loop-custom.invariant
      | else-last-via-else-last w ↦ turn (inl w.if-last.false) c.loop-custom.invariant
    ]
