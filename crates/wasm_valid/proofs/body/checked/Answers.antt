use Rattle.std.proofs.Common.{◌≡◌, ◌≤◌, Some, length, rules}
use Rattle.wasm_valid.specs.Bodies.{context_of}
use Rattle.wasm_valid.specs.Checking.{after_one, height}
use Rattle.wasm_valid.proofs.ActLemmas.{told}
use Rattle.wasm_valid.proofs.PassLemmas.{goes_on, stays_on}
use Rattle.wasm_valid.proofs.body.checked.Goals as goal

pub loop-instr-preserved : goal.loop-instr-preserved
loop-instr-preserved c =
    let step : after_one (context_of c.args.scope.now.«module».now c.args.scope.now.ty.now c.args.scope.now.runs.now) c.args.scope.now.gives c.loop-instr.operands c.instr-item.result ≡ Some c.follow.new.operands =
    told c.in_ok-follow.field-0 _ _ c.if-not-branch.false c.in_ok-follow.ensures in
    let cells : c.loop-instr.cells ≤ c.max-cells.result = search rules in
    let marks : c.loop-instr.marks ≤ c.max-marks.result = search rules in
    let high : height c.follow.new.operands ≤ c.max-cells.result = search rules in
    let deep : length c.follow.new.operands ≤ c.max-marks.result = search rules in
    record {
      same = goes_on _ _ c.loop-instr.operands c.follow.new.operands c.args.code.now c.loop-instr.instr-index c.instr-item.result _ c.loop-instr-test.true c.instr-item.is step c.loop-instr.invariant.same;
      room = (high, deep);
      below = stays_on _ _ c.loop-instr.operands c.follow.new.operands _ c.args.code.now c.loop-instr.instr-index c.instr-item.result c.loop-instr.cells c.loop-instr.marks c.max-cells.result c.max-marks.result c.loop-instr-test.true c.instr-item.is step c.loop-instr.invariant.room cells marks c.loop-instr.invariant.below;
    }
