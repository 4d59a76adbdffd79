use Rattle.std.proofs.Common.{◌≡◌, ◌+◌, ◌-◌, arith, sym, ◌∙◌, subst}
use Rattle.wasm_runner.specs.Ends.{AreMade}
use Rattle.wasm_runner.proofs.Made.{table, made_none, made_more, step_ends, step_jump, found, none_yet}
use Rattle.wasm_runner.proofs.jump.fill.Goals as goal

pub returns : goal.returns
returns c = let z : c.loop-at.at ≡ 0 = omega arith in table _ _ (c.loop-at.auto.jumps ∙ c.requires.jumps) (subst (AreMade c.args.code.now c.loop-at.jumps) z c.loop-at.invariant.3)

pub loop-at-init : goal.loop-at-init
loop-at-init c = (omega arith, omega arith, none_yet _ _ c.requires.ends, made_none _ _)

pub loop-at-preserved : goal.loop-at-preserved
loop-at-preserved c =
    let inv = c.loop-at.invariant in
    let one : c.loop-at.at - 1 + 1 ≡ c.loop-at.at = omega arith in
    let n = c.loop-at.auto.ends in
    let m = c.close-from.auto.ends in
    let here = found c.args.code.now (c.loop-at.at - 1) c.index-code-at.result (omega arith) c.index-code-at.is in
    (c.close-from.ensures.room, omega (arith, c.close-from.ensures.within), step_ends c.args.code.now (c.loop-at.at - 1) c.loop-at.at c.index-code-at.result _ _ here one inv.2 c.close-from.ensures.left, made_more c.args.code.now c.loop-at.jumps (c.loop-at.at - 1) c.index-code-at.result c.jump_at.result here (step_jump c.args.code.now (c.loop-at.at - 1) c.loop-at.at c.index-code-at.result _ c.jump_at.result one inv.2 c.jump_at.ensures) (subst (AreMade c.args.code.now c.loop-at.jumps) (sym one) inv.3))
