-- Scalar by scalar.
use Rattle.std.proofs.Common.{◌≡◌, ◌<◌, length, to_z, of_z, ◌∙◌, rules, arith}
use Rattle.std.specs.Int.{w64}
use Rattle.module_player.proofs.Filling.{next_taken}
use Rattle.module_player.proofs.inputs.take_first.Goals as goal

pub loop-i-preserved : goal.loop-i-preserved
loop-i-preserved c =
    let round : to_z w64 (of_z w64 c.scalar_at.result) ≡ c.scalar_at.result = search rules in
    let l : c.loop-i.i < length c.args.into.now = omega arith in
    next_taken c.args.given.now c.loop-i.into c.args.into.now c.set.new.self c.loop-i.i (to_z w64 (of_z w64 c.scalar_at.result)) c.loop-i.invariant l (round ∙ c.scalar_at.ensures) c.set.ensures
