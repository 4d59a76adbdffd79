-- As many numbers as scalars.
use Rattle.std.proofs.Common.{◌≡◌, length, arith, rules}
use Rattle.slot_codec.proofs.Writing as W
use Rattle.slot_codec.proofs.kind.has_shape.Goals as goal

pub returns-then-shape-values : goal.returns-then-shape-values
returns-then-shape-values c =
    let differ = c.if-shape-values.true in
    ((λ t. absurd (search rules)), (λ h. let same : length c.args.shape.now ≡ length c.args.values.now = W.as_many c.args.shape.now c.args.values.now h in absurd (grind (arith, differ, same))))
