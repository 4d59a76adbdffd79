use Rattle.std.proofs.Common.{◌∙◌}
use Rattle.cm_number.proofs.Calls.{unsigned_at_32, unsigned_at_64}
use Rattle.cm_number.proofs.unsigned.Goals as goal

pub returns-then-bits-eq32 : goal.returns-then-bits-eq32
returns-then-bits-eq32 c = c.from.ensures ∙ c.cast_unsigned.ensures
    ∙ unsigned_at_32 c.args.bits c.args.v c.if-bits-eq32.true c.requires.in_range c.ranges.v

pub returns-else-bits-eq32 : goal.returns-else-bits-eq32
returns-else-bits-eq32 c = c.cast_unsigned-else-bits-eq32.ensures
    ∙ unsigned_at_64 c.args.bits c.args.v c.requires.width c.if-bits-eq32.false c.ranges.v
