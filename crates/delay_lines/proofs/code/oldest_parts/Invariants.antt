use Rattle.std.proofs.Common.{◌≡◌}
use Rattle.memory_code.specs.Parts.{parts}
use Rattle.delay_lines.specs.Code.{oldest_part}
use Rattle.delay_lines.proofs.code.oldest_parts.Given as goal

abbrev pub invariant-loop-part : goal.invariant-loop-part
invariant-loop-part l = l.code ≡ parts (oldest_part l.ring l.to) l.size l.part
