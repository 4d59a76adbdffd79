use Rattle.std.proofs.Common.{◌≡◌}
use Rattle.memory_code.specs.Parts.{parts}
use Rattle.delay_lines.specs.Code.{push_part}
use Rattle.delay_lines.proofs.code.push_parts.Given as goal

abbrev pub invariant-loop-part : goal.invariant-loop-part
invariant-loop-part l = l.code ≡ parts (push_part l.ring l.from) l.size l.part
