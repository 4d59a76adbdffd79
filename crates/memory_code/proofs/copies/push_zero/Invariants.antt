use Rattle.std.proofs.Common.{◌≡◌, ◌++◌}
use Rattle.memory_code.specs.Copies.{zero_part}
use Rattle.memory_code.specs.Parts.{parts}
use Rattle.memory_code.proofs.copies.push_zero.Given as goal

abbrev pub invariant-loop-part : goal.invariant-loop-part
invariant-loop-part l = l.code ≡ l.fn.code ++ parts (zero_part l.to l.width) l.size l.part
