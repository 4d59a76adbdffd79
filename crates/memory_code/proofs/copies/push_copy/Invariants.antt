use Rattle.std.proofs.Common.{◌≡◌, ◌++◌}
use Rattle.memory_code.specs.Copies.{copy_part}
use Rattle.memory_code.specs.Parts.{parts}
use Rattle.memory_code.proofs.copies.push_copy.Given as goal

abbrev pub invariant-loop-part : goal.invariant-loop-part
invariant-loop-part l = l.code ≡ l.fn.code ++ parts (copy_part l.to l.from l.width) l.size l.part
