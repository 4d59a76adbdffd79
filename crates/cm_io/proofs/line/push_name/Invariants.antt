use Rattle.std.proofs.Common.{◌≡◌, ◌++◌, take}
use Rattle.cm_io.specs.Lines.{escaped}
use Rattle.cm_io.proofs.line.push_name.Given as goal

-- the bytes so far are put
abbrev pub invariant-loop-byte : goal.invariant-loop-byte
invariant-loop-byte l = l.line.items ≡ l.initial.line.items ++ escaped (take l.byte-index l.byte-items)
