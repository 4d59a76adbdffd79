use Rattle.std.proofs.Common.{◌≡◌, length, ◌+◌}
use Rattle.std.specs.Io.KnownBytes.{Consumes}
use Rattle.real_files.proofs.outside.read_front.Given as goal

abbrev pub decreases-loop-left : goal.decreases-loop-left
decreases-loop-left g l = l.left

-- what was read and what is left to read make the whole, and what was read is off the reader's front
abbrev pub invariant-loop-left : goal.invariant-loop-left
invariant-loop-left g l = (length l.bytes.items + l.left ≡ l.fn.most) × Consumes (g.R.Read.remaining l.fn.from) (g.R.Read.remaining l.from) l.bytes.items
