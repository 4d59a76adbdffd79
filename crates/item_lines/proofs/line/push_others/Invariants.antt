use Rattle.std.proofs.Common.{◌≡◌, ◌++◌, take}
use Rattle.item_lines.specs.Lines.{next_scalars}
use Rattle.item_lines.proofs.line.push_others.Given as goal

-- the scalars so far are put
abbrev pub invariant-loop-scalar : goal.invariant-loop-scalar
invariant-loop-scalar l = l.line.items ≡ l.initial.line.items ++ next_scalars (take l.scalar-index l.others)
