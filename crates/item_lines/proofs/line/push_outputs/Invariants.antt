use Rattle.std.proofs.Common.{◌≡◌, ◌++◌, drop}
use Rattle.item_lines.specs.Lines.{outputs_text}
use Rattle.item_lines.proofs.line.push_outputs.Given as goal

-- with what the endpoints that are left tell of the values that are left it is the whole
abbrev pub invariant-loop-end : goal.invariant-loop-end
invariant-loop-end l = l.line.items ++ outputs_text (drop l.end-index l.host) l.rest ≡ l.fn.line.items ++ outputs_text l.fn.host l.fn.values
