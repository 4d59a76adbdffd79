use Rattle.std.proofs.Common.{◌≡◌, ◌≤◌, drop}
use Rattle.commands.specs.Words.{number_behind}
use Rattle.commands.proofs.words.read_digits.Given as goal

-- with the digits that are left it is the whole
abbrev pub invariant-loop-digit : goal.invariant-loop-digit
invariant-loop-digit l = (number_behind l.most l.number (drop l.digit-index l.digits) ≡ number_behind l.most 0 l.digits) × (l.number ≤ l.most)
