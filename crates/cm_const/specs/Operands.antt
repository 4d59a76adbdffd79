-- What an operator asks of the numbers that it computes with.
use Rattle.std.specs.Prelude.{ℤ, FitsSigned}
use Rattle.std.specs.Int.{Width}
use Rattle.cm_tree.specs.declared.operator.Binary.{Binary}
use Rattle.cm_tree.specs.declared.operator.Binary.TheVariants as o

-- a number that is shifted or divided is one of the width, and so is a divisor
abbrev pub Suits : Binary → Width → ℤ → ℤ → Type 0
Suits o.ShiftLeft w a b = FitsSigned w a
Suits o.ShiftRight w a b = FitsSigned w a
Suits o.ShiftRightZero w a b = FitsSigned w a
Suits o.Divide w a b = FitsSigned w a × FitsSigned w b
Suits o.Remainder w a b = FitsSigned w a × FitsSigned w b
Suits _ w a b = Unit {0}
