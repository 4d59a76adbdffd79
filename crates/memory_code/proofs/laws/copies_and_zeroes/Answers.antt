use Rattle.memory_code.proofs.Whole.{copy_does, zero_does}
use Rattle.memory_code.proofs.laws.copies_and_zeroes.Goals as goal

pub returns-clause-copies : goal.returns-clause-copies
returns-clause-copies c = copy_does

pub returns-clause-zeroes : goal.returns-clause-zeroes
returns-clause-zeroes c = zero_does
