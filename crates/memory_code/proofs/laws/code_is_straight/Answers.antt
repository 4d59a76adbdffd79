use Rattle.memory_code.proofs.Typing.{copy_straight, zero_straight, copy_typed, zero_typed}
use Rattle.memory_code.proofs.laws.code_is_straight.Goals as goal

pub returns-clause-copy : goal.returns-clause-copy
returns-clause-copy c = copy_straight

pub returns-clause-zero : goal.returns-clause-zero
returns-clause-zero c = zero_straight

pub returns-clause-copy_typed : goal.returns-clause-copy_typed
returns-clause-copy_typed c = copy_typed

pub returns-clause-zero_typed : goal.returns-clause-zero_typed
returns-clause-zero_typed c = zero_typed
