use Rattle.operator_code.proofs.Typing.{shift_typed, unary_typed, conversion_typed}
use Rattle.operator_code.proofs.laws.code_is_typed.Goals as goal

pub returns-clause-shift : goal.returns-clause-shift
returns-clause-shift c = shift_typed

pub returns-clause-unary : goal.returns-clause-unary
returns-clause-unary c = unary_typed

pub returns-clause-conversion : goal.returns-clause-conversion
returns-clause-conversion c = conversion_typed
