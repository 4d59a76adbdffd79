use Rattle.operator_code.proofs.Operating.{operator_does}
use Rattle.operator_code.proofs.Shifting.{shifts_do, divisions_do, unary_does}
use Rattle.operator_code.proofs.laws.operators_compute.Goals as goal

pub returns-clause-operator : goal.returns-clause-operator
returns-clause-operator c = operator_does

pub returns-clause-shift : goal.returns-clause-shift
returns-clause-shift c = shifts_do

pub returns-clause-division : goal.returns-clause-division
returns-clause-division c = divisions_do

pub returns-clause-unary : goal.returns-clause-unary
returns-clause-unary c = unary_does
