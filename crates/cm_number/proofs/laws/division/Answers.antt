use Rattle.cm_number.proofs.Public.{truncated_division_only, quotient_is, quotient_least, remainder_least}
use Rattle.cm_number.proofs.laws.division.Goals as goal

pub returns-clause-unique : goal.returns-clause-unique
returns-clause-unique c = truncated_division_only

pub returns-clause-quotient : goal.returns-clause-quotient
returns-clause-quotient c = quotient_is

pub returns-clause-least_quotient : goal.returns-clause-least_quotient
returns-clause-least_quotient c = quotient_least

pub returns-clause-least_remainder : goal.returns-clause-least_remainder
returns-clause-least_remainder c = remainder_least
