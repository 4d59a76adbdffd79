use Rattle.operator_code.proofs.Converting.{conversion_turns}
use Rattle.operator_code.proofs.laws.conversions_convert.Goals as goal

pub returns : goal.returns
returns c = conversion_turns
