use Rattle.straight_code.proofs.Standing.{stands}
use Rattle.straight_code.proofs.laws.straight_code_stands.Goals as goal

pub returns : goal.returns
returns c = stands
