use Rattle.cm_core.proofs.Runs.{perform_later}
use Rattle.cm_core.proofs.laws.more_turns_in_a_part.Goals as goal

pub returns : goal.returns
returns c = perform_later
