use Rattle.meaning_laws.proofs.Runs.{perform_later}
use Rattle.meaning_laws.proofs.more_turns_in_a_part.Goals as goal

pub returns : goal.returns
returns c = perform_later
