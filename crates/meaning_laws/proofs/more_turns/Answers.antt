use Rattle.meaning_laws.proofs.Runs.{stops_later}
use Rattle.meaning_laws.proofs.more_turns.Goals as goal

pub returns : goal.returns
returns c = stops_later
