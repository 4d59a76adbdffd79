use Rattle.meaning_laws.proofs.Returned.{stops_left}
use Rattle.meaning_laws.proofs.returned_to_the_end.Goals as goal

pub returns : goal.returns
returns c = stops_left
