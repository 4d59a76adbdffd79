use Rattle.meaning_laws.proofs.Runs.{exec_within}
use Rattle.meaning_laws.proofs.no_statement_adds_turns.Goals as goal

pub returns : goal.returns
returns c = exec_within
