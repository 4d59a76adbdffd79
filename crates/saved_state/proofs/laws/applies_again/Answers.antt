use Rattle.saved_state.proofs.Applying.{saved_in_range, applied_again}
use Rattle.saved_state.proofs.laws.applies_again.Goals as goal

pub returns-clause-in_range : goal.returns-clause-in_range
returns-clause-in_range c = λ ends values lawful are. saved_in_range ends values lawful.names are

pub returns-clause-same : goal.returns-clause-same
returns-clause-same c = λ ends values lawful are. applied_again ends values lawful.names are
