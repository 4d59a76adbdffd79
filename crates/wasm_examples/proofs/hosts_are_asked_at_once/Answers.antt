use Rattle.wasm_examples.proofs.Stops.{asks_nothing, asks_at_once, asks_and_traps}
use Rattle.wasm_examples.proofs.hosts_are_asked_at_once.Goals as goal

pub returns : goal.returns
returns c = record { nothing = asks_nothing; asks = asks_at_once; traps = asks_and_traps }
