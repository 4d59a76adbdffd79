use Rattle.wasm_examples.proofs.Hosts.{sets, starts}
use Rattle.wasm_examples.proofs.hosts_set_inputs.Goals as goal

pub returns : goal.returns
returns c = record { sets = sets; starts = starts }
