use Rattle.wasm_valid.proofs.AcceptLemmas.{accepted_lawful}
use Rattle.wasm_valid.proofs.valid.Valid.new.Goals as goal

pub new-requires-clause-lawful : goal.new-requires-clause-lawful
new-requires-clause-lawful c = accepted_lawful c.args.«module» c.args.accepted c.requires
