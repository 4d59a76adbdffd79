use Rattle.commands.proofs.PlayLemmas.{misspelled, invalid}
use Rattle.commands.proofs.play.valid_module.Goals as goal

pub returns-in-Err-clause-refused : goal.returns-in-Err-clause-refused
returns-in-Err-clause-refused c = rw c.refusal.ensures (misspelled c.args.bytes.now c.in-Err.fail c.in-Err.ensures.refused)

pub returns-in-Err-validate-clause-refused : goal.returns-in-Err-validate-clause-refused
returns-in-Err-validate-clause-refused c = rw c.refusal-in-Err-validate.ensures (invalid c.in-Ok.module c.args.bytes.now c.in-Err-validate.fail c.in-Ok.ensures.found c.in-Err-validate.ensures.refused)
