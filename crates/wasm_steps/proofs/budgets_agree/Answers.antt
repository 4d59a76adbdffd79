use Rattle.wasm_steps.proofs.Budgets.{longer, longer_over, backward, spent}
use Rattle.wasm_steps.proofs.budgets_agree.Goals as goal

pub returns-clause-goes_on : goal.returns-clause-goes_on
returns-clause-goes_on c = longer

pub returns-clause-stays_over : goal.returns-clause-stays_over
returns-clause-stays_over c = longer_over

pub returns-clause-backward : goal.returns-clause-backward
returns-clause-backward c funcs n m es a d = backward m

pub returns-clause-spent : goal.returns-clause-spent
returns-clause-spent c funcs n m es a d = spent m
