use Rattle.saved_state.proofs.Names.{name-found, name-none}
use Rattle.saved_state.proofs.cursor.Cursor.name.Goals as goal

pub returns-in-Ok : goal.returns-in-Ok
returns-in-Ok c = rw c.in-Ok.ensures.cases.0 (name-found c.args.self.now c.in_ok-text.field-0.now c.text.new.self c.in_ok-text.ensures c.in-Ok.ensures.cases.1)

pub returns-in-Err : goal.returns-in-Err
returns-in-Err c = name-none c.args.self.now c.in_ok-text.field-0.now c.text.new.self c.in_ok-text.ensures c.in-Err.ensures.cases.0
