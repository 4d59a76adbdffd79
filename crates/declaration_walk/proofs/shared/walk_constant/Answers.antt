use Rattle.cm_meaning.specs.Declared.{Constant}
use Rattle.cm_meaning.specs.Sites.{expr_sites}
use Rattle.scope_walk.proofs.ScopeLemmas.{text-part}
use Rattle.declaration_walk.proofs.shared.walk_constant.Goals as goal

pub returns : goal.returns
returns c = text-part c.args.steps.now c.enter_text.new.self c.walk_expr.new.steps c.leave_text.new.self c.args.init.now.name (Constant c.args.init.now.value) (λ r. expr_sites r c.args.init.now.value) c.leave_text.result c.in_ok-enter_text.ensures c.in_ok-walk_expr.ensures c.leave_text.ensures
