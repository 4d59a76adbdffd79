use Rattle.cm_meaning.specs.Declared.{Using}
use Rattle.cm_meaning.specs.Sites.{type_sites}
use Rattle.scope_walk.proofs.ScopeLemmas.{text-part}
use Rattle.declaration_walk.proofs.shared.walk_using_text.Goals as goal

pub returns : goal.returns
returns c = text-part c.args.steps.now c.enter_text.new.self c.walk_type.new.steps c.leave_text.new.self c.args.name.now (Using c.args.ty.now) (λ r. type_sites r c.args.ty.now) c.leave_text.result c.in_ok-enter_text.ensures c.in_ok-walk_type.ensures c.leave_text.ensures
