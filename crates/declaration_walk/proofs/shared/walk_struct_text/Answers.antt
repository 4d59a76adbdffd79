use Rattle.cm_meaning.specs.Declared.{Struct}
use Rattle.cm_meaning.specs.PatchSites.{struct_sites}
use Rattle.scope_walk.proofs.ScopeLemmas.{text-part}
use Rattle.declaration_walk.proofs.shared.walk_struct_text.Goals as goal

pub returns : goal.returns
returns c = text-part c.args.steps.now c.enter_text.new.self c.walk_struct.new.steps c.leave_text.new.self c.args.name.now (Struct c.args.place c.args.fields.now) (λ r. struct_sites r c.args.fields.now) c.leave_text.result c.in_ok-enter_text.ensures c.in_ok-walk_struct.ensures c.leave_text.ensures
