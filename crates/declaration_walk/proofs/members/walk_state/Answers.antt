use Rattle.cm_meaning.specs.PatchSites.{state_value_sites}
use Rattle.cm_meaning.specs.Sites.{type_sites}
use Rattle.scope_walk.proofs.ScopeLemmas.{then-part}
use Rattle.std.proofs.Common.{flat_map}
use Rattle.declaration_walk.proofs.members.walk_state.Goals as goal

pub returns : goal.returns
returns c = then-part c.args.steps.now c.walk_type.new.steps c.walk_vars.new.steps (λ r. type_sites r c.args.ty.now) (λ r. flat_map (state_value_sites r) c.args.vars.now) c.walk_vars.result c.in_ok-walk_type.ensures c.walk_vars.ensures
