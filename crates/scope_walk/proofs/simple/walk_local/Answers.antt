use Rattle.scope_walk.proofs.ScopeLemmas.{in-typed}
use Rattle.scope_walk.proofs.simple.walk_local.Goals as goal

pub returns-in_ok-walk_type-in-Typed : goal.returns-in_ok-walk_type-in-Typed
returns-in_ok-walk_type-in-Typed c = in-typed c.args.steps.now c.walk_type.new.steps c.walk_vars.new.steps c.in-Typed.ty c.in-Typed.vars c.as_slice-in-Typed.result.now c.args.local.now c.walk_vars.result c.in-Typed.is c.as_slice-in-Typed.ensures
    c.in_ok-walk_type-in-Typed.ensures c.walk_vars.ensures
