use Rattle.std.proofs.Common.{take}
use Rattle.cm_meaning.specs.BodySites.{stmts_sites}
use Rattle.scope_walk.specs.Steps.{after_all, Walks}
use Rattle.scope_walk.proofs.stmts.+stmt.Given as goal

abbrev pub invariant-walk_stmts-loop-stmt : goal.invariant-walk_stmts-loop-stmt
invariant-walk_stmts-loop-stmt l = Walks l.fn.steps l.steps (λ r. stmts_sites r (take l.stmt-index l.all)) (λ r. after_all r (take l.stmt-index l.all))
