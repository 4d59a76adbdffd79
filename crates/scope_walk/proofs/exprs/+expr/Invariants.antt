use Rattle.std.proofs.Common.{take, flat_map}
use Rattle.cm_meaning.specs.Sites.{expr_sites}
use Rattle.scope_walk.specs.Bodies.{argument_sites}
use Rattle.scope_walk.specs.Steps.{Reads}
use Rattle.scope_walk.proofs.exprs.+expr.Given as goal

abbrev pub invariant-walk_exprs-loop-tree : goal.invariant-walk_exprs-loop-tree
invariant-walk_exprs-loop-tree l = Reads l.fn.steps l.steps (λ r. flat_map (expr_sites r) (take l.tree-index l.trees))

abbrev pub invariant-walk_arguments-loop-tree : goal.invariant-walk_arguments-loop-tree
invariant-walk_arguments-loop-tree l = Reads l.fn.steps l.steps (λ r. flat_map (argument_sites r) (take l.tree-index l.trees))
