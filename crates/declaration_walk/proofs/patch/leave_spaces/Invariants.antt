use Rattle.scope_walk.specs.Steps.{LeavesSpace}
use Rattle.std.proofs.Common.{List, map, take, ℕ, ◌++◌, ◌≡◌}
use Rattle.declaration_walk.proofs.patch.leave_spaces.Given as goal

abbrev pub invariant-loop-name : goal.invariant-loop-name
invariant-loop-name l = l.steps ≡ l.fn.steps ++ map (λ (n : List ℕ). LeavesSpace) (take l._name-index l.names)
