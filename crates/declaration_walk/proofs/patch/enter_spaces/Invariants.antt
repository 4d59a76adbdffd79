use Rattle.scope_walk.specs.Steps.{EntersSpace}
use Rattle.std.proofs.Common.{map, take, ◌++◌, ◌≡◌}
use Rattle.declaration_walk.proofs.patch.enter_spaces.Given as goal

abbrev pub invariant-loop-name : goal.invariant-loop-name
invariant-loop-name l = l.steps ≡ l.fn.steps ++ map EntersSpace (take l.name-index l.names)
