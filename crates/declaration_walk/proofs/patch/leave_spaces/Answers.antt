use Rattle.declaration_walk.proofs.SpaceLemmas.{steps-all, steps-next, steps-start}
use Rattle.scope_walk.specs.Steps.{LeavesSpace}
use Rattle.std.proofs.Common.{List, arith, ℕ}
use Rattle.declaration_walk.proofs.patch.leave_spaces.Goals as goal

pub loop-name-init : goal.loop-name-init
loop-name-init c = steps-start (λ (n : List ℕ). LeavesSpace) c.args.names.now c.args.steps.now

pub loop-name-preserved : goal.loop-name-preserved
loop-name-preserved c = steps-next (λ (n : List ℕ). LeavesSpace) c.args.names.now c.loop-name._name-index c._name-item.result c.args.steps.now c.loop-name.steps c.leave_space.new.self c.loop-name-test.true c._name-item.is c.loop-name.invariant c.in_ok-leave_space.ensures

pub returns : goal.returns
returns c = steps-all (λ (n : List ℕ). LeavesSpace) c.args.names.now c.loop-name._name-index c.args.steps.now c.loop-name.steps (let w = c.loop-name-test.false in let e = c.loop-name.auto._name-index-end in omega arith) c.loop-name.invariant
