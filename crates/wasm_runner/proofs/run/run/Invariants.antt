use Rattle.wasm_runner.specs.Activations.{stacks}
use Rattle.wasm_runner.specs.Turns.{ahead}
use Rattle.wasm_runner.proofs.Turning.{ProceedsFrom}
use Rattle.wasm_runner.proofs.run.run.Given as goal

abbrev pub invariant-turns : goal.invariant-turns
invariant-turns g l =
    ProceedsFrom g.H.Host.emits l.bodies l.functions l.steps (stacks l.fn.cells l.fn.blocks l.fn.callers l.fn.globals l.fn.memory) l.fn.from l.fn.host (stacks l.cells l.blocks l.callers l.globals l.memory) l.now l.left l.host

abbrev pub decreases-turns : goal.decreases-turns
decreases-turns g l = ahead g.H.Host.renewable l.steps l.left l.host
