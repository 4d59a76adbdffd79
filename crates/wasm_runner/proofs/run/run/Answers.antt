-- Each turn comes nearer to the end.
use Rattle.wasm_runner.specs.Activations.{stacks}
use Rattle.wasm_runner.proofs.Turning as T
use Rattle.wasm_runner.proofs.run.run.Goals as goal

pub turns-init : goal.turns-init
turns-init g c = T.begins g.H.Host.emits g.H.Host.renewable _ _ _ _ _ _

pub take_turn-requires-clause-fewer : goal.take_turn-requires-clause-fewer
take_turn-requires-clause-fewer g c = T.still_fewer g.H.Host.emits g.H.Host.renewable _ _ _ _ _ _ _ _ _ _ c.turns.invariant c.requires

pub take_turn-requires-clause-there : goal.take_turn-requires-clause-there
take_turn-requires-clause-there g c = T.still g.H.Host.emits g.H.Host.renewable _ _ _ _ _ _ _ _ _ _ c.turns.invariant c.requires

pub returns-in-Ends : goal.returns-in-Ends
returns-in-Ends g c = T.ends g.H.Host.emits g.H.Host.renewable _ _ _ _ _ _ _ _ _ _ c.turns.invariant (stacks c.take_turn.new.cells c.take_turn.new.blocks c.take_turn.new.callers c.take_turn.new.globals c.take_turn.new.memory) _ _ c.in-Ends.ensures

pub turns-smaller : goal.turns-smaller
turns-smaller g c = T.nearer g.H.Host.emits g.H.Host.renewable _ _ _ _ _ _ _ _ _ _ c.turns.invariant _ _ _ _ c.in-Goes.ensures c.requires

pub turns-preserved : goal.turns-preserved
turns-preserved g c = T.proceeds g.H.Host.emits g.H.Host.renewable _ _ _ _ _ _ _ _ _ _ c.turns.invariant _ _ _ _ c.in-Goes.ensures
