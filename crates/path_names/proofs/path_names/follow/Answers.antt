use Rattle.std.proofs.Common.{arith}
use Rattle.path_names.proofs.StandLemmas.{takes-all, takes-next, takes-none}
use Rattle.path_names.proofs.path_names.follow.Goals as goal

pub loop-step-init : goal.loop-step-init
loop-step-init c = record { ready = c.requires; taken = takes-none c.args.walk.now }

pub loop-step-preserved : goal.loop-step-preserved
loop-step-preserved c = record {
  ready = c.in_ok-take.ensures.ready;
  taken = takes-next c.args.walk.now c.loop-step.walk c.take.new.self c.args.steps.now c.loop-step.step-index c.step-item.result c.loop-step-test.true c.step-item.is c.loop-step.invariant.taken c.in_ok-take.ensures.takes;
}

pub returns : goal.returns
returns c = takes-all c.args.walk.now c.loop-step.walk c.args.steps.now c.loop-step.step-index (let w = c.loop-step-test.false in let e = c.loop-step.auto.step-index-end in omega arith) c.loop-step.invariant.taken
