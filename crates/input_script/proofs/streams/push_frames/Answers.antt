use Rattle.input_script.proofs.Steps.{frames_on}
use Rattle.input_script.proofs.streams.push_frames.Goals as goal

pub loop-value-preserved : goal.loop-value-preserved
loop-value-preserved c = frames_on c.args.at c.args.end.now c.args.values.now c.loop-value.value-index c.value-item.result c.loop-value.into c.push_value.new.into _ c.loop-value-test.true c.value-item.is c.in_ok-push_value.ensures c.loop-value.invariant
