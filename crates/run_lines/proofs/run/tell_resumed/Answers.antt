use Rattle.run_lines.specs.declared.ending.RunEnd.TheVariants.{Ended as RunEnded}
use Rattle.run_lines.proofs.Outlets.{resumed_tells}
use Rattle.run_lines.proofs.run.tell_resumed.Goals as goal

pub returns-in-Ended-clause-told : goal.returns-in-Ended-clause-told
returns-in-Ended-clause-told g c =
    resumed_tells c.args.valid c.args.snapshot.now c.args.script.now c.args.steps c.in-Ok-resume.player _ _ RunEnded c.in-Ok-resume.ensures c.in-Ended.ensures.told

pub returns : goal.returns
returns g c =
    record {
      told = resumed_tells c.args.valid c.args.snapshot.now c.args.script.now c.args.steps c.in-Ok-resume.player _ _ c.frames_with.result c.in-Ok-resume.ensures c.frames_with.ensures.told;
      left = tt;
      early = λ is. c.in_default.not-Ended is;
    }
