use Rattle.commands.proofs.RenderLemmas.{reductions_are}
use Rattle.commands.proofs.render.reductions.Goals as goal

pub returns : goal.returns
returns c = reductions_are c.args.patch.now.input c.args.patch.now.output c.args.turns
