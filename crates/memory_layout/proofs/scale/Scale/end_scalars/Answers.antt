use Rattle.std.proofs.Common.{sym, ap}
use Rattle.cm_core.specs.declared.program.End.{End}
use Rattle.cm_core.specs.Sizes.{scalars}
use Rattle.cm_core.specs.Tree.{no_end}
use Rattle.memory_layout.proofs.Past.{past_item}
use Rattle.memory_layout.proofs.scale.Scale.end_scalars.Goals as goal

pub returns-in-None : goal.returns-in-None
returns-in-None c = ap (λ (end : End). scalars end.shape) (sym (past_item c.args.self.now.unit.now.ends c.args.number no_end c.in-None.ensures.value))
