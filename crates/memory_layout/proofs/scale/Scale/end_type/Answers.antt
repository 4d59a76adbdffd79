use Rattle.std.proofs.Common.{◌∙◌, sym}
use Rattle.memory_layout.proofs.Past.{past_map}
use Rattle.memory_layout.proofs.scale.Scale.end_type.Goals as goal

pub returns-in-None : goal.returns-in-None
returns-in-None c = c.scalar.ensures ∙ sym (past_map _ c.args.self.now.unit.now.ends c.args.number _ c.in-None.ensures.value)
