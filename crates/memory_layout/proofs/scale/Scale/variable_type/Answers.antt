use Rattle.std.proofs.Common.{◌∙◌, sym, arith}
use Rattle.memory_layout.proofs.Past.{past_both}
use Rattle.memory_layout.proofs.scale.Scale.variable_type.Goals as goal

pub returns-in-None : goal.returns-in-None
returns-in-None c =
    c.scalar.ensures ∙ sym (past_both _ _ c.args.self.now.unit.now.state c.args.self.now.unit.now.locals c.args.number _ (grind (arith, c.if-position-state.false)) (rw c.as_slice-state.ensures at c.in-None.ensures.value))
