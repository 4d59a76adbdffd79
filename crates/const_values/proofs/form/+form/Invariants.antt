use Rattle.std.proofs.Common.{true, take}
use Rattle.const_values.specs.Arguments.{JudgesAll}
use Rattle.const_values.proofs.form.+form.Given as goal

abbrev pub invariant-are_constant-loop-expr : goal.invariant-are_constant-loop-expr
invariant-are_constant-loop-expr g l = JudgesAll (g.N.ConstNames.finds l.names) l.env.params (take l.expr-index l.all) true
