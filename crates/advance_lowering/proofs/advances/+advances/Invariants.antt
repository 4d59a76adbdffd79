use Rattle.std.proofs.Common.{◌≡◌, drop}
use Rattle.cm_core.specs.Measures.{any_advances}
use Rattle.cm_core.specs.Views.{stmts_of}
use Rattle.advance_lowering.proofs.advances.+advances.Given as goal

abbrev pub invariant-any_has_advance-loop-stmt : goal.invariant-any_has_advance-loop-stmt
invariant-any_has_advance-loop-stmt l = any_advances (stmts_of l.all) ≡ any_advances (stmts_of (drop l.stmt-index l.all))
