use Rattle.cm_types.specs.Meant.{meant_valued}
use Rattle.const_values.proofs.Operands.{told_alone_mismatch}
use Rattle.const_values.proofs.operations.operation_alone.Goals as goal

pub returns-in-None-clause-told : goal.returns-in-None-clause-told
returns-in-None-clause-told c = told_alone_mismatch c.args.op c.args.at (meant_valued c.args.one.now) c.refused.result c.refused.ensures c.requires c.in-None.ensures.value
