use Rattle.cm_types.specs.Meant.{meant_valued}
use Rattle.const_values.proofs.Operands.{told_operated, told_zero}
use Rattle.const_values.proofs.operations.operation.Goals as goal

pub returns-in-Some-operate-clause-told : goal.returns-in-Some-operate-clause-told
returns-in-Some-operate-clause-told c =
    told_operated c.args.op c.args.at c.args.divisor (meant_valued c.args.one.now) (meant_valued c.args.other.now) c.in-Some._kind c.in-Some-operate.found
    c.requires.one c.requires.other c.in-Some.ensures.value c.in-Some-operate.ensures.value

pub returns-in-None-clause-told : goal.returns-in-None-clause-told
returns-in-None-clause-told c =
    told_zero c.args.op c.args.at c.args.divisor (meant_valued c.args.one.now) (meant_valued c.args.other.now) c.in-Some._kind c.refused-in-None.result c.refused-in-None.ensures
    c.requires.one c.requires.other c.in-Some.ensures.value c.in-None.ensures.value
