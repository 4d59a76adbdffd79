use Rattle.cm_types.specs.Meant.{meant_valued}
use Rattle.cm_meaning.specs.Types.{Single}
use Rattle.cm_const.proofs.Sound.{suits_told}
use Rattle.cm_const.proofs.operations.operate.Goals as goal

pub in_kind-requires-clause-suits : goal.in_kind-requires-clause-suits
in_kind-requires-clause-suits c =
    suits_told c.args.op (meant_valued c.args.one.now) (meant_valued c.args.other.now) (Single c.in_ok-kind.kind) c.in_ok-left.left c.in_ok-right.right
    c.requires.one c.requires.other c.in_ok-kind.ensures.value c.in_ok-left.ensures c.in_ok-right.ensures
