use Rattle.std.proofs.Common.{ap, ◌∙◌, Option, unwrap_or}
use Rattle.std.proofs.lemmas.Option.{unwrap_or-slice_get}
use Rattle.cm_core.specs.declared.unit.Unit.{Unit as CoreUnit}
use Rattle.cm_core.specs.Linked.{no_unit}
use Rattle.memory_layout.proofs.graph.Graph.unit_of.Goals as goal

pub returns : goal.returns
returns c =
    ap (λ (o : Option CoreUnit). unwrap_or o no_unit) c.get.ensures.value ∙ unwrap_or-slice_get c.args.self.now.program.now.units c.args.leaf.now.unit no_unit
