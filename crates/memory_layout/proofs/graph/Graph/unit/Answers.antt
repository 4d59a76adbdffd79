use Rattle.std.proofs.Common.{ap, ◌∙◌, Option, unwrap_or}
use Rattle.std.proofs.lemmas.Option.{unwrap_or-slice_get}
use Rattle.cm_core.specs.declared.flat.Leaf.{Leaf}
use Rattle.cm_core.specs.declared.unit.Unit.{Unit as CoreUnit}
use Rattle.cm_core.specs.Linked.{no_unit, unit_numbered}
use Rattle.memory_layout.specs.Graphs.{linked_of}
use Rattle.memory_layout.proofs.graph.Graph.unit.Goals as goal

pub returns-in-Some : goal.returns-in-Some
returns-in-Some c =
    ap (λ (o : Option CoreUnit). unwrap_or o no_unit) c.get-in-Some.ensures.value
    ∙ unwrap_or-slice_get c.args.self.now.program.now.units c.in-Some.found.now.unit no_unit
    ∙ ap (λ (o : Option Leaf). unit_numbered (linked_of c.args.self.now) o) c.in-Some.ensures.value
