use Rattle.std.proofs.Common.{ap, ◌∙◌, List, map}
use Rattle.cm_core.specs.declared.unit.Handler.{Handler}
use Rattle.cm_core.specs.declared.core_type.StructType.{StructType}
use Rattle.cm_core.specs.Code.{stmt_of}
use Rattle.cm_core.specs.Measures.{measured, unit_size}
use Rattle.cm_core.specs.Sizes.{stmt_size}
use Rattle.memory_layout.specs.Graphs.{linked_of, handled_in}
use Rattle.memory_layout.specs.Held.{held}
use Rattle.memory_layout.specs.Scales.{counts_or}
use Rattle.memory_layout.proofs.AtLeaf.{leaf_at, handlers_at}
use Rattle.memory_layout.proofs.graph.Graph.unit_sizes.Goals as goal

pub returns-in-Some-clause-leaf : goal.returns-in-Some-clause-leaf
returns-in-Some-clause-leaf c =
    leaf_at (linked_of c.args.self.now) (handled_in (linked_of c.args.self.now) c.args.handlers.now) c.args.leaf c.deref.result.now c.point_size-beyond.result
    (c.deref.ensures.value ∙ c.in_ok-writes.ensures) c.point_size-beyond.ensures c.in-Some.unit.now c.in_ok-found-in-Some.found.leaf c.in-Some.ensures
    (c.in_ok-found-in-Some.ensures.leaf
    ∙ ap (λ (ss : List StructType). held (unit_size (measured ss c.in-Some.unit.now (counts_or c.deref.result.now c.point_size-beyond.result)))) c.as_slice-structs.ensures)

pub returns-in-Some-clause-handlers : goal.returns-in-Some-clause-handlers
returns-in-Some-clause-handlers c =
    handlers_at (linked_of c.args.self.now) (handled_in (linked_of c.args.self.now) c.args.handlers.now) c.args.leaf c.deref.result.now c.point_size-beyond.result
    (c.deref.ensures.value ∙ c.in_ok-writes.ensures) c.point_size-beyond.ensures c.in-Some.unit.now c.in_ok-found-in-Some.found.handlers c.in-Some.ensures
    (c.in_ok-found-in-Some.ensures.handlers
    ∙ ap
    (λ (ss : List StructType).
    map (λ (h : Handler). held (stmt_size (measured ss c.in-Some.unit.now (counts_or c.deref.result.now c.point_size-beyond.result)) (stmt_of h.body))) c.in-Some.unit.now.handlers)
    c.as_slice-structs.ensures)
