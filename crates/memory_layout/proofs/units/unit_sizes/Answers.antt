use Rattle.std.proofs.Common.{rules, ◌∙◌, refl}
use Rattle.cm_core.specs.Measures.{body_sizes, size_among}
use Rattle.memory_layout.specs.Scales.{counts_or}
use Rattle.memory_layout.proofs.Alike.{unit_alike, handlers_alike}
use Rattle.memory_layout.proofs.Functions.{held_from}
use Rattle.memory_layout.proofs.units.unit_sizes.Goals as goal

pub returns-clause-leaf : goal.returns-clause-leaf
returns-clause-leaf c =
    c.leaf_size.ensures
    ∙ unit_alike c.args.structs.now c.args.unit.now _ (size_among (body_sizes c.args.structs.now c.args.unit.now (counts_or c.args.chains.now c.args.beyond) 0 c.args.unit.now.functions)) _ (counts_or c.args.chains.now c.args.beyond)
    (held_from _ _ (search rules)) (λ e. refl)

pub returns-clause-handlers : goal.returns-clause-handlers
returns-clause-handlers c =
    (rw c.as_slice.ensures at c.in_ok-handlers.ensures)
    ∙ handlers_alike c.args.structs.now c.args.unit.now _ (size_among (body_sizes c.args.structs.now c.args.unit.now (counts_or c.args.chains.now c.args.beyond) 0 c.args.unit.now.functions)) _ (counts_or c.args.chains.now c.args.beyond)
    (held_from _ _ (search rules)) (λ e. refl) c.args.unit.now.handlers
