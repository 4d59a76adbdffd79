use Rattle.std.proofs.Common.{◌≡◌, ◌∙◌, ap, sym, subst, List, ℕ, length, sum, sum_by, arith}
use Rattle.std.proofs.lemmas.Grind.{common_steps}
use Rattle.cm_core.specs.declared.flat.Chain.{Chain}
use Rattle.cm_core.specs.Sizes.{scalars}
use Rattle.memory_layout.specs.Graphs.{linked_of, AreHandled}
use Rattle.memory_layout.specs.Held.{held}
use Rattle.memory_layout.proofs.Handled.{all_handled}
use Rattle.memory_layout.proofs.Sums.{expanded_is}
use Rattle.memory_layout.proofs.graph.Graph.expanded_size.Goals as goal

pub host_size-host-requires-clause-handlers : goal.host_size-host-requires-clause-handlers
host_size-host-requires-clause-handlers c =
    subst (λ (sizes : List (List ℕ)). AreHandled (linked_of c.args.self.now) sizes) (sym c.deref-4.ensures.value)
    (all_handled (linked_of c.args.self.now) c.args.self.now.order.now c.in_ok-sized.sized.handlers.items c.requires.order.all c.in_ok-sized.ensures.handlers)

pub returns : goal.returns
returns c =
    let long : length c.in_ok-sized.sized.leaves.items ≡ length c.args.self.now.flat.now.leaves = grind (arith, common_steps, c.in_ok-sized.ensures.len) in
    expanded_is (linked_of c.args.self.now) c.in_ok-sized.sized.leaves.items c.sum_of.result c.chains_scalars.result c.host_size-host.result c.saturating_add.result
    c.saturating_add-2.result c.max.result long (λ j below. c.in_ok-sized.ensures.leaves j (c.requires.order.all j below))
    (c.sum_of.ensures ∙ ap (λ (sizes : List ℕ). held (sum sizes)) c.deref-5.ensures.value)
    (c.chains_scalars.ensures ∙ ap (λ (chains : List Chain). held (sum_by (λ (chain : Chain). scalars chain.shape) chains)) c.as_slice-2.ensures) c.host_size-host.ensures
    c.saturating_add.ensures c.saturating_add-2.ensures c.max.ensures
