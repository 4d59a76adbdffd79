use Rattle.std.proofs.Common.{rules, ◌≡◌, ◌+◌, ◌-◌, ◌∙◌, ap, List, ◌∷◌, length, None, slice_index_or, arith}
use Rattle.std.specs.Prelude.{if◌then◌else◌}
use Rattle.cm_base.specs.Parts.{is_input}
use Rattle.cm_base.specs.declared.place.EndId.{EndId}
use Rattle.cm_core.specs.Linked.{no_end_id}
use Rattle.cm_core.specs.Measures.{written_size}
use Rattle.cm_core.specs.Sizes.{scalars}
use Rattle.memory_layout.specs.Graphs.{linked_of}
use Rattle.memory_layout.specs.Held.{held}
use Rattle.memory_layout.proofs.Sums.{host_step}
use Rattle.memory_layout.proofs.graph.Graph.host_size.Goals as goal

pub loop-first-preserved : goal.loop-first-preserved
loop-first-preserved c =
    let is : c.loop-first.rest.now ≡ c.in-Some.first.now ∷ c.in-Some.others.now = search rules in
    let few = c.loop-first.invariant.0 in
    let shorter = ap length is in (
      omega (arith, few, shorter),
      (
        omega arith,
        host_step (linked_of c.args.self.now) c.as_slice-all.result.now c.loop-first.rest.now c.in-Some.others.now c.in-Some.first.now c.loop-first.size c.host_end_size.result
            c.saturating_add-size.result _ is few
            (c.host_end_size.ensures
            ∙ ap
            (λ (id : EndId).
            held (1 + scalars c.in-Some.first.now.shape + (if is_input c.in-Some.first.now.flow then written_size (linked_of c.args.self.now) (record { leaf = None; end = id }) else 0)))
            (c.end_among-id.ensures
            ∙ ap (λ (ids : List EndId). slice_index_or ids (length c.as_slice-all.result.now - length c.loop-first.rest.now) no_end_id) c.host_ends-ids.ensures))
            c.saturating_add-size.ensures c.loop-first.invariant.1.1,
      ),
    )
