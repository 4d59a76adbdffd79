use Rattle.std.proofs.Common.{◌∙◌, ap, sym}
use Rattle.cm_core.specs.declared.program.End.{End}
use Rattle.cm_core.specs.GraphFaults.{source, destination, source_index, destination_index, counts, kinds, types, delay_kind, delay_range}
use Rattle.graph_flat.proofs.SoundLinks.{sound, true_has, false_not, none_of, some_of, equal_counts, stream_only}
use Rattle.graph_flat.proofs.links.fault_of.Goals as goal

pub returns-then-not-is_source : goal.returns-then-not-is_source
returns-then-not-is_source c = source (sym c.is_source.ensures ∙ c.if-not-is_source.true)

pub returns-then-is_source : goal.returns-then-is_source
returns-then-is_source c = destination (sym c.is_source-2.ensures ∙ c.if-is_source.true)

pub returns-then-not-is_picked : goal.returns-then-not-is_picked
returns-then-not-is_picked c = source_index (none_of _ (sym c.is_picked.ensures ∙ c.if-not-is_picked.true))

pub returns-then-not-is_picked-2 : goal.returns-then-not-is_picked-2
returns-then-not-is_picked-2 c = destination_index (none_of _ (sym c.is_picked-2.ensures ∙ c.if-not-is_picked-2.true))

pub returns-then-differ_in_count : goal.returns-then-differ_in_count
returns-then-differ_in_count c = let h = true_has _ c.differ_in_count.ensures c.if-differ_in_count.true in counts h.0 h.1 h.2

pub returns-then-not-is_same_kind : goal.returns-then-not-is_same_kind
returns-then-not-is_same_kind c = kinds (λ e. false_not _ c.is_same_kind.ensures c.if-not-is_same_kind.true (ap (λ (x : End). x.kind) c.declared_end-source.ensures ∙ e ∙ sym (ap (λ (x : End). x.kind) c.declared_end-destination.ensures)))

pub returns-then-not-is_same : goal.returns-then-not-is_same
returns-then-not-is_same c = types (λ e. false_not _ c.is_same.ensures c.if-not-is_same.true (ap (λ (x : End). x.ty) c.declared_end-source.ensures ∙ e ∙ sym (ap (λ (x : End). x.ty) c.declared_end-destination.ensures)))

pub returns-then-is_misplaced : goal.returns-then-is_misplaced
returns-then-is_misplaced c = let h = true_has _ c.is_misplaced.ensures c.if-is_misplaced.true in delay_kind h.0 (λ e. h.1 (ap (λ (x : End). x.kind) c.declared_end-source.ensures ∙ e))

pub returns-then-not-is_delay : goal.returns-then-not-is_delay
returns-then-not-is_delay c = delay_range (false_not _ c.is_delay.ensures c.if-not-is_delay.true)

pub returns : goal.returns
returns c =
    let a = ap (λ (x : End). x.kind) c.declared_end-source.ensures in
    let b = ap (λ (x : End). x.kind) c.declared_end-destination.ensures in
    sound c.args.program.now c.args.link.now (record {
      source = sym c.is_source.ensures ∙ c.if-not-is_source.false;
      destination = sym c.is_source-2.ensures ∙ c.if-is_source.false;
      source_index = some_of _ (sym c.is_picked.ensures ∙ c.if-not-is_picked.false);
      destination_index = some_of _ (sym c.is_picked-2.ensures ∙ c.if-not-is_picked-2.false);
      counts = equal_counts _ _ _ _ (false_not _ c.differ_in_count.ensures c.if-differ_in_count.false);
      kinds = sym a ∙ true_has _ c.is_same_kind.ensures c.if-not-is_same_kind.false ∙ b;
      types = sym (ap (λ (x : End). x.ty) c.declared_end-source.ensures) ∙ true_has _ c.is_same.ensures c.if-not-is_same.false ∙ ap (λ (x : End). x.ty) c.declared_end-destination.ensures;
      delay_kind = λ s. sym a ∙ stream_only _ _ (false_not _ c.is_misplaced.ensures c.if-is_misplaced.false) s;
      delay_range = true_has _ c.is_delay.ensures c.if-not-is_delay.false;
    })
