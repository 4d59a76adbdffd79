use Rattle.std.proofs.Common.{rules, ◌≡◌, ◌∙◌, ap, List, ℕ, Some, sum_by, zip}
use Rattle.cm_core.specs.declared.flat.Chain.{Chain}
use Rattle.cm_core.specs.declared.flat.Leaf.{Leaf}
use Rattle.cm_core.specs.Linked.{unit_numbered}
use Rattle.cm_core.specs.Measures.{ends_size, state_bytes, ring_bytes}
use Rattle.memory_layout.specs.Graphs.{linked_of}
use Rattle.memory_layout.specs.Held.{held}
use Rattle.memory_layout.proofs.Sums.{bytes_by}
use Rattle.memory_layout.proofs.graph.Graph.memory_bytes.Goals as goal

pub returns : goal.returns
returns c =
    let ends : c.total-ends.result ≡ held (sum_by (λ (leaf : Leaf). ends_size (unit_numbered (linked_of c.args.self.now) (Some leaf))) c.as_slice-leaves.result.now) = search rules in
    let states : c.total-states.result ≡ held (sum_by (λ (leaf : Leaf). state_bytes (unit_numbered (linked_of c.args.self.now) (Some leaf))) c.as_slice-leaves.result.now) = search rules in
    c.bytes_together.ensures
    ∙ bytes_by _ _ _ _ _ _ _ _ _ _ c.parts.ensures
    (ends ∙ ap (λ (leaves : List Leaf). held (sum_by (λ (leaf : Leaf). ends_size (unit_numbered (linked_of c.args.self.now) (Some leaf))) leaves)) c.as_slice-leaves.ensures)
    (states ∙ ap (λ (leaves : List Leaf). held (sum_by (λ (leaf : Leaf). state_bytes (unit_numbered (linked_of c.args.self.now) (Some leaf))) leaves)) c.as_slice-leaves.ensures)
    c.requires
    (c.rings_bytes-rings.ensures ∙ ap (λ (chains : List Chain). held (sum_by ring_bytes (zip chains c.as_slice.result.now))) c.as_slice-chains.ensures
    ∙ ap (λ (extra : List ℕ). held (sum_by ring_bytes (zip c.args.self.now.flat.now.chains extra))) c.as_slice.ensures)
