use Rattle.std.proofs.Common.{◌≡◌, ℕ, take, get_or, vec_len}
use Rattle.std.specs.Prelude.{None}
use Rattle.program_shape.specs.Shape.{is_parent, leads}
use Rattle.program_shape.proofs.parents.parents.Given as goal

abbrev pub invariant-loop-edge : goal.invariant-loop-edge
invariant-loop-edge l = record {
  len : vec_len l.parents ≡ l.count;
  parents : (p q : ℕ) → is_parent (get_or l.parents.items q None) p ≡ leads (take l.edge-index l.edges) p q;
}
