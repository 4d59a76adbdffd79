-- A program with its graph, where it is measured.
use Rattle.std.specs.Prelude.{ℕ, ◌≡◌, ◌==◌, length, List, [], Option, Some, None, position, slice_index_or}
use Rattle.cm_core.specs.declared.unit.Handler.{Handler}
use Rattle.cm_base.specs.declared.place.LeafId.{LeafId}
use Rattle.cm_core.specs.declared.program.Program.{Program}
use Rattle.cm_core.specs.declared.flat.Flat.{Flat}
use Rattle.cm_core.specs.declared.filled.Filled.{Filled}
use Rattle.cm_core.specs.Linked.{Linked, unit_at}
use Rattle.cm_core.specs.Measures.{handled_size}
use Rattle.memory_layout.specs.Held.{held}
use Rattle.memory_layout.specs.declared.graph.Graph.{Graph}

abbrev pub linked_by : Program → Flat → Filled → List LeafId → Linked
linked_by program flat filled order = record { program = program; flat = flat; filled = filled; order = order }

abbrev pub linked_of : Graph → Linked
linked_of g = linked_by g.program.now g.flat.now g.filled.now g.order.now

-- the size of a body by the number of its handler
abbrev pub body_among : List ℕ → Option ℕ → ℕ
body_among sizes None = 0
body_among sizes (Some k) = slice_index_or sizes k 0

-- the body of the handler of a leaf's input, where the sizes of the handlers of each leaf are these
abbrev pub handled_in : Linked → List (List ℕ) → ℕ → ℕ → ℕ
handled_in l sizes j e = body_among (slice_index_or sizes j []) (position (λ (h : Handler). h.end == e) (unit_at l j).handlers)

-- the bodies of all handlers have these sizes
abbrev pub AreHandled : Linked → List (List ℕ) → Type 0
AreHandled l sizes = (j e : ℕ) → held (handled_in l sizes j e) ≡ held (handled_size l (length l.flat.leaves) j e)
