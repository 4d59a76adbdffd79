use Rattle.std.proofs.Common.{◌≡◌, vec_len, take}
use Rattle.latency_fill.specs.Edges.{AreSources}
use Rattle.latency_fill.proofs.arrivals.sources_of.Given as goal

abbrev pub invariant-loop-edge : goal.invariant-loop-edge
invariant-loop-edge l = (vec_len l.lists ≡ l.count) × AreSources (take l.edge-index l.edges) l.count l.lists.items
