use Rattle.std.proofs.Common.{◌≡◌, ℕ, ◌<◌, vec_len, take, get_or, Vec}
use Rattle.std.specs.Global.{Global}
use Rattle.graph_search.specs.Counts.{targets}
use Rattle.graph_search.proofs.placing.successors.Given as goal

abbrev pub invariant-loop-edge : goal.invariant-loop-edge
invariant-loop-edge l = (vec_len l.lists ≡ l.count) × ((p : ℕ) (d : Vec ℕ Global) → p < l.count → (get_or l.lists.items p d).items ≡ targets (take l.edge-index l.edges) p)
