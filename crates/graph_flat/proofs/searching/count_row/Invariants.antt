use Rattle.std.proofs.Common.{◌≡◌, take, get_or}
use Rattle.std.specs.Prelude.{min, sum_by}
use Rattle.cm_core.specs.declared.link.Connection.{Connection}
use Rattle.graph_flat.proofs.searching.count_row.Given as goal

abbrev pub invariant-loop-connection : goal.invariant-loop-connection
invariant-loop-connection l = (l.limit ≡ 65537) × (l.total ≡ min (sum_by (λ (c : Connection). get_or l.counts c.to.0 0) (take l.connection-index l.row)) 65537)
