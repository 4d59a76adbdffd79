use Rattle.std.proofs.Common.{◌≡◌, ◌<◌, length, [], get_or, Vec}
use Rattle.std.specs.Global.{Global}
use Rattle.cm_base.specs.declared.place.EndId.{EndId}
use Rattle.cm_core.specs.declared.link.Connection.{Connection}
use Rattle.graph_flat.proofs.wires.empty_rows.Given as goal

abbrev pub invariant-loop : goal.invariant-loop
invariant-loop l = (length l.rows.items ≡ l.counter) × ((e : EndId) (d : Vec Connection Global) → e.0 < l.counter → (get_or l.rows.items e.0 d).items ≡ [])
