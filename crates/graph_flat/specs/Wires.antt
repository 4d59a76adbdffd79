-- When connections are ready for a search.
use Rattle.std.specs.Prelude.{ℕ, ◌≡◌, ◌<◌, false, List, None, All, Vec, length, filter, map, slice_index_or}
use Rattle.std.specs.Global.{Global}
use Rattle.cm_base.specs.declared.place.EndId.{EndId}
use Rattle.cm_core.specs.declared.link.Connection.{Connection}
use Rattle.cm_core.specs.Tree.{is_among}
use Rattle.cm_core.specs.Routes.{leaving}
use Rattle.graph_search.specs.Paths.{ArePathCounts}
use Rattle.graph_flat.specs.Edges.{edge_of}
use Rattle.graph_flat.specs.Paths.{Falls, IsBelow, MayJump, is_live}
use Rattle.graph_flat.specs.declared.wires.Wires.{Wires}

-- for each endpoint below n the connections that leave it and from which something leads on
abbrev pub AreRows : List Connection → List ℕ → ℕ → Vec (Vec Connection Global) Global → Type 0
AreRows cs counts n rows =
    (length rows.items ≡ n) × ((e : EndId) (d : Vec Connection Global) → e.0 < n → (slice_index_or rows.items e.0 d).items ≡ filter (is_live counts) (leaving cs e))

pub record IsReady (n : ℕ) (w : Wires) : Type 0 where
  pub rank : ℕ → ℕ
  pub falls : Falls w.connections.items n rank
  pub within : All (IsBelow n) w.connections.items
  pub marks_count : length w.is_target.items ≡ n
  pub marks : (e : EndId) → slice_index_or w.is_target.items e.0 false ≡ is_among e w.targets.items
  pub counts : ArePathCounts (map edge_of w.connections.items) w.is_target.items n 65537 w.counts
  pub rows : AreRows w.connections.items w.counts n w.rows
  pub jumps_count : length w.jumps.items ≡ n
  pub jumps : (e : EndId) → MayJump w.connections.items w.targets.items n rank e (slice_index_or w.jumps.items e.0 None)

-- both have the same connections, targets and endpoints
pub record IsSame (w v : Wires) : Type 0 where
  pub connections : w.connections ≡ v.connections
  pub targets : w.targets ≡ v.targets
  pub count : length w.rows.items ≡ length v.rows.items
