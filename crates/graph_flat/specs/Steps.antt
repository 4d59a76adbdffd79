-- How many steps a search takes, so that it comes to an end.
use Rattle.std.specs.Prelude.{ℕ, ◌+◌, zero, suc, sum_by}
use Rattle.cm_base.specs.declared.place.NodeId.{NodeId}
use Rattle.cm_core.specs.declared.program.Body.{Body}
use Rattle.cm_core.specs.declared.program.Body.TheVariants as body
use Rattle.cm_core.specs.declared.program.Program.{Program}
use Rattle.cm_core.specs.Tree.{node_at}

abbrev pub steps_of : (NodeId → ℕ) → Body → ℕ
steps_of below (body.Leaf u) = 1
steps_of below (body.Graph ns) = sum_by below ns + 1

-- the instances at this one and less than d levels below it
abbrev pub steps_below : Program → ℕ → NodeId → ℕ
steps_below p zero n = 1
steps_below p (suc d) n = steps_of (steps_below p d) (node_at p n).body
