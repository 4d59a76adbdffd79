-- Chains: connections that lead from where chains start to where they end, and what a chain carries: docs/LANGUAGE.md,
-- "Graphs".
use Rattle.std.specs.Prelude.{ℕ, Bool, true, false, zero, suc, ◌==◌, List, [], ◌∷◌, length, map, filter, sum_by, Some, None, if◌then◌else◌}
use Rattle.std.specs.List.{flat_map}
use Rattle.cm_base.specs.declared.place.EndId.{EndId}
use Rattle.cm_core.specs.declared.program.Body.{Body}
use Rattle.cm_core.specs.declared.program.Body.TheVariants as body
use Rattle.cm_core.specs.declared.program.Program.{Program}
use Rattle.cm_core.specs.declared.link.Connection.{Connection}
use Rattle.cm_core.specs.declared.flat.Point.{Point}
use Rattle.cm_core.specs.declared.flat.Chain.{Chain}
use Rattle.cm_core.specs.declared.flat.Flat.{Flat}
use Rattle.cm_core.specs.Tree.{node_at, end_at, is_input, is_among, leaf_nodes, leaf_of, starts, targets, point_at}
use Rattle.cm_core.specs.Expanded.{connections}

-- connections of which each starts where the one before ended; there is at least one
pub record Route : Type 0 where
  pub first : Connection
  pub others : List Connection

abbrev pub last_from : Connection → List Connection → Connection
last_from c [] = c
last_from c (d ∷ ds) = last_from d ds

abbrev pub last_of : Route → Connection
last_of r = last_from r.first r.others

abbrev pub with_first : Connection → Route → Route
with_first c r = record { first = c; others = r.first ∷ r.others }

-- the connections that start at an endpoint, in order
abbrev pub leaving : List Connection → EndId → List Connection
leaving cs e = filter (λ (c : Connection). c.from.0 == e.0) cs

-- the routes that begin with a connection: it alone where it ends at a target, and else on from where it ends
abbrev pub routes_by : Bool → Connection → List Route → List Route
routes_by true c on = record { first = c; others = [] } ∷ []
routes_by false c on = map (with_first c) on

-- the routes from an endpoint to the first target that they meet, of at most d connections, depth first by the order
-- of connections
abbrev pub routes_from : List Connection → List EndId → ℕ → EndId → List Route
routes_from cs goals zero e = []
routes_from cs goals (suc d) e = flat_map (λ (c : Connection). routes_by (is_among c.to goals) c (routes_from cs goals d c.to)) (leaving cs e)

-- the routes of all chains; one that visits no endpoint twice has no more connections than there are endpoints
abbrev pub routes : Program → List Route
routes p = flat_map (routes_from (connections p) (targets p) (length p.ends)) (starts p)

abbrev pub chain_of : Program → Route → Chain
chain_of p r = record {
  from = point_at p r.first.from;
  to = point_at p (last_of r).to;
  kind = (end_at p r.first.from).kind;
  shape = (end_at p r.first.from).shape;
  delay = sum_by (λ (c : Connection). c.delay) (r.first ∷ r.others);
  place = r.first.place;
}

abbrev pub host_point : EndId → Point
host_point e = record { leaf = None; end = e }

abbrev pub only_leaf : EndId → Point
only_leaf e = record { leaf = Some (record { 0 = 0 }); end = e }

-- the one chain between the host and an endpoint of a main declaration that is a processor
abbrev pub direct : Program → EndId → Chain
direct p e = record {
  from = if is_input (end_at p e).flow then host_point e else only_leaf e;
  to = if is_input (end_at p e).flow then only_leaf e else host_point e;
  kind = (end_at p e).kind;
  shape = (end_at p e).shape;
  delay = 0;
  place = p.place;
}

abbrev pub chains_by : Program → Body → List Chain
chains_by p (body.Leaf u) = map (direct p) (starts p)
chains_by p (body.Graph ns) = map (chain_of p) (routes p)

abbrev pub chains : Program → List Chain
chains p = chains_by p (node_at p p.main).body

abbrev pub flat_of : Program → Flat
flat_of p = record { leaves = map (leaf_of p) (leaf_nodes p); chains = chains p }
