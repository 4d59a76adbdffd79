-- Programs by hand, for worked rows.
use Rattle.std.specs.Prelude.{ℕ, zero, suc, ◌+◌, true, false, List, [], ◌∷◌, ◌++◌, map, flat_map, length, Option, Some, None, ℤ, pos}
use Rattle.cm_base.specs.declared.host.Flow.{Flow}
use Rattle.cm_base.specs.declared.host.Kind.{Kind}
use Rattle.cm_base.specs.declared.host.Scalar.{Scalar}
use Rattle.cm_base.specs.declared.host.Scalar.TheVariants as scalars
use Rattle.cm_base.specs.declared.host.HostEnd.{HostEnd}
use Rattle.cm_base.specs.declared.place.Place.{Place}
use Rattle.cm_base.specs.declared.place.NodeId.{NodeId}
use Rattle.cm_base.specs.declared.place.EndId.{EndId}
use Rattle.cm_base.specs.declared.place.LeafId.{LeafId}
use Rattle.cm_base.specs.declared.play.Script.{Script}
use Rattle.cm_base.specs.Parts.{tasks_of}
use Rattle.cm_base.specs.Players.{Outcome, play}
use Rattle.cm_core.specs.declared.core_type.CoreType.{CoreType}
use Rattle.cm_core.specs.declared.expr.CoreExpr.{CoreExpr}
use Rattle.cm_core.specs.declared.expr.CoreExpr.TheVariants as e
use Rattle.cm_core.specs.declared.stmt.CoreStmt.{CoreStmt}
use Rattle.cm_core.specs.declared.stmt.CoreStmt.TheVariants as s
use Rattle.cm_core.specs.declared.program.Body.{Body}
use Rattle.cm_core.specs.declared.program.Body.TheVariants as body
use Rattle.cm_core.specs.declared.program.Program.{Program}
use Rattle.cm_core.specs.declared.program.End.{End}
use Rattle.cm_core.specs.declared.program.Node.{Node}
use Rattle.cm_core.specs.declared.unit.Unit.{Unit as CoreUnit}
use Rattle.cm_core.specs.declared.unit.Var.{Var}
use Rattle.cm_core.specs.declared.unit.Local.{Local}
use Rattle.cm_core.specs.declared.unit.Home.{Home}
use Rattle.cm_core.specs.declared.link.Group.{Group}
use Rattle.cm_core.specs.declared.link.Side.{Side}
use Rattle.cm_core.specs.declared.link.Link.{Link}
use Rattle.cm_core.specs.declared.flat.Chain.{Chain}
use Rattle.cm_core.specs.declared.flat.Leaf.{Leaf}
use Rattle.cm_core.specs.Types.{scalar_type}
use Rattle.cm_core.specs.Routes.{flat_of}
use Rattle.cm_core.specs.Linked.{Linked}
use Rattle.cm_core.specs.CoreRun.{core_player, first_world}
use Rattle.cm_core.specs.Calls.{depth_of}

abbrev pub nowhere : Place
nowhere = record { file = 1; line = 1; column = 1 }

abbrev pub int : CoreType
int = scalar_type scalars.Int32

abbrev pub end : Flow → Kind → Scalar → End
end flow kind scalar = record { flow = flow; kind = kind; name = []; ty = scalar_type scalar; shape = scalar ∷ [] }

abbrev pub host_end : End → HostEnd
host_end e = record { flow = e.flow; kind = e.kind; name = e.name; shape = e.shape; parameter = None }

abbrev pub number : ℕ → CoreExpr
number n = e.Number (pos n) false

abbrev pub loop : List CoreStmt → CoreStmt
loop all = s.Loop (s.Block all) nowhere

abbrev pub var : Scalar → Option CoreExpr → Var
var scalar first = record { ty = scalar_type scalar; shape = scalar ∷ []; first = first }

abbrev pub local : Scalar → Home → Local
local scalar home = record { ty = scalar_type scalar; shape = scalar ∷ []; home = home }

-- a processor without functions, handlers and `init`
abbrev pub unit : List End → List Var → List Local → List CoreStmt → CoreUnit
unit ends state locals main =
    record { ends = ends; state = state; locals = locals; constants = []; functions = []; init = None; main = Some (s.Block main); handlers = []; latency = 0; factor = 1 }

abbrev pub ids : ℕ → ℕ → List EndId
ids from zero = []
ids from (suc count) = record { 0 = from } ∷ ids (from + 1) count

-- a program that is one processor
abbrev pub alone : CoreUnit → Program
alone u =
    record {
      structs = [];
      units = u ∷ [];
      nodes = record { path = []; body = body.Leaf 0; ends = ids 0 (length u.ends) } ∷ [];
      ends = u.ends;
      groups = [];
      links = [];
      host = map host_end u.ends;
      main = record { 0 = 0 };
      place = nowhere;
    }

abbrev pub in_order : ℕ → List Leaf → List LeafId
in_order i [] = []
in_order i (leaf ∷ leaves) = record { 0 = i } ∷ in_order (i + 1) leaves

-- without latencies, the leaves in declaration order
abbrev pub linked : Program → Linked
linked p =
    record {
      program = p;
      flat = flat_of p;
      filled = record { extra = map (λ (c : Chain). 0) (flat_of p).chains; arrive = map (λ (l : Leaf). 0) (flat_of p).leaves; latency = 0 };
      order = in_order 0 (flat_of p).leaves;
    }

-- the first stream input of the host has these values, one each frame
abbrev pub input : List ℤ → Script
input values = record { frames = length values; streams = values ∷ []; values = []; events = [] }

abbrev pub silence : ℕ → Script
silence frames = record { frames = frames; streams = []; values = []; events = [] }

abbrev pub outcome : Linked → Script → ℕ → Outcome
outcome l script turns = play (core_player l (depth_of l)) turns (tasks_of l.program.host [] script script.frames) (first_world l)

-- ---- graphs

abbrev pub node : Body → List EndId → Node
node b ends = record { path = []; body = b; ends = ends }

abbrev pub own : ℕ → Group
own n = record { nodes = record { 0 = n } ∷ []; array = false; own = true }

abbrev pub group : ℕ → Group
group n = record { nodes = record { 0 = n } ∷ []; array = false; own = false }

abbrev pub side : ℕ → ℕ → Side
side g n = record { group = g; index = None; end = n; place = nowhere }

-- a connection from an endpoint of a group to one of another, with a delay
abbrev pub link : ℕ → ℕ → ℕ → ℕ → Option ℤ → Link
link g n h m delay = record { from = side g n; to = side h m; delay = delay; place = nowhere }

-- the nodes of a graph after the graph itself, one for each unit in this order, with endpoints from this number on
abbrev pub unit_nodes : ℕ → ℕ → List CoreUnit → List Node
unit_nodes u from [] = []
unit_nodes u from (unit ∷ units) = node (body.Leaf u) (ids from (length unit.ends)) ∷ unit_nodes (u + 1) (from + length unit.ends) units

abbrev pub node_ids : ℕ → List CoreUnit → List NodeId
node_ids n [] = []
node_ids n (unit ∷ units) = record { 0 = n } ∷ node_ids (n + 1) units

abbrev pub node_groups : ℕ → List CoreUnit → List Group
node_groups n [] = []
node_groups n (unit ∷ units) = group n ∷ node_groups (n + 1) units

-- a graph with one node for each unit: group 0 is the graph itself, and the groups from 1 on are the nodes
abbrev pub graph : List End → List CoreUnit → List Link → Program
graph ends units links =
    record {
      structs = [];
      units = units;
      nodes = node (body.Graph (node_ids 1 units)) (ids 0 (length ends)) ∷ unit_nodes 0 (length ends) units;
      ends = ends ++ flat_map (λ (u : CoreUnit). u.ends) units;
      groups = own 0 ∷ node_groups 1 units;
      links = links;
      host = map host_end ends;
      main = record { 0 = 0 };
      place = nowhere;
    }
