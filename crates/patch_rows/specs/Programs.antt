-- Programs that are given by hand, and their runs.
use Rattle.std.specs.Prelude.{ℕ, false, true, pos, List, [], ◌∷◌, map, Option, Some, None, ℤ}
use Rattle.cm_base.specs.declared.host.Flow.{Flow}
use Rattle.cm_base.specs.declared.host.Flow.TheVariants as flows
use Rattle.cm_base.specs.declared.host.Kind.{Kind}
use Rattle.cm_base.specs.declared.host.Kind.TheVariants as kinds
use Rattle.cm_base.specs.declared.host.Scalar.TheVariants as scalars
use Rattle.cm_base.specs.declared.host.HostEnd.{HostEnd}
use Rattle.cm_base.specs.declared.place.Place.{Place}
use Rattle.cm_base.specs.declared.place.EndId.{EndId}
use Rattle.cm_base.specs.declared.place.NodeId.{NodeId}
use Rattle.cm_base.specs.declared.play.Script.{Script}
use Rattle.cm_base.specs.Parts.{tasks_of}
use Rattle.cm_base.specs.Players.{Outcome, play, stops}
use Rattle.cm_number.specs.Conversion.{to_signed, floor_modulus, to_bool}
use Rattle.cm_core.specs.declared.expr.CoreExpr.TheVariants as e
use Rattle.cm_core.specs.declared.expr.CoreExpr.{CoreExpr}
use Rattle.cm_core.specs.declared.expr.CoreExpr.TheBlock.{hidden-the_row-CoreExpr-0, hidden-the_row-CoreExpr-1}
use Rattle.cm_core.specs.declared.stmt.CoreStmt.{CoreStmt}
use Rattle.cm_core.specs.declared.stmt.CoreStmt.TheVariants as s
use Rattle.cm_core.specs.declared.stmt.CoreStmt.TheBlock.{hidden-the_row-CoreStmt-0, hidden-the_row-CoreStmt-1}
use denote.Hole.Carrier.{hidden}
use Rattle.cm_core.specs.declared.operator.BinaryOp.TheVariants.{Add}
use Rattle.cm_core.specs.declared.program.Body.{Body}
use Rattle.cm_core.specs.declared.program.Body.TheVariants as body
use Rattle.cm_core.specs.declared.program.End.{End}
use Rattle.cm_core.specs.declared.program.Node.{Node}
use Rattle.cm_core.specs.declared.program.Program.{Program}
use Rattle.cm_core.specs.declared.unit.Unit.{Unit as CoreUnit}
use Rattle.cm_core.specs.declared.unit.Var.{Var}
use Rattle.cm_core.specs.declared.unit.Home.TheVariants as home
use Rattle.cm_core.specs.declared.link.Group.{Group}
use Rattle.cm_core.specs.declared.link.Side.{Side}
use Rattle.cm_core.specs.declared.link.Link.{Link}
use Rattle.cm_core.specs.declared.flat.Chain.{Chain}
use Rattle.cm_core.specs.declared.flat.Leaf.{Leaf}
use Rattle.cm_core.specs.Types.{scalar_type}
use Rattle.cm_core.specs.Code.{expr_of, expr_row, stmt_of, stmt_row}
use Rattle.cm_core.specs.Routes.{flat_of}
use Rattle.cm_core.specs.Linked.{Linked}
use Rattle.cm_core.specs.Calls.{depth_of}
use Rattle.cm_core.specs.CoreRun.{core_player, first_world}

abbrev pub nowhere : Place
nowhere = record { file = 1; line = 1; column = 1 }

-- an endpoint of `int32`
abbrev pub end : Flow → Kind → End
end flow kind = record { flow = flow; kind = kind; name = []; ty = scalar_type scalars.Int32; shape = scalars.Int32 ∷ [] }

abbrev pub stream_in : End
stream_in = end flows.Input kinds.Stream

abbrev pub stream_out : End
stream_out = end flows.Output kinds.Stream

abbrev pub host_end : End → HostEnd
host_end x = record { flow = x.flow; kind = x.kind; name = x.name; shape = x.shape; parameter = None }

abbrev pub number : ℕ → CoreExpr
number n = e.Number (pos n) false

abbrev pub loop : List CoreStmt → CoreStmt
loop all = s.Loop (s.Block all) nowhere

abbrev pub int_var : Var
int_var = record { ty = scalar_type scalars.Int32; shape = scalars.Int32 ∷ []; first = None }

-- a processor with these endpoints and variables, and a main
abbrev pub unit : List End → List Var → List CoreStmt → CoreUnit
unit ends state main =
    record { ends = ends; state = state; locals = []; constants = []; functions = []; init = None; main = Some (s.Block main); handlers = []; latency = 0; factor = 1 }

abbrev pub ends_at : List ℕ → List EndId
ends_at numbers = map (λ (n : ℕ). record { 0 = n }) numbers

abbrev pub nodes_at : List ℕ → List NodeId
nodes_at numbers = map (λ (n : ℕ). record { 0 = n }) numbers

abbrev pub node : Body → List ℕ → Node
node b ends = record { path = []; body = b; ends = ends_at ends }

-- a graph itself, a node, and an array of nodes
abbrev pub own : ℕ → Group
own n = record { nodes = nodes_at (n ∷ []); array = false; own = true }

abbrev pub single : ℕ → Group
single n = record { nodes = nodes_at (n ∷ []); array = false; own = false }

abbrev pub several : List ℕ → Group
several numbers = record { nodes = nodes_at numbers; array = true; own = false }

abbrev pub side : ℕ → Option ℤ → ℕ → Side
side group index end = record { group = group; index = index; end = end; place = nowhere }

abbrev pub link : Side → Side → Link
link from to = record { from = from; to = to; delay = None; place = nowhere }

-- the order of the leaves is given, and there are no latencies
abbrev pub linked : List ℕ → Program → Linked
linked order p =
    record {
      program = p;
      flat = flat_of p;
      filled = record { extra = map (λ (c : Chain). 0) (flat_of p).chains; arrive = map (λ (l : Leaf). 0) (flat_of p).leaves; latency = 0 };
      order = map (λ (n : ℕ). record { 0 = n }) order;
    }

-- the run of a program over a script, with so many turns for each part
unfoldable pub outcome : Linked → Script → ℕ → Outcome
unfolding stops to_signed floor_modulus to_bool hidden-the_row-CoreStmt-0 hidden-the_row-CoreStmt-1 hidden-the_row-CoreExpr-0 hidden-the_row-CoreExpr-1 hidden expr_of expr_row stmt_of stmt_row
outcome l script turns = play (core_player l (depth_of l)) turns (tasks_of l.program.host [] script script.frames) (first_world l)

-- ---- a graph in a graph

-- the leaves give one more than their input; the group 0 is the outer graph, 1 its node, 2 the inner graph, 3 its array
abbrev pub nested_graphs : Linked
nested_graphs =
    linked (0 ∷ 1 ∷ []) (record {
      structs = [];
      units = unit (stream_in ∷ stream_out ∷ []) [] (loop (s.Write 1 (e.Binary Add scalars.Int32 (e.Input 0) (number 1)) ∷ s.Advance ∷ []) ∷ []) ∷ [];
      nodes = node (body.Graph (nodes_at (1 ∷ []))) (0 ∷ 1 ∷ []) ∷ node (body.Graph (nodes_at (2 ∷ 3 ∷ []))) (2 ∷ 3 ∷ []) ∷ node (body.Leaf 0) (4 ∷ 5 ∷ []) ∷ node (body.Leaf 0) (6 ∷ 7 ∷ []) ∷ [];
      ends = stream_in ∷ stream_out ∷ stream_in ∷ stream_out ∷ stream_in ∷ stream_out ∷ stream_in ∷ stream_out ∷ [];
      groups = own 0 ∷ single 1 ∷ own 1 ∷ several (2 ∷ 3 ∷ []) ∷ [];
      links = link (side 0 None 0) (side 1 None 0) ∷ link (side 1 None 1) (side 0 None 1) ∷ link (side 2 None 0) (side 3 (Some (pos 0)) 0)
          ∷ link (side 3 (Some (pos 0)) 1) (side 3 (Some (pos 1)) 0) ∷ link (side 3 None 1) (side 2 None 1) ∷ [];
      host = host_end stream_in ∷ host_end stream_out ∷ [];
      main = record { 0 = 0 };
      place = nowhere;
    })

-- ---- events

-- an event and a stream output of a number that counts the frames
abbrev pub counting : Linked
counting =
    linked (0 ∷ []) (record {
      structs = [];
      units = unit (end flows.Output kinds.Event ∷ stream_out ∷ []) (int_var ∷ [])
          (loop (s.Update (e.Variable 0) Add scalars.Int32 (number 1) ∷ s.Write 0 (e.Variable 0) ∷ s.Write 1 (e.Variable 0) ∷ s.Advance ∷ []) ∷ []) ∷ [];
      nodes = node (body.Leaf 0) (0 ∷ 1 ∷ []) ∷ [];
      ends = end flows.Output kinds.Event ∷ stream_out ∷ [];
      groups = [];
      links = [];
      host = host_end (end flows.Output kinds.Event) ∷ host_end stream_out ∷ [];
      main = record { 0 = 0 };
      place = nowhere;
    })

-- three leaves of one unit, each of which sends one more than it heard
abbrev pub event_in : End
event_in = end flows.Input kinds.Event

abbrev pub event_out : End
event_out = end flows.Output kinds.Event

abbrev pub passing : CoreUnit
passing =
    record (unit (event_in ∷ event_out ∷ []) [] []) {
      main = None;
      locals = record { ty = scalar_type scalars.Int32; shape = scalars.Int32 ∷ []; home = home.Handler 0 } ∷ [];
      handlers = record { end = 0; param = int_var; first = 0; body = s.Block (s.Write 1 (e.Binary Add scalars.Int32 (e.Variable 0) (number 1)) ∷ []) } ∷ [];
    }

abbrev pub three_leaves : Linked
three_leaves =
    linked (0 ∷ 1 ∷ 2 ∷ []) (record {
      structs = [];
      units = passing ∷ [];
      nodes = node (body.Graph (nodes_at (1 ∷ 2 ∷ 3 ∷ []))) (0 ∷ 1 ∷ []) ∷ node (body.Leaf 0) (2 ∷ 3 ∷ []) ∷ node (body.Leaf 0) (4 ∷ 5 ∷ []) ∷ node (body.Leaf 0) (6 ∷ 7 ∷ []) ∷ [];
      ends = event_in ∷ event_out ∷ event_in ∷ event_out ∷ event_in ∷ event_out ∷ event_in ∷ event_out ∷ [];
      groups = own 0 ∷ several (1 ∷ 2 ∷ 3 ∷ []) ∷ [];
      links = link (side 0 None 0) (side 1 (Some (pos 0)) 0) ∷ link (side 1 (Some (pos 0)) 1) (side 1 (Some (pos 1)) 0)
          ∷ link (side 1 (Some (pos 1)) 1) (side 1 (Some (pos 2)) 0) ∷ link (side 1 (Some (pos 2)) 1) (side 0 None 1) ∷ [];
      host = host_end event_in ∷ host_end event_out ∷ [];
      main = record { 0 = 0 };
      place = nowhere;
    })
