-- What a program does over a whole run: docs/LANGUAGE.md, "Frames". It is a player of the tasks of a run (`Parts` and `Players`
-- of `cm_base`), each part with a budget of turns.
use Rattle.std.specs.Prelude.{ℕ, zero, suc, ◌+◌, ◌-◌, if◌then◌else◌, List, [], ◌∷◌, ◌++◌, map, length, Option, Some, None, slice_set, ℤ}
use Rattle.cm_base.specs.declared.host.Kind.{Kind}
use Rattle.cm_base.specs.declared.host.Kind.TheVariants as kinds
use Rattle.cm_base.specs.declared.host.HostEnd.{HostEnd}
use Rattle.cm_base.specs.declared.place.LeafId.{LeafId}
use Rattle.cm_base.specs.declared.play.Item.TheVariants as item
use Rattle.cm_base.specs.Parts.{Inputs, Part, Init, Send, Frame, is_input, is_stream}
use Rattle.cm_base.specs.Players.{Left, Goes as GoesOn, Spent, Player, Source}
use Rattle.cm_core.specs.declared.core_type.StructType.{StructType}
use Rattle.cm_core.specs.declared.expr.CoreExpr.{CoreExpr}
use Rattle.cm_core.specs.declared.stmt.CoreStmt.{CoreStmt}
use Rattle.cm_core.specs.declared.program.End.{End}
use Rattle.cm_core.specs.declared.flat.Leaf.{Leaf}
use Rattle.cm_core.specs.declared.unit.Unit.{Unit as CoreUnit}
use Rattle.cm_core.specs.declared.unit.Var.{Var}
use Rattle.cm_core.specs.declared.unit.Local.{Local}
use Rattle.cm_core.specs.declared.unit.Home.TheVariants as home
use Rattle.cm_core.specs.Code.{stmt_of, body_of, expr_of}
use Rattle.cm_core.specs.Types.{zeros}
use Rattle.cm_core.specs.World.{World, LeafState, Todo, Do, leaf_at, with_leaf, with_rest, tell}
use Rattle.cm_core.specs.Acts.{Given, Gives, Short, Act, Done, done, andthen, after, gives, change, quiet}
use Rattle.cm_core.specs.Eval.{constant_of}
use Rattle.cm_core.specs.Resume.{On, Ending, Goes, Pauses, exec, resume}
use Rattle.cm_core.specs.Linked.{Linked, unit_at, leaf_point, host_point, now, stream_to, value_to}
use Rattle.cm_core.specs.Measures.{cost}
use Rattle.cm_core.specs.Calls.{enter, deliver, handles, hooks, depth_of}

-- ---- a leaf in one frame

-- the stream inputs, from the endpoint of this number on; nothing for another endpoint
abbrev pub renewed : Linked → ℕ → ℕ → List End → World → List (List ℤ)
renewed l i e [] w = []
renewed l i e (end ∷ ends) w =
    (if is_input end.flow then (if is_stream end.kind then stream_to l (leaf_point l i e) end.shape w else []) else []) ∷ renewed l i (e + 1) ends w

abbrev pub renew : Linked → ℕ → World → World
renew l i w = with_leaf i (record (leaf_at i w) { inputs = renewed l i 0 (unit_at l i).ends w }) w

-- what a main that paused has left; one that returned has nothing left
abbrev pub rest_of : Ending → List Todo
rest_of (Goes way) = []
rest_of (Pauses rest) = rest

-- the rest of main goes on until it pauses or returns
abbrev pub go_on : Linked → ℕ → ℕ → Act Ending
go_on l depth i world turns = resume (leaf_at i world).rest (hooks l depth i) On world turns

abbrev pub resumed : Linked → ℕ → ℕ → Act Done
resumed l depth i = after (change (enter l i home.Main)) (andthen (go_on l depth i) (λ end. change (with_rest i (rest_of end))))

abbrev pub zero_sums : CoreUnit → List (List ℤ)
zero_sums unit = map (λ (end : End). zeros (length end.shape)) unit.ends

abbrev pub clear : Linked → ℕ → World → World
clear l i w = with_leaf i (record (leaf_at i w) { sums = zero_sums (unit_at l i) }) w

-- so many further inner frames, before each of which the sums are cleared
abbrev pub resumed_again : Linked → ℕ → ℕ → ℕ → Act Done
resumed_again l depth i zero = gives done
resumed_again l depth i (suc count) = after (change (clear l i)) (after (resumed l depth i) (resumed_again l depth i count))

-- the stream inputs are renewed, and main is resumed as often as the factor says
abbrev pub act_of : Linked → ℕ → ℕ → Act Done
act_of l depth i = after (change (renew l i)) (after (resumed l depth i) (resumed_again l depth i ((unit_at l i).factor - 1)))

abbrev pub init_of : Linked → ℕ → ℕ → Act Done
init_of l depth i = after (change (enter l i home.Init)) (quiet (exec (body_of (unit_at l i).init) (hooks l depth i)))

-- the leaves in order, which share the turns
abbrev pub in_order : (ℕ → Act Done) → List LeafId → Act Done
in_order act [] = gives done
in_order act (leaf ∷ leaves) = after (act leaf.0) (in_order act leaves)

-- ---- the end of a frame

abbrev pub host_output : Linked → World → ℕ → HostEnd → Kind → List ℤ
host_output l w k end kinds.Stream = stream_to l (host_point l k) end.shape w
host_output l w k end kinds.Value = value_to l (host_point l k) end.shape w
host_output l w k end kinds.Event = []

-- the stream and value outputs of the host, from the endpoint of this number on
abbrev pub host_outputs : Linked → World → ℕ → List HostEnd → List ℤ
host_outputs l w k [] = []
host_outputs l w k (end ∷ ends) = (if is_input end.flow then [] else host_output l w k end end.kind) ++ host_outputs l w (k + 1) ends

abbrev pub clear_all : Linked → List LeafId → World → World
clear_all l [] w = w
clear_all l (leaf ∷ leaves) w = clear_all l leaves (clear l leaf.0 w)

abbrev pub with_history : World → World
with_history w = record w { history = now w ∷ w.history }

-- the frame is told, the history is extended, and the sums are cleared
abbrev pub end_frame : Linked → World → World
end_frame l w = clear_all l l.order (with_history (tell (item.Frame w.frame (host_outputs l w 0 l.program.host)) w))

-- ---- parts and runs

abbrev pub at_frame : ℕ → Inputs → World → World
at_frame frame inputs w = record w { frame = frame; streams = inputs }

abbrev pub left_of : (World → World) → Given Done → Left World
left_of finish (Gives value world turns) = GoesOn (finish world)
left_of finish (Short world) = Spent world

-- a part with a budget of so many turns: all inits; an event of the host, along its chains; or the leaves of a frame
abbrev pub perform : Linked → ℕ → ℕ → Part → World → Left World
perform l depth turns Init w = left_of (λ v. v) (in_order (init_of l depth) l.order w turns)
perform l depth turns (Send frame k value inputs) w =
    left_of (λ v. v) (deliver l l.flat.chains (host_point l k) (handles l depth) value (at_frame frame inputs w) turns)
perform l depth turns (Frame frame inputs) w = left_of (end_frame l) (in_order (act_of l depth) l.order (at_frame frame inputs w) turns)

abbrev pub core_player : Linked → ℕ → Player World
core_player l depth =
    record {
      set = λ k value w. record w { current = slice_set w.current k value };
      perform = λ turns part following w. perform l depth turns part w;
      told = λ w. w.trace;
    }

-- ---- the first world

-- an initial value is a constant
abbrev pub first_value : List StructType → CoreUnit → Var → Option CoreExpr → List ℤ
first_value structs unit var None = zeros (length var.shape)
first_value structs unit var (Some e) = constant_of structs unit (expr_of e)

abbrev pub first_store : List StructType → CoreUnit → List (List ℤ)
first_store structs unit = map (λ (v : Var). first_value structs unit v v.first) unit.state ++ map (λ (l : Local). zeros (length l.shape)) unit.locals

abbrev pub first_rest : Option CoreStmt → List Todo
first_rest None = []
first_rest (Some main) = Do (stmt_of main) ∷ []

-- initial values in the store, the body of main as the rest, and all endpoints zero
abbrev pub first_leaf : Linked → ℕ → LeafState
first_leaf l i =
    record {
      store = first_store l.program.structs (unit_at l i);
      rest = first_rest (unit_at l i).main;
      inputs = zero_sums (unit_at l i);
      sums = zero_sums (unit_at l i);
      values = zero_sums (unit_at l i);
    }

abbrev pub first_leaves : Linked → ℕ → List Leaf → List LeafState
first_leaves l i [] = []
first_leaves l i (leaf ∷ leaves) = first_leaf l i ∷ first_leaves l (i + 1) leaves

abbrev pub host_zeros : List HostEnd → List (List ℤ)
host_zeros host = map (λ (end : HostEnd). zeros (length end.shape)) host

abbrev pub first_world : Linked → World
first_world l =
    record {
      leaves = first_leaves l 0 l.flat.leaves;
      current = host_zeros l.program.host;
      streams = host_zeros l.program.host;
      history = [];
      frame = 0;
      trace = [];
    }

-- the program as what a module is compiled from
abbrev pub core_source : Linked → Source World
core_source l =
    record { ends = l.program.host; latency = l.filled.latency; cost = cost l; player = core_player l (depth_of l); first = first_world l }
