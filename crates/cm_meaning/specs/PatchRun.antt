-- What a patch does over a whole run: docs/LANGUAGE.md, "Frames". It is a player of the tasks of a run (`Parts` and `Players`
-- of `cm_base`), each part with a budget of turns.
use Rattle.std.specs.Prelude.{ℕ, zero, suc, ◌+◌, ◌-◌, Bool, if◌then◌else◌, List, [], ◌∷◌, ◌++◌, map, filter_map, Option, Some, None, option_map, unwrap_or, slice_get, slice_set, ℤ, codes}
use Rattle.cm_base.specs.declared.host.Kind.{Kind}
use Rattle.cm_base.specs.declared.host.Kind.TheVariants as kinds
use Rattle.cm_base.specs.declared.host.Range.{Range}
use Rattle.cm_base.specs.declared.host.HostEnd.{HostEnd}
use Rattle.cm_base.specs.declared.play.Item.TheVariants as item
use Rattle.cm_base.specs.Parts.{Inputs, Part, Init, Send, Frame, is_input, is_stream}
use Rattle.cm_base.specs.Players.{Left, Goes as GoesOn, Spent, Player, Source}
use Rattle.cm_tree.specs.declared.expr.Expr.{Expr}
use Rattle.cm_tree.specs.declared.type_expr.TypeExpr.{TypeExpr}
use Rattle.cm_tree.specs.declared.member.Key.{Key}
use Rattle.cm_tree.specs.declared.stmt.Stmt.TheVariants as x
use Rattle.cm_tree.specs.declared.shared.Function.{Function as FunctionDecl}
use Rattle.cm_meaning.specs.Declared.{Named, Function, State, Declared, is_main, is_init}
use Rattle.cm_meaning.specs.Scopes.{Around, around_function, patch_names, unit_names}
use Rattle.cm_meaning.specs.Types.{scalars, flat}
use Rattle.cm_meaning.specs.Conversions.{Valued}
use Rattle.cm_meaning.specs.Constants.{eval as constant, type_of_expr}
use Rattle.cm_meaning.specs.TypeOf.{Knowledge}
use Rattle.cm_meaning.specs.Parameters.{find_key, is_parameter, least, greatest, key_number, held_zero}
use Rattle.cm_meaning.specs.Instances.{Instance}
use Rattle.cm_meaning.specs.Nodes.{inside, End, Leaf}
use Rattle.cm_meaning.specs.Chains.{leaf_point, host_point}
use Rattle.cm_meaning.specs.Linked.{Linked, zeros, ends_at, now, stream_to, value_to}
use Rattle.cm_meaning.specs.Stores.{or_missing, zero_in, as_type, Cell, cell, Scope}
use Rattle.cm_meaning.specs.World.{World, LeafState, Todo, Do, leaf_at, with_leaf, with_rest, tell}
use Rattle.cm_meaning.specs.Acts.{Given, Gives, Short, Act, Done, done, andthen, after, gives, change, quiet}
use Rattle.cm_meaning.specs.Resume.{On, Ending, Goes, Pauses, resume}
use Rattle.cm_meaning.specs.Calls.{run_function, deliver, handles, hooks, depth_of}

-- ---- the members of an instance

abbrev pub members_of : Instance → List Declared
members_of i = unit_names i.unit.declared.home.space i.unit.unit

-- a function of a leaf with its declaration, the `main` or the `init`
abbrev pub Found : Type 0
Found = Declared × FunctionDecl

abbrev pub as_function : Declared → Option Found
as_function d = by d.named where
  by : Named → Option Found
  by (Function f) = Some (d, f)
  by _ = None

abbrev pub first_function : (Declared → Bool) → List Declared → Option Found
first_function takes [] = None
first_function takes (d ∷ names) = if takes d then as_function d else first_function takes names

abbrev pub function_of : Linked → (Declared → Bool) → ℕ → Option Found
function_of l takes i = by (slice_get l.leaves i) where
  by : Option Leaf → Option Found
  by None = None
  by (Some leaf) = first_function takes (members_of leaf.instance)

-- ---- a leaf in one frame

-- the stream inputs, from the endpoint of this number on; nothing for another endpoint
abbrev pub renewed : Linked → ℕ → ℕ → List End → World → List (List ℤ)
renewed l i e [] w = []
renewed l i e (end ∷ ends) w =
    (if is_input end.flow then (if is_stream end.kind then stream_to l (leaf_point i e) (flat end.ty) w else []) else []) ∷ renewed l i (e + 1) ends w

abbrev pub renew : Linked → ℕ → World → World
renew l i w = with_leaf i (record (leaf_at i w) { inputs = renewed l i 0 (ends_at l i) w }) w

-- what a main that paused has left; one that returned has nothing left
abbrev pub rest_of : Ending → List Todo
rest_of (Goes way) = []
rest_of (Pauses rest) = rest

-- the rest of main goes on until it pauses or returns
abbrev pub go_on : Linked → ℕ → ℕ → Act Ending
go_on l depth i world turns = resume (leaf_at i world).rest (hooks l depth i) On world turns

abbrev pub resumed : Linked → ℕ → ℕ → Act Done
resumed l depth i = andthen (go_on l depth i) (λ end. change (with_rest i (rest_of end)))

abbrev pub zero_ends : List End → List (List ℤ)
zero_ends ends = map (λ (end : End). zeros (scalars end.ty)) ends

abbrev pub clear : Linked → ℕ → World → World
clear l i w = with_leaf i (record (leaf_at i w) { sums = zero_ends (ends_at l i) }) w

-- so many further inner frames, before each of which the sums are cleared
abbrev pub resumed_again : Linked → ℕ → ℕ → ℕ → Act Done
resumed_again l depth i zero = gives done
resumed_again l depth i (suc count) = after (change (clear l i)) (after (resumed l depth i) (resumed_again l depth i count))

abbrev pub factor_at : Linked → ℕ → ℕ
factor_at l i = unwrap_or (option_map (λ (leaf : Leaf). leaf.factor) (slice_get l.leaves i)) 1

-- the stream inputs are renewed, and main is resumed as often as the factor says
abbrev pub act_of : Linked → ℕ → ℕ → Act Done
act_of l depth i = after (change (renew l i)) (after (resumed l depth i) (resumed_again l depth i (factor_at l i - 1)))

-- a missing `init` does nothing
abbrev pub init_by : Linked → ℕ → ℕ → Option Found → Act Done
init_by l depth i None = gives done
init_by l depth i (Some found) = quiet (run_function l found.0 [] (hooks l depth i))

abbrev pub init_of : Linked → ℕ → ℕ → Act Done
init_of l depth i = init_by l depth i (function_of l is_init i)

-- the leaves in order, which share the turns
abbrev pub in_order : (ℕ → Act Done) → List ℕ → Act Done
in_order act [] = gives done
in_order act (i ∷ leaves) = after (act i) (in_order act leaves)

-- ---- the end of a frame

abbrev pub host_output : Linked → World → ℕ → End → Kind → List ℤ
host_output l w k end kinds.Stream = stream_to l (host_point k) (flat end.ty) w
host_output l w k end kinds.Value = value_to l (host_point k) (flat end.ty) w
host_output l w k end kinds.Event = []

-- the stream and value outputs of the host, from the endpoint of this number on
abbrev pub host_outputs : Linked → World → ℕ → List End → List ℤ
host_outputs l w k [] = []
host_outputs l w k (end ∷ ends) = (if is_input end.flow then [] else host_output l w k end end.kind) ++ host_outputs l w (k + 1) ends

abbrev pub clear_all : Linked → List ℕ → World → World
clear_all l [] w = w
clear_all l (i ∷ leaves) w = clear_all l leaves (clear l i w)

abbrev pub with_history : World → World
with_history w = record w { history = now w ∷ w.history }

-- the frame is told, the history is extended, and the sums are cleared
abbrev pub end_frame : Linked → World → World
end_frame l w = clear_all l l.order (with_history (tell (item.Frame w.frame (host_outputs l w 0 l.host)) w))

-- ---- parts and runs

abbrev pub at_frame : ℕ → Inputs → World → World
at_frame frame inputs w = record w { frame = frame; streams = inputs }

abbrev pub left_of : (World → World) → Given Done → Left World
left_of finish (Gives value world turns) = GoesOn (finish world)
left_of finish (Short world) = Spent world

-- a part with a budget of so many turns: all inits; an event of the host, along its chains; or the leaves of a frame
abbrev pub perform : Linked → ℕ → ℕ → Part → World → Left World
perform l depth turns Init w = left_of (λ v. v) (in_order (init_of l depth) l.order w turns)
perform l depth turns (Send frame k value inputs) w =
    left_of (λ v. v) (deliver l.chains (host_point k) (handles l depth) value (at_frame frame inputs w) turns)
perform l depth turns (Frame frame inputs) w = left_of (end_frame l) (in_order (act_of l depth) l.order (at_frame frame inputs w) turns)

abbrev pub patch_player : Linked → ℕ → Player World
patch_player l depth =
    record {
      set = λ k value w. record w { current = slice_set w.current k value };
      perform = λ turns part following w. perform l depth turns part w;
      told = λ w. w.trace;
    }

-- ---- the first world

-- the initial value of a variable is a constant, or else zero
abbrev pub state_value : Around → Knowledge → Option TypeExpr → Option Expr → Valued
state_value r k None None = or_missing None
state_value r k None (Some a) = or_missing (constant r k.look a)
state_value r k (Some ty) None = zero_in (type_of_expr r k.look ty)
state_value r k (Some ty) (Some a) = as_type (type_of_expr r k.look ty) (or_missing (constant r k.look a))

abbrev pub state_cell : Around → Knowledge → Declared → Option Cell
state_cell r k d = by d.named where
  by : Named → Option Cell
  by (State ty value) = Some (cell d.word.place (state_value r k ty value))
  by _ = None

abbrev pub first_state : Linked → Instance → Scope
first_state l i = filter_map (state_cell (inside l.files i) i.known) (members_of i)

-- a missing `main` is empty
abbrev pub first_rest : Linked → Option Found → List Todo
first_rest l None = []
first_rest l (Some found) = Do (around_function (patch_names l.files) found.0 found.1) (x.Block found.1.body.place found.1.body.stmts) ∷ []

-- initial values in the store, the body of main as the rest, and all endpoints zero
abbrev pub first_leaf : Linked → Leaf → LeafState
first_leaf l leaf =
    record {
      store = first_state l leaf.instance ∷ [];
      rest = first_rest l (first_function is_main (members_of leaf.instance));
      inputs = zero_ends leaf.ends;
      sums = zero_ends leaf.ends;
      values = zero_ends leaf.ends;
    }

abbrev pub first_world : Linked → World
first_world l =
    record {
      leaves = map (first_leaf l) l.leaves;
      current = zero_ends l.host;
      streams = zero_ends l.host;
      history = [];
      frame = 0;
      trace = [];
    }

-- ---- the endpoints of the host

abbrev pub range_of : Around → Knowledge → List Key → Range
range_of r k keys =
    ranged (unwrap_or (key_number r k (find_key (codes "min") keys) least) least) (unwrap_or (key_number r k (find_key (codes "max") keys) greatest) greatest) where
      ranged : ℤ → ℤ → Range
      ranged low high =
          record {
            min = low;
            max = high;
            init = unwrap_or (key_number r k (find_key (codes "init") keys) (held_zero (Some low) (Some high))) low;
          }

-- a value or event input with the key `name` is a parameter
abbrev pub host_end : Around → Knowledge → End → HostEnd
host_end r k end =
    record {
      flow = end.flow;
      kind = end.kind;
      name = end.declared.word.text;
      shape = flat end.ty;
      parameter = if is_parameter end.flow end.kind end.keys then Some (range_of r k end.keys) else None;
    }

abbrev pub host_ends : Linked → List HostEnd
host_ends l = map (host_end (inside l.files l.main) l.main.known) l.host

-- the patch as what a module is compiled from, where a turn is worth so many reductions
abbrev pub patch_source : Linked → ℕ → Source World
patch_source l cost =
    record { ends = host_ends l; latency = l.latency; cost = cost; player = patch_player l (depth_of l); first = first_world l }
