-- What can be wrong at one site: docs/LANGUAGE.md, "Refusals". One definition for each role, one line for each thing that
-- may be found there.
use Rattle.std.specs.Prelude.{ℕ, Bool, true, false, not, ◌&&◌, ◌||◌, ◌==◌, List, [], ◌∷◌, ◌++◌, length, map, Option, Some, None, is_none, bytes_eq}
use Rattle.std.specs.List.{list_any}
use Rattle.cm_base.specs.declared.cause.Cause.TheVariants as cause
use Rattle.cm_base.specs.declared.place.Place.{Place}
use Rattle.cm_tree.specs.declared.path.Word.{Word}
use Rattle.cm_tree.specs.declared.expr.Expr.{Expr}
use Rattle.cm_tree.specs.declared.expr.Expr.TheVariants as e
use Rattle.cm_tree.specs.declared.type_expr.Arg.{Arg}
use Rattle.cm_tree.specs.declared.type_expr.Arg.TheVariants as g
use Rattle.cm_tree.specs.declared.shared.Function.{Function as FunctionDecl}
use Rattle.cm_tree.specs.declared.member.Node.{Node as NodeDecl}
use Rattle.cm_tree.specs.declared.member.Point.{Point}
use Rattle.cm_tree.specs.declared.decl.UnitDecl.{UnitDecl}
use Rattle.cm_tree.specs.Levels.{place, base_place}
use Rattle.cm_meaning.specs.Declared.{Named, Processor, Graph, Function, Endpoint, Node, Declared, is_type, is_value, is_assignable, is_readable, is_output, is_event_input, is_endpoint, is_main, is_init, unit_of}
use Rattle.cm_meaning.specs.Scopes.{Around, innermost, unit_names, find_in, find, find_word, named_by}
use Rattle.cm_meaning.specs.Sites.{Taken, TakesType, TakesValue, TakesAny, Part, Reads, Calls, TakesArgument, NamesType, Writes, Assigns, Declares, Opens, KeepsApart, HasLatencies, Defines, Handles, DeclaresNode, GivesNode, Joins, Jumps, Advances, Site}
use Rattle.cm_meaning.specs.Faults.{Fault, fault, one, unless}

-- ---- names that stand twice

abbrev pub has_word : List Word → Word → Bool
has_word words w = list_any (λ (other : Word). bytes_eq other.text w.text) words

-- each name that stands behind an equal one
unfoldable pub repeated : List Word → List Word → List Fault
repeated before [] = []
repeated before (w ∷ words) = unless (not (has_word before w)) cause.DuplicateName w.place ++ repeated (w ∷ before) words

abbrev pub words_of : List Declared → List Word
words_of names = map (λ (x : Declared). x.word) names

-- each latency of a processor but the first
abbrev pub second_latencies : List Place → List Fault
second_latencies [] = []
second_latencies (first ∷ others) = map (fault cause.DuplicateName) others

-- a local whose scope has its name already
abbrev pub local_rows : Around → Word → List Fault
local_rows r w = unless (is_none (find_in w.text (innermost r))) cause.DuplicateName w.place

-- ---- values and types

-- a value is read: a constant, a variable, a parameter, or a stream or value input
abbrev pub read_rows : Place → Option Named → List Fault
read_rows p None = one cause.UnknownName p
read_rows p (Some (Endpoint flow kind ty keys)) = unless (is_readable flow kind) cause.EndpointUse p
read_rows p (Some n) = unless (is_value n) cause.WrongName p

abbrev pub type_name_rows : Place → Option Named → List Fault
type_name_rows p None = one cause.UnknownName p
type_name_rows p (Some n) = unless (is_type n) cause.WrongName p

-- a path alone, as an argument of a call or of what makes a value, names no type
abbrev pub is_type_named : Option Named → Bool
is_type_named None = false
is_type_named (Some n) = is_type n

abbrev pub path_argument_rows : Around → Expr → List Fault
path_argument_rows r (e.Name q) = unless (not (is_type_named (named_by (find r q)))) cause.ArgumentKind q.place
path_argument_rows r _ = []

-- a function with as many arguments as it has parameters, and not the `main` of a processor; or a type, which makes a value
abbrev pub called_rows : Place → ℕ → Option Declared → List Fault
called_rows p count None = one cause.UnknownName p
called_rows p count (Some x) = called x.named where
  called : Named → List Fault
  called (Function f) = unless (count == length f.params) cause.ArgumentCount p ++ unless (not (is_main x)) cause.AdvancePlace p
  called n = unless (is_type n) cause.WrongName p

-- ---- writing

abbrev pub write_rows : Place → Option Named → List Fault
write_rows p None = one cause.UnknownName p
write_rows p (Some (Endpoint flow kind ty keys)) = unless (is_output flow) cause.EndpointUse p
write_rows p (Some n) = one cause.WrongName p

-- a variable, or a parameter of a function or a handler
abbrev pub assign_rows : Place → Option Named → List Fault
assign_rows p None = one cause.UnknownName p
assign_rows p (Some n) = unless (is_assignable n) cause.AssignTarget p

-- ---- functions and handlers

-- `main` and `init` of a processor are `void` without parameters
abbrev pub has_main_shape : FunctionDecl → Bool
has_main_shape f = is_none f.result && (length f.params == 0)

abbrev pub is_main_or_init : Option Declared → Bool
is_main_or_init None = false
is_main_or_init (Some x) = is_main x || is_init x

abbrev pub function_rows : Around → FunctionDecl → List Fault
function_rows r f = unless (not (is_main_or_init r.inside) || has_main_shape f) cause.MainShape f.place

abbrev pub handler_rows : Place → Option Named → List Fault
handler_rows p None = one cause.UnknownName p
handler_rows p (Some (Endpoint flow kind ty keys)) = unless (is_event_input flow kind) cause.WrongName p
handler_rows p (Some n) = one cause.WrongName p

abbrev pub is_in_main : Option Declared → Bool
is_in_main None = false
is_in_main (Some x) = is_main x

-- ---- nodes and connections

-- only a processor has a factor
abbrev pub factor_rows : Option Expr → List Fault
factor_rows None = []
factor_rows (Some a) = one cause.FactorTarget (place a)

abbrev pub count_rows : NodeDecl → UnitDecl → List Fault
count_rows a u = unless (length a.args == length u.params) cause.ArgumentCount a.name.place

-- a processor or a graph with as many arguments as it has parameters
abbrev pub node_rows : NodeDecl → Option Named → List Fault
node_rows a None = one cause.UnknownName a.path.place
node_rows a (Some (Processor u)) = count_rows a u
node_rows a (Some (Graph u)) = count_rows a u ++ factor_rows a.factor
node_rows a (Some n) = one cause.WrongName a.path.place

-- a path alone, as an argument of a node
abbrev pub given_name_rows : Taken → Place → Option Named → List Fault
given_name_rows t p None = one cause.UnknownName p
given_name_rows TakesType p (Some n) = if_value (is_value n) (is_type n) where
  if_value : Bool → Bool → List Fault
  if_value true of_type = one cause.ArgumentKind p
  if_value false of_type = unless of_type cause.WrongName p
given_name_rows TakesValue p (Some n) = if_type (is_type n) where
  if_type : Bool → List Fault
  if_type true = one cause.ArgumentKind p
  if_type false = read_rows p (Some n)
given_name_rows TakesAny p (Some n) = unless (is_type n || is_value n) cause.WrongName p

-- an argument of a node: a type for a type parameter, a value for a value parameter
abbrev pub given_rows : Around → Taken → Arg → List Fault
given_rows r TakesValue (g.Type b sizes) = one cause.ArgumentKind (base_place b)
given_rows r t (g.Type b sizes) = []
given_rows r t (g.Value (e.Name q)) = given_name_rows t q.place (named_by (find r q))
given_rows r TakesType (g.Value a) = one cause.ArgumentKind (place a)
given_rows r t (g.Value a) = []

abbrev pub has_endpoint : List Declared → Word → Bool
has_endpoint names w = found (named_by (find_in w.text names)) where
  found : Option Named → Bool
  found None = false
  found (Some n) = is_endpoint n

-- whether the processor or graph of a node has an endpoint of this name; where the node's own name is at fault, it may
abbrev pub may_have_endpoint : Option Declared → Word → Bool
may_have_endpoint None w = true
may_have_endpoint (Some x) w = of_unit (unit_of x.named) where
  of_unit : Option UnitDecl → Bool
  of_unit None = true
  of_unit (Some u) = has_endpoint (unit_names x.home.space u) w

abbrev pub is_node_end : Around → Option Named → Word → Bool
is_node_end r (Some (Node a)) w = may_have_endpoint (find r a.path) w
is_node_end r _ w = false

-- an endpoint of the graph, or an endpoint of one of its nodes
abbrev pub point_rows : Around → Point → List Fault
point_rows r a = by a.end where
  by : Option Word → List Fault
  by None = unless (has_endpoint (innermost r) a.name) cause.UnknownName a.name.place
  by (Some w) = unless (is_node_end r (named_by (find_in a.name.text (innermost r))) w) cause.UnknownName a.name.place

-- ---- the table

abbrev pub rows_at : Around → Part → List Fault
rows_at r (Reads q) = read_rows q.place (named_by (find r q))
rows_at r (Calls q args) = called_rows q.place (length args) (find r q)
rows_at r (TakesArgument a) = path_argument_rows r a
rows_at r (NamesType q) = type_name_rows q.place (named_by (find r q))
rows_at r (Writes w) = write_rows w.place (named_by (find_word r w))
rows_at r (Assigns w) = assign_rows w.place (named_by (find_word r w))
rows_at r (Declares start x) = local_rows r x.word
rows_at r (Opens names) = repeated [] (words_of names)
rows_at r (KeepsApart words) = repeated [] words
rows_at r (HasLatencies places) = second_latencies places
rows_at r (Defines f) = function_rows r f
rows_at r (Handles w) = handler_rows w.place (named_by (find_word r w))
rows_at r (DeclaresNode a) = node_rows a (named_by (find r a.path))
rows_at r (GivesNode t a) = given_rows r t a
rows_at r (Joins a) = point_rows r a
rows_at r (Jumps p) = unless r.in_loop cause.LoopPlace p
rows_at r (Advances p) = unless (is_in_main r.inside) cause.AdvancePlace p

-- the faults of a site
unfoldable pub rows : Site → List Fault
rows s = rows_at s.around s.part
