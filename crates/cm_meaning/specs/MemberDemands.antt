-- The places of members and declarations where values and types have to fit: docs/LANGUAGE.md, "Types".
use Rattle.std.specs.Prelude.{Bool, true, false, List, [], ◌∷◌, ◌++◌, flat_map, Option, Some, None}
use Rattle.cm_base.specs.declared.place.Place.{Place}
use Rattle.cm_base.specs.declared.host.Kind.{Kind}
use Rattle.cm_base.specs.declared.host.Kind.TheVariants as kind
use Rattle.cm_tree.specs.declared.path.Word.{Word}
use Rattle.cm_tree.specs.declared.expr.Expr.{Expr}
use Rattle.cm_tree.specs.declared.expr.Expr.TheVariants as e
use Rattle.cm_tree.specs.declared.type_expr.TypeExpr.{TypeExpr}
use Rattle.cm_tree.specs.declared.type_expr.TypeExpr.TheVariants as y
use Rattle.cm_tree.specs.declared.type_expr.Arg.{Arg}
use Rattle.cm_tree.specs.declared.type_expr.Arg.TheVariants as g
use Rattle.cm_tree.specs.declared.type_expr.Typed.{Typed}
use Rattle.cm_tree.specs.declared.simple.Init.{Init}
use Rattle.cm_tree.specs.declared.simple.Var.{Var}
use Rattle.cm_tree.specs.declared.stmt.Block.{Block}
use Rattle.cm_tree.specs.declared.shared.Fields.{Fields}
use Rattle.cm_tree.specs.declared.shared.Shared.{Shared}
use Rattle.cm_tree.specs.declared.shared.Shared.TheVariants as h
use Rattle.cm_tree.specs.declared.shared.Function.{Function as FunctionDecl}
use Rattle.cm_tree.specs.declared.member.End.{End}
use Rattle.cm_tree.specs.declared.member.Node.{Node as NodeDecl}
use Rattle.cm_tree.specs.declared.member.Link.{Link}
use Rattle.cm_tree.specs.declared.member.Member.{Member}
use Rattle.cm_tree.specs.declared.member.Member.TheVariants as m
use Rattle.cm_tree.specs.declared.decl.Param.{Param}
use Rattle.cm_tree.specs.declared.decl.Param.TheVariants as q
use Rattle.cm_tree.specs.declared.decl.UnitDecl.{UnitDecl}
use Rattle.cm_meaning.specs.Declared.{Named, Processor, Graph, Struct, Using, Constant, Function, Declared}
use Rattle.cm_meaning.specs.Scopes.{Around, declared, parameter, around_home, around_function, inside_unit, inside_of, scoped, find}
use Rattle.cm_meaning.specs.TypeOf.{is_type_name}
use Rattle.cm_meaning.specs.Demands.{Written, Demand, Fits, IsConstant, IsNumber, Ends, TakesEvent, IsStream, IsArgument, IsSmall, IsLatency, IsFactor, Demanded, demanded, needed, expr_demands, counted_demands, type_demands, assert_demands, block_demands}

-- ---- functions and handlers

abbrev pub typed_demands : Around → Typed → List Demanded
typed_demands r t = type_demands r t.ty

abbrev pub result_demands : Around → Option TypeExpr → List Demanded
result_demands r None = []
result_demands r (Some ty) = type_demands r ty

-- of a function, given what is round its types and its body
abbrev pub function_demands : Around → FunctionDecl → List Demanded
function_demands r f = result_demands r f.result ++ (flat_map (typed_demands r) f.params ++ (demanded r (Ends f) ∷ block_demands r f.body))

abbrev pub in_handler_demands : Around → Word → Typed → Block → List Demanded
in_handler_demands r w t b = typed_demands r t ++ (demanded r (TakesEvent w t.ty) ∷ block_demands r b)

abbrev pub handler_demands : Around → Word → Typed → Block → List Demanded
handler_demands r w t b = in_handler_demands (scoped r (parameter r.home t ∷ [])) w t b

-- ---- what stands in namespaces, processors and graphs

abbrev pub constant_demands : Around → Expr → List Demanded
constant_demands r a = needed r a (IsConstant a)

abbrev pub fields_demands : Around → Fields → List Demanded
fields_demands r a = type_demands r a.ty

abbrev pub struct_demands : Around → Place → Declared → List Fields → List Demanded
struct_demands r p x fields = flat_map (fields_demands r) fields ++ demanded r (IsSmall p x) ∷ []

abbrev pub shared_demands : Around → Shared → List Demanded
shared_demands r (h.Struct p w fields) = struct_demands r p (declared r.home w (Struct p fields)) fields
shared_demands r (h.Using p w ty) = type_demands r ty
shared_demands r (h.Let p inits) = flat_map (λ (a : Init). constant_demands r a.value) inits
shared_demands r (h.Assert a) = assert_demands r a

-- ---- members

abbrev pub stream_demands : Around → Kind → TypeExpr → List Demanded
stream_demands r kind.Stream ty = demanded r (IsStream ty) ∷ []
stream_demands r kind.Value ty = []
stream_demands r kind.Event ty = []

abbrev pub end_demands : Around → End → List Demanded
end_demands r a = type_demands r a.ty ++ stream_demands r a.kind a.ty

abbrev pub state_demands : Around → TypeExpr → Option Expr → List Demanded
state_demands r ty None = []
state_demands r ty (Some a) = expr_demands r a ++ demanded r (IsConstant a) ∷ demanded r (Fits (Written r ty) a) ∷ []

-- a constant number of some range
abbrev pub range_demands : Around → Expr → Demand → List Demanded
range_demands r a range = expr_demands r a ++ demanded r (IsConstant a) ∷ demanded r (IsNumber a) ∷ demanded r range ∷ []

abbrev pub number_demands : Around → Option Expr → List Demanded
number_demands r None = []
number_demands r (Some a) = expr_demands r a ++ demanded r (IsConstant a) ∷ demanded r (IsNumber a) ∷ []

abbrev pub count_of_node : Around → Option Expr → List Demanded
count_of_node r None = []
count_of_node r (Some a) = counted_demands r a

abbrev pub factor_of_node : Around → Option Expr → List Demanded
factor_of_node r None = []
factor_of_node r (Some a) = range_demands r a (IsFactor a)

-- a named type is no value; any other expression is a constant
abbrev pub given_value_demands : Around → Bool → Expr → List Demanded
given_value_demands r true a = []
given_value_demands r false a = constant_demands r a

abbrev pub given_demands : Around → Arg → List Demanded
given_demands r (g.Type b sizes) = type_demands r (y.Base b sizes)
given_demands r (g.Value (e.Name path)) = given_value_demands r (is_type_name (find r path)) (e.Name path)
given_demands r (g.Value a) = constant_demands r a

abbrev pub node_demands : Around → NodeDecl → List Demanded
node_demands r a = flat_map (given_demands r) a.args ++ (count_of_node r a.count ++ factor_of_node r a.factor)

abbrev pub link_demands : Around → Link → List Demanded
link_demands r a = number_demands r a.from.index ++ (number_demands r a.delay ++ number_demands r a.to.index)

abbrev pub member_demands : Around → Member → List Demanded
member_demands r (m.Ends p flow ends) = flat_map (end_demands r) ends
member_demands r (m.Shared a) = shared_demands r a
member_demands r (m.Function f) = function_demands (around_function r.all (declared r.home f.name (Function f)) f) f
member_demands r (m.Handler p w t b) = handler_demands r w t b
member_demands r (m.Var p inits) = flat_map (λ (a : Init). constant_demands r a.value) inits
member_demands r (m.State ty vars) = type_demands r ty ++ flat_map (λ (a : Var). state_demands r ty a.value) vars
member_demands r (m.Latency p a) = range_demands r a (IsLatency a)
member_demands r (m.Nodes p nodes) = flat_map (node_demands r) nodes
member_demands r (m.Connection p links) = flat_map (link_demands r) links

-- ---- declarations

abbrev pub argument_demands : Bool → Around → TypeExpr → List Demanded
argument_demands true r ty = demanded r (IsArgument ty) ∷ []
argument_demands false r ty = []

-- a value parameter of a processor is `int32`, `int64` or `bool`
abbrev pub param_demands : Bool → Around → Param → List Demanded
param_demands in_processor r (q.Type p w) = []
param_demands in_processor r (q.Value ty w) = type_demands r ty ++ argument_demands in_processor r ty

abbrev pub unit_demands : Bool → Around → UnitDecl → List Demanded
unit_demands in_processor r u = flat_map (param_demands in_processor r) u.params ++ flat_map (member_demands r) u.members

-- what a declaration of a namespace demands: of a processor or a graph, all that stands in it
unfoldable pub own_demands : List Declared → Declared → List Demanded
own_demands all x = by x.named where
  by : Named → List Demanded
  by (Processor u) = unit_demands true (inside_of (inside_unit (around_home all x.home) u) x) u
  by (Graph u) = unit_demands false (inside_of (inside_unit (around_home all x.home) u) x) u
  by (Struct p fields) = struct_demands (around_home all x.home) p x fields
  by (Using ty) = type_demands (around_home all x.home) ty
  by (Constant value) = constant_demands (around_home all x.home) value
  by (Function f) = function_demands (around_function all x f) f
  by _ = []
