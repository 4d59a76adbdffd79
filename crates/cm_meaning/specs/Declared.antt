-- What a name may stand for: docs/LANGUAGE.md, "Names". Each kind of declaring part, with what it declares.
use Rattle.std.specs.Prelude.{ℕ, Bool, true, false, ◌&&◌, List, Option, Some, None, is_some, bytes_eq, codes}
use Rattle.cm_base.specs.declared.place.Place.{Place}
use Rattle.cm_base.specs.declared.host.Flow.{Flow}
use Rattle.cm_base.specs.declared.host.Flow.TheVariants as flow
use Rattle.cm_base.specs.declared.host.Kind.{Kind}
use Rattle.cm_base.specs.declared.host.Kind.TheVariants as kind
use Rattle.cm_tree.specs.declared.path.Word.{Word}
use Rattle.cm_tree.specs.declared.expr.Expr.{Expr}
use Rattle.cm_tree.specs.declared.type_expr.TypeExpr.{TypeExpr}
use Rattle.cm_tree.specs.declared.shared.Fields.{Fields}
use Rattle.cm_tree.specs.declared.shared.Function.{Function as FunctionDecl}
use Rattle.cm_tree.specs.declared.member.Key.{Key}
use Rattle.cm_tree.specs.declared.member.Node.{Node as NodeDecl}
use Rattle.cm_tree.specs.declared.decl.UnitDecl.{UnitDecl}

-- a namespace by its path, the innermost name first: `a::b` is b ∷ a ∷ [], and the whole patch is []
abbrev pub Space : Type 0
Space = List (List ℕ)

pub data Named : Type 0 where
  -- a part of a namespace
  Namespace : (path : Space) → Named
  Processor : (unit : UnitDecl) → Named
  Graph : (unit : UnitDecl) → Named
  -- struct S { .. }, with the place of its first token
  Struct : (place : Place) → (fields : List Fields) → Named
  -- using T = ..;
  Using : (ty : TypeExpr) → Named
  -- let a = ..; of a namespace, a processor or a graph
  Constant : (value : Expr) → Named
  Function : (function : FunctionDecl) → Named
  -- int a = ..; or var a = ..; of a processor
  State : (ty : Option TypeExpr) → (value : Option Expr) → Named
  Endpoint : (flow : Flow) → (kind : Kind) → (ty : TypeExpr) → (keys : List Key) → Named
  Node : (node : NodeDecl) → Named
  -- using T, a parameter of a processor or a graph, by its position
  TypeParameter : (position : ℕ) → Named
  -- int n, a parameter of a processor or a graph, by its position
  ValueParameter : (position : ℕ) → (ty : TypeExpr) → Named
  -- int x, a parameter of a function or a handler
  Parameter : (ty : TypeExpr) → Named
  -- let a = ..; in a body
  LocalConstant : (value : Expr) → Named
  -- int a = ..; or var a = ..; in a body
  LocalVariable : (ty : Option TypeExpr) → (value : Option Expr) → Named
  -- the variable of for (wrap<4> i)
  Counter : (ty : TypeExpr) → Named

-- where a declaration stands: in a namespace, and there maybe in a processor or a graph
pub record Home : Type 0 where
  pub space : Space
  pub unit : Option UnitDecl

-- a declaration: its name where it stands, and what the name stands for. The place of the name tells it from all others,
-- but for the names of a namespace's path, which all have the place of the path
pub record Declared : Type 0 where
  pub word : Word
  pub home : Home
  pub named : Named

-- ---- what a name can be used for

-- it names a type
abbrev pub is_type : Named → Bool
is_type (Struct p fields) = true
is_type (Using ty) = true
is_type (TypeParameter position) = true
is_type _ = false

-- it has a value
abbrev pub is_value : Named → Bool
is_value (Constant value) = true
is_value (State ty value) = true
is_value (Endpoint flow kind ty keys) = true
is_value (ValueParameter position ty) = true
is_value (Parameter ty) = true
is_value (LocalConstant value) = true
is_value (LocalVariable ty value) = true
is_value (Counter ty) = true
is_value _ = false

-- it can be assigned: a variable, or a parameter of a function or a handler
abbrev pub is_assignable : Named → Bool
is_assignable (State ty value) = true
is_assignable (Parameter ty) = true
is_assignable (LocalVariable ty value) = true
is_assignable _ = false

-- a stream or value input is read by its name
abbrev pub is_readable : Flow → Kind → Bool
is_readable flow.Input kind.Stream = true
is_readable flow.Input kind.Value = true
is_readable _ _ = false

abbrev pub is_output : Flow → Bool
is_output flow.Output = true
is_output flow.Input = false

abbrev pub is_event_input : Flow → Kind → Bool
is_event_input flow.Input kind.Event = true
is_event_input _ _ = false

abbrev pub is_namespace : Named → Bool
is_namespace (Namespace path) = true
is_namespace _ = false

abbrev pub is_endpoint : Named → Bool
is_endpoint (Endpoint flow kind ty keys) = true
is_endpoint _ = false

-- the processor or graph that is named
abbrev pub unit_of : Named → Option UnitDecl
unit_of (Processor unit) = Some unit
unit_of (Graph unit) = Some unit
unit_of _ = None

abbrev pub is_graph : Named → Bool
is_graph (Graph unit) = true
is_graph _ = false

abbrev pub is_function : Named → Bool
is_function (Function function) = true
is_function _ = false

-- a function of a processor with this name; those of namespaces have no unit round them
abbrev pub is_member_function : List ℕ → Declared → Bool
is_member_function name d = is_function d.named && (is_some d.home.unit && bytes_eq d.word.text name)

-- the `main` and the `init` of a processor
abbrev pub is_main : Declared → Bool
is_main d = is_member_function (codes "main") d

abbrev pub is_init : Declared → Bool
is_init d = is_member_function (codes "init") d
