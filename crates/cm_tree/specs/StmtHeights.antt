-- The height of statements, members, declarations and files: docs/LANGUAGE.md, "Limits". Each declaration, each body of
-- a function or a handler and each statement on the way from the root counts one; so does each step of what is
-- assigned, and the steps stand side by side.
use Rattle.std.specs.Prelude.{ℕ, ◌+◌, max, ◌≡◌, refl, List, [], ◌∷◌, Option}
use Rattle.std.proofs.Common.{arith}
use Rattle.cm_base.specs.declared.place.Place.{Place}
use Rattle.cm_tree.specs.declared.path.Path.{Path}
use Rattle.cm_tree.specs.declared.path.Word.{Word}
use Rattle.cm_tree.specs.declared.expr.Expr.{Expr}
use Rattle.cm_tree.specs.declared.type_expr.TypeExpr.{TypeExpr}
use Rattle.cm_tree.specs.declared.type_expr.TypeExpr.TheVariants as y
use Rattle.cm_tree.specs.declared.type_expr.Arg.{Arg}
use Rattle.cm_tree.specs.declared.type_expr.Arg.TheVariants as g
use Rattle.cm_tree.specs.declared.type_expr.Typed.{Typed}
use Rattle.cm_tree.specs.declared.simple.Init.{Init}
use Rattle.cm_tree.specs.declared.simple.Var.{Var}
use Rattle.cm_tree.specs.declared.simple.Local.{Local}
use Rattle.cm_tree.specs.declared.simple.Local.TheVariants as l
use Rattle.cm_tree.specs.declared.simple.Step.{Step}
use Rattle.cm_tree.specs.declared.simple.Step.TheVariants as st
use Rattle.cm_tree.specs.declared.simple.Target.{Target}
use Rattle.cm_tree.specs.declared.simple.Simple.{Simple}
use Rattle.cm_tree.specs.declared.simple.Simple.TheVariants as i
use Rattle.cm_tree.specs.declared.stmt.Assert.{Assert}
use Rattle.cm_tree.specs.declared.stmt.Start.{Start}
use Rattle.cm_tree.specs.declared.stmt.Start.TheVariants as f
use Rattle.cm_tree.specs.declared.stmt.Block.{Block}
use Rattle.cm_tree.specs.declared.stmt.Stmt.{Stmt, Row_of-Stmt, end_of-Stmt, more_of-Stmt}
use Rattle.cm_tree.specs.declared.stmt.Stmt.TheVariants as x
use Rattle.cm_tree.specs.declared.stmt.Stmt.TheBlock.{hidden-the_row-Stmt-0, hidden-the_row-Stmt-1}
use Rattle.cm_tree.specs.declared.shared.Fields.{Fields}
use Rattle.cm_tree.specs.declared.shared.Shared.{Shared}
use Rattle.cm_tree.specs.declared.shared.Shared.TheVariants as h
use Rattle.cm_tree.specs.declared.shared.Function.{Function}
use Rattle.cm_tree.specs.declared.member.KeyValue.{KeyValue}
use Rattle.cm_tree.specs.declared.member.KeyValue.TheVariants as kv
use Rattle.cm_tree.specs.declared.member.Key.{Key}
use Rattle.cm_tree.specs.declared.member.EndName.{EndName}
use Rattle.cm_tree.specs.declared.member.End.{End}
use Rattle.cm_tree.specs.declared.member.Node.{Node}
use Rattle.cm_tree.specs.declared.member.Point.{Point}
use Rattle.cm_tree.specs.declared.member.Link.{Link}
use Rattle.cm_tree.specs.declared.member.Member.{Member}
use Rattle.cm_tree.specs.declared.member.Member.TheVariants as m
use Rattle.cm_tree.specs.declared.decl.Param.{Param}
use Rattle.cm_tree.specs.declared.decl.Param.TheVariants as q
use Rattle.cm_tree.specs.declared.decl.UnitDecl.{UnitDecl}
use Rattle.cm_tree.specs.declared.decl.Decl.{Decl, Row_of-Decl, end_of-Decl, more_of-Decl}
use Rattle.cm_tree.specs.declared.decl.Decl.TheVariants as d
use Rattle.cm_tree.specs.declared.decl.Decl.TheBlock.{hidden-the_row-Decl-0}
use Rattle.cm_tree.specs.declared.file.File.{File}
use denote.Hole.Carrier.{hidden}
use Rattle.cm_tree.specs.Lists.{highest, optional}
use Rattle.cm_tree.specs.Heights.{height, tallest, sized, sizes_height, bracketed}

abbrev pub type_height : TypeExpr → ℕ
type_height (y.Base b sizes) = sized b sizes
type_height (y.Named p sizes) = max 1 (sizes_height sizes)

abbrev pub arg_height : Arg → ℕ
arg_height (g.Type b sizes) = sized b sizes
arg_height (g.Value a) = height a

abbrev pub typed_height : Typed → ℕ
typed_height t = type_height t.ty

-- ---- statements

abbrev pub init_height : Init → ℕ
init_height a = height a.value

abbrev pub var_height : Var → ℕ
var_height a = optional height a.value

abbrev pub local_height : Local → ℕ
local_height (l.Let p all) = highest init_height all
local_height (l.Var p all) = highest init_height all
local_height (l.Typed ty all) = max (type_height ty) (highest var_height all)

abbrev pub step_height : Step → ℕ
step_height (st.Field w) = 1
step_height (st.Index p a) = height a + 1

abbrev pub target_height : Target → ℕ
target_height t = max 1 (highest step_height t.steps)

abbrev pub simple_height : Simple → ℕ
simple_height (i.Assign t o a) = max (target_height t) (height a)
simple_height (i.After t o) = target_height t
simple_height (i.Before p o t) = target_height t
simple_height (i.Call p args) = max 1 (tallest args) + 1

abbrev pub start_height : Start → ℕ
start_height (f.Local a) = local_height a
start_height (f.Simple a) = simple_height a

unfoldable mutual
  pub stmt_height : Stmt → ℕ
  stmt_height (x.Block' p sh all) = stmts_row all + 1
  stmt_height (x.Empty p) = 1
  stmt_height (x.Local a) = local_height a + 1
  stmt_height (x.Simple a) = simple_height a + 1
  stmt_height (x.Assert a) = height a.condition + 1
  stmt_height (x.If' p c sh (more_of-Stmt a end_of-Stmt)) = max (height c) (stmt_height a) + 1
  stmt_height (x.IfElse' p c sh (more_of-Stmt a end_of-Stmt) si (more_of-Stmt b end_of-Stmt)) = max (height c) (max (stmt_height a) (stmt_height b)) + 1
  stmt_height (x.Loop' p c sh (more_of-Stmt a end_of-Stmt)) = max (optional height c) (stmt_height a) + 1
  stmt_height (x.While' p c sh (more_of-Stmt a end_of-Stmt)) = max (height c) (stmt_height a) + 1
  stmt_height (x.ForType' p ty w sh (more_of-Stmt a end_of-Stmt)) = max (type_height ty) (stmt_height a) + 1
  stmt_height (x.For' p s c n sh (more_of-Stmt a end_of-Stmt)) =
      max (max (optional start_height s) (optional height c)) (max (optional simple_height n) (stmt_height a)) + 1
  stmt_height (x.Break p) = 1
  stmt_height (x.Continue p) = 1
  stmt_height (x.Return p c) = optional height c + 1
  stmt_height (x.Advance p) = 1
  stmt_height (x.Write w a) = height a + 1

  pub stmts_row : {n : _} → Row_of-Stmt n → ℕ
  stmts_row end_of-Stmt = 0
  stmts_row (more_of-Stmt a others) = max (stmt_height a) (stmts_row others)

block-row : (p : Place) (all : List Stmt) → stmt_height (x.Block p all) ≡ highest stmt_height all + 1
unfolding stmt_height stmts_row highest hidden-the_row-Stmt-0 hidden
block-row p [] = refl
block-row p (a ∷ all) = let is = block-row p all in omega arith

pub stmt_height-Block : (p : Place) (all : List Stmt) → stmt_height (x.Block p all) ≡ highest stmt_height all + 1
stmt_height-Block p all = block-row p all

pub stmt_height-Empty : (p : Place) → stmt_height (x.Empty p) ≡ 1
unfolding stmt_height
stmt_height-Empty p = refl

pub stmt_height-Local : (a : Local) → stmt_height (x.Local a) ≡ local_height a + 1
unfolding stmt_height
stmt_height-Local a = refl

pub stmt_height-Simple : (a : Simple) → stmt_height (x.Simple a) ≡ simple_height a + 1
unfolding stmt_height
stmt_height-Simple a = refl

pub stmt_height-Assert : (a : Assert) → stmt_height (x.Assert a) ≡ height a.condition + 1
unfolding stmt_height
stmt_height-Assert a = refl

pub stmt_height-If : (p : Place) (c : Expr) (a : Stmt) → stmt_height (x.If p c a) ≡ max (height c) (stmt_height a) + 1
unfolding stmt_height hidden-the_row-Stmt-1 hidden
stmt_height-If p c a = refl

pub stmt_height-IfElse : (p : Place) (c : Expr) (a b : Stmt) → stmt_height (x.IfElse p c a b) ≡ max (height c) (max (stmt_height a) (stmt_height b)) + 1
unfolding stmt_height hidden-the_row-Stmt-1 hidden
stmt_height-IfElse p c a b = refl

pub stmt_height-Loop : (p : Place) (c : Option Expr) (a : Stmt) → stmt_height (x.Loop p c a) ≡ max (optional height c) (stmt_height a) + 1
unfolding stmt_height hidden-the_row-Stmt-1 hidden
stmt_height-Loop p c a = refl

pub stmt_height-While : (p : Place) (c : Expr) (a : Stmt) → stmt_height (x.While p c a) ≡ max (height c) (stmt_height a) + 1
unfolding stmt_height hidden-the_row-Stmt-1 hidden
stmt_height-While p c a = refl

pub stmt_height-ForType : (p : Place) (ty : TypeExpr) (w : Word) (a : Stmt) → stmt_height (x.ForType p ty w a) ≡ max (type_height ty) (stmt_height a) + 1
unfolding stmt_height hidden-the_row-Stmt-1 hidden
stmt_height-ForType p ty w a = refl

pub stmt_height-For : (p : Place) (s : Option Start) (c : Option Expr) (n : Option Simple) (a : Stmt)
    → stmt_height (x.For p s c n a) ≡ max (max (optional start_height s) (optional height c)) (max (optional simple_height n) (stmt_height a)) + 1
unfolding stmt_height hidden-the_row-Stmt-1 hidden
stmt_height-For p s c n a = refl

pub stmt_height-Break : (p : Place) → stmt_height (x.Break p) ≡ 1
unfolding stmt_height
stmt_height-Break p = refl

pub stmt_height-Continue : (p : Place) → stmt_height (x.Continue p) ≡ 1
unfolding stmt_height
stmt_height-Continue p = refl

pub stmt_height-Return : (p : Place) (c : Option Expr) → stmt_height (x.Return p c) ≡ optional height c + 1
unfolding stmt_height
stmt_height-Return p c = refl

pub stmt_height-Advance : (p : Place) → stmt_height (x.Advance p) ≡ 1
unfolding stmt_height
stmt_height-Advance p = refl

pub stmt_height-Write : (w : Word) (a : Expr) → stmt_height (x.Write w a) ≡ height a + 1
unfolding stmt_height
stmt_height-Write w a = refl

pub ruleset stmt_heights = (
  stmt_height-Block,
  stmt_height-Empty,
  stmt_height-Local,
  stmt_height-Simple,
  stmt_height-Assert,
  stmt_height-If,
  stmt_height-IfElse,
  stmt_height-Loop,
  stmt_height-While,
  stmt_height-ForType,
  stmt_height-For,
  stmt_height-Break,
  stmt_height-Continue,
  stmt_height-Return,
  stmt_height-Advance,
  stmt_height-Write,
)

abbrev pub block_height : Block → ℕ
block_height b = highest stmt_height b.stmts + 1

-- ---- declarations

abbrev pub fields_height : Fields → ℕ
fields_height a = type_height a.ty

abbrev pub shared_height : Shared → ℕ
shared_height (h.Struct p w all) = highest fields_height all + 1
shared_height (h.Using p w ty) = type_height ty + 1
shared_height (h.Let p all) = highest init_height all + 1
shared_height (h.Assert a) = height a.condition + 1

abbrev pub function_height : Function → ℕ
function_height a = max (max (optional type_height a.result) (highest typed_height a.params)) (block_height a.body) + 1

abbrev pub value_height : KeyValue → ℕ
value_height (kv.Value a) = height a
value_height (kv.Text p t) = 0

abbrev pub key_height : Key → ℕ
key_height a = optional value_height a.value

abbrev pub end_name_height : EndName → ℕ
end_name_height a = highest key_height a.keys

abbrev pub end_height : End → ℕ
end_height a = max (type_height a.ty) (highest end_name_height a.names)

abbrev pub node_height : Node → ℕ
node_height a = max (max 1 (highest arg_height a.args)) (max (optional bracketed a.count) (optional height a.factor))

abbrev pub point_height : Point → ℕ
point_height a = max 1 (optional bracketed a.index)

abbrev pub link_height : Link → ℕ
link_height a = max (max (point_height a.from) (point_height a.to)) (optional height a.delay)

abbrev pub member_height : Member → ℕ
member_height (m.Ends p f all) = highest end_height all + 1
member_height (m.Shared a) = shared_height a
member_height (m.Function a) = function_height a
member_height (m.Handler p w t b) = max (typed_height t) (block_height b) + 1
member_height (m.Var p all) = highest init_height all + 1
member_height (m.State ty all) = max (type_height ty) (highest var_height all) + 1
member_height (m.Latency p a) = height a + 1
member_height (m.Nodes p all) = highest node_height all + 1
member_height (m.Connection p all) = highest link_height all + 1

abbrev pub param_height : Param → ℕ
param_height (q.Type p w) = 1
param_height (q.Value ty w) = type_height ty

abbrev pub unit_height : UnitDecl → ℕ
unit_height a = max (max (highest param_height a.params) (highest key_height a.keys)) (highest member_height a.members) + 1

unfoldable mutual
  pub decl_height : Decl → ℕ
  decl_height (d.Namespace' p w sh all) = decls_row all + 1
  decl_height (d.Processor a) = unit_height a
  decl_height (d.Graph a) = unit_height a
  decl_height (d.Shared a) = shared_height a
  decl_height (d.Function a) = function_height a

  pub decls_row : {n : _} → Row_of-Decl n → ℕ
  decls_row end_of-Decl = 0
  decls_row (more_of-Decl a others) = max (decl_height a) (decls_row others)

namespace-row : (p : Place) (w : Path) (all : List Decl) → decl_height (d.Namespace p w all) ≡ highest decl_height all + 1
unfolding decl_height decls_row highest hidden-the_row-Decl-0 hidden
namespace-row p w [] = refl
namespace-row p w (a ∷ all) = let is = namespace-row p w all in omega arith

pub decl_height-Namespace : (p : Place) (w : Path) (all : List Decl) → decl_height (d.Namespace p w all) ≡ highest decl_height all + 1
decl_height-Namespace p w all = namespace-row p w all

pub decl_height-Processor : (a : UnitDecl) → decl_height (d.Processor a) ≡ unit_height a
unfolding decl_height
decl_height-Processor a = refl

pub decl_height-Graph : (a : UnitDecl) → decl_height (d.Graph a) ≡ unit_height a
unfolding decl_height
decl_height-Graph a = refl

pub decl_height-Shared : (a : Shared) → decl_height (d.Shared a) ≡ shared_height a
unfolding decl_height
decl_height-Shared a = refl

pub decl_height-Function : (a : Function) → decl_height (d.Function a) ≡ function_height a
unfolding decl_height
decl_height-Function a = refl

pub ruleset decl_heights = (decl_height-Namespace, decl_height-Processor, decl_height-Graph, decl_height-Shared, decl_height-Function)

abbrev pub file_height : File → ℕ
file_height a = highest decl_height a.decls
