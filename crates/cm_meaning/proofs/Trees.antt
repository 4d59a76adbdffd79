-- Short words for small trees, which the worked rows use. All stand in line 1 of file 1, so a place is a column.
use Rattle.std.specs.Prelude.{ℕ, ◌+◌, pos, false, List, [], ◌∷◌, Option, None, codes}
use Rattle.cm_base.specs.declared.place.Place.{Place}
use Rattle.cm_base.specs.declared.host.Flow.{Flow}
use Rattle.cm_base.specs.declared.host.Kind.{Kind}
use Rattle.cm_base.specs.declared.cause.Cause.{Cause}
use Rattle.cm_tree.specs.declared.path.Path.{Path}
use Rattle.cm_tree.specs.declared.path.Word.{Word}
use Rattle.cm_tree.specs.declared.expr.Expr.{Expr}
use Rattle.cm_tree.specs.declared.expr.Expr.TheVariants as e
use Rattle.cm_tree.specs.declared.expr.Base.TheVariants as b
use Rattle.cm_tree.specs.declared.type_expr.TypeExpr.{TypeExpr}
use Rattle.cm_tree.specs.declared.type_expr.TypeExpr.TheVariants as y
use Rattle.cm_tree.specs.declared.type_expr.Arg.{Arg}
use Rattle.cm_tree.specs.declared.type_expr.Typed.{Typed}
use Rattle.cm_tree.specs.declared.simple.Local.TheVariants as l
use Rattle.cm_tree.specs.declared.simple.Simple.TheVariants as i
use Rattle.cm_tree.specs.declared.operator.Assign.TheVariants as o
use Rattle.cm_tree.specs.declared.stmt.Stmt.{Stmt}
use Rattle.cm_tree.specs.declared.stmt.Stmt.TheVariants as x
use Rattle.cm_tree.specs.declared.shared.Shared.TheVariants as h
use Rattle.cm_tree.specs.declared.shared.Function.{Function}
use Rattle.cm_tree.specs.declared.member.Key.{Key}
use Rattle.cm_tree.specs.declared.member.Point.{Point}
use Rattle.cm_tree.specs.declared.member.Link.{Link}
use Rattle.cm_tree.specs.declared.member.Member.{Member}
use Rattle.cm_tree.specs.declared.member.Member.TheVariants as m
use Rattle.cm_tree.specs.declared.decl.Param.{Param}
use Rattle.cm_tree.specs.declared.decl.UnitDecl.{UnitDecl}
use Rattle.cm_tree.specs.declared.decl.Decl.{Decl}
use Rattle.cm_tree.specs.declared.decl.Decl.TheVariants as d
use Rattle.cm_tree.specs.declared.file.File.{File}
use Rattle.cm_meaning.specs.Faults.{Fault, fault}

abbrev pub at : ℕ → Place
at column = record { file = 1; line = 1; column = column }

abbrev pub word : ℕ → List ℕ → Word
word column text = record { place = at column; text = text }

abbrev pub path : ℕ → List (List ℕ) → Path
path column names = record { place = at column; names = names }

abbrev pub one_name : ℕ → List ℕ → Path
one_name column text = path column (text ∷ [])

abbrev pub read : ℕ → List ℕ → Expr
read column text = e.Name (one_name column text)

abbrev pub number : ℕ → Expr
number column = e.Number (at column) (pos 1) false

abbrev pub int : ℕ → TypeExpr
int column = y.Base (b.Int (at column)) []

abbrev pub named : ℕ → List ℕ → TypeExpr
named column text = y.Named (one_name column text) []

-- let NAME = ..;
abbrev pub let_decl : ℕ → List ℕ → Expr → Decl
let_decl column text value = d.Shared (h.Let (at column) (record { name = word (column + 4) text; value = value } ∷ []))

-- using NAME = ..;
abbrev pub using_decl : ℕ → List ℕ → TypeExpr → Decl
using_decl column text ty = d.Shared (h.Using (at column) (word (column + 6) text) ty)

-- int NAME = ..;
abbrev pub int_local : ℕ → List ℕ → Option Expr → Stmt
int_local column text value = x.Local (l.Typed (int column) (record { name = word (column + 4) text; value = value } ∷ []))

-- NAME = ..;
abbrev pub assign : ℕ → List ℕ → Expr → Stmt
assign column text value = x.Simple (i.Assign (record { name = word column text; steps = [] }) o.Set value)

-- NAME();
abbrev pub call : ℕ → List ℕ → Stmt
call column text = x.Simple (i.Call (one_name column text) [])

-- void NAME(..) { .. }
abbrev pub function : ℕ → List ℕ → List Typed → List Stmt → Function
function column text params body =
    record { place = at column; result = None; name = word (column + 5) text; params = params; body = record { place = at column; stmts = body } }

-- void NAME() { .. }
abbrev pub void_decl : ℕ → List ℕ → List Stmt → Decl
void_decl column text body = d.Function (function column text [] body)

abbrev pub unit : ℕ → ℕ → List ℕ → List Param → List Key → List Member → UnitDecl
unit column name text params keys members = record { place = at column; name = word name text; params = params; keys = keys; members = members }

-- processor NAME { .. } and graph NAME { .. }
abbrev pub processor : ℕ → List ℕ → List Member → Decl
processor column text members = d.Processor (unit column (column + 10) text [] [] members)

abbrev pub graph : ℕ → List ℕ → List Member → Decl
graph column text members = d.Graph (unit column (column + 6) text [] [] members)

-- an endpoint of type int: its flow and kind, and the columns of its first token, its type and its name
abbrev pub endpoint : Flow → Kind → ℕ → ℕ → ℕ → List ℕ → Member
endpoint flow kind column ty name text =
    m.Ends (at column) flow (record { place = at (column + 6); kind = kind; ty = int ty; names = record { name = word name text; keys = [] } ∷ [] } ∷ [])

-- node NAME = PATH;
abbrev pub node : ℕ → List ℕ → ℕ → List ℕ → List Arg → Member
node column text at_path p args =
    m.Nodes (at column) (record { name = word (column + 5) text; path = one_name at_path p; args = args; count = None; factor = None } ∷ [])

-- event NAME (int v) { }: the columns of its first token and its name
abbrev pub handler : ℕ → ℕ → List ℕ → Member
handler column name text =
    m.Handler (at column) (word name text) (record { ty = int (name + 3); name = word (name + 7) (codes "v") }) (record { place = at (name + 10); stmts = [] })

abbrev pub point : ℕ → List ℕ → Option Word → Point
point column text end = record { name = word column text; index = None; end = end }

abbrev pub link : ℕ → Point → Point → Link
link column from to = record { place = at column; latch = false; from = from; delay = None; to = to }

abbrev pub file : List Decl → List File
file decls = record { decls = decls } ∷ []

-- some statements in the body of `void f() { .. }`
abbrev pub body : List Stmt → List File
body all = file (void_decl 1 (codes "f") all ∷ [])

abbrev pub faulty : Cause → ℕ → List Fault
faulty cause column = fault cause (at column) ∷ []
