-- Short words for small patches and their runs, which the worked runs use. A place is a column of line 1.
use Rattle.std.specs.Prelude.{ℕ, ◌+◌, ℤ, pos, false, List, [], ◌∷◌, length, Option, None, Some, option_map, codes}
use Rattle.cm_base.specs.declared.host.Flow.TheVariants as flow
use Rattle.cm_base.specs.declared.host.Kind.TheVariants as kind
use Rattle.cm_base.specs.declared.play.Item.{Item}
use Rattle.cm_base.specs.declared.play.Item.TheVariants as item
use Rattle.cm_base.specs.declared.play.Script.{Script}
use Rattle.cm_base.specs.Players.{Outcome, source_run}
use Rattle.cm_tree.specs.declared.expr.Expr.{Expr}
use Rattle.cm_tree.specs.declared.expr.Expr.TheVariants as e
use Rattle.cm_tree.specs.declared.stmt.Stmt.{Stmt}
use Rattle.cm_tree.specs.declared.stmt.Stmt.TheVariants as x
use Rattle.cm_tree.specs.declared.operator.Assign.{Assign}
use Rattle.cm_tree.specs.declared.type_expr.TypeExpr.{TypeExpr}
use Rattle.cm_tree.specs.declared.simple.Local.TheVariants as l
use Rattle.cm_tree.specs.declared.simple.Simple.TheVariants as i
use Rattle.cm_tree.specs.declared.simple.Step.{Step}
use Rattle.cm_tree.specs.declared.member.Key.{Key}
use Rattle.cm_tree.specs.declared.member.Link.{Link}
use Rattle.cm_tree.specs.declared.member.Point.{Point}
use Rattle.cm_tree.specs.declared.member.Member.{Member}
use Rattle.cm_tree.specs.declared.member.Member.TheVariants as m
use Rattle.cm_tree.specs.declared.decl.Decl.{Decl}
use Rattle.cm_tree.specs.declared.decl.Decl.TheVariants as d
use Rattle.cm_meaning.specs.Nodes.{Tree}
use Rattle.cm_meaning.specs.Growth.{tree_of}
use Rattle.cm_meaning.specs.Linked.{linked}
use Rattle.cm_meaning.specs.PatchRun.{patch_source}
use Rattle.cm_meaning.proofs.Trees.{at, word, function, unit, processor, endpoint, point, link, file}

abbrev pub int_of : ℕ → ℤ → Expr
int_of column z = e.Number (at column) z false

-- NAME <- ..;
abbrev pub write : ℕ → List ℕ → Expr → Stmt
write column text value = x.Write (word column text) value

-- { .. }
abbrev pub block : ℕ → List Stmt → Stmt
block column all = x.Block (at column) all

-- loop { .. }
abbrev pub loop : ℕ → List Stmt → Stmt
loop column all = x.Loop (at column) None (block (column + 5) all)

-- loop (..) { .. }
abbrev pub loop_count : ℕ → Expr → List Stmt → Stmt
loop_count column count all = x.Loop (at column) (Some count) (block (column + 9) all)

abbrev pub advance : ℕ → Stmt
advance column = x.Advance (at column)

-- void main() { .. }
abbrev pub main : ℕ → List Stmt → Member
main column body = m.Function (function column (codes "main") [] body)

-- input stream int in; output stream int out;
abbrev pub in_and_out : List Member → List Member
in_and_out members = endpoint flow.Input kind.Stream 14 27 31 (codes "in") ∷ endpoint flow.Output kind.Stream 35 48 52 (codes "out") ∷ members

-- processor P { input stream int in; output stream int out; void main() { .. } }
abbrev pub io : List Stmt → List Decl
io body = processor 1 (codes "P") (in_and_out (main 57 body ∷ [])) ∷ []

-- TYPE NAME = ..; in a body, and in a processor
abbrev pub local : TypeExpr → ℕ → List ℕ → Option Expr → Stmt
local ty column text value = x.Local (l.Typed ty (record { name = word column text; value = value } ∷ []))

abbrev pub state : TypeExpr → ℕ → List ℕ → Option Expr → Member
state ty column text value = m.State ty (record { name = word column text; value = value } ∷ [])

-- NAME.. = ..;
abbrev pub set : ℕ → List ℕ → List Step → Assign → Expr → Stmt
set column text steps op value = x.Simple (i.Assign (record { name = word column text; steps = steps }) op value)

-- ---- graphs

-- [[main]]
abbrev pub marked : ℕ → List Key
marked column = record { name = word column (codes "main"); value = None } ∷ []

-- graph G [[main]] { .. }
abbrev pub main_graph : List Member → Decl
main_graph members = d.Graph (unit 500 506 (codes "G") [] (marked 511) members)

-- in -> NODE.in; and NODE.out -> out; and so on
abbrev pub of_node : ℕ → List ℕ → List ℕ → Point
of_node column text end = point column text (Some (word (column + 2) end))

abbrev pub own : ℕ → List ℕ → Point
own column text = point column text None

abbrev pub delayed : ℕ → ℕ → Point → Point → Link
delayed column frames from to = record (link column from to) { delay = Some (int_of column (pos frames)) }

abbrev pub connections : List Link → Member
connections links = m.Connection (at 600) links

-- graph G [[main]] { input stream int in; output stream int out; .. }
abbrev pub io_graph : List Member → List Link → Decl
io_graph nodes links = main_graph (endpoint flow.Input kind.Stream 520 533 537 (codes "in") ∷ endpoint flow.Output kind.Stream 541 554 558 (codes "out") ∷ connections links ∷ nodes)

-- ---- runs

-- the first stream input has these values, one each frame
abbrev pub input : List ℤ → Script
input values = record { frames = length values; streams = values ∷ []; values = []; events = [] }

abbrev pub silence : ℕ → Script
silence frames = record { frames = frames; streams = []; values = []; events = [] }

abbrev pub run_of : List Decl → Script → ℕ → Option Tree → Option Outcome
run_of decls script turns tree = option_map (λ (t : Tree). source_run (patch_source (linked (file decls) t) 1) [] script script.frames turns) tree

-- what a patch of these declarations does
abbrev pub outcome : List Decl → Script → ℕ → Option Outcome
outcome decls script turns = run_of decls script turns (tree_of (file decls) 4)

-- a frame of one output
abbrev pub frame : ℕ → ℤ → Item
frame t z = item.Frame t (z ∷ [])
