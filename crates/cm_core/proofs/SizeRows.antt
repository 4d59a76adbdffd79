-- Sizes of programs by computation.
use Rattle.std.proofs.Common.{◌≡◌, [], ◌∷◌, Some, None, refl, pos}
use Rattle.cm_base.specs.declared.host.Flow.TheVariants as flows
use Rattle.cm_base.specs.declared.host.Kind.TheVariants as kinds
use Rattle.cm_base.specs.declared.host.Scalar.TheVariants as scalars
use Rattle.cm_core.specs.declared.core_type.BaseType.TheVariants as base
use Rattle.cm_core.specs.declared.operator.BinaryOp.TheVariants.{Add, Multiply, Divide}
use Rattle.cm_core.specs.declared.program.End.{End}
use Rattle.cm_core.specs.declared.expr.CoreExpr.TheVariants as e
use Rattle.cm_core.specs.declared.expr.CoreExpr.TheBlock.{hidden-the_row-CoreExpr-0, hidden-the_row-CoreExpr-1}
use Rattle.cm_core.specs.declared.stmt.CoreStmt.TheVariants as s
use Rattle.cm_core.specs.declared.stmt.CoreStmt.TheBlock.{hidden-the_row-CoreStmt-0, hidden-the_row-CoreStmt-1}
use Rattle.cm_core.specs.declared.unit.Unit.{Unit as CoreUnit}
use Rattle.cm_core.specs.declared.unit.Home.TheVariants as home
use denote.Hole.Carrier.{hidden}
use Rattle.cm_core.specs.Code.{expr_of, expr_row, stmt_of, stmt_row}
use Rattle.cm_core.specs.Linked.{Linked}
use Rattle.cm_core.specs.Measures.{expanded_size, split_points, cost, memory_bytes}
use Rattle.cm_core.proofs.Build.{end, number, loop, unit, alone, graph, link, linked}

abbrev stream_in : End
stream_in = end flows.Input kinds.Stream scalars.Int32

abbrev stream_out : End
stream_out = end flows.Output kinds.Stream scalars.Int32

abbrev value_in : End
value_in = end flows.Input kinds.Value scalars.Int32

-- a processor that copies its input: 17, three split points, 4,720 bytes
abbrev copying : Linked
copying = linked (alone (unit (stream_in ∷ stream_out ∷ []) [] [] (loop (s.Write 1 (e.Input 0) ∷ s.Advance ∷ []) ∷ [])))

copying_size : expanded_size copying ≡ 17
unfolding hidden-the_row-CoreStmt-0 hidden-the_row-CoreStmt-1 hidden-the_row-CoreExpr-0 hidden-the_row-CoreExpr-1 hidden expr_of expr_row stmt_of stmt_row
copying_size = refl

copying_splits : split_points copying ≡ 3
unfolding hidden-the_row-CoreStmt-0 hidden-the_row-CoreStmt-1 hidden-the_row-CoreExpr-0 hidden-the_row-CoreExpr-1 hidden expr_of expr_row stmt_of stmt_row
copying_splits = refl

copying_cost : cost copying ≡ 4352
unfolding hidden-the_row-CoreStmt-0 hidden-the_row-CoreStmt-1 hidden-the_row-CoreExpr-0 hidden-the_row-CoreExpr-1 hidden expr_of expr_row stmt_of stmt_row
copying_cost = refl

copying_bytes : memory_bytes copying ≡ 4720
unfolding hidden-the_row-CoreStmt-0 hidden-the_row-CoreStmt-1 hidden-the_row-CoreExpr-0 hidden-the_row-CoreExpr-1 hidden expr_of expr_row stmt_of stmt_row
copying_bytes = refl

-- a local of 262,141 scalars takes the size to its limit
abbrev large : Linked
large =
    linked
    (alone
    (unit [] [] (record { ty = record { base = base.Scalar scalars.Int32; lengths = 262141 ∷ [] }; shape = []; home = home.Main } ∷ [])
    (s.Locals (record { variable = 0; first = None } ∷ []) ∷ [])))

large_size : expanded_size large ≡ 262144
unfolding hidden-the_row-CoreStmt-0 hidden-the_row-CoreStmt-1 hidden-the_row-CoreExpr-0 hidden-the_row-CoreExpr-1 hidden expr_of expr_row stmt_of stmt_row
large_size = refl

large_bytes : memory_bytes large ≡ 4198464
unfolding hidden-the_row-CoreStmt-0 hidden-the_row-CoreStmt-1 hidden-the_row-CoreExpr-0 hidden-the_row-CoreExpr-1 hidden expr_of expr_row stmt_of stmt_row
large_bytes = refl

-- two echoes across: 90, three split points, 359,648 bytes of which the rings have 352,800
abbrev mix : CoreUnit
mix =
    unit (stream_in ∷ stream_in ∷ value_in ∷ value_in ∷ stream_out ∷ []) [] []
    (loop
    (s.Write 4
    (e.Binary Divide scalars.Int32
    (e.Binary Multiply scalars.Int32
    (e.Binary Add scalars.Int32 (e.Input 0)
    (e.Binary Divide scalars.Int32 (e.Binary Multiply scalars.Int32 (e.Input 1) (e.Input 2)) (number 100)))
    (e.Input 3))
    (number 100))
    ∷ s.Advance ∷ [])
    ∷ [])

abbrev echo : Linked
echo =
    linked
    (graph (stream_in ∷ stream_in ∷ value_in ∷ value_in ∷ stream_out ∷ stream_out ∷ []) (mix ∷ mix ∷ [])
    (link 0 0 1 0 None ∷ link 0 1 2 0 None ∷ link 1 4 1 1 (Some (pos 44100)) ∷ link 2 4 2 1 (Some (pos 44100)) ∷ link 0 2 1 2 None ∷ link 0 2 2 2 None
    ∷ link 0 3 1 3 None ∷ link 0 3 2 3 None ∷ link 1 4 0 4 None ∷ link 2 4 0 5 None ∷ []))

echo_size : expanded_size echo ≡ 90
unfolding hidden-the_row-CoreStmt-0 hidden-the_row-CoreStmt-1 hidden-the_row-CoreExpr-0 hidden-the_row-CoreExpr-1 hidden expr_of expr_row stmt_of stmt_row
echo_size = refl

echo_splits : split_points echo ≡ 3
unfolding hidden-the_row-CoreStmt-0 hidden-the_row-CoreStmt-1 hidden-the_row-CoreExpr-0 hidden-the_row-CoreExpr-1 hidden expr_of expr_row stmt_of stmt_row
echo_splits = refl

echo_bytes : memory_bytes echo ≡ 359648
unfolding hidden-the_row-CoreStmt-0 hidden-the_row-CoreStmt-1 hidden-the_row-CoreExpr-0 hidden-the_row-CoreExpr-1 hidden expr_of expr_row stmt_of stmt_row
echo_bytes = refl
