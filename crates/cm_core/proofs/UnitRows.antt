-- Runs of programs with structs, several units, and events that go on, by computation.
use Rattle.std.proofs.Common.{◌≡◌, true, false, ℕ, List, [], ◌∷◌, None, refl, pos, negsuc}
use Rattle.cm_base.specs.declared.host.Flow.TheVariants as flows
use Rattle.cm_base.specs.declared.host.Kind.TheVariants as kinds
use Rattle.cm_base.specs.declared.host.Scalar.{Scalar}
use Rattle.cm_base.specs.declared.host.Scalar.TheVariants as scalars
use Rattle.cm_base.specs.declared.play.Item.TheVariants as item
use Rattle.cm_base.specs.Players.{stops, Ended}
use Rattle.cm_number.specs.Conversion as conversion
use Rattle.cm_core.specs.declared.core_type.BaseType.TheVariants as base
use Rattle.cm_core.specs.declared.core_type.CoreType.{CoreType}
use Rattle.cm_core.specs.declared.core_type.StructType.{StructType}
use Rattle.cm_core.specs.declared.operator.UnaryOp.TheVariants.{Negate}
use Rattle.cm_core.specs.declared.operator.BinaryOp.TheVariants.{Add, Multiply}
use Rattle.cm_core.specs.declared.expr.CoreExpr.{CoreExpr}
use Rattle.cm_core.specs.declared.expr.CoreExpr.TheVariants as e
use Rattle.cm_core.specs.declared.expr.CoreExpr.TheBlock.{hidden-the_row-CoreExpr-0, hidden-the_row-CoreExpr-1}
use Rattle.cm_core.specs.declared.stmt.CoreStmt.{CoreStmt}
use Rattle.cm_core.specs.declared.stmt.CoreStmt.TheVariants as s
use Rattle.cm_core.specs.declared.stmt.CoreStmt.TheBlock.{hidden-the_row-CoreStmt-0, hidden-the_row-CoreStmt-1}
use Rattle.cm_core.specs.declared.unit.Unit.{Unit as CoreUnit}
use Rattle.cm_core.specs.declared.unit.Home.TheVariants as home
use denote.Hole.Carrier.{hidden}
use Rattle.cm_core.specs.Code.{expr_of, expr_row, stmt_of, stmt_row}
use Rattle.cm_core.specs.Linked.{Linked}
use Rattle.cm_core.specs.Types.{scalar_type, shape_of}
use Rattle.cm_core.proofs.Build.{end, int, number, loop, local, var, unit, alone, graph, link, linked, silence, outcome}

abbrev array : ℕ → CoreType
array n = record { base = base.Scalar scalars.Int32; lengths = n ∷ [] }

-- ---- structs and arrays

-- a struct of an `int32` and an array of two, and a struct of two of these
abbrev pair : StructType
pair = record { fields = int ∷ array 2 ∷ [] }

abbrev pairs : StructType
pairs = record { fields = record { base = base.Struct 0; lengths = [] } ∷ record { base = base.Struct 0; lengths = [] } ∷ [] }

abbrev six : List Scalar
six = scalars.Int32 ∷ scalars.Int32 ∷ scalars.Int32 ∷ scalars.Int32 ∷ scalars.Int32 ∷ scalars.Int32 ∷ []

abbrev pairs_type : CoreType
pairs_type = record { base = base.Struct 1; lengths = [] }

two_of_pairs : shape_of (pair ∷ pairs ∷ []) pairs_type ≡ six
two_of_pairs = refl

-- a processor with a state of that struct and an output of an array of two
abbrev structured : List CoreStmt → Linked
structured main =
    linked
    (record
    (alone
    (unit (record { flow = flows.Output; kind = kinds.Stream; name = []; ty = array 2; shape = scalars.Int32 ∷ scalars.Int32 ∷ [] } ∷ [])
    (record { ty = pairs_type; shape = six; first = None } ∷ []) [] main)) { structs = pair ∷ pairs ∷ [] })

-- field 1 of field 1 is set whole and then in one element, and is written; its other elements stay
abbrev last_array : CoreExpr
last_array = e.Field (e.Field (e.Variable 0) 1) 1

abbrev setting : Linked
setting =
    structured
    (s.Assign (e.Field (e.Variable 0) 0) (e.Construct (record { base = base.Struct 0; lengths = [] }) (number 4 ∷ e.Construct (array 2) (number 5 ∷ []) ∷ []))
    ∷ s.Assign last_array (e.Construct (array 2) (number 7 ∷ number 8 ∷ []))
    ∷ s.Update (e.Index last_array (e.Unary Negate scalars.Int32 (number 1))) Add scalars.Int32 (e.Index (e.Field (e.Field (e.Variable 0) 0) 1) (number 1))
    ∷ s.Write 0 last_array ∷ [])

parts_set : outcome setting (silence 1) 1
    ≡ record { trace = item.Frame 0 (pos 7 ∷ pos 13 ∷ []) ∷ []; ending = Ended }
unfolding stops conversion.to_signed conversion.floor_modulus conversion.to_bool hidden-the_row-CoreStmt-0 hidden-the_row-CoreStmt-1 hidden-the_row-CoreExpr-0 hidden-the_row-CoreExpr-1 hidden expr_of expr_row stmt_of stmt_row
parts_set = refl

-- ---- units

-- two copies of one processor, in `int64` and in `int32`, of which the second has two nodes whose outputs are summed
abbrev summing : Scalar → CoreExpr → CoreUnit
summing kind product =
    unit (end flows.Output kinds.Stream scalars.Int64 ∷ []) (var kind None ∷ []) []
    (loop (s.Assign (e.Variable 0) (e.Binary Add kind (e.Variable 0) (e.Construct (scalar_type kind) (number 2147483647 ∷ []))) ∷ s.Write 0 product ∷ s.Advance ∷ []) ∷ [])

abbrev wide : CoreUnit
wide = summing scalars.Int64 (e.Binary Multiply scalars.Int64 (e.Variable 0) (e.Convert scalars.Int64 (number 3)))

abbrev narrow : CoreUnit
narrow = summing scalars.Int32 (e.Convert scalars.Int64 (e.Binary Multiply scalars.Int32 (e.Variable 0) (number 3)))

abbrev widths : Linked
widths =
    linked
    (graph (end flows.Output kinds.Stream scalars.Int64 ∷ end flows.Output kinds.Stream scalars.Int64 ∷ []) (wide ∷ narrow ∷ narrow ∷ [])
    (link 1 0 0 0 None ∷ link 2 0 0 1 None ∷ link 3 0 0 1 None ∷ []))

each_its_width : outcome widths (silence 2) 10
    ≡ record { trace = item.Frame 0 (pos 6442450941 ∷ pos 4294967290 ∷ []) ∷ item.Frame 1 (pos 12884901882 ∷ negsuc 11 ∷ []) ∷ []; ending = Ended }
unfolding stops conversion.to_signed conversion.floor_modulus conversion.to_bool hidden-the_row-CoreStmt-0 hidden-the_row-CoreStmt-1 hidden-the_row-CoreExpr-0 hidden-the_row-CoreExpr-1 hidden expr_of expr_row stmt_of stmt_row
each_its_width = refl

-- ---- events and values

-- a handler that passes what comes on, to the next leaf and to the host: the events of one statement come in order, each
-- handler whole before the next statement
abbrev sender : CoreUnit
sender = unit (end flows.Output kinds.Event scalars.Int64 ∷ []) [] [] (s.Write 0 (e.Number (pos 4294967298) true) ∷ s.Write 0 (e.Convert scalars.Int64 (number 3)) ∷ [])

abbrev relay : CoreUnit
relay =
    record (unit (end flows.Input kinds.Event scalars.Int64 ∷ end flows.Output kinds.Event scalars.Bool ∷ end flows.Output kinds.Value scalars.Int64 ∷ []) []
    (local scalars.Int64 (home.Handler 0) ∷ []) []) {
      handlers = record {
        end = 0;
        param = var scalars.Int64 None;
        first = 0;
        body = s.Block (s.Write 2 (e.Variable 0) ∷ s.Write 1 (e.Convert scalars.Bool (e.Variable 0)) ∷ s.Write 1 (e.Truth false) ∷ []);
      }
          ∷ [];
    }

abbrev relaying : Linked
relaying =
    linked
    (graph (end flows.Output kinds.Event scalars.Bool ∷ end flows.Output kinds.Value scalars.Int64 ∷ end flows.Output kinds.Event scalars.Int64 ∷ []) (sender ∷ relay ∷ [])
    (link 1 0 2 0 None ∷ link 1 0 0 2 None ∷ link 2 1 0 0 None ∷ link 2 2 0 1 None ∷ []))

relayed : outcome relaying (silence 2) 1
    ≡ record { trace = item.Event 0 0 (pos 1 ∷ []) ∷ item.Event 0 0 (pos 0 ∷ []) ∷ item.Event 0 2 (pos 4294967298 ∷ []) ∷ item.Event 0 0 (pos 1 ∷ []) ∷ item.Event 0 0 (pos 0 ∷ []) ∷ item.Event 0 2 (pos 3 ∷ []) ∷ item.Frame 0 (pos 3 ∷ []) ∷ item.Frame 1 (pos 3 ∷ []) ∷ []; ending = Ended }
unfolding stops conversion.to_signed conversion.floor_modulus conversion.to_bool hidden-the_row-CoreStmt-0 hidden-the_row-CoreStmt-1 hidden-the_row-CoreExpr-0 hidden-the_row-CoreExpr-1 hidden expr_of expr_row stmt_of stmt_row
relayed = refl
