-- Further runs of programs by computation: operators, selections, calls, loops, factors, latency and parameters.
use Rattle.std.proofs.Common.{◌≡◌, true, false, ℕ, List, [], ◌∷◌, ◌++◌, Some, None, refl, pos, negsuc}
use Rattle.cm_base.specs.declared.host.Flow.TheVariants as flows
use Rattle.cm_base.specs.declared.host.Kind.TheVariants as kinds
use Rattle.cm_base.specs.declared.host.Scalar.TheVariants as scalars
use Rattle.cm_base.specs.declared.host.Range.{Range}
use Rattle.cm_base.specs.declared.play.Item.TheVariants as item
use Rattle.cm_base.specs.Parts.{Frame, tasks_of}
use Rattle.cm_base.specs.Players.{stops, play, Ended, Out}
use Rattle.cm_number.specs.Conversion as conversion
use Rattle.cm_number.specs.Division as division
use Rattle.cm_core.specs.declared.core_type.BaseType.TheVariants as base
use Rattle.cm_core.specs.declared.operator.UnaryOp.TheVariants.{Negate}
use Rattle.cm_core.specs.declared.operator.BinaryOp.TheVariants.{Add, Subtract, Multiply, Divide, Remainder, Equal, Less}
use Rattle.cm_core.specs.declared.operator.LogicOp.TheVariants.{And}
use Rattle.cm_core.specs.declared.expr.CoreExpr.{CoreExpr}
use Rattle.cm_core.specs.declared.expr.CoreExpr.TheVariants as e
use Rattle.cm_core.specs.declared.expr.CoreExpr.TheBlock.{hidden-the_row-CoreExpr-0, hidden-the_row-CoreExpr-1}
use Rattle.cm_core.specs.declared.stmt.CoreStmt.{CoreStmt}
use Rattle.cm_core.specs.declared.stmt.CoreStmt.TheVariants as s
use Rattle.cm_core.specs.declared.stmt.CoreStmt.TheBlock.{hidden-the_row-CoreStmt-0, hidden-the_row-CoreStmt-1}
use Rattle.cm_core.specs.declared.unit.Unit.{Unit as CoreUnit}
use Rattle.cm_core.specs.declared.unit.Home.TheVariants as home
use denote.Hole.Carrier.{hidden}
use Rattle.cm_core.specs.Code.{expr_of, expr_row, stmt_of, stmt_row}
use Rattle.cm_core.specs.Linked.{Linked}
use Rattle.cm_core.specs.Calls.{depth_of}
use Rattle.cm_core.specs.CoreRun.{core_player, first_world}
use Rattle.cm_core.proofs.Build.{end, host_end, int, number, loop, local, var, unit, alone, graph, link, linked, input, silence, outcome, nowhere}

-- `wrap` goes round, `clamp` stops, and an index is reduced
abbrev kinds_of_numbers : Linked
kinds_of_numbers = linked (alone (unit (end flows.Output kinds.Stream scalars.Int32 ∷ end flows.Output kinds.Stream scalars.Int32 ∷ end flows.Output kinds.Stream scalars.Int32 ∷ []) (var (scalars.Wrap 5) None ∷ var (scalars.Clamp 5) (Some (e.Convert (scalars.Clamp 5) (number 4))) ∷ record { ty = record { base = base.Scalar scalars.Int32; lengths = 3 ∷ [] }; shape = scalars.Int32 ∷ scalars.Int32 ∷ scalars.Int32 ∷ []; first = None } ∷ var scalars.Int32 (Some (e.Unary Negate scalars.Int32 (number 1))) ∷ []) [] (s.Update (e.Variable 0) Subtract scalars.Int32 (number 1) ∷ s.Update (e.Variable 1) Add scalars.Int32 (number 1) ∷ s.Assign (e.Index (e.Variable 2) (number 2)) (number 8) ∷ s.Write 0 (e.Convert scalars.Int32 (e.Variable 0)) ∷ s.Write 1 (e.Convert scalars.Int32 (e.Variable 1)) ∷ s.Write 2 (e.Index (e.Variable 2) (e.Variable 3)) ∷ s.Advance ∷ [])))

numbers_held : outcome kinds_of_numbers (silence 1) 10
    ≡ record { trace = item.Frame 0 (pos 4 ∷ pos 4 ∷ pos 8 ∷ []) ∷ []; ending = Ended }
unfolding stops conversion.to_signed conversion.floor_modulus conversion.to_bool hidden-the_row-CoreStmt-0 hidden-the_row-CoreStmt-1 hidden-the_row-CoreExpr-0 hidden-the_row-CoreExpr-1 hidden expr_of expr_row stmt_of stmt_row conversion.to_wrap conversion.to_clamp conversion.nearest
numbers_held = refl

-- the least number by -1 gives itself and remainder 0
abbrev least : Linked
least = linked (alone (unit (end flows.Input kinds.Stream scalars.Int32 ∷ end flows.Output kinds.Stream scalars.Int32 ∷ end flows.Output kinds.Stream scalars.Int32 ∷ []) [] [] (loop (s.Write 1 (e.Binary Divide scalars.Int32 (e.Input 0) (e.Unary Negate scalars.Int32 (number 1))) ∷ s.Write 2 (e.Binary Remainder scalars.Int32 (e.Input 0) (e.Unary Negate scalars.Int32 (number 1))) ∷ s.Advance ∷ []) ∷ [])))

divided : outcome least (input (negsuc 2147483647 ∷ [])) 10
    ≡ record { trace = item.Frame 0 (negsuc 2147483647 ∷ pos 0 ∷ []) ∷ []; ending = Ended }
unfolding stops conversion.to_signed conversion.floor_modulus conversion.to_bool hidden-the_row-CoreStmt-0 hidden-the_row-CoreStmt-1 hidden-the_row-CoreExpr-0 hidden-the_row-CoreExpr-1 hidden expr_of expr_row stmt_of stmt_row division.quotient division.remainder division.truncated_quotient
divided = refl

-- with a factor of 2 the input is held for both inner frames
abbrev held : Linked
held = linked (graph (end flows.Input kinds.Stream scalars.Int32 ∷ end flows.Output kinds.Stream scalars.Int32 ∷ []) (record (unit (end flows.Input kinds.Stream scalars.Int32 ∷ end flows.Output kinds.Stream scalars.Int32 ∷ []) (var scalars.Int32 None ∷ []) [] (loop (s.Update (e.Variable 0) Add scalars.Int32 (e.Input 0) ∷ s.Write 1 (e.Variable 0) ∷ s.Advance ∷ []) ∷ [])) { factor = 2 } ∷ []) (link 0 0 1 0 None ∷ link 1 1 0 1 None ∷ []))

input_held : outcome held (input (pos 1 ∷ pos 2 ∷ [])) 1000
    ≡ record { trace = item.Frame 0 (pos 2 ∷ []) ∷ item.Frame 1 (pos 6 ∷ []) ∷ []; ending = Ended }
unfolding stops conversion.to_signed conversion.floor_modulus conversion.to_bool hidden-the_row-CoreStmt-0 hidden-the_row-CoreStmt-1 hidden-the_row-CoreExpr-0 hidden-the_row-CoreExpr-1 hidden expr_of expr_row stmt_of stmt_row
input_held = refl

-- an output of latency 2 and the input that goes past it come together
abbrev late : Linked
late = record (linked (graph (end flows.Input kinds.Stream scalars.Int32 ∷ end flows.Output kinds.Stream scalars.Int32 ∷ []) (record (unit (end flows.Input kinds.Stream scalars.Int32 ∷ end flows.Output kinds.Stream scalars.Int32 ∷ []) (var scalars.Int32 None ∷ var scalars.Int32 None ∷ []) [] (loop (s.Write 1 (e.Variable 1) ∷ s.Assign (e.Variable 1) (e.Variable 0) ∷ s.Assign (e.Variable 0) (e.Input 0) ∷ s.Advance ∷ []) ∷ [])) { latency = 2 } ∷ []) (link 0 0 1 0 None ∷ link 1 1 0 1 None ∷ link 0 0 0 1 None ∷ []))) { filled = record { extra = 0 ∷ 2 ∷ 0 ∷ []; arrive = 0 ∷ []; latency = 2 } }

latency_filled : outcome late (input (pos 1 ∷ pos 2 ∷ pos 3 ∷ pos 4 ∷ [])) 1000
    ≡ record { trace = item.Frame 0 (pos 0 ∷ []) ∷ item.Frame 1 (pos 0 ∷ []) ∷ item.Frame 2 (pos 2 ∷ []) ∷ item.Frame 3 (pos 4 ∷ []) ∷ []; ending = Ended }
unfolding stops conversion.to_signed conversion.floor_modulus conversion.to_bool hidden-the_row-CoreStmt-0 hidden-the_row-CoreStmt-1 hidden-the_row-CoreExpr-0 hidden-the_row-CoreExpr-1 hidden expr_of expr_row stmt_of stmt_row
latency_filled = refl

-- a parameter starts with its `init`, or with the value that is saved
abbrev gain : Range
gain = record { min = pos 0; max = pos 10; init = pos 3 }

abbrev amplifier : CoreUnit
amplifier = unit (end flows.Input kinds.Value scalars.Int32 ∷ end flows.Output kinds.Stream scalars.Int32 ∷ []) [] [] (loop (s.Write 1 (e.Input 0) ∷ s.Advance ∷ []) ∷ [])

abbrev amplified : Linked
amplified =
    linked
    (record (alone amplifier) {
      host = record { flow = flows.Input; kind = kinds.Value; name = 103 ∷ []; shape = scalars.Int32 ∷ []; parameter = Some gain }
          ∷ host_end (end flows.Output kinds.Stream scalars.Int32) ∷ [];
    })

started : outcome amplified (silence 1) 10
    ≡ record { trace = item.Frame 0 (pos 3 ∷ []) ∷ []; ending = Ended }
unfolding stops conversion.to_signed conversion.floor_modulus conversion.to_bool hidden-the_row-CoreStmt-0 hidden-the_row-CoreStmt-1 hidden-the_row-CoreExpr-0 hidden-the_row-CoreExpr-1 hidden expr_of expr_row stmt_of stmt_row
started = refl

started_saved : play (core_player amplified (depth_of amplified)) 10 (tasks_of amplified.program.host (record { name = 103 ∷ []; value = pos 7 } ∷ []) (silence 1) 1) (first_world amplified)
    ≡ record { trace = item.Frame 0 (pos 7 ∷ []) ∷ []; ending = Ended }
unfolding stops conversion.to_signed conversion.floor_modulus conversion.to_bool hidden-the_row-CoreStmt-0 hidden-the_row-CoreStmt-1 hidden-the_row-CoreExpr-0 hidden-the_row-CoreExpr-1 hidden expr_of expr_row stmt_of stmt_row
started_saved = refl

abbrev element : ℕ → CoreExpr
element i = e.Index (e.Variable 0) (number i)

-- a processor with an output, an array of two, and one function that sets element 0 to 5 and gives 0
abbrev with_function : List CoreStmt → Linked
with_function main =
    linked
    (alone
    (record (unit (end flows.Output kinds.Stream scalars.Int32 ∷ [])
    (record { ty = record { base = base.Scalar scalars.Int32; lengths = 2 ∷ [] }; shape = scalars.Int32 ∷ scalars.Int32 ∷ []; first = None } ∷ []) [] main) {
      functions = record { params = []; first = 1; result = Some int; body = s.Block (s.Assign (element 0) (number 5) ∷ s.Return (Some (number 0)) ∷ []) } ∷ [];
    }))

-- a value is written, and then ten times element 0
abbrev calling : CoreExpr → Linked
calling value = with_function (s.Write 0 value ∷ s.Write 0 (e.Binary Multiply scalars.Int32 (number 10) (element 0)) ∷ [])

-- an assignment reads the old value last, after the right side
old_last : outcome (with_function (s.Update (element 0) Add scalars.Int32 (e.Call 0 []) ∷ s.Write 0 (element 0) ∷ [])) (silence 1) 1
    ≡ record { trace = item.Frame 0 (pos 5 ∷ []) ∷ []; ending = Ended }
unfolding stops conversion.to_signed conversion.floor_modulus conversion.to_bool hidden-the_row-CoreStmt-0 hidden-the_row-CoreStmt-1 hidden-the_row-CoreExpr-0 hidden-the_row-CoreExpr-1 hidden expr_of expr_row stmt_of stmt_row
old_last = refl

-- and evaluates the indices of its place first: element 0 takes what it has after the call
place_first : outcome (with_function (s.Assign (e.Index (e.Variable 0) (e.Call 0 [])) (e.Binary Add scalars.Int32 (element 0) (number 1)) ∷ s.Write 0 (element 0) ∷ [])) (silence 1) 1
    ≡ record { trace = item.Frame 0 (pos 6 ∷ []) ∷ []; ending = Ended }
unfolding stops conversion.to_signed conversion.floor_modulus conversion.to_bool hidden-the_row-CoreStmt-0 hidden-the_row-CoreStmt-1 hidden-the_row-CoreExpr-0 hidden-the_row-CoreExpr-1 hidden expr_of expr_row stmt_of stmt_row
place_first = refl

-- the index is evaluated before the element is read, and a left operand before a right one
index_first : outcome (calling (e.Index (e.Variable 0) (e.Call 0 []))) (silence 1) 1
    ≡ record { trace = item.Frame 0 (pos 55 ∷ []) ∷ []; ending = Ended }
unfolding stops conversion.to_signed conversion.floor_modulus conversion.to_bool hidden-the_row-CoreStmt-0 hidden-the_row-CoreStmt-1 hidden-the_row-CoreExpr-0 hidden-the_row-CoreExpr-1 hidden expr_of expr_row stmt_of stmt_row
index_first = refl

left_first : outcome (calling (e.Binary Add scalars.Int32 (element 0) (e.Call 0 []))) (silence 1) 1
    ≡ record { trace = item.Frame 0 (pos 50 ∷ []) ∷ []; ending = Ended }
unfolding stops conversion.to_signed conversion.floor_modulus conversion.to_bool hidden-the_row-CoreStmt-0 hidden-the_row-CoreStmt-1 hidden-the_row-CoreExpr-0 hidden-the_row-CoreExpr-1 hidden expr_of expr_row stmt_of stmt_row
left_first = refl

-- an arm that isn't chosen, and a right side that isn't needed, isn't evaluated
one_arm : outcome (calling (e.Choose (e.Truth true) (number 1) (e.Call 0 []))) (silence 1) 1
    ≡ record { trace = item.Frame 0 (pos 1 ∷ []) ∷ []; ending = Ended }
unfolding stops conversion.to_signed conversion.floor_modulus conversion.to_bool hidden-the_row-CoreStmt-0 hidden-the_row-CoreStmt-1 hidden-the_row-CoreExpr-0 hidden-the_row-CoreExpr-1 hidden expr_of expr_row stmt_of stmt_row
one_arm = refl

one_side : outcome (calling (e.Convert scalars.Int32 (e.Logic And (e.Truth false) (e.Convert scalars.Bool (e.Call 0 []))))) (silence 1) 1
    ≡ record { trace = item.Frame 0 (pos 0 ∷ []) ∷ []; ending = Ended }
unfolding stops conversion.to_signed conversion.floor_modulus conversion.to_bool hidden-the_row-CoreStmt-0 hidden-the_row-CoreStmt-1 hidden-the_row-CoreExpr-0 hidden-the_row-CoreExpr-1 hidden expr_of expr_row stmt_of stmt_row
one_side = refl

both_sides : outcome (calling (e.Convert scalars.Int32 (e.Logic And (e.Truth true) (e.Convert scalars.Bool (e.Call 0 []))))) (silence 1) 1
    ≡ record { trace = item.Frame 0 (pos 50 ∷ []) ∷ []; ending = Ended }
unfolding stops conversion.to_signed conversion.floor_modulus conversion.to_bool hidden-the_row-CoreStmt-0 hidden-the_row-CoreStmt-1 hidden-the_row-CoreExpr-0 hidden-the_row-CoreExpr-1 hidden expr_of expr_row stmt_of stmt_row
both_sides = refl

-- a processor with an output and two locals that live across an `advance`: an `int32`, and a `wrap<3>`
abbrev looping : List CoreStmt → Linked
looping main =
    linked (alone (unit (end flows.Output kinds.Stream scalars.Int32 ∷ []) [] (local scalars.Int32 home.Kept ∷ local (scalars.Wrap 3) home.Kept ∷ []) main))

-- `continue` comes to the third part, also after an `advance`: 0, 2, 4 and then 6 after the loop
abbrev stepping : Linked
stepping =
    looping
    (s.For (s.Locals (record { variable = 0; first = None } ∷ [])) (Some (e.Binary Less scalars.Int32 (e.Variable 0) (number 6)))
    (s.Update (e.Variable 0) Add scalars.Int32 (number 2))
    (s.Block (s.Write 0 (e.Variable 0) ∷ s.Advance ∷ s.Continue ∷ s.Write 0 (number 100) ∷ [])) nowhere
    ∷ s.Write 0 (e.Variable 0) ∷ [])

continued : outcome stepping (silence 5) 4
    ≡ record { trace = item.Frame 0 (pos 0 ∷ []) ∷ item.Frame 1 (pos 2 ∷ []) ∷ item.Frame 2 (pos 4 ∷ []) ∷ item.Frame 3 (pos 6 ∷ []) ∷ item.Frame 4 (pos 0 ∷ []) ∷ []; ending = Ended }
unfolding stops conversion.to_signed conversion.floor_modulus conversion.to_bool hidden-the_row-CoreStmt-0 hidden-the_row-CoreStmt-1 hidden-the_row-CoreExpr-0 hidden-the_row-CoreExpr-1 hidden expr_of expr_row stmt_of stmt_row
continued = refl

-- a `for` over a `wrap` takes each value once, and `break` ends it
abbrev each : List CoreStmt → Linked
each others = looping (s.Each 1 (s.Block (s.Write 0 (e.Binary Add scalars.Int32 (number 1) (e.Convert scalars.Int32 (e.Variable 1))) ∷ (others ++ s.Advance ∷ []))) nowhere ∷ [])

each_value : outcome (each []) (silence 4) 3
    ≡ record { trace = item.Frame 0 (pos 1 ∷ []) ∷ item.Frame 1 (pos 2 ∷ []) ∷ item.Frame 2 (pos 3 ∷ []) ∷ item.Frame 3 (pos 0 ∷ []) ∷ []; ending = Ended }
unfolding stops conversion.to_signed conversion.floor_modulus conversion.to_bool hidden-the_row-CoreStmt-0 hidden-the_row-CoreStmt-1 hidden-the_row-CoreExpr-0 hidden-the_row-CoreExpr-1 hidden expr_of expr_row stmt_of stmt_row
each_value = refl

broken : outcome (each (s.If (e.Binary Equal scalars.Int32 (e.Convert scalars.Int32 (e.Variable 1)) (number 1)) s.Break s.Nothing ∷ [])) (silence 3) 3
    ≡ record { trace = item.Frame 0 (pos 1 ∷ []) ∷ item.Frame 1 (pos 2 ∷ []) ∷ item.Frame 2 (pos 0 ∷ []) ∷ []; ending = Ended }
unfolding stops conversion.to_signed conversion.floor_modulus conversion.to_bool hidden-the_row-CoreStmt-0 hidden-the_row-CoreStmt-1 hidden-the_row-CoreExpr-0 hidden-the_row-CoreExpr-1 hidden expr_of expr_row stmt_of stmt_row
broken = refl

-- each body that is begun costs one turn, and a frame that lacks one isn't told
one_turn_each : outcome (looping (s.Times 0 (number 3) (s.Block []) nowhere ∷ [])) (silence 1) 3
    ≡ record { trace = item.Frame 0 (pos 0 ∷ []) ∷ []; ending = Ended }
unfolding stops conversion.to_signed conversion.floor_modulus conversion.to_bool hidden-the_row-CoreStmt-0 hidden-the_row-CoreStmt-1 hidden-the_row-CoreExpr-0 hidden-the_row-CoreExpr-1 hidden expr_of expr_row stmt_of stmt_row
one_turn_each = refl

one_turn_lacking : outcome (looping (s.Times 0 (number 3) (s.Block []) nowhere ∷ [])) (silence 1) 2
    ≡ record { trace = []; ending = Out (Frame 0 ([] ∷ [])) }
unfolding stops conversion.to_signed conversion.floor_modulus conversion.to_bool hidden-the_row-CoreStmt-0 hidden-the_row-CoreStmt-1 hidden-the_row-CoreExpr-0 hidden-the_row-CoreExpr-1 hidden expr_of expr_row stmt_of stmt_row
one_turn_lacking = refl
