-- Runs of programs by computation, and what they tell.
use Rattle.std.proofs.Common.{◌≡◌, true, List, [], ◌∷◌, Some, None, refl, pos, negsuc}
use Rattle.cm_base.specs.declared.host.Flow.TheVariants as flows
use Rattle.cm_base.specs.declared.host.Kind.TheVariants as kinds
use Rattle.cm_base.specs.declared.host.Scalar.TheVariants as scalars
use Rattle.cm_base.specs.declared.play.Item.TheVariants as item
use Rattle.cm_base.specs.Parts.{Frame}
use Rattle.cm_base.specs.Players.{stops, Ended, Out}
use Rattle.cm_number.specs.Conversion as conversion
use Rattle.cm_core.specs.declared.expr.CoreExpr.TheVariants as e
use Rattle.cm_core.specs.declared.expr.CoreExpr.TheBlock.{hidden-the_row-CoreExpr-0, hidden-the_row-CoreExpr-1}
use Rattle.cm_core.specs.declared.stmt.CoreStmt.{CoreStmt}
use Rattle.cm_core.specs.declared.stmt.CoreStmt.TheVariants as s
use Rattle.cm_core.specs.declared.stmt.CoreStmt.TheBlock.{hidden-the_row-CoreStmt-0, hidden-the_row-CoreStmt-1}
use denote.Hole.Carrier.{hidden}
use Rattle.cm_core.specs.Code.{expr_of, expr_row, stmt_of, stmt_row}
use Rattle.cm_core.specs.declared.unit.Home.TheVariants as home
use Rattle.cm_core.specs.Linked.{Linked}
use Rattle.cm_core.specs.declared.operator.BinaryOp.TheVariants.{Add, Multiply}
use Rattle.cm_core.specs.declared.unit.Unit.{Unit as CoreUnit}
use Rattle.cm_core.proofs.Build.{end, number, loop, local, var, unit, alone, graph, link, linked, input, silence, outcome, nowhere}

-- a processor with a stream input and a stream output of `int32`
abbrev io : List CoreStmt → Linked
io main = linked (alone (unit (end flows.Input kinds.Stream scalars.Int32 ∷ end flows.Output kinds.Stream scalars.Int32 ∷ []) [] (local scalars.Int32 home.Kept ∷ []) main))

-- the input goes to the output
copies : outcome (io (loop (s.Write 1 (e.Input 0) ∷ s.Advance ∷ []) ∷ [])) (input (pos 1 ∷ pos 2 ∷ pos 3 ∷ [])) 1000
    ≡ record { trace = item.Frame 0 (pos 1 ∷ []) ∷ item.Frame 1 (pos 2 ∷ []) ∷ item.Frame 2 (pos 3 ∷ []) ∷ []; ending = Ended }
unfolding stops conversion.to_signed conversion.floor_modulus conversion.to_bool hidden-the_row-CoreStmt-0 hidden-the_row-CoreStmt-1 hidden-the_row-CoreExpr-0 hidden-the_row-CoreExpr-1 hidden expr_of expr_row stmt_of stmt_row
copies = refl

-- the writes to a stream add up, and the sum wraps
sums_wrap : outcome (io (loop (s.Write 1 (e.Input 0) ∷ s.Write 1 (number 2147483647) ∷ s.Advance ∷ []) ∷ [])) (input (pos 1 ∷ [])) 1000
    ≡ record { trace = item.Frame 0 (negsuc 2147483647 ∷ []) ∷ []; ending = Ended }
unfolding stops conversion.to_signed conversion.floor_modulus conversion.to_bool hidden-the_row-CoreStmt-0 hidden-the_row-CoreStmt-1 hidden-the_row-CoreExpr-0 hidden-the_row-CoreExpr-1 hidden expr_of expr_row stmt_of stmt_row
sums_wrap = refl

-- a count goes on after an `advance`, and what follows the loop is done
count_goes_on : outcome (io (loop (s.Times 0 (number 2) (s.Block (s.Write 1 (number 1) ∷ s.Advance ∷ [])) nowhere ∷ s.Write 1 (number 5) ∷ s.Advance ∷ []) ∷ [])) (silence 6) 1000
    ≡ record { trace = item.Frame 0 (pos 1 ∷ []) ∷ item.Frame 1 (pos 1 ∷ []) ∷ item.Frame 2 (pos 5 ∷ []) ∷ item.Frame 3 (pos 1 ∷ []) ∷ item.Frame 4 (pos 1 ∷ []) ∷ item.Frame 5 (pos 5 ∷ []) ∷ []; ending = Ended }
unfolding stops conversion.to_signed conversion.floor_modulus conversion.to_bool hidden-the_row-CoreStmt-0 hidden-the_row-CoreStmt-1 hidden-the_row-CoreExpr-0 hidden-the_row-CoreExpr-1 hidden expr_of expr_row stmt_of stmt_row
count_goes_on = refl

-- a main that returned gives zero
returned : outcome (io (s.Write 1 (number 7) ∷ s.Advance ∷ [])) (silence 3) 1000
    ≡ record { trace = item.Frame 0 (pos 7 ∷ []) ∷ item.Frame 1 (pos 0 ∷ []) ∷ item.Frame 2 (pos 0 ∷ []) ∷ []; ending = Ended }
unfolding stops conversion.to_signed conversion.floor_modulus conversion.to_bool hidden-the_row-CoreStmt-0 hidden-the_row-CoreStmt-1 hidden-the_row-CoreExpr-0 hidden-the_row-CoreExpr-1 hidden expr_of expr_row stmt_of stmt_row
returned = refl

-- a loop without end spends the turns
spent : outcome (io (s.While (e.Truth true) (s.Block []) nowhere ∷ [])) (input (pos 1 ∷ [])) 100
    ≡ record { trace = []; ending = Out (Frame 0 ((pos 1 ∷ []) ∷ [] ∷ [])) }
unfolding stops conversion.to_signed conversion.floor_modulus conversion.to_bool hidden-the_row-CoreStmt-0 hidden-the_row-CoreStmt-1 hidden-the_row-CoreExpr-0 hidden-the_row-CoreExpr-1 hidden expr_of expr_row stmt_of stmt_row
spent = refl

-- an event is told before the turns are spent
abbrev teller : Linked
teller =
    linked (alone (unit (end flows.Output kinds.Event scalars.Int32 ∷ []) [] [] (s.Write 0 (number 9) ∷ s.While (e.Truth true) (s.Block []) nowhere ∷ [])))

told_before : outcome (teller) (silence 1) 100
    ≡ record { trace = item.Event 0 0 (pos 9 ∷ []) ∷ []; ending = Out (Frame 0 ([] ∷ [])) }
unfolding stops conversion.to_signed conversion.floor_modulus conversion.to_bool hidden-the_row-CoreStmt-0 hidden-the_row-CoreStmt-1 hidden-the_row-CoreExpr-0 hidden-the_row-CoreExpr-1 hidden expr_of expr_row stmt_of stmt_row
told_before = refl

-- a processor that copies its input, with a feedback of one frame
abbrev feedback : Linked
feedback =
    linked
    (graph (end flows.Input kinds.Stream scalars.Int32 ∷ end flows.Output kinds.Stream scalars.Int32 ∷ [])
    (unit (end flows.Input kinds.Stream scalars.Int32 ∷ end flows.Output kinds.Stream scalars.Int32 ∷ []) [] [] (loop (s.Write 1 (e.Input 0) ∷ s.Advance ∷ []) ∷ []) ∷ [])
    (link 0 0 1 0 None ∷ link 1 1 1 0 (Some (pos 1)) ∷ link 1 1 0 1 None ∷ []))

fed_back : outcome (feedback) (input (pos 1 ∷ pos 1 ∷ pos 1 ∷ [])) 1000
    ≡ record { trace = item.Frame 0 (pos 1 ∷ []) ∷ item.Frame 1 (pos 2 ∷ []) ∷ item.Frame 2 (pos 3 ∷ []) ∷ []; ending = Ended }
unfolding stops conversion.to_signed conversion.floor_modulus conversion.to_bool hidden-the_row-CoreStmt-0 hidden-the_row-CoreStmt-1 hidden-the_row-CoreExpr-0 hidden-the_row-CoreExpr-1 hidden expr_of expr_row stmt_of stmt_row
fed_back = refl

-- events are delivered before the turn of the leaf, whose inputs are those of its last turn
abbrev sender : CoreUnit
sender = unit (end flows.Output kinds.Event scalars.Int32 ∷ []) [] [] (loop (s.Write 0 (number 1) ∷ s.Advance ∷ []) ∷ [])

abbrev hearer : CoreUnit
hearer =
    record (unit (end flows.Input kinds.Stream scalars.Int32 ∷ end flows.Input kinds.Event scalars.Int32 ∷ end flows.Output kinds.Stream scalars.Int32 ∷ []) []
    (local scalars.Int32 (home.Handler 0) ∷ [])
    (loop (s.Write 2 (e.Binary Multiply scalars.Int32 (number 10) (e.Input 0)) ∷ s.Advance ∷ []) ∷ [])) {
      handlers = record { end = 1; param = var scalars.Int32 None; first = 0; body = s.Block (s.Write 2 (e.Input 0) ∷ []) } ∷ [];
    }

abbrev event_first : Linked
event_first =
    linked
    (graph (end flows.Input kinds.Stream scalars.Int32 ∷ end flows.Output kinds.Stream scalars.Int32 ∷ []) (sender ∷ hearer ∷ [])
    (link 1 0 2 1 None ∷ link 0 0 2 0 None ∷ link 2 2 0 1 None ∷ []))

handled_first : outcome (event_first) (input (pos 1 ∷ pos 2 ∷ pos 3 ∷ [])) 1000
    ≡ record { trace = item.Frame 0 (pos 10 ∷ []) ∷ item.Frame 1 (pos 21 ∷ []) ∷ item.Frame 2 (pos 32 ∷ []) ∷ []; ending = Ended }
unfolding stops conversion.to_signed conversion.floor_modulus conversion.to_bool hidden-the_row-CoreStmt-0 hidden-the_row-CoreStmt-1 hidden-the_row-CoreExpr-0 hidden-the_row-CoreExpr-1 hidden expr_of expr_row stmt_of stmt_row
handled_first = refl

-- with a factor of 3 the last of three inner frames is heard
abbrev counting : Linked
counting =
    linked
    (graph (end flows.Output kinds.Stream scalars.Int32 ∷ [])
    (record (unit (end flows.Output kinds.Stream scalars.Int32 ∷ []) (var scalars.Int32 None ∷ []) []
    (loop (s.Update (e.Variable 0) Add scalars.Int32 (number 1) ∷ s.Write 0 (e.Variable 0) ∷ s.Advance ∷ []) ∷ [])) { factor = 3 } ∷ [])
    (link 1 0 0 0 None ∷ []))

oversampled : outcome (counting) (silence 3) 1000
    ≡ record { trace = item.Frame 0 (pos 3 ∷ []) ∷ item.Frame 1 (pos 6 ∷ []) ∷ item.Frame 2 (pos 9 ∷ []) ∷ []; ending = Ended }
unfolding stops conversion.to_signed conversion.floor_modulus conversion.to_bool hidden-the_row-CoreStmt-0 hidden-the_row-CoreStmt-1 hidden-the_row-CoreExpr-0 hidden-the_row-CoreExpr-1 hidden expr_of expr_row stmt_of stmt_row
oversampled = refl
