-- Code that is typed, and code that isn't, by computation.
use Rattle.std.proofs.Common.{◌≡◌, true, false, [], ◌∷◌, None, refl}
use Rattle.std.proofs.lemmas.Bool.{false≢true}
use Rattle.cm_base.specs.declared.host.Flow.TheVariants as flows
use Rattle.cm_base.specs.declared.host.Kind.TheVariants as carries
use Rattle.cm_base.specs.declared.host.Scalar.TheVariants as kinds
use Rattle.cm_core.specs.declared.operator.BinaryOp.TheVariants.{Divide}
use Rattle.cm_core.specs.declared.unit.Unit.{Unit as CoreUnit}
use Rattle.cm_core.specs.declared.unit.Home.TheVariants as home
use Rattle.cm_core.specs.Code.{Expr, Variable, Input, Binary, Stmt, Block, Loop, Write, Break, Advance, End, More}
use Rattle.cm_core.specs.Typing.{IsTyped}
use Rattle.cm_core.specs.Bodies.{IsStmt, returns, nesting}
use Rattle.cm_core.specs.Lawful.{names_in, standing}
use Rattle.cm_core.proofs.Build.{end, unit, local}

-- a processor with a stream input and a stream output, a local of main and a local of `init`
abbrev copying : CoreUnit
copying =
    unit (end flows.Input carries.Stream kinds.Int32 ∷ end flows.Output carries.Stream kinds.Int32 ∷ []) []
    (local kinds.Int32 home.Init ∷ local kinds.Int32 home.Main ∷ []) []

abbrev two : Stmt → Stmt → Stmt
two a b = Block (More a (More b End))

abbrev divided : Expr → Expr
divided by = Binary Divide kinds.Int32 (Input 0) by

copies : IsStmt (standing [] copying home.Main 0 None) (Loop (two (Write 1 (Input 0)) Advance))
copies = ((refl, (refl, refl), (refl, refl)), (refl, tt))

-- only main suspends
init_suspends : ¬ IsStmt (standing [] copying home.Init 0 None) Advance
init_suspends wrong = false≢true wrong

-- `break` stands in a loop
stray_break : ¬ IsStmt (standing [] copying home.Main 0 None) Break
stray_break wrong = false≢true wrong

-- a local of `init` isn't one of main, which has its own
other_local : ¬ IsTyped (names_in [] copying home.Main 0) (Variable 0)
other_local wrong = false≢true wrong

own_local : IsTyped (names_in [] copying home.Main 0) (Variable 1)
own_local = refl

-- an output isn't read
output_read : ¬ IsTyped (names_in [] copying home.Main 0) (Input 1)
output_read wrong = false≢true wrong.0

-- a divisor is a constant
not_divided : ¬ IsTyped (names_in [] copying home.Main 0) (divided (Input 0))
not_divided wrong = false≢true (wrong.5 refl).0

-- a loop with a `break` of its own doesn't surely return, and one inside it doesn't count
may_end : returns (Block (More (Loop Break) End)) ≡ false
may_end = refl

never_ends : returns (Block (More (Loop (Loop Break)) End)) ≡ true
never_ends = refl

nested : nesting (Loop (two (Write 1 (Input 0)) Advance)) ≡ 3
nested = refl
