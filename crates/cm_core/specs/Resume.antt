-- What statements do, from one suspension to the next: docs/LANGUAGE.md, "Statements", "Loops" and "advance".
use Rattle.std.specs.Prelude.{ℕ, zero, suc, Bool, true, false, if◌then◌else◌, List, [], ◌∷◌, ◌++◌, ℤ, pos, ◌+ℤ◌, ◌-ℤ◌, int_lt}
use Rattle.cm_base.specs.declared.host.Scalar.{Scalar}
use Rattle.cm_base.specs.declared.host.Scalar.TheVariants as kinds
use Rattle.cm_scalar.specs.Scalars.{converted}
use Rattle.cm_core.specs.declared.core_type.BaseType.{BaseType}
use Rattle.cm_core.specs.declared.core_type.BaseType.TheVariants as base
use Rattle.cm_core.specs.declared.operator.BinaryOp.{BinaryOp}
use Rattle.cm_core.specs.Code.{Expr, Variable, Test, Always, Holds, Down, Next, Stmt, Nothing, Empty, Block, Locals, Cleared, Started, Assign, Update, Count, Perform, If, Loop, Times, While, Each, For, Break, Continue, Return, Answer, Advance, Write, Stmts, End, More}
use Rattle.cm_core.specs.Types.{zero_of, variable_type}
use Rattle.cm_core.specs.Operators.{binary, arithmetic, count_op}
use Rattle.cm_core.specs.World.{World, Todo, Do, Again, variable_at, put, part_at, with_part}
use Rattle.cm_core.specs.Acts.{Act, Done, andthen, after, gives, look, change, none_left, begin}
use Rattle.cm_core.specs.Eval.{Hooks, Root, OfVariable, Part, number_of, type_in, root_value, found, eval, eval_all, holds}

-- ---- how a statement ends

-- how a statement hands on: to what follows it, or past it; the value of a `return` without one has no scalars
pub data Way : Type 0 where
  On : Way
  Broke : Way
  Continued : Way
  Returned : (value : List ℤ) → Way

-- a statement is done, or pauses with a rest
pub data Ending : Type 0 where
  Goes : (way : Way) → Ending
  Pauses : (rest : List Todo) → Ending

-- what follows; where a statement pauses, this is put behind its rest
abbrev pub next : List Todo → (Way → Act Ending) → Ending → Act Ending
next rest go (Goes way) = go way
next rest go (Pauses more) = gives (Pauses (more ++ rest))

-- the next statement, which `break`, `continue` and `return` drop
abbrev pub on : Act Ending → Way → Act Ending
on go On = go
on go Broke = gives (Goes Broke)
on go Continued = gives (Goes Continued)
on go (Returned value) = gives (Goes (Returned value))

-- what follows the body of a loop, which `continue` comes to and `break` ends
abbrev pub round_end : Act Ending → Way → Act Ending
round_end go On = go
round_end go Broke = gives (Goes On)
round_end go Continued = go
round_end go (Returned value) = gives (Goes (Returned value))

abbrev pub go_on : Act Done → Act Ending
go_on act = after act (gives (Goes On))

-- ---- assignments

abbrev pub variable_in : Hooks → ℕ → World → ℤ
variable_in h x w = number_of (variable_at h.leaf x w)

abbrev pub put_in : Hooks → ℕ → List ℤ → Act Done
put_in h x value = change (put h.leaf x value)

-- a variable takes a value; nothing else is assigned
abbrev pub stored : Hooks → Root → List ℤ → World → World
stored h (OfVariable x) value w = put h.leaf x value w
stored h _ value w = w

-- the part of a variable takes a value
abbrev pub put_part : Hooks → Part → List ℤ → World → World
put_part h part value w = stored h part.root (with_part part.start value (root_value h part.root w)) w

abbrev pub assigned : Hooks → Part → List ℤ → Act Done
assigned h part value = change (put_part h part value)

abbrev pub number_in : Hooks → Part → World → ℤ
number_in h part w = number_of (part_at part.start 1 (root_value h part.root w))

abbrev pub kind_of : BaseType → Scalar
kind_of (base.Scalar kind) = kind
kind_of (base.Struct s) = kinds.Int32

-- the kind of a target of one scalar
abbrev pub kind_in : Hooks → Expr → Scalar
kind_in h e = kind_of (type_in h e).base

-- the old value is read last; what the operator gives is converted to the target's kind
abbrev pub updated : Hooks → Expr → BinaryOp → Scalar → Part → ℤ → Act Done
updated h target op kind part right =
    andthen (look (number_in h part)) (λ old. assigned h part (converted (kind_in h target) (binary op kind (converted kind old) right) ∷ []))

-- ---- loops

abbrev pub is_positive : ℤ → Bool
is_positive z = int_lt (pos 0) z

abbrev pub count_of_wrap : Scalar → ℕ
count_of_wrap (kinds.Wrap n) = n
count_of_wrap _ = 0

-- whether the `wrap` has a further value
abbrev pub has_next : Hooks → ℕ → World → Bool
has_next h x w = int_lt (variable_in h x w +ℤ pos 1) (pos (count_of_wrap (kind_in h (Variable x))))

abbrev pub tested : Test → Hooks → Act Bool
tested Always h = gives true
tested (Holds e) h = holds e h
tested (Down x) h = look (λ w. is_positive (variable_in h x w))
tested (Next x) h = look (has_next h x)

-- what is done first in a body that is begun
abbrev pub entered : Test → Hooks → World → World
entered Always h w = w
entered (Holds e) h w = w
entered (Down x) h w = put h.leaf x ((variable_in h x w -ℤ pos 1) ∷ []) w
entered (Next x) h w = put h.leaf x ((variable_in h x w +ℤ pos 1) ∷ []) w

-- A loop from its test on, which comes at most so many times: once more than there are turns. `again` is what is left where
-- the body pauses.
abbrev pub rounds : ℕ → Test → Hooks → (step body : Act Ending) → Todo → Act Ending
rounds zero test h step body again = none_left
rounds (suc most) test h step body again =
    andthen (tested test h)
    (λ more.
    if more
    then begin
    (after (change (entered test h))
    (andthen body (next (again ∷ []) (round_end (andthen step (λ _. rounds most test h step body again))))))
    else gives (Goes On))

abbrev pub repeat : Test → Hooks → (step body : Act Ending) → Todo → Act Ending
repeat test h step body again world turns = rounds (suc turns) test h step body again world turns

-- a loop whose first body is begun without a test
abbrev pub begun_then : Act Ending → Todo → Act Ending → Act Ending
begun_then body again others = begin (andthen body (next (again ∷ []) (round_end others)))

-- ---- statements

-- the statements of a block that are left
abbrev pub all : Stmts → List Todo
all End = []
all (More s ss) = Do s ∷ all ss

abbrev mutual
  pub exec : Stmt → Hooks → Act Ending
  exec Nothing h = gives (Goes On)
  exec Empty h = gives (Goes On)
  exec (Block ss) h = exec_all ss h
  exec (Locals ss) h = exec_all ss h
  exec (Cleared x) h = go_on (put_in h x (zero_of h.structs (variable_type h.unit x)))
  exec (Started x e) h = andthen (eval e h) (λ value. go_on (put_in h x value))
  exec (Assign target e) h = andthen (found target h) (λ part. andthen (eval e h) (λ value. go_on (assigned h part value)))
  exec (Update target op kind e) h =
      andthen (found target h) (λ part. andthen (eval e h) (λ right. go_on (updated h target op kind part (number_of right))))
  exec (Count op target) h = andthen (found target h) (λ part. go_on (updated h target (count_op op) (arithmetic (kind_in h target)) part (pos 1)))
  exec (Perform f es) h = andthen (eval_all es h) (λ values. andthen (h.call f values) (λ _. gives (Goes On)))
  exec (If c a b) h = andthen (holds c h) (λ test. if test then exec a h else exec b h)
  exec (Loop s) h = repeat Always h (gives (Goes On)) (exec s h) (Again Always Nothing s)
  exec (Times x c s) h = andthen (eval c h) (λ count. after (put_in h x count) (repeat (Down x) h (gives (Goes On)) (exec s h) (Again (Down x) Nothing s)))
  exec (While c s) h = repeat (Holds c) h (gives (Goes On)) (exec s h) (Again (Holds c) Nothing s)
  exec (Each x s) h =
      after (put_in h x (pos 0 ∷ []))
      (begun_then (exec s h) (Again (Next x) Nothing s) (repeat (Next x) h (gives (Goes On)) (exec s h) (Again (Next x) Nothing s)))
  exec (For start c step s) h = andthen (exec start h) (λ _. repeat c h (exec step h) (exec s h) (Again c step s))
  exec Break h = gives (Goes Broke)
  exec Continue h = gives (Goes Continued)
  exec Return h = gives (Goes (Returned []))
  exec (Answer e) h = andthen (eval e h) (λ value. gives (Goes (Returned value)))
  exec Advance h = gives (Pauses [])
  exec (Write e value) h = andthen (eval value h) (λ v. go_on (h.write e v))

  pub exec_all : Stmts → Hooks → Act Ending
  exec_all End h = gives (Goes On)
  exec_all (More s ss) h = andthen (exec s h) (next (all ss) (on (exec_all ss h)))

-- ---- rests

-- a loop whose body was begun goes on with what is done after each body, and then with its test
abbrev pub begun : Todo → Hooks → Act Ending
begun (Do s) h = exec s h
begun (Again test step s) h = andthen (exec step h) (λ _. repeat test h (exec step h) (exec s h) (Again test step s))

-- how what was come to in a way is come to: it is done, or dropped, and the next is come to in a way
abbrev pub taken : Todo → Way → Bool
taken (Do s) On = true
taken (Do s) _ = false
taken (Again test step s) On = true
taken (Again test step s) Continued = true
taken (Again test step s) _ = false

abbrev pub dropped : Todo → Way → Way
dropped (Again test step s) Broke = On
dropped _ way = way

-- a rest that is come to in one of the ways; an empty rest pauses and stays empty
abbrev pub resume : List Todo → Hooks → Way → Act Ending
resume [] h way = gives (Pauses [])
resume (todo ∷ rest) h way =
    if taken todo way then andthen (begun todo h) (next rest (resume rest h)) else resume rest h (dropped todo way)
