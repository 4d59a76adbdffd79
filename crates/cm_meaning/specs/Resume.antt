-- What statements do, from one suspension to the next: docs/LANGUAGE.md, "Statements", "Loops" and "advance".
use Rattle.std.specs.Prelude.{ℕ, zero, suc, Bool, true, false, if◌then◌else◌, List, [], ◌∷◌, ◌++◌, Option, Some, None, ℤ, pos, neg_ℤ, ◌+ℤ◌, int_lt}
use Rattle.cm_base.specs.declared.place.Place.{Place}
use Rattle.cm_base.specs.declared.host.Scalar.TheVariants as kind
use Rattle.cm_tree.specs.declared.path.Word.{Word}
use Rattle.cm_tree.specs.declared.expr.Expr.{Expr}
use Rattle.cm_tree.specs.declared.type_expr.TypeExpr.{TypeExpr}
use Rattle.cm_tree.specs.declared.simple.Simple.{Simple}
use Rattle.cm_tree.specs.declared.stmt.Stmt.{Stmt, Row_of-Stmt, end_of-Stmt, more_of-Stmt}
use Rattle.cm_tree.specs.declared.stmt.Stmt.TheVariants as x
use Rattle.cm_meaning.specs.Declared.{Declared}
use Rattle.cm_meaning.specs.Scopes.{Around, scoped, looped, find_word}
use Rattle.cm_meaning.specs.BodySites.{after as behind, after_start, counter}
use Rattle.cm_meaning.specs.Types.{CmType, Single, Number}
use Rattle.cm_meaning.specs.Conversions.{Valued}
use Rattle.cm_meaning.specs.Constants.{type_of_expr}
use Rattle.cm_meaning.specs.Stores.{or_missing, number_in, zero_in, held_at, changed, with_scope, without_scope}
use Rattle.cm_meaning.specs.World.{World, Test, Always, Holds, Down, Next, Loop, Todo, Do, Again, Leave, store_at}
use Rattle.cm_meaning.specs.Acts.{Act, Done, done, andthen, after, gives, look, none_left, begin}
use Rattle.cm_meaning.specs.Eval.{Hooks, eval, holds}
use Rattle.cm_meaning.specs.Performs.{change_store, put, put_locals, perform, start}

-- ---- how a statement ends

-- how a statement hands on: to what follows it, or past it
pub data Way : Type 0 where
  On : Way
  Broke : Way
  Continued : Way
  Returned : (value : Option Valued) → Way

-- a statement is done, or pauses with a rest
pub data Ending : Type 0 where
  Goes : (way : Way) → Ending
  Pauses : (rest : List Todo) → Ending

-- what follows; where a statement pauses, this is put behind its rest
abbrev pub next : List Todo → (Way → Act Ending) → Ending → Act Ending
next rest go (Goes way) = go way
next rest go (Pauses more) = gives (Pauses (more ++ rest))

-- the next statement, which `break`, `continue` and `return` drop
abbrev pub on : Act Ending → Way → Act Ending
on go On = go
on go Broke = gives (Goes Broke)
on go Continued = gives (Goes Continued)
on go (Returned value) = gives (Goes (Returned value))

-- what follows the body of a loop, which `continue` comes to and `break` ends
abbrev pub round_end : Act Ending → Way → Act Ending
round_end go On = go
round_end go Broke = gives (Goes On)
round_end go Continued = go
round_end go (Returned value) = gives (Goes (Returned value))

abbrev pub go_on : Act Done → Act Ending
go_on act = after act (gives (Goes On))

-- ---- scopes

-- what comes to the end of a scope drops it, and what pauses there is to drop it
abbrev pub leave : Hooks → Ending → Act Ending
leave h (Goes way) = after (change_store h without_scope) (gives (Goes way))
leave h (Pauses rest) = gives (Pauses (rest ++ Leave ∷ []))

abbrev pub in_scope : Hooks → Act Ending → Act Ending
in_scope h act = after (change_store h with_scope) (andthen act (leave h))

-- ---- loops

-- the third part of a `for`
abbrev pub third : Option Simple → Around → Hooks → Act Done
third None r h = gives done
third (Some a) r h = perform a r h

abbrev pub held : Hooks → Place → World → Valued
held h p w = or_missing (held_at p (store_at h.leaf w))

abbrev pub count_of_wrap : CmType → ℕ
count_of_wrap (Single (kind.Wrap n)) = n
count_of_wrap _ = 0

-- whether a `wrap` has a further value
abbrev pub has_next : Valued → Bool
has_next v = int_lt (number_in v +ℤ pos 1) (pos (count_of_wrap v.ty))

abbrev pub is_positive : Valued → Bool
is_positive v = int_lt (pos 0) (number_in v)

abbrev pub tested : Test → Around → Hooks → Act Bool
tested Always r h = gives true
tested (Holds a) r h = holds a r h
tested (Down p) r h = look (λ w. is_positive (held h p w))
tested (Next p) r h = look (λ w. has_next (held h p w))

abbrev pub moved : ℤ → Valued → Valued
moved by v = record v { value = Number (number_in v +ℤ by) }

-- what is done first in a body that is begun
abbrev pub entered : Test → Hooks → Act Done
entered Always h = gives done
entered (Holds a) h = gives done
entered (Down p) h = change_store h (changed p (moved (neg_ℤ (pos 1))))
entered (Next p) h = change_store h (changed p (moved (pos 1)))

-- A loop from its test on, which comes at most so many times: once more than there are turns. Each body that is begun costs a
-- turn.
abbrev pub rounds : ℕ → Loop → Hooks → (body : Act Ending) → Act Ending
rounds zero loop h body = none_left
rounds (suc most) loop h body =
    andthen (tested loop.test loop.around h)
    (λ more.
    if more
    then begin (after (entered loop.test h) (andthen body (next (Again loop ∷ []) (round_end (after (third loop.third loop.around h) (rounds most loop h body))))))
    else gives (Goes On))

abbrev pub repeat : Loop → Hooks → (body : Act Ending) → Act Ending
repeat loop h body world turns = rounds (suc turns) loop h body world turns

-- a loop whose first body is begun without a test
abbrev pub begun_then : Loop → Hooks → (body : Act Ending) → Act Ending
begun_then loop h body = begin (andthen body (next (Again loop ∷ []) (round_end (repeat loop h body))))

-- a loop without a head of its own
abbrev pub bare : Around → Test → Stmt → Loop
bare r test a = record { around = r; test = test; third = None; inside = scoped (looped r) []; body = a }

-- for (wrap<4> i)
abbrev pub each : Around → TypeExpr → Word → Stmt → Loop
each r ty w a = record { around = r; test = Next w.place; third = None; inside = scoped (scoped (looped r) (counter r ty w ∷ [])) []; body = a }

abbrev pub test_of : Option Expr → Test
test_of None = Always
test_of (Some a) = Holds a

-- a `for` of three parts, where `r` is what is round its test
abbrev pub of_parts : Around → Option Expr → Option Simple → Stmt → Loop
of_parts r c n a = record { around = r; test = test_of c; third = n; inside = scoped (looped r) []; body = a }

-- ---- statements

-- the statements of a block that are left
unfoldable pub todos : {n : _} → Row_of-Stmt n → Around → List Todo
todos end_of-Stmt r = []
todos (more_of-Stmt a others) r = Do r a ∷ todos others (behind r a)

abbrev pub answered : Option Expr → Around → Hooks → Act Ending
answered None r h = gives (Goes (Returned None))
answered (Some a) r h = andthen (eval a r h) (λ v. gives (Goes (Returned (Some v))))

abbrev pub written : Option Declared → Valued → Hooks → Act Done
written None v h = gives done
written (Some x) v h = h.write x v

-- An arm of an `if` and a body of a loop have a scope of their own. So have a `for`, and a `loop` with a count, which is kept
-- there under the loop's place.
unfoldable mutual
  pub exec : Stmt → Around → Hooks → Act Ending
  exec (x.Block' p sh all) r h = in_scope h (exec_row all (scoped r []) h)
  exec (x.Empty p) r h = gives (Goes On)
  exec (x.Local a) r h = go_on (put_locals a r h)
  exec (x.Simple a) r h = go_on (perform a r h)
  exec (x.Assert a) r h = gives (Goes On)
  exec (x.If' p c sh (more_of-Stmt a end_of-Stmt)) r h =
      andthen (holds c r h) (λ test. if test then in_scope h (exec a (scoped r []) h) else gives (Goes On))
  exec (x.IfElse' p c sh (more_of-Stmt a end_of-Stmt) si (more_of-Stmt b end_of-Stmt)) r h =
      andthen (holds c r h) (λ test. if test then in_scope h (exec a (scoped r []) h) else in_scope h (exec b (scoped r []) h))
  exec (x.Loop' p None sh (more_of-Stmt a end_of-Stmt)) r h = repeat (bare r Always a) h (in_scope h (exec a (scoped (looped r) []) h))
  exec (x.Loop' p (Some c) sh (more_of-Stmt a end_of-Stmt)) r h =
      andthen (eval c r h) (λ v. in_scope h (after (put h p v) (repeat (bare r (Down p) a) h (in_scope h (exec a (scoped (looped r) []) h)))))
  exec (x.While' p c sh (more_of-Stmt a end_of-Stmt)) r h = repeat (bare r (Holds c) a) h (in_scope h (exec a (scoped (looped r) []) h))
  exec (x.ForType' p ty w sh (more_of-Stmt a end_of-Stmt)) r h =
      in_scope h (after (put h w.place (zero_in (type_of_expr r h.known.look ty)))
      (begun_then (each r ty w a) h (in_scope h (exec a (scoped (scoped (looped r) (counter r ty w ∷ [])) []) h))))
  exec (x.For' p s c n sh (more_of-Stmt a end_of-Stmt)) r h =
      in_scope h (after (start s (scoped r []) h)
      (repeat (of_parts (after_start (scoped r []) s) c n a) h (in_scope h (exec a (scoped (looped (after_start (scoped r []) s)) []) h))))
  exec (x.Break p) r h = gives (Goes Broke)
  exec (x.Continue p) r h = gives (Goes Continued)
  exec (x.Return p v) r h = answered v r h
  exec (x.Advance p) r h = gives (Pauses [])
  exec (x.Write w a) r h = andthen (eval a r h) (λ v. go_on (written (find_word r w) v h))

  pub exec_row : {n : _} → Row_of-Stmt n → Around → Hooks → Act Ending
  exec_row end_of-Stmt r h = gives (Goes On)
  exec_row (more_of-Stmt a others) r h = andthen (exec a r h) (next (todos others (behind r a)) (on (exec_row others (behind r a) h)))

-- ---- rests

-- the body of a loop, in a scope of its own
abbrev pub round : Loop → Hooks → Act Ending
round loop h = in_scope h (exec loop.body loop.inside h)

-- what is first in a rest and is come to in a way: a loop goes on with its third part and its test, and a mark drops a scope
abbrev pub begun : Todo → Way → Hooks → Act Ending
begun (Do r a) way h = exec a r h
begun (Again loop) way h = after (third loop.third loop.around h) (repeat loop h (round loop h))
begun Leave way h = after (change_store h without_scope) (gives (Goes way))

-- `break`, `continue` and `return` drop statements, but no mark; `continue` comes to the loop, and `break` ends it
abbrev pub taken : Todo → Way → Bool
taken (Do r a) On = true
taken (Do r a) _ = false
taken (Again loop) On = true
taken (Again loop) Continued = true
taken (Again loop) _ = false
taken Leave _ = true

abbrev pub dropped : Todo → Way → Way
dropped (Again loop) Broke = On
dropped _ way = way

-- a rest that is come to in one of the ways; an empty rest pauses and stays empty
abbrev pub resume : List Todo → Hooks → Way → Act Ending
resume [] h way = gives (Pauses [])
resume (todo ∷ rest) h way =
    if taken todo way then andthen (begun todo way h) (next rest (resume rest h)) else resume rest h (dropped todo way)
