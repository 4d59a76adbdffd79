-- What the rest of a main does, by rules, one for each case of its first statement: docs/LANGUAGE.md, "Statements", "Loops" and
-- "advance". `Resume` computes what these rules say.
use Rattle.std.specs.Prelude.{ℕ, zero, suc, ◌≡◌, true, false, List, [], ◌∷◌, ◌++◌, Option, Some, None}
use Rattle.cm_base.specs.declared.place.Place.{Place}
use Rattle.cm_tree.specs.declared.path.Word.{Word}
use Rattle.cm_tree.specs.declared.expr.Expr.{Expr}
use Rattle.cm_tree.specs.declared.type_expr.TypeExpr.{TypeExpr}
use Rattle.cm_tree.specs.declared.simple.Local.{Local}
use Rattle.cm_tree.specs.declared.simple.Simple.{Simple}
use Rattle.cm_tree.specs.declared.stmt.Assert.{Assert}
use Rattle.cm_tree.specs.declared.stmt.Start.{Start}
use Rattle.cm_tree.specs.declared.stmt.Stmt.{Stmt}
use Rattle.cm_tree.specs.declared.stmt.Stmt.TheVariants as x
use Rattle.cm_meaning.specs.Scopes.{Around, scoped, find_word}
use Rattle.cm_meaning.specs.BodySites.{after_start}
use Rattle.cm_meaning.specs.Conversions.{Valued}
use Rattle.cm_meaning.specs.Constants.{type_of_expr}
use Rattle.cm_meaning.specs.Stores.{zero_in, with_scope, without_scope, with_cell, Store}
use Rattle.cm_meaning.specs.World.{World, Always, Holds, Down, Loop, Todo, Do, Again, Leave, store_at, with_store}
use Rattle.cm_meaning.specs.Acts.{Given, Gives, Short, done}
use Rattle.cm_meaning.specs.Eval.{Hooks, eval, holds}
use Rattle.cm_meaning.specs.Performs.{put_locals, perform, start}
use Rattle.cm_meaning.specs.Resume.{Way, On, Broke, Continued, Returned, Ending, Pauses, third, tested, entered, bare, each, of_parts, written}
use Rattle.cm_meaning.specs.ExecEquations.{todos_of}

abbrev pub in_store : Hooks → (Store → Store) → World → World
in_store h step w = with_store h.leaf (step (store_at h.leaf w)) w

-- a scope begins, or ends
abbrev pub opened : Hooks → World → World
opened h w = in_store h with_scope w

abbrev pub closed : Hooks → World → World
closed h w = in_store h without_scope w

-- what is in front of a rest where the body of a loop is begun
abbrev pub with_body : Loop → List Todo → List Todo
with_body loop rest = Do loop.inside loop.body ∷ Leave ∷ Again loop ∷ rest

mutual
  -- a rest that is come to in a way, in a world and with so many turns, comes to this
  pub data Resumes (h : Hooks) : List Todo → Way → World → ℕ → Given Ending → Type 0 where
    -- an empty rest pauses and stays empty
    empty : (way : Way) → (w : World) → (n : ℕ) → Resumes h [] way w n (Gives (Pauses []) w n)
    -- `advance` pauses, and the rest is what follows it
    advance : (p : Place) → (r : Around) → (rest : List Todo) → (w : World) → (n : ℕ) → Resumes h (Do r (x.Advance p) ∷ rest) On w n (Gives (Pauses rest) w n)
    -- a block puts its statements in front, with a mark that drops its scope
    block : (p : Place) → (all : List Stmt) → (r : Around) → (rest : List Todo) → (w : World) → (n : ℕ) → (to : Given Ending)
        → Resumes h (todos_of all (scoped r []) ++ Leave ∷ rest) On (opened h w) n to → Resumes h (Do r (x.Block p all) ∷ rest) On w n to
    mark : (rest : List Todo) → (way : Way) → (w : World) → (n : ℕ) → (to : Given Ending) → Resumes h rest way (closed h w) n to → Resumes h (Leave ∷ rest) way w n to
    -- statements that neither branch nor pause
    nothing : (p : Place) → (r : Around) → (rest : List Todo) → (w : World) → (n : ℕ) → (to : Given Ending)
        → Resumes h rest On w n to → Resumes h (Do r (x.Empty p) ∷ rest) On w n to
    asserted : (a : Assert) → (r : Around) → (rest : List Todo) → (w : World) → (n : ℕ) → (to : Given Ending)
        → Resumes h rest On w n to → Resumes h (Do r (x.Assert a) ∷ rest) On w n to
    locals : (a : Local) → (r : Around) → (rest : List Todo) → (w v : World) → (n m : ℕ) → (to : Given Ending)
        → put_locals a r h w n ≡ Gives done v m → Resumes h rest On v m to → Resumes h (Do r (x.Local a) ∷ rest) On w n to
    locals_out : (a : Local) → (r : Around) → (rest : List Todo) → (w v : World) → (n : ℕ)
        → put_locals a r h w n ≡ Short v → Resumes h (Do r (x.Local a) ∷ rest) On w n (Short v)
    performed : (a : Simple) → (r : Around) → (rest : List Todo) → (w v : World) → (n m : ℕ) → (to : Given Ending)
        → perform a r h w n ≡ Gives done v m → Resumes h rest On v m to → Resumes h (Do r (x.Simple a) ∷ rest) On w n to
    performed_out : (a : Simple) → (r : Around) → (rest : List Todo) → (w v : World) → (n : ℕ)
        → perform a r h w n ≡ Short v → Resumes h (Do r (x.Simple a) ∷ rest) On w n (Short v)
    -- an `if` puts one arm in front, or nothing
    if_true : (p : Place) → (e : Expr) → (a : Stmt) → (r : Around) → (rest : List Todo) → (w v : World) → (n m : ℕ) → (to : Given Ending)
        → holds e r h w n ≡ Gives true v m → Resumes h (Do (scoped r []) a ∷ Leave ∷ rest) On (opened h v) m to → Resumes h (Do r (x.If p e a) ∷ rest) On w n to
    if_false : (p : Place) → (e : Expr) → (a : Stmt) → (r : Around) → (rest : List Todo) → (w v : World) → (n m : ℕ) → (to : Given Ending)
        → holds e r h w n ≡ Gives false v m → Resumes h rest On v m to → Resumes h (Do r (x.If p e a) ∷ rest) On w n to
    if_out : (p : Place) → (e : Expr) → (a : Stmt) → (r : Around) → (rest : List Todo) → (w v : World) → (n : ℕ)
        → holds e r h w n ≡ Short v → Resumes h (Do r (x.If p e a) ∷ rest) On w n (Short v)
    else_true : (p : Place) → (e : Expr) → (a b : Stmt) → (r : Around) → (rest : List Todo) → (w v : World) → (n m : ℕ) → (to : Given Ending)
        → holds e r h w n ≡ Gives true v m → Resumes h (Do (scoped r []) a ∷ Leave ∷ rest) On (opened h v) m to → Resumes h (Do r (x.IfElse p e a b) ∷ rest) On w n to
    else_false : (p : Place) → (e : Expr) → (a b : Stmt) → (r : Around) → (rest : List Todo) → (w v : World) → (n m : ℕ) → (to : Given Ending)
        → holds e r h w n ≡ Gives false v m → Resumes h (Do (scoped r []) b ∷ Leave ∷ rest) On (opened h v) m to → Resumes h (Do r (x.IfElse p e a b) ∷ rest) On w n to
    else_out : (p : Place) → (e : Expr) → (a b : Stmt) → (r : Around) → (rest : List Todo) → (w v : World) → (n : ℕ)
        → holds e r h w n ≡ Short v → Resumes h (Do r (x.IfElse p e a b) ∷ rest) On w n (Short v)
    -- loops come to their test; a `for` has a scope of its own, and so has a count
    loops : (p : Place) → (a : Stmt) → (r : Around) → (rest : List Todo) → (w : World) → (n : ℕ) → (to : Given Ending)
        → Rounds h (bare r Always a) rest w n to → Resumes h (Do r (x.Loop p None a) ∷ rest) On w n to
    while : (p : Place) → (e : Expr) → (a : Stmt) → (r : Around) → (rest : List Todo) → (w : World) → (n : ℕ) → (to : Given Ending)
        → Rounds h (bare r (Holds e) a) rest w n to → Resumes h (Do r (x.While p e a) ∷ rest) On w n to
    counted : (p : Place) → (e : Expr) → (a : Stmt) → (r : Around) → (rest : List Todo) → (w v : World) → (n m : ℕ) → (count : Valued) → (to : Given Ending)
        → eval e r h w n ≡ Gives count v m → Rounds h (bare r (Down p) a) (Leave ∷ rest) (in_store h (with_cell p count) (opened h v)) m to
        → Resumes h (Do r (x.Loop p (Some e) a) ∷ rest) On w n to
    counted_out : (p : Place) → (e : Expr) → (a : Stmt) → (r : Around) → (rest : List Todo) → (w v : World) → (n : ℕ)
        → eval e r h w n ≡ Short v → Resumes h (Do r (x.Loop p (Some e) a) ∷ rest) On w n (Short v)
    -- the first body of a `for` over a `wrap` is begun with 0 and without a test
    values : (p : Place) → (ty : TypeExpr) → (name : Word) → (a : Stmt) → (r : Around) → (rest : List Todo) → (w : World) → (n : ℕ) → (to : Given Ending)
        → Resumes h (with_body (each r ty name a) (Leave ∷ rest)) On (opened h (in_store h (with_cell name.place (zero_in (type_of_expr r h.known.look ty))) (opened h w))) n to
        → Resumes h (Do r (x.ForType p ty name a) ∷ rest) On w (suc n) to
    values_out : (p : Place) → (ty : TypeExpr) → (name : Word) → (a : Stmt) → (r : Around) → (rest : List Todo) → (w : World)
        → Resumes h (Do r (x.ForType p ty name a) ∷ rest) On w zero (Short (in_store h (with_cell name.place (zero_in (type_of_expr r h.known.look ty))) (opened h w)))
    parts : (p : Place) → (s : Option Start) → (e : Option Expr) → (third : Option Simple) → (a : Stmt) → (r : Around) → (rest : List Todo) → (w v : World) → (n m : ℕ) → (to : Given Ending)
        → start s (scoped r []) h (opened h w) n ≡ Gives done v m → Rounds h (of_parts (after_start (scoped r []) s) e third a) (Leave ∷ rest) v m to
        → Resumes h (Do r (x.For p s e third a) ∷ rest) On w n to
    parts_out : (p : Place) → (s : Option Start) → (e : Option Expr) → (third : Option Simple) → (a : Stmt) → (r : Around) → (rest : List Todo) → (w v : World) → (n : ℕ)
        → start s (scoped r []) h (opened h w) n ≡ Short v → Resumes h (Do r (x.For p s e third a) ∷ rest) On w n (Short v)
    -- where the body of a loop was begun, its third part comes first, and then its test
    remainder : (loop : Loop) → (rest : List Todo) → (w v : World) → (n m : ℕ) → (to : Given Ending)
        → third loop.third loop.around h w n ≡ Gives done v m → Rounds h loop rest v m to → Resumes h (Again loop ∷ rest) On w n to
    remainder_out : (loop : Loop) → (rest : List Todo) → (w v : World) → (n : ℕ)
        → third loop.third loop.around h w n ≡ Short v → Resumes h (Again loop ∷ rest) On w n (Short v)
    -- `break` drops the rest through the nearest loop, `continue` up to its remainder, and `return` all; no mark is dropped
    break : (p : Place) → (r : Around) → (rest : List Todo) → (w : World) → (n : ℕ) → (to : Given Ending)
        → Resumes h rest Broke w n to → Resumes h (Do r (x.Break p) ∷ rest) On w n to
    continue : (p : Place) → (r : Around) → (rest : List Todo) → (w : World) → (n : ℕ) → (to : Given Ending)
        → Resumes h rest Continued w n to → Resumes h (Do r (x.Continue p) ∷ rest) On w n to
    return : (p : Place) → (r : Around) → (rest : List Todo) → (w : World) → (n : ℕ) → (to : Given Ending)
        → Resumes h rest (Returned None) w n to → Resumes h (Do r (x.Return p None) ∷ rest) On w n to
    answer : (p : Place) → (e : Expr) → (r : Around) → (rest : List Todo) → (w v : World) → (n m : ℕ) → (value : Valued) → (to : Given Ending)
        → eval e r h w n ≡ Gives value v m → Resumes h rest (Returned (Some value)) v m to → Resumes h (Do r (x.Return p (Some e)) ∷ rest) On w n to
    answer_out : (p : Place) → (e : Expr) → (r : Around) → (rest : List Todo) → (w v : World) → (n : ℕ)
        → eval e r h w n ≡ Short v → Resumes h (Do r (x.Return p (Some e)) ∷ rest) On w n (Short v)
    drop_broke : (s : Stmt) → (r : Around) → (rest : List Todo) → (w : World) → (n : ℕ) → (to : Given Ending) → Resumes h rest Broke w n to → Resumes h (Do r s ∷ rest) Broke w n to
    drop_continued : (s : Stmt) → (r : Around) → (rest : List Todo) → (w : World) → (n : ℕ) → (to : Given Ending) → Resumes h rest Continued w n to → Resumes h (Do r s ∷ rest) Continued w n to
    drop_returned : (s : Stmt) → (r : Around) → (rest : List Todo) → (v : Option Valued) → (w : World) → (n : ℕ) → (to : Given Ending)
        → Resumes h rest (Returned v) w n to → Resumes h (Do r s ∷ rest) (Returned v) w n to
    loop_broke : (loop : Loop) → (rest : List Todo) → (w : World) → (n : ℕ) → (to : Given Ending) → Resumes h rest On w n to → Resumes h (Again loop ∷ rest) Broke w n to
    loop_continued : (loop : Loop) → (rest : List Todo) → (w : World) → (n : ℕ) → (to : Given Ending) → Resumes h (Again loop ∷ rest) On w n to → Resumes h (Again loop ∷ rest) Continued w n to
    loop_returned : (loop : Loop) → (rest : List Todo) → (v : Option Valued) → (w : World) → (n : ℕ) → (to : Given Ending)
        → Resumes h rest (Returned v) w n to → Resumes h (Again loop ∷ rest) (Returned v) w n to
    -- a write to an output
    write : (name : Word) → (e : Expr) → (r : Around) → (rest : List Todo) → (w v u : World) → (n m k : ℕ) → (value : Valued) → (to : Given Ending)
        → eval e r h w n ≡ Gives value v m → written (find_word r name) value h v m ≡ Gives done u k → Resumes h rest On u k to → Resumes h (Do r (x.Write name e) ∷ rest) On w n to
    write_out : (name : Word) → (e : Expr) → (r : Around) → (rest : List Todo) → (w v u : World) → (n m : ℕ) → (value : Valued)
        → eval e r h w n ≡ Gives value v m → written (find_word r name) value h v m ≡ Short u → Resumes h (Do r (x.Write name e) ∷ rest) On w n (Short u)
    value_out : (name : Word) → (e : Expr) → (r : Around) → (rest : List Todo) → (w v : World) → (n : ℕ)
        → eval e r h w n ≡ Short v → Resumes h (Do r (x.Write name e) ∷ rest) On w n (Short v)

  -- a loop from its test on: each body that is begun costs a turn, and with no turn left there is no more
  pub data Rounds (h : Hooks) : Loop → List Todo → World → ℕ → Given Ending → Type 0 where
    begins : (loop : Loop) → (rest : List Todo) → (w v u : World) → (n m k : ℕ) → (to : Given Ending)
        → tested loop.test loop.around h w n ≡ Gives true v (suc m) → entered loop.test h v m ≡ Gives done u k
        → Resumes h (with_body loop rest) On (opened h u) k to → Rounds h loop rest w n to
    none_left : (loop : Loop) → (rest : List Todo) → (w v : World) → (n : ℕ) → tested loop.test loop.around h w n ≡ Gives true v zero → Rounds h loop rest w n (Short v)
    ends : (loop : Loop) → (rest : List Todo) → (w v : World) → (n m : ℕ) → (to : Given Ending)
        → tested loop.test loop.around h w n ≡ Gives false v m → Resumes h rest On v m to → Rounds h loop rest w n to
    test_out : (loop : Loop) → (rest : List Todo) → (w v : World) → (n : ℕ) → tested loop.test loop.around h w n ≡ Short v → Rounds h loop rest w n (Short v)
