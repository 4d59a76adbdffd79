-- The rules of a rest always lead to an end, so that they say all that is computed.
use Rattle.std.proofs.Common.{◌≡◌, ℕ, zero, suc, ◌<◌, ◌≤◌, List, [], ◌∷◌, ◌++◌, true, false, Option, Some, None, refl, sym, ap, subst, arith}
use Rattle.cm_base.specs.declared.place.Place.{Place}
use Rattle.cm_tree.specs.declared.path.Word.{Word}
use Rattle.cm_tree.specs.declared.expr.Expr.{Expr}
use Rattle.cm_tree.specs.declared.type_expr.TypeExpr.{TypeExpr}
use Rattle.cm_tree.specs.declared.simple.Local.{Local}
use Rattle.cm_tree.specs.declared.simple.Simple.{Simple}
use Rattle.cm_tree.specs.declared.stmt.Start.{Start}
use Rattle.cm_tree.specs.declared.stmt.Stmt.{Stmt, Row_of-Stmt, end_of-Stmt, more_of-Stmt}
use Rattle.cm_tree.specs.declared.stmt.Stmt.TheVariants as x
use Rattle.cm_tree.specs.declared.stmt.Stmt.TheBlock.{hidden-the_row-Stmt-0, hidden-the_row-Stmt-1}
use denote.Hole.Carrier.{hidden}
use Rattle.cm_meaning.specs.Scopes.{Around, scoped, looped, find_word}
use Rattle.cm_meaning.specs.BodySites.{after as behind, after_start, counter}
use Rattle.cm_meaning.specs.Conversions.{Valued}
use Rattle.cm_meaning.specs.Constants.{type_of_expr}
use Rattle.cm_meaning.specs.Stores.{zero_in, with_cell}
use Rattle.cm_meaning.specs.World.{World, Test, Always, Holds, Down, Next, Loop, Todo, Do, Again, Leave}
use Rattle.cm_meaning.specs.Acts.{Given, Gives, Short, Act, done}
use Rattle.cm_meaning.specs.Eval.{Hooks, eval, holds}
use Rattle.cm_meaning.specs.Performs.{put_locals, perform, start}
use Rattle.cm_meaning.specs.Resume.{Way, On, Broke, Continued, Returned, Ending, Pauses, third, tested, entered, bare, each, of_parts, written, resume}
use Rattle.cm_meaning.specs.ExecEquations.{todos_of}
use Rattle.cm_meaning.specs.Rules.{Resumes, Rounds, in_store, opened, with_body, empty, advance, block, mark, nothing, asserted, locals, locals_out, performed, performed_out, if_true, if_false, if_out, else_true, else_false, else_out, loops, while, counted, counted_out, values, values_out, parts, parts_out, remainder, remainder_out, break, continue, return, answer, answer_out, drop_broke, drop_continued, drop_returned, loop_broke, loop_continued, loop_returned, write, write_out, value_out, begins, none_left, ends, test_out}
use Rattle.cm_meaning.proofs.Steady.{Within, Steady, Calm, steady_eval, steady_holds, steady_locals, steady_perform, steady_start, steady_third, steady_test, steady_written}
use Rattle.cm_meaning.proofs.Sound.{sound}

-- ---- what an act comes to

data Came {A : Type 0} (act : Act A) (w : World) (n : ℕ) : Type 0 where
  to_value : (value : A) → (v : World) → (m : ℕ) → act w n ≡ Gives value v m → m ≤ n → Came act w n
  to_none : (v : World) → act w n ≡ Short v → Came act w n

came : {A : Type 0} (act : Act A) → Steady act → (w : World) (n : ℕ) → Came act w n
came {A} act steady w n = by (act w n) refl (steady.within w n) where
  by : (x : Given A) → act w n ≡ x → Within n x → Came act w n
  by (Gives value v m) e le = to_value value v m e le
  by (Short v) e le = to_none v e

entered_gives : (t : Test) (h : Hooks) (w : World) (n : ℕ) → (u : World) × (entered t h w n ≡ Gives done u n)
entered_gives Always h w n = (w, refl)
entered_gives (Holds a) h w n = (w, refl)
entered_gives (Down p) h w n = (_, refl)
entered_gives (Next p) h w n = (_, refl)

-- ---- blocks as lists

list_of : {n : _} → Row_of-Stmt n → List Stmt
list_of end_of-Stmt = []
list_of (more_of-Stmt a others) = a ∷ list_of others

grown : Stmt → Stmt → Stmt
grown a (x.Block' p sh all) = x.Block' p (tt ∷ sh) (more_of-Stmt a all)
grown a other = other

block_of : (p : Place) (sh : List (Unit {0})) (all : Row_of-Stmt _) → x.Block p (list_of all) ≡ x.Block' p sh all
unfolding hidden-the_row-Stmt-0 hidden-the_row-Stmt-1 hidden list_of grown
block_of p [] end_of-Stmt = refl
block_of p (u ∷ sh) (more_of-Stmt a others) = ap (grown a) (block_of p sh others)

-- ---- rests

abbrev Somewhere : Hooks → List Todo → Way → World → ℕ → Type 0
Somewhere h rest way w n = (to : Given Ending) × Resumes h rest way w n to

-- with at most so many turns
abbrev Total : Hooks → List Todo → ℕ → Type 0
Total h rest n = (way : Way) (w : World) (m : ℕ) → m ≤ n → Somewhere h rest way w m

fewer : (h : Hooks) (rest : List Todo) (n m : ℕ) → m ≤ n → Total h rest n → Total h rest m
fewer h rest n m le all way w k l = all way w k (omega arith)

total_mark : (h : Hooks) (rest : List Todo) (n : ℕ) → Total h rest n → Total h (Leave ∷ rest) n
total_mark h rest n all way w m le = let d = all way _ m le in (d.0, mark rest way w m d.0 d.1)

-- ---- loops

module _ (h : Hooks) (calm : Calm h) (loop : Loop) (body : (rest : List Todo) (n : ℕ) → Total h rest n → Total h (Do loop.inside loop.body ∷ rest) n) where
  abbrev Ends : List Todo → ℕ → Type 0
  Ends rest n = (w : World) (m : ℕ) → m ≤ n → (to : Given Ending) × Rounds h loop rest w m to

  total_again : (rest : List Todo) (n : ℕ) → Ends rest n → Total h rest n → Total h (Again loop ∷ rest) n
  total_again rest n round all On w m le = by (came (third loop.third loop.around h) (steady_third loop.third loop.around h calm) w m) where
    by : Came (third loop.third loop.around h) w m → Somewhere h (Again loop ∷ rest) On w m
    by (to_value done v k e l) = let d = round v k (omega arith) in (d.0, remainder loop rest w v m k d.0 e d.1)
    by (to_none v e) = (Short v, remainder_out loop rest w v m e)
  total_again rest n round all Broke w m le = let d = all On w m le in (d.0, loop_broke loop rest w m d.0 d.1)
  total_again rest n round all Continued w m le = by (came (third loop.third loop.around h) (steady_third loop.third loop.around h calm) w m) where
    by : Came (third loop.third loop.around h) w m → Somewhere h (Again loop ∷ rest) Continued w m
    by (to_value done v k e l) = let d = round v k (omega arith) in (d.0, loop_continued loop rest w m d.0 (remainder loop rest w v m k d.0 e d.1))
    by (to_none v e) = (Short v, loop_continued loop rest w m (Short v) (remainder_out loop rest w v m e))
  total_again rest n round all (Returned v) w m le = let d = all (Returned v) w m le in (d.0, loop_returned loop rest v w m d.0 d.1)

  -- the body and the loop in front
  total_body : (rest : List Todo) (n : ℕ) → Ends rest n → Total h rest n → Total h (with_body loop rest) n
  total_body rest n round all = body (Leave ∷ Again loop ∷ rest) n (total_mark h (Again loop ∷ rest) n (total_again rest n round all))

  begun_total : (rest : List Todo) (n : ℕ) → Ends rest n → Total h rest n → (w v : World) (m k : ℕ) → tested loop.test loop.around h w m ≡ Gives true v (suc k) → k ≤ n
      → (to : Given Ending) × Rounds h loop rest w m to
  begun_total rest n round all w v m k e le =
      let u = entered_gives loop.test h v k in let d = total_body rest n round all On (opened h u.0) k le in
      (d.0, begins loop rest w v u.0 m k k d.0 e u.1 d.1)

  tested_total : (rest : List Todo) (n : ℕ) → ((k : ℕ) → k < n → Ends rest k) → Total h rest n → (w : World) (m : ℕ) → m ≤ n → Came (tested loop.test loop.around h) w m
      → (to : Given Ending) × Rounds h loop rest w m to
  tested_total rest n round all w m le (to_value true v zero e l) = (Short v, none_left loop rest w v m e)
  tested_total rest n round all w m le (to_value true v (suc k) e l) =
      begun_total rest k (round k (omega arith)) (fewer h rest n k (omega arith) all) w v m k e (omega arith)
  tested_total rest n round all w m le (to_value false v k e l) = let d = all On v k (omega arith) in (d.0, ends loop rest w v m k d.0 e d.1)
  tested_total rest n round all w m le (to_none v e) = (Short v, test_out loop rest w v m e)

  below : (rest : List Todo) (n : ℕ) → Total h rest n → (k : ℕ) → k < n → Ends rest k
  below rest zero all k l w m le = absurd (omega arith)
  below rest (suc n) all k l w m le =
      tested_total rest k (λ j lj. below rest n (fewer h rest (suc n) n (omega arith) all) j (omega arith)) (fewer h rest (suc n) k (omega arith) all) w m le
      (came (tested loop.test loop.around h) (steady_test loop.test loop.around h calm) w m)

  total_rounds : (rest : List Todo) (n : ℕ) → Total h rest n → Ends rest n
  total_rounds rest n all w m le =
      tested_total rest n (below rest n all) all w m le (came (tested loop.test loop.around h) (steady_test loop.test loop.around h calm) w m)

-- ---- statements

module _ (h : Hooks) (calm : Calm h) where
  -- past a statement in each other way
  in_each_way : (s : Stmt) (r : Around) (rest : List Todo) (n : ℕ) → Total h rest n → ((w : World) (m : ℕ) → m ≤ n → Somewhere h (Do r s ∷ rest) On w m) → Total h (Do r s ∷ rest) n
  in_each_way s r rest n all here On w m le = here w m le
  in_each_way s r rest n all here Broke w m le = let d = all Broke w m le in (d.0, drop_broke s r rest w m d.0 d.1)
  in_each_way s r rest n all here Continued w m le = let d = all Continued w m le in (d.0, drop_continued s r rest w m d.0 d.1)
  in_each_way s r rest n all here (Returned v) w m le = let d = all (Returned v) w m le in (d.0, drop_returned s r rest v w m d.0 d.1)

  locals_total : (a : Local) (r : Around) (rest : List Todo) (n : ℕ) → Total h rest n → (w : World) (m : ℕ) → m ≤ n → Came (put_locals a r h) w m → Somewhere h (Do r (x.Local a) ∷ rest) On w m
  locals_total a r rest n all w m le (to_value done v k e l) = let d = all On v k (omega arith) in (d.0, locals a r rest w v m k d.0 e d.1)
  locals_total a r rest n all w m le (to_none v e) = (Short v, locals_out a r rest w v m e)

  perform_total : (a : Simple) (r : Around) (rest : List Todo) (n : ℕ) → Total h rest n → (w : World) (m : ℕ) → m ≤ n → Came (perform a r h) w m → Somewhere h (Do r (x.Simple a) ∷ rest) On w m
  perform_total a r rest n all w m le (to_value done v k e l) = let d = all On v k (omega arith) in (d.0, performed a r rest w v m k d.0 e d.1)
  perform_total a r rest n all w m le (to_none v e) = (Short v, performed_out a r rest w v m e)

  if_total : (p : Place) (c : Expr) (a : Stmt) (r : Around) (rest : List Todo) (n : ℕ) → Total h rest n → Total h (Do (scoped r []) a ∷ Leave ∷ rest) n →
      (w : World) (m : ℕ) → m ≤ n → Came (holds c r h) w m → Somewhere h (Do r (x.If p c a) ∷ rest) On w m
  if_total p c a r rest n all arm w m le (to_value true v k e l) = let d = arm On (opened h v) k (omega arith) in (d.0, if_true p c a r rest w v m k d.0 e d.1)
  if_total p c a r rest n all arm w m le (to_value false v k e l) = let d = all On v k (omega arith) in (d.0, if_false p c a r rest w v m k d.0 e d.1)
  if_total p c a r rest n all arm w m le (to_none v e) = (Short v, if_out p c a r rest w v m e)

  else_total : (p : Place) (c : Expr) (a b : Stmt) (r : Around) (rest : List Todo) (n : ℕ) → Total h (Do (scoped r []) a ∷ Leave ∷ rest) n → Total h (Do (scoped r []) b ∷ Leave ∷ rest) n →
      (w : World) (m : ℕ) → m ≤ n → Came (holds c r h) w m → Somewhere h (Do r (x.IfElse p c a b) ∷ rest) On w m
  else_total p c a b r rest n one other w m le (to_value true v k e l) = let d = one On (opened h v) k (omega arith) in (d.0, else_true p c a b r rest w v m k d.0 e d.1)
  else_total p c a b r rest n one other w m le (to_value false v k e l) = let d = other On (opened h v) k (omega arith) in (d.0, else_false p c a b r rest w v m k d.0 e d.1)
  else_total p c a b r rest n one other w m le (to_none v e) = (Short v, else_out p c a b r rest w v m e)

  -- the body of a loop in front of any rest
  abbrev Bodies : Loop → Type 0
  Bodies loop = (rest : List Todo) (n : ℕ) → Total h rest n → Total h (Do loop.inside loop.body ∷ rest) n

  times_total : (p : Place) (c : Expr) (a : Stmt) (r : Around) (rest : List Todo) (n : ℕ) → Total h rest n → Bodies (bare r (Down p) a) →
      (w : World) (m : ℕ) → m ≤ n → Came (eval c r h) w m → Somewhere h (Do r (x.Loop p (Some c) a) ∷ rest) On w m
  times_total p c a r rest n all body w m le (to_value count v k e l) =
      let d = total_rounds h calm (bare r (Down p) a) body (Leave ∷ rest) n (total_mark h rest n all) (in_store h (with_cell p count) (opened h v)) k (omega arith) in
      (d.0, counted p c a r rest w v m k count d.0 e d.1)
  times_total p c a r rest n all body w m le (to_none v e) = (Short v, counted_out p c a r rest w v m e)

  values_total : (p : Place) (ty : TypeExpr) (name : Word) (a : Stmt) (r : Around) (rest : List Todo) (n : ℕ) → Total h rest n → Bodies (each r ty name a) →
      (w : World) (m : ℕ) → m ≤ n → Somewhere h (Do r (x.ForType p ty name a) ∷ rest) On w m
  values_total p ty name a r rest n all body w zero le = (_, values_out p ty name a r rest w)
  values_total p ty name a r rest n all body w (suc m) le =
      let marked = total_mark h rest m (fewer h rest n m (omega arith) all) in
      let d = total_body h calm (each r ty name a) body (Leave ∷ rest) m (total_rounds h calm (each r ty name a) body (Leave ∷ rest) m marked) marked On
      (opened h (in_store h (with_cell name.place (zero_in (type_of_expr r h.known.look ty))) (opened h w))) m (omega arith) in
      (d.0, values p ty name a r rest w m d.0 d.1)

  parts_total : (p : Place) (s : Option Start) (c : Option Expr) (t : Option Simple) (a : Stmt) (r : Around) (rest : List Todo) (n : ℕ) → Total h rest n →
      Bodies (of_parts (after_start (scoped r []) s) c t a) → (w : World) (m : ℕ) → m ≤ n → Came (start s (scoped r []) h) (opened h w) m → Somewhere h (Do r (x.For p s c t a) ∷ rest) On w m
  parts_total p s c t a r rest n all body w m le (to_value done v k e l) =
      let d = total_rounds h calm (of_parts (after_start (scoped r []) s) c t a) body (Leave ∷ rest) n (total_mark h rest n all) v k (omega arith) in
      (d.0, parts p s c t a r rest w v m k d.0 e d.1)
  parts_total p s c t a r rest n all body w m le (to_none v e) = (Short v, parts_out p s c t a r rest w v m e)

  answer_total : (p : Place) (c : Expr) (r : Around) (rest : List Todo) (n : ℕ) → Total h rest n → (w : World) (m : ℕ) → m ≤ n → Came (eval c r h) w m →
      Somewhere h (Do r (x.Return p (Some c)) ∷ rest) On w m
  answer_total p c r rest n all w m le (to_value value v k e l) = let d = all (Returned (Some value)) v k (omega arith) in (d.0, answer p c r rest w v m k value d.0 e d.1)
  answer_total p c r rest n all w m le (to_none v e) = (Short v, answer_out p c r rest w v m e)

  put_total : (name : Word) (c : Expr) (r : Around) (rest : List Todo) (n : ℕ) → Total h rest n → (w v : World) (m k : ℕ) (value : Valued) → k ≤ n → eval c r h w m ≡ Gives value v k →
      Came (written (find_word r name) value h) v k → Somewhere h (Do r (x.Write name c) ∷ rest) On w m
  put_total name c r rest n all w v m k value le e (to_value done u j f l) = let d = all On u j (omega arith) in (d.0, write name c r rest w v u m k j value d.0 e f d.1)
  put_total name c r rest n all w v m k value le e (to_none u f) = (Short u, write_out name c r rest w v u m k value e f)

  write_total : (name : Word) (c : Expr) (r : Around) (rest : List Todo) (n : ℕ) → Total h rest n → (w : World) (m : ℕ) → m ≤ n → Came (eval c r h) w m →
      Somewhere h (Do r (x.Write name c) ∷ rest) On w m
  write_total name c r rest n all w m le (to_value value v k e l) =
      put_total name c r rest n all w v m k value (omega arith) e (came (written (find_word r name) value h) (steady_written (find_word r name) value h calm) v k)
  write_total name c r rest n all w m le (to_none v e) = (Short v, value_out name c r rest w v m e)

  mutual
    unfolding hidden-the_row-Stmt-0 hidden-the_row-Stmt-1 hidden list_of

    total_stmt : (s : Stmt) (r : Around) (rest : List Todo) (n : ℕ) → Total h rest n → (w : World) (m : ℕ) → m ≤ n → Somewhere h (Do r s ∷ rest) On w m
    total_stmt (x.Block' p sh all) r rest n t w m le =
        let d = total_row all (scoped r []) (Leave ∷ rest) n (total_mark h rest n t) On (opened h w) m le in
        subst (λ s. Somewhere h (Do r s ∷ rest) On w m) (block_of p sh all) (d.0, block p (list_of all) r rest w m d.0 d.1)
    total_stmt (x.Empty p) r rest n t w m le = let d = t On w m le in (d.0, nothing p r rest w m d.0 d.1)
    total_stmt (x.Local a) r rest n t w m le = locals_total a r rest n t w m le (came (put_locals a r h) (steady_locals a r h calm) w m)
    total_stmt (x.Simple a) r rest n t w m le = perform_total a r rest n t w m le (came (perform a r h) (steady_perform a r h calm) w m)
    total_stmt (x.Assert a) r rest n t w m le = let d = t On w m le in (d.0, asserted a r rest w m d.0 d.1)
    total_stmt (x.If' p c sh (more_of-Stmt a end_of-Stmt)) r rest n t w m le =
        if_total p c a r rest n t (in_each_way a (scoped r []) (Leave ∷ rest) n (total_mark h rest n t) (total_stmt a (scoped r []) (Leave ∷ rest) n (total_mark h rest n t))) w m le
        (came (holds c r h) (steady_holds c r h calm) w m)
    total_stmt (x.IfElse' p c sh (more_of-Stmt a end_of-Stmt) si (more_of-Stmt b end_of-Stmt)) r rest n t w m le =
        else_total p c a b r rest n (in_each_way a (scoped r []) (Leave ∷ rest) n (total_mark h rest n t) (total_stmt a (scoped r []) (Leave ∷ rest) n (total_mark h rest n t)))
        (in_each_way b (scoped r []) (Leave ∷ rest) n (total_mark h rest n t) (total_stmt b (scoped r []) (Leave ∷ rest) n (total_mark h rest n t))) w m le
        (came (holds c r h) (steady_holds c r h calm) w m)
    total_stmt (x.Loop' p None sh (more_of-Stmt a end_of-Stmt)) r rest n t w m le =
        let d = total_rounds h calm (bare r Always a) (λ rest n t. in_each_way a (scoped (looped r) []) rest n t (total_stmt a (scoped (looped r) []) rest n t)) rest n t w m le in
        (d.0, loops p a r rest w m d.0 d.1)
    total_stmt (x.Loop' p (Some c) sh (more_of-Stmt a end_of-Stmt)) r rest n t w m le =
        times_total p c a r rest n t (λ rest n t. in_each_way a (scoped (looped r) []) rest n t (total_stmt a (scoped (looped r) []) rest n t)) w m le
        (came (eval c r h) (steady_eval c r h calm) w m)
    total_stmt (x.While' p c sh (more_of-Stmt a end_of-Stmt)) r rest n t w m le =
        let d = total_rounds h calm (bare r (Holds c) a) (λ rest n t. in_each_way a (scoped (looped r) []) rest n t (total_stmt a (scoped (looped r) []) rest n t)) rest n t w m le in
        (d.0, while p c a r rest w m d.0 d.1)
    total_stmt (x.ForType' p ty name sh (more_of-Stmt a end_of-Stmt)) r rest n t w m le =
        values_total p ty name a r rest n t
        (λ rest n t. in_each_way a (scoped (scoped (looped r) (counter r ty name ∷ [])) []) rest n t (total_stmt a (scoped (scoped (looped r) (counter r ty name ∷ [])) []) rest n t)) w m le
    total_stmt (x.For' p s c third sh (more_of-Stmt a end_of-Stmt)) r rest n t w m le =
        parts_total p s c third a r rest n t
        (λ rest n t. in_each_way a (scoped (looped (after_start (scoped r []) s)) []) rest n t (total_stmt a (scoped (looped (after_start (scoped r []) s)) []) rest n t)) w m le
        (came (start s (scoped r []) h) (steady_start s (scoped r []) h calm) (opened h w) m)
    total_stmt (x.Break p) r rest n t w m le = let d = t Broke w m le in (d.0, break p r rest w m d.0 d.1)
    total_stmt (x.Continue p) r rest n t w m le = let d = t Continued w m le in (d.0, continue p r rest w m d.0 d.1)
    total_stmt (x.Return p None) r rest n t w m le = let d = t (Returned None) w m le in (d.0, return p r rest w m d.0 d.1)
    total_stmt (x.Return p (Some c)) r rest n t w m le = answer_total p c r rest n t w m le (came (eval c r h) (steady_eval c r h calm) w m)
    total_stmt (x.Advance p) r rest n t w m le = (Gives (Pauses rest) w m, advance p r rest w m)
    total_stmt (x.Write name c) r rest n t w m le = write_total name c r rest n t w m le (came (eval c r h) (steady_eval c r h calm) w m)

    total_row : {sh : _} (all : Row_of-Stmt sh) (r : Around) (rest : List Todo) (n : ℕ) → Total h rest n → Total h (todos_of (list_of all) r ++ rest) n
    total_row end_of-Stmt r rest n t = t
    total_row (more_of-Stmt a others) r rest n t =
        in_each_way a r (todos_of (list_of others) (behind r a) ++ rest) n (total_row others (behind r a) rest n t)
        (total_stmt a r (todos_of (list_of others) (behind r a) ++ rest) n (total_row others (behind r a) rest n t))

  -- any rest
  total : (rest : List Todo) (n : ℕ) → Total h rest n
  total [] n = λ way w m le. (Gives (Pauses []) w m, empty way w m)
  total (Do r s ∷ rest) n = in_each_way s r rest n (total rest n) (total_stmt s r rest n (total rest n))
  total (Again loop ∷ rest) n =
      let body : Bodies loop = λ rest n t. in_each_way loop.body loop.inside rest n t (total_stmt loop.body loop.inside rest n t) in
      total_again h calm loop body rest n (total_rounds h calm loop body rest n (total rest n)) (total rest n)
  total (Leave ∷ rest) n = total_mark h rest n (total rest n)

  -- what is computed follows by the rules, and nothing else does
  pub complete : (rest : List Todo) (way : Way) (w : World) (n : ℕ) → Resumes h rest way w n (resume rest h way w n)
  complete rest way w n = let d = total rest n way w n (omega arith) in subst (λ to. Resumes h rest way w n to) (sym (sound h calm d.1)) d.1
