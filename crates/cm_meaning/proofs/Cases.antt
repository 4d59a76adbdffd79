-- The cases of a rest, as equations: a block puts its statements in front with a mark that drops its scope, an `if` one of its
-- arms, and a loop its body and itself.
use Rattle.std.proofs.Common.{◌≡◌, ℕ, zero, suc, ◌<◌, ◌≤◌, List, [], ◌∷◌, ◌++◌, Bool, true, false, if◌then◌else◌, Option, None, refl, sym, ap, ◌∙◌, arith, append_assoc}
use Rattle.cm_base.specs.declared.place.Place.{Place}
use Rattle.cm_tree.specs.declared.expr.Expr.{Expr}
use Rattle.cm_tree.specs.declared.stmt.Stmt.{Stmt}
use Rattle.cm_tree.specs.declared.stmt.Stmt.TheVariants as x
use Rattle.cm_meaning.specs.Scopes.{Around, scoped}
use Rattle.cm_meaning.specs.BodySites.{after as behind}
use Rattle.cm_meaning.specs.Conversions.{Valued}
use Rattle.cm_meaning.specs.Stores.{with_scope, without_scope}
use Rattle.cm_meaning.specs.World.{World, Always, Holds, Loop, Todo, Do, Again, Leave, store_at, with_store}
use Rattle.cm_meaning.specs.Acts.{Given, Gives, Short, Act, bind, andthen, after, gives, begin}
use Rattle.cm_meaning.specs.Eval.{Hooks, holds}
use Rattle.cm_meaning.specs.Performs.{change_store}
use Rattle.cm_meaning.specs.Resume.{Way, On, Broke, Continued, Returned, Ending, Goes, Pauses, next, on, round_end, leave, in_scope, third, tested, entered, rounds, repeat, bare, exec, round, resume}
use Rattle.cm_meaning.specs.ExecEquations.{todos_of, exec_all, exec-Block, exec-If, exec-IfElse, exec-Loop, exec-While, exec-Break, exec-Continue, exec-Advance}
use Rattle.cm_meaning.proofs.Steady.{Steady, same_bind, enough, Calm, steady_test, steady_third, steady_exec, steady_scope, steady_enter}

pub bind_bind : {A B C : Type 0} (x : Given A) (f : A → Act B) (g : B → Act C) → bind (bind x f) g ≡ bind x (λ a. andthen (f a) g)
bind_bind (Gives a w n) f g = refl
bind_bind (Short w) f g = refl

-- what a rest does with the way in which what is in front of it ends
abbrev pub then_rest : List Todo → Hooks → Ending → Act Ending
then_rest rest h = next rest (resume rest h)

-- a statement in front of a rest
pub one_case : (s : Stmt) (r : Around) (rest : List Todo) (h : Hooks) (act : Act Ending) → exec s r h ≡ act → resume (Do r s ∷ rest) h On ≡ andthen act (then_rest rest h)
one_case s r rest h act same = ap (λ (x : Act Ending). andthen x (then_rest rest h)) same

-- ---- scopes

leave_next : (rest : List Todo) (h : Hooks) (end : Ending) (w : World) (n : ℕ) → bind (leave h end w n) (then_rest rest h) ≡ then_rest (Leave ∷ rest) h end w n
leave_next rest h (Goes way) w n = refl
leave_next rest h (Pauses more) w n = ap (λ l. Gives (Pauses l) w n) (append_assoc more (Leave ∷ []) rest)

-- a scope round an act is begun, and a mark is put behind the act
pub scope_case : (act : Act Ending) (rest : List Todo) (h : Hooks) →
    andthen (in_scope h act) (then_rest rest h) ≡ after (change_store h with_scope) (andthen act (then_rest (Leave ∷ rest) h))
scope_case act rest h = λ i w n. within (opened w) n i where
  opened : World → World
  opened w = with_store h.leaf (with_scope (store_at h.leaf w)) w

  within : (w : World) (n : ℕ) → bind (bind (act w n) (leave h)) (then_rest rest h) ≡ bind (act w n) (then_rest (Leave ∷ rest) h)
  within w n = bind_bind (act w n) (leave h) (then_rest rest h) ∙ (λ j. bind (act w n) (λ end v m. leave_next rest h end v m j))

-- the mark drops the scope, in whatever way it is come to
pub leave_case : (rest : List Todo) (h : Hooks) (way : Way) → resume (Leave ∷ rest) h way ≡ after (change_store h without_scope) (resume rest h way)
leave_case rest h way = refl

-- ---- blocks

-- `break`, `continue` and `return` drop the statements of a block
pub drops : (all : List Stmt) (r : Around) (rest : List Todo) (h : Hooks) →
    (resume (todos_of all r ++ rest) h Broke ≡ resume rest h Broke) × (resume (todos_of all r ++ rest) h Continued ≡ resume rest h Continued)
    × ((v : Option Valued) → resume (todos_of all r ++ rest) h (Returned v) ≡ resume rest h (Returned v))
drops [] r rest h = (refl, refl, λ v. refl)
drops (a ∷ all) r rest h = drops all (behind r a) rest h

-- two that follow one another are followed by one
next_next : (all : List Stmt) (r : Around) (rest : List Todo) (h : Hooks) →
    andthen (exec_all all r h) (then_rest rest h) ≡ resume (todos_of all r ++ rest) h On → (end : Ending) (w : World) (n : ℕ) →
    bind (next (todos_of all r) (on (exec_all all r h)) end w n) (then_rest rest h) ≡ then_rest (todos_of all r ++ rest) h end w n
next_next all r rest h ih (Goes On) w n = λ i. ih i w n
next_next all r rest h ih (Goes Broke) w n = λ i. sym (drops all r rest h).0 i w n
next_next all r rest h ih (Goes Continued) w n = λ i. sym (drops all r rest h).1 i w n
next_next all r rest h ih (Goes (Returned v)) w n = λ i. sym ((drops all r rest h).2 v) i w n
next_next all r rest h ih (Pauses more) w n = ap (λ l. Gives (Pauses l) w n) (append_assoc more (todos_of all r) rest)

pub all_case : (all : List Stmt) (r : Around) (rest : List Todo) (h : Hooks) → andthen (exec_all all r h) (then_rest rest h) ≡ resume (todos_of all r ++ rest) h On
all_case [] r rest h = refl
all_case (a ∷ all) r rest h = λ i w n.
    (bind_bind (exec a r h w n) (next (todos_of all (behind r a)) (on (exec_all all (behind r a) h))) (then_rest rest h)
    ∙ (λ j. bind (exec a r h w n) (λ end v m. next_next all (behind r a) rest h (all_case all (behind r a) rest h) end v m j))) i

-- a block puts its statements in front
pub block_case : (p : Place) (all : List Stmt) (r : Around) (rest : List Todo) (h : Hooks) →
    resume (Do r (x.Block p all) ∷ rest) h On ≡ after (change_store h with_scope) (resume (todos_of all (scoped r []) ++ Leave ∷ rest) h On)
block_case p all r rest h =
    one_case (x.Block p all) r rest h _ (exec-Block p all r h)
    ∙ scope_case (exec_all all (scoped r []) h) rest h
    ∙ ap (after (change_store h with_scope)) (all_case all (scoped r []) (Leave ∷ rest) h)

-- ---- choices

-- an arm in its scope
abbrev pub arm : Stmt → Around → List Todo → Hooks → Act Ending
arm a r rest h = after (change_store h with_scope) (resume (Do (scoped r []) a ∷ Leave ∷ rest) h On)

if_next : (b : Bool) (x y : Act Ending) (go : Ending → Act Ending) → andthen (if b then x else y) go ≡ (if b then andthen x go else andthen y go)
if_next true x y go = refl
if_next false x y go = refl

-- an `if` puts one arm in front, or nothing
pub if_case : (p : Place) (e : Expr) (a : Stmt) (r : Around) (rest : List Todo) (h : Hooks) →
    resume (Do r (x.If p e a) ∷ rest) h On ≡ andthen (holds e r h) (λ test. if test then arm a r rest h else resume rest h On)
if_case p e a r rest h = one_case (x.If p e a) r rest h _ (exec-If p e a r h) ∙ (λ i w n. at w n i) where
  by : (test : Bool) → andthen (if test then in_scope h (exec a (scoped r []) h) else gives (Goes On)) (then_rest rest h) ≡ (if test then arm a r rest h else resume rest h On)
  by true = scope_case (exec a (scoped r []) h) rest h
  by false = refl

  at : (w : World) (n : ℕ) → andthen (andthen (holds e r h) (λ test. if test then in_scope h (exec a (scoped r []) h) else gives (Goes On))) (then_rest rest h) w n
      ≡ andthen (holds e r h) (λ test. if test then arm a r rest h else resume rest h On) w n
  at w n = bind_bind (holds e r h w n) _ (then_rest rest h) ∙ (λ j. bind (holds e r h w n) (λ test. by test j))

pub if_else_case : (p : Place) (e : Expr) (a b : Stmt) (r : Around) (rest : List Todo) (h : Hooks) →
    resume (Do r (x.IfElse p e a b) ∷ rest) h On ≡ andthen (holds e r h) (λ test. if test then arm a r rest h else arm b r rest h)
if_else_case p e a b r rest h = one_case (x.IfElse p e a b) r rest h _ (exec-IfElse p e a b r h) ∙ (λ i w n. at w n i) where
  by : (test : Bool) → andthen (if test then in_scope h (exec a (scoped r []) h) else in_scope h (exec b (scoped r []) h)) (then_rest rest h) ≡ (if test then arm a r rest h else arm b r rest h)
  by true = scope_case (exec a (scoped r []) h) rest h
  by false = scope_case (exec b (scoped r []) h) rest h

  at : (w : World) (n : ℕ) → andthen (andthen (holds e r h) (λ test. if test then in_scope h (exec a (scoped r []) h) else in_scope h (exec b (scoped r []) h))) (then_rest rest h) w n
      ≡ andthen (holds e r h) (λ test. if test then arm a r rest h else arm b r rest h) w n
  at w n = bind_bind (holds e r h w n) _ (then_rest rest h) ∙ (λ j. bind (holds e r h w n) (λ test. by test j))

-- ---- loops

-- the body of a loop in its scope, with the loop behind it
abbrev pub body_in_front : Loop → List Todo → Hooks → Act Ending
body_in_front loop rest h = after (change_store h with_scope) (resume (Do loop.inside loop.body ∷ Leave ∷ Again loop ∷ rest) h On)

-- what comes of a test: a turn is spent, what is done first in a body is done, and the body and the loop are put in front
abbrev pub tested_case : Loop → List Todo → Hooks → Bool → Act Ending
tested_case loop rest h more = if more then begin (after (entered loop.test h) (body_in_front loop rest h)) else resume rest h On

module _ (loop : Loop) (rest : List Todo) (h : Hooks) (calm : Calm h) where
  abbrev others : ℕ → Act Ending
  others most = after (third loop.third loop.around h) (rounds most loop h (round loop h))

  steady_body : Steady (round loop h)
  steady_body = steady_scope h _ (steady_exec loop.body loop.inside h calm)

  -- what is done after the body, whatever the number of rounds above the turns
  same_others : (most n : ℕ) → n < most → (w : World) → others most w n ≡ after (third loop.third loop.around h) (repeat loop h (round loop h)) w n
  same_others most n l w =
      same_bind n (third loop.third loop.around h w n) _ _ ((steady_third loop.third loop.around h calm).within w n)
      (λ end v m le. enough loop h (round loop h) (steady_test loop.test loop.around h calm) (steady_third loop.third loop.around h calm) steady_body most (suc m) m v (omega arith) (omega arith))

  round_next : (most n : ℕ) → n < most → (end : Ending) (w : World) →
      bind (next (Again loop ∷ []) (round_end (others most)) end w n) (then_rest rest h) ≡ then_rest (Again loop ∷ rest) h end w n
  round_next most n l (Goes On) w = ap (λ x. bind x (then_rest rest h)) (same_others most n l w)
  round_next most n l (Goes Broke) w = refl
  round_next most n l (Goes Continued) w = ap (λ x. bind x (then_rest rest h)) (same_others most n l w)
  round_next most n l (Goes (Returned v)) w = refl
  round_next most n l (Pauses more) w = ap (λ l. Gives (Pauses l) w n) (append_assoc more (Again loop ∷ []) rest)

  body_next : (most n : ℕ) → n < most → (w : World) →
      bind (andthen (round loop h) (next (Again loop ∷ []) (round_end (others most))) w n) (then_rest rest h) ≡ body_in_front loop rest h w n
  body_next most n l w =
      bind_bind (round loop h w n) (next (Again loop ∷ []) (round_end (others most))) (then_rest rest h)
      ∙ same_bind n (round loop h w n) _ _ (steady_body.within w n) (λ end v m le. round_next most m (omega arith) end v)
      ∙ (λ i. scope_case (exec loop.body loop.inside h) (Again loop ∷ rest) h i w n)

  abbrev one_round : ℕ → Act Ending
  one_round most = after (entered loop.test h) (andthen (round loop h) (next (Again loop ∷ []) (round_end (others most))))

  begun_next : (most n : ℕ) → n ≤ most → (w : World) →
      bind (begin (one_round most) w n) (then_rest rest h) ≡ begin (after (entered loop.test h) (body_in_front loop rest h)) w n
  begun_next most zero l w = refl
  begun_next most (suc n) l w =
      bind_bind (entered loop.test h w n) (λ _. andthen (round loop h) (next (Again loop ∷ []) (round_end (others most)))) (then_rest rest h)
      ∙ same_bind n (entered loop.test h w n) _ _ ((steady_enter loop.test h).within w n) (λ value v m le. body_next most m (omega arith) v)

  chosen_next : (most n : ℕ) → n ≤ most → (more : Bool) (w : World) →
      bind ((if more then begin (one_round most) else gives (Goes On)) w n) (then_rest rest h) ≡ tested_case loop rest h more w n
  chosen_next most n l true w = begun_next most n l w
  chosen_next most n l false w = refl

  -- from its test on
  pub repeat_case : andthen (repeat loop h (round loop h)) (then_rest rest h) ≡ andthen (tested loop.test loop.around h) (tested_case loop rest h)
  repeat_case = λ i w n.
      (bind_bind (tested loop.test loop.around h w n) _ (then_rest rest h)
      ∙ same_bind n (tested loop.test loop.around h w n) _ _ ((steady_test loop.test loop.around h calm).within w n) (λ more v m le. chosen_next n m le more v)) i

  -- and where its body was begun: the third part comes first
  pub again_case : resume (Again loop ∷ rest) h On ≡ after (third loop.third loop.around h) (andthen (tested loop.test loop.around h) (tested_case loop rest h))
  again_case = λ i w n.
      (bind_bind (third loop.third loop.around h w n) (λ _. repeat loop h (round loop h)) (then_rest rest h)
      ∙ (λ j. bind (third loop.third loop.around h w n) (λ _. repeat_case j))) i

-- `continue` comes to the loop as what is done after the body does, and `break` comes past it
pub continue_case : (loop : Loop) (rest : List Todo) (h : Hooks) → resume (Again loop ∷ rest) h Continued ≡ resume (Again loop ∷ rest) h On
continue_case loop rest h = refl

pub break_case : (loop : Loop) (rest : List Todo) (h : Hooks) → resume (Again loop ∷ rest) h Broke ≡ resume rest h On
break_case loop rest h = refl

-- a loop puts its body and itself in front
pub loop_case : (p : Place) (a : Stmt) (r : Around) (rest : List Todo) (h : Hooks) → Calm h →
    resume (Do r (x.Loop p None a) ∷ rest) h On ≡ begin (body_in_front (bare r Always a) rest h)
loop_case p a r rest h calm = one_case (x.Loop p None a) r rest h _ (exec-Loop p a r h) ∙ repeat_case (bare r Always a) rest h calm

-- and so does `while` where its condition holds
pub while_case : (p : Place) (e : Expr) (a : Stmt) (r : Around) (rest : List Todo) (h : Hooks) → Calm h →
    resume (Do r (x.While p e a) ∷ rest) h On ≡ andthen (holds e r h) (tested_case (bare r (Holds e) a) rest h)
while_case p e a r rest h calm = one_case (x.While p e a) r rest h _ (exec-While p e a r h) ∙ repeat_case (bare r (Holds e) a) rest h calm

-- ---- jumps

pub jump_break : (p : Place) (r : Around) (rest : List Todo) (h : Hooks) → resume (Do r (x.Break p) ∷ rest) h On ≡ resume rest h Broke
jump_break p r rest h = one_case (x.Break p) r rest h _ (exec-Break p r h)

pub jump_continue : (p : Place) (r : Around) (rest : List Todo) (h : Hooks) → resume (Do r (x.Continue p) ∷ rest) h On ≡ resume rest h Continued
jump_continue p r rest h = one_case (x.Continue p) r rest h _ (exec-Continue p r h)

-- `advance` leaves what follows it
pub advance_case : (p : Place) (r : Around) (rest : List Todo) (h : Hooks) → resume (Do r (x.Advance p) ∷ rest) h On ≡ gives (Pauses rest)
advance_case p r rest h = one_case (x.Advance p) r rest h _ (exec-Advance p r h)
