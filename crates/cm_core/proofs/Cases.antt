-- The cases of a rest, as equations: a block puts its statements in front, an `if` one of its arms, and a loop its body and
-- itself.
use Rattle.std.proofs.Common.{◌≡◌, ℕ, zero, suc, ◌<◌, ◌≤◌, List, [], ◌∷◌, ◌++◌, Bool, true, false, if◌then◌else◌, refl, sym, ap, ◌∙◌, arith, append_assoc, ℤ}
use Rattle.cm_core.specs.Code.{Expr, Test, Stmt, Block, If, Stmts, End, More}
use Rattle.cm_core.specs.World.{World, Todo, Do, Again}
use Rattle.cm_core.specs.Acts.{Given, Gives, Short, Act, bind, andthen, after, gives, change, begin}
use Rattle.cm_core.specs.Eval.{Hooks, holds}
use Rattle.cm_core.specs.Resume.{On, Broke, Continued, Returned, Ending, Goes, Pauses, next, on, round_end, tested, entered, rounds, repeat, all, exec, exec_all, resume}
use Rattle.cm_core.proofs.Steady.{same_bind, enough, Calm, steady_test, steady_exec}

pub bind_bind : {A B C : Type 0} (x : Given A) (f : A → Act B) (g : B → Act C) → bind (bind x f) g ≡ bind x (λ a. andthen (f a) g)
bind_bind (Gives a w n) f g = refl
bind_bind (Short w) f g = refl

-- `break`, `continue` and `return` drop the statements of a block
pub drops : (ss : Stmts) (r : List Todo) (h : Hooks) →
    (resume (all ss ++ r) h Broke ≡ resume r h Broke) × (resume (all ss ++ r) h Continued ≡ resume r h Continued)
    × ((v : List ℤ) → resume (all ss ++ r) h (Returned v) ≡ resume r h (Returned v))
drops End r h = (refl, refl, λ v. refl)
drops (More s ss) r h = drops ss r h

-- two that follow one another are followed by one
next_next : (ss : Stmts) (r : List Todo) (h : Hooks) → andthen (exec_all ss h) (next r (resume r h)) ≡ resume (all ss ++ r) h On → (end : Ending) (w : World) (n : ℕ) →
    bind (next (all ss) (on (exec_all ss h)) end w n) (next r (resume r h)) ≡ next (all ss ++ r) (resume (all ss ++ r) h) end w n
next_next ss r h ih (Goes On) w n = λ i. ih i w n
next_next ss r h ih (Goes Broke) w n = λ i. sym (drops ss r h).0 i w n
next_next ss r h ih (Goes Continued) w n = λ i. sym (drops ss r h).1 i w n
next_next ss r h ih (Goes (Returned v)) w n = λ i. sym ((drops ss r h).2 v) i w n
next_next ss r h ih (Pauses more) w n = ap (λ l. Gives (Pauses l) w n) (append_assoc more (all ss) r)

-- a block puts its statements in front
pub block_case : (ss : Stmts) (r : List Todo) (h : Hooks) → resume (Do (Block ss) ∷ r) h On ≡ resume (all ss ++ r) h On
block_case End r h = refl
block_case (More s ss) r h = λ i w n.
    (bind_bind (exec s h w n) (next (all ss) (on (exec_all ss h))) (next r (resume r h))
    ∙ (λ j. bind (exec s h w n) (λ end v m. next_next ss r h (block_case ss r h) end v m j))) i

if_next : (b : Bool) (x y : Act Ending) (go : Ending → Act Ending) → andthen (if b then x else y) go ≡ (if b then andthen x go else andthen y go)
if_next true x y go = refl
if_next false x y go = refl

-- an `if` puts one arm in front
pub if_case : (e : Expr) (a b : Stmt) (r : List Todo) (h : Hooks) →
    resume (Do (If e a b) ∷ r) h On ≡ andthen (holds e h) (λ test. if test then resume (Do a ∷ r) h On else resume (Do b ∷ r) h On)
if_case e a b r h = λ i w n.
    (bind_bind (holds e h w n) (λ test. if test then exec a h else exec b h) (next r (resume r h))
    ∙ (λ j. bind (holds e h w n) (λ test. if_next test (exec a h) (exec b h) (next r (resume r h)) j))) i

-- a loop puts its body and itself in front
module _ (t : Test) (step s : Stmt) (r : List Todo) (h : Hooks) (calm : Calm h) where
  abbrev again : Todo
  again = Again t step s

  abbrev others : ℕ → Act Ending
  others most = andthen (exec step h) (λ _. rounds most t h (exec step h) (exec s h) again)

  -- what is done after the body, whatever the number of rounds above the turns
  same_others : (most n : ℕ) → n < most → (w : World) → others most w n ≡ andthen (exec step h) (λ _. repeat t h (exec step h) (exec s h) again) w n
  same_others most n l w =
      same_bind n (exec step h w n) _ _ ((steady_exec h calm step).within w n)
      (λ end v m le. enough t h (exec step h) (exec s h) again (steady_test h calm t) (steady_exec h calm step) (steady_exec h calm s) most (suc m) m v (omega arith) (omega arith))

  round_next : (most n : ℕ) → n < most → (end : Ending) (w : World) →
      bind (next (again ∷ []) (round_end (others most)) end w n) (next r (resume r h)) ≡ next (again ∷ r) (resume (again ∷ r) h) end w n
  round_next most n l (Goes On) w = ap (λ x. bind x (next r (resume r h))) (same_others most n l w)
  round_next most n l (Goes Broke) w = refl
  round_next most n l (Goes Continued) w = ap (λ x. bind x (next r (resume r h))) (same_others most n l w)
  round_next most n l (Goes (Returned v)) w = refl
  round_next most n l (Pauses more) w = ap (λ l. Gives (Pauses l) w n) (append_assoc more (again ∷ []) r)

  abbrev one_round : ℕ → Act Ending
  one_round most = after (change (entered t h)) (andthen (exec s h) (next (again ∷ []) (round_end (others most))))

  begun_next : (most n : ℕ) → n ≤ most → (w : World) →
      bind (begin (one_round most) w n) (next r (resume r h)) ≡ begin (after (change (entered t h)) (resume (Do s ∷ again ∷ r) h On)) w n
  begun_next most zero l w = refl
  begun_next most (suc n) l w =
      bind_bind (exec s h (entered t h w) n) (next (again ∷ []) (round_end (others most))) (next r (resume r h))
      ∙ same_bind n (exec s h (entered t h w) n) _ _ ((steady_exec h calm s).within (entered t h w) n) (λ end v m le. round_next most m (omega arith) end v)

  chosen_next : (most n : ℕ) → n ≤ most → (more : Bool) (w : World) →
      bind ((if more then begin (one_round most) else gives (Goes On)) w n) (next r (resume r h))
      ≡ (if more then begin (after (change (entered t h)) (resume (Do s ∷ again ∷ r) h On)) else resume r h On) w n
  chosen_next most n l true w = begun_next most n l w
  chosen_next most n l false w = refl

  -- from its test on
  pub repeat_case : andthen (repeat t h (exec step h) (exec s h) again) (next r (resume r h))
      ≡ andthen (tested t h) (λ more. if more then begin (after (change (entered t h)) (resume (Do s ∷ again ∷ r) h On)) else resume r h On)
  repeat_case = λ i w n.
      (bind_bind (tested t h w n) _ (next r (resume r h))
      ∙ same_bind n (tested t h w n) _ _ ((steady_test h calm t).within w n) (λ more v m le. chosen_next n m le more v)) i

  -- and where its body was begun: what is done after each body comes first
  pub again_case : resume (again ∷ r) h On
      ≡ andthen (exec step h)
      (λ _. andthen (tested t h) (λ more. if more then begin (after (change (entered t h)) (resume (Do s ∷ again ∷ r) h On)) else resume r h On))
  again_case = λ i w n.
      (bind_bind (exec step h w n) (λ _. repeat t h (exec step h) (exec s h) again) (next r (resume r h)) ∙ (λ j. bind (exec step h w n) (λ _. repeat_case j))) i
