-- What loops do, as the blocks of their parts do it.
use Rattle.std.proofs.Common.{◌≡◌, ℕ, zero, suc, List, [], ◌∷◌, true, false, if◌then◌else◌, refl, ap, ◌∙◌, sym, append_assoc, ℤ, pos}
use Rattle.cm_core.specs.Code.{Expr, Number, Test, Always, Holds, Down, Next, Stmt, Nothing, Loop, Times, While, Each, For, End, More}
use Rattle.cm_core.specs.World.{World, Todo, Do, Again, put}
use Rattle.cm_core.specs.Acts.{Given, Gives, Short, Act, bind, andthen, after, gives, change, begin}
use Rattle.cm_core.specs.Eval.{Hooks, eval}
use Rattle.cm_core.specs.Resume.{Way, On, Broke, Continued, Returned, Ending, Goes, Pauses, next, on, round_end, go_on, put_in, tested, entered, repeat, begun_then, exec, exec_all, resume}
use Rattle.cm_core.proofs.Steady.{Calm}
use Rattle.cm_core.proofs.Cases.{bind_bind, repeat_case, again_case}
use Rattle.advance_lowering.specs.Blocks.{goes_on}
use Rattle.advance_lowering.specs.Lowered.{started}
use Rattle.advance_lowering.proofs.Quiet.{Handed, handed}

-- a statement that was returned past
pub returned : (r : List Todo) (h : Hooks) (v : List ℤ) → resume r h (Returned v) ≡ gives (Pauses [])
returned [] h v = refl
returned (Do s ∷ r) h v = returned r h v
returned (Again t step s ∷ r) h v = returned r h v

-- one statement that only hands on, in a block of its own
handed_one : (x : Given Ending) → Handed x → (go : Way → Act Ending) → bind (bind x (next [] (on (gives (Goes On))))) (next [] go) ≡ bind x (λ _. go On)
handed_one (Gives end w n) e go = ap (λ k. bind (next [] (on (gives (Goes On))) k w n) (next [] go)) e
handed_one (Short w) e go = refl

pub one_statement : (s : Stmt) (h : Hooks) → goes_on s ≡ true → (go : Way → Act Ending) →
    andthen (exec_all (More s End) h) (next [] go) ≡ andthen (exec s h) (λ _. go On)
one_statement s h p go = λ i w n. handed_one (exec s h w n) (handed h s p w n) go i

-- a local that begins with a value
started_by : (h : Hooks) (x : ℕ) (g : Given (List ℤ)) (go : Way → Act Ending) →
    bind (bind (bind (bind g (λ value. go_on (put_in h x value))) (next [] (on (gives (Goes On))))) (next [] (on (gives (Goes On))))) (next [] go)
    ≡ bind g (λ value. after (put_in h x value) (go On))
started_by h x (Gives value w n) go = refl
started_by h x (Short w) go = refl

pub started_first : (h : Hooks) (x : ℕ) (e : Expr) (go : Way → Act Ending) →
    andthen (exec_all (started x e) h) (next [] go) ≡ andthen (eval e h) (λ value. after (put_in h x value) (go On))
started_first h x e go = λ i w n. started_by h x (eval e h w n) go i

module _ (r : List Todo) (h : Hooks) (calm : Calm h) where
  -- the test of a loop, with its body and what follows it
  abbrev pub tried : Test → Stmt → Stmt → Act Ending
  tried t step s =
      andthen (tested t h) (λ more. if more then begin (after (change (entered t h)) (resume (Do s ∷ Again t step s ∷ r) h On)) else resume r h On)

  -- ---- the further rounds

  pub rounds_alone : (t : Test) (s : Stmt) → resume (Again t Nothing s ∷ r) h On ≡ tried t Nothing s
  rounds_alone t s = again_case t Nothing s r h calm

  pub rounds_after : (t : Test) (step s : Stmt) (go : Way → Act Ending) → goes_on step ≡ true → go On ≡ tried t step s →
      andthen (exec_all (More step End) h) (next [] go) ≡ resume (Again t step s ∷ r) h On
  rounds_after t step s go p e =
      one_statement step h p go ∙ (λ i. andthen (exec step h) (λ _. e i)) ∙ sym (again_case t step s r h calm)

  -- ---- the whole

  pub loop_first : (s : Stmt) → resume (Again Always Nothing s ∷ r) h On ≡ resume (Do (Loop s) ∷ r) h On
  loop_first s = refl

  pub while_first : (c : Expr) (s : Stmt) → resume (Again (Holds c) Nothing s ∷ r) h On ≡ resume (Do (While c s) ∷ r) h On
  while_first c s = refl

  times_by : (x : ℕ) (s : Stmt) (g : Given (List ℤ)) →
      bind g (λ value. after (put_in h x value) (resume (Again (Down x) Nothing s ∷ r) h On))
      ≡ bind (bind g (λ count. after (put_in h x count) (repeat (Down x) h (gives (Goes On)) (exec s h) (Again (Down x) Nothing s)))) (next r (resume r h))
  times_by x s (Gives value w n) = refl
  times_by x s (Short w) = refl

  pub times_first : (x : ℕ) (c : Expr) (s : Stmt) (go : Way → Act Ending) → go On ≡ resume (Again (Down x) Nothing s ∷ r) h On →
      andthen (exec_all (started x c) h) (next [] go) ≡ resume (Do (Times x c s) ∷ r) h On
  times_first x c s go e =
      started_first h x c go ∙ (λ i. andthen (eval c h) (λ value. after (put_in h x value) (e i))) ∙ (λ i w n. times_by x s (eval c h w n) i)

  each_next : (x : ℕ) (s : Stmt) (end : Ending) (w : World) (n : ℕ) →
      bind (next (Again (Next x) Nothing s ∷ []) (round_end (repeat (Next x) h (gives (Goes On)) (exec s h) (Again (Next x) Nothing s))) end w n) (next r (resume r h))
      ≡ next (Again (Next x) Nothing s ∷ r) (resume (Again (Next x) Nothing s ∷ r) h) end w n
  each_next x s (Goes On) w n = refl
  each_next x s (Goes Broke) w n = refl
  each_next x s (Goes Continued) w n = refl
  each_next x s (Goes (Returned v)) w n = refl
  each_next x s (Pauses more) w n = ap (λ l. Gives (Pauses l) w n) (append_assoc more (Again (Next x) Nothing s ∷ []) r)

  each_begun : (x : ℕ) (s : Stmt) (w : World) (n : ℕ) →
      bind (begun_then (exec s h) (Again (Next x) Nothing s) (repeat (Next x) h (gives (Goes On)) (exec s h) (Again (Next x) Nothing s)) w n) (next r (resume r h))
      ≡ begin (resume (Do s ∷ Again (Next x) Nothing s ∷ r) h On) w n
  each_begun x s w zero = refl
  each_begun x s w (suc n) =
      bind_bind (exec s h w n) _ (next r (resume r h)) ∙ (λ i. bind (exec s h w n) (λ end v m. each_next x s end v m i))

  pub each_first : (x : ℕ) (s : Stmt) (go : Way → Act Ending) → go On ≡ begin (resume (Do s ∷ Again (Next x) Nothing s ∷ r) h On) →
      andthen (exec_all (started x (Number (pos 0) false)) h) (next [] go) ≡ resume (Do (Each x s) ∷ r) h On
  each_first x s go e =
      started_first h x (Number (pos 0) false) go ∙ (λ i. after (put_in h x (pos 0 ∷ [])) (e i))
      ∙ (λ i w n. sym (each_begun x s (put h.leaf x (pos 0 ∷ []) w) n) i)

  pub for_first : (start : Stmt) (t : Test) (step s : Stmt) (go : Way → Act Ending) → goes_on start ≡ true → go On ≡ tried t step s →
      andthen (exec_all (More start End) h) (next [] go) ≡ resume (Do (For start t step s) ∷ r) h On
  for_first start t step s go p e =
      one_statement start h p go ∙ (λ i. andthen (exec start h) (λ _. e i))
      ∙ (λ i. andthen (exec start h) (λ _. sym (repeat_case t step s r h calm) i))
      ∙ (λ i w n. sym (bind_bind (exec start h w n) (λ _. repeat t h (exec step h) (exec s h) (Again t step s)) (next r (resume r h))) i)
