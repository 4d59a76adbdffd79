-- A statement without `advance` doesn't pause, and some statements only hand on.
use Rattle.std.proofs.Common.{◌≡◌, ℕ, zero, suc, List, [], ◌∷◌, Bool, true, false, if◌then◌else◌, refl, ap, ◌∙◌, sym}
use Rattle.std.specs.Prelude.{◌||◌, ◌&&◌}
use Rattle.cm_core.specs.Code.{Test, Always, Holds, Down, Next, Stmt, Nothing, Empty, Block, Locals, Cleared, Started, Assign, Update, Count, Perform, If, Loop, Times, While, Each, For, Break, Continue, Return, Answer, Advance, Write, Stmts, End, More}
use Rattle.cm_core.specs.World.{World, Todo, Again}
use Rattle.cm_core.specs.Acts.{Given, Gives, Short, Act, Done, bind, andthen, gives, begin}
use Rattle.cm_core.specs.Eval.{Hooks, found, eval, eval_all, holds}
use Rattle.cm_core.specs.Resume.{Way, On, Broke, Continued, Returned, Ending, Goes, Pauses, next, on, round_end, go_on, tested, entered, rounds, repeat, all, exec, exec_all}
use Rattle.cm_core.specs.Measures.{advances, any_advances}
use Rattle.advance_lowering.specs.Blocks.{is_declared, are_declared, goes_on, is_orderly, are_orderly}

-- ---- tests

pub or_left : (a b : Bool) → (a || b) ≡ false → a ≡ false
or_left true b h = h
or_left false b h = refl

pub or_right : (a b : Bool) → (a || b) ≡ false → b ≡ false
or_right true b h = cc
or_right false b h = h

pub and_left : (a b : Bool) → (a && b) ≡ true → a ≡ true
and_left true b h = refl
and_left false b h = h

pub and_right : (a b : Bool) → (a && b) ≡ true → b ≡ true
and_right true b h = h
and_right false b h = cc

-- ---- handing on

abbrev pub Handed : Given Ending → Type 0
Handed (Gives end w n) = end ≡ Goes On
Handed (Short w) = Unit {0}

handed_bind : {A : Type 0} (x : Given A) (go : A → Act Ending) → ((value : A) (w : World) (n : ℕ) → Handed (go value w n)) → Handed (bind x go)
handed_bind (Gives value w n) go f = f value w n
handed_bind (Short w) go f = tt

handed_go : (act : Act Done) (w : World) (n : ℕ) → Handed (go_on act w n)
handed_go act w n = handed_bind (act w n) (λ _. gives (Goes On)) (λ value v m. refl)

-- what follows what hands on
pub handed_same : (x : Given Ending) → Handed x → (f g : Ending → Act Ending) → f (Goes On) ≡ g (Goes On) → bind x f ≡ bind x g
handed_same (Gives end w n) e f g p = ap (λ k. f k w n) e ∙ (λ i. p i w n) ∙ sym (ap (λ k. g k w n) e)
handed_same (Short w) e f g p = refl

handed_next : (x : Given Ending) (rest : List Todo) (go : Act Ending) → Handed x → ((w : World) (n : ℕ) → Handed (go w n)) → Handed (bind x (next rest (on go)))
handed_next (Gives (Goes On) w n) rest go h f = f w n
handed_next (Gives (Goes Broke) w n) rest go h f = h
handed_next (Gives (Goes Continued) w n) rest go h f = h
handed_next (Gives (Goes (Returned v)) w n) rest go h f = h
handed_next (Gives (Pauses more) w n) rest go h f = let e : Pauses more ≡ Goes On = h in cc
handed_next (Short w) rest go h f = tt

handed_declared : (h : Hooks) (s : Stmt) → is_declared s ≡ true → (w : World) (n : ℕ) → Handed (exec s h w n)
handed_declared h (Cleared x) p w n = refl
handed_declared h (Started x e) p w n = handed_bind (eval e h w n) _ (λ value v m. refl)
handed_declared h Nothing p w n = refl
handed_declared h Empty p w n = refl
handed_declared h (Block ss) p w n = let e : false ≡ true = p in cc
handed_declared h (Locals ss) p w n = let e : false ≡ true = p in cc
handed_declared h (Assign target e) p w n = let e : false ≡ true = p in cc
handed_declared h (Update target op kind e) p w n = let e : false ≡ true = p in cc
handed_declared h (Count op target) p w n = let e : false ≡ true = p in cc
handed_declared h (Perform f es) p w n = let e : false ≡ true = p in cc
handed_declared h (If c a b) p w n = let e : false ≡ true = p in cc
handed_declared h (Loop s) p w n = let e : false ≡ true = p in cc
handed_declared h (Times x c s) p w n = let e : false ≡ true = p in cc
handed_declared h (While c s) p w n = let e : false ≡ true = p in cc
handed_declared h (Each x s) p w n = let e : false ≡ true = p in cc
handed_declared h (For start c step s) p w n = let e : false ≡ true = p in cc
handed_declared h Break p w n = let e : false ≡ true = p in cc
handed_declared h Continue p w n = let e : false ≡ true = p in cc
handed_declared h Return p w n = let e : false ≡ true = p in cc
handed_declared h (Answer e) p w n = let e : false ≡ true = p in cc
handed_declared h Advance p w n = let e : false ≡ true = p in cc
handed_declared h (Write n' e) p w n = let e : false ≡ true = p in cc

pub handed_locals : (h : Hooks) (ss : Stmts) → are_declared ss ≡ true → (w : World) (n : ℕ) → Handed (exec_all ss h w n)
handed_locals h End p w n = refl
handed_locals h (More s ss) p w n =
    handed_next (exec s h w n) (all ss) (exec_all ss h) (handed_declared h s (and_left (is_declared s) (are_declared ss) p) w n)
    (handed_locals h ss (and_right (is_declared s) (are_declared ss) p))

pub handed : (h : Hooks) (s : Stmt) → goes_on s ≡ true → (w : World) (n : ℕ) → Handed (exec s h w n)
handed h Nothing p w n = refl
handed h (Locals ss) p w n = handed_locals h ss p w n
handed h (Assign target e) p w n = handed_bind (found target h w n) _ (λ part v m. handed_bind (eval e h v m) _ (λ value u k. refl))
handed h (Update target op kind e) p w n = handed_bind (found target h w n) _ (λ part v m. handed_bind (eval e h v m) _ (λ value u k. refl))
handed h (Count op target) p w n = handed_bind (found target h w n) _ (λ part v m. refl)
handed h (Perform f es) p w n = handed_bind (eval_all es h w n) _ (λ values v m. handed_bind (h.call f values v m) _ (λ value u k. refl))
handed h Empty p w n = refl
handed h (Cleared x) p w n = let e : false ≡ true = p in cc
handed h (Started x e) p w n = let e : false ≡ true = p in cc
handed h (Block ss) p w n = let e : false ≡ true = p in cc
handed h (If c a b) p w n = let e : false ≡ true = p in cc
handed h (Loop s) p w n = let e : false ≡ true = p in cc
handed h (Times x c s) p w n = let e : false ≡ true = p in cc
handed h (While c s) p w n = let e : false ≡ true = p in cc
handed h (Each x s) p w n = let e : false ≡ true = p in cc
handed h (For start c step s) p w n = let e : false ≡ true = p in cc
handed h Break p w n = let e : false ≡ true = p in cc
handed h Continue p w n = let e : false ≡ true = p in cc
handed h Return p w n = let e : false ≡ true = p in cc
handed h (Answer e) p w n = let e : false ≡ true = p in cc
handed h Advance p w n = let e : false ≡ true = p in cc
handed h (Write n' e) p w n = let e : false ≡ true = p in cc

-- ---- no pause

abbrev pub Quiet : Given Ending → Type 0
Quiet (Gives (Goes way) w n) = Unit {0}
Quiet (Gives (Pauses rest) w n) = ⊥
Quiet (Short w) = Unit {0}

handed_quiet : (x : Given Ending) → Handed x → Quiet x
handed_quiet (Gives (Goes way) w n) h = tt
handed_quiet (Gives (Pauses more) w n) h = let e : Pauses more ≡ Goes On = h in cc
handed_quiet (Short w) h = tt

quiet_bind : {A : Type 0} (x : Given A) (go : A → Act Ending) → ((value : A) (w : World) (n : ℕ) → Quiet (go value w n)) → Quiet (bind x go)
quiet_bind (Gives value w n) go f = f value w n
quiet_bind (Short w) go f = tt

quiet_if : (b : Bool) (x y : Act Ending) → ((w : World) (n : ℕ) → Quiet (x w n)) → ((w : World) (n : ℕ) → Quiet (y w n)) → (w : World) (n : ℕ) → Quiet ((if b then x else y) w n)
quiet_if true x y f g w n = f w n
quiet_if false x y f g w n = g w n

quiet_next : (x : Given Ending) (rest : List Todo) (go : Way → Act Ending) → Quiet x → ((way : Way) (w : World) (n : ℕ) → Quiet (go way w n)) → Quiet (bind x (next rest go))
quiet_next (Gives (Goes way) w n) rest go h f = f way w n
quiet_next (Gives (Pauses more) w n) rest go h f = h
quiet_next (Short w) rest go h f = tt

quiet_on : (go : Act Ending) → ((w : World) (n : ℕ) → Quiet (go w n)) → (way : Way) (w : World) (n : ℕ) → Quiet (on go way w n)
quiet_on go f On w n = f w n
quiet_on go f Broke w n = tt
quiet_on go f Continued w n = tt
quiet_on go f (Returned v) w n = tt

quiet_round : (go : Act Ending) → ((w : World) (n : ℕ) → Quiet (go w n)) → (way : Way) (w : World) (n : ℕ) → Quiet (round_end go way w n)
quiet_round go f On w n = f w n
quiet_round go f Broke w n = tt
quiet_round go f Continued w n = f w n
quiet_round go f (Returned v) w n = tt

quiet_begin : (go : Act Ending) → ((w : World) (n : ℕ) → Quiet (go w n)) → (w : World) (n : ℕ) → Quiet (begin go w n)
quiet_begin go f w zero = tt
quiet_begin go f w (suc n) = f w n

quiet_rounds : (most : ℕ) (t : Test) (h : Hooks) (step body : Act Ending) (again : Todo) → ((w : World) (n : ℕ) → Quiet (body w n)) → (w : World) (n : ℕ) → Quiet (rounds most t h step body again w n)
quiet_rounds zero t h step body again f w n = tt
quiet_rounds (suc most) t h step body again f w n =
    quiet_bind (tested t h w n) _
    (λ more. quiet_if more _ (gives (Goes On))
    (quiet_begin _ (λ v m. quiet_next (body (entered t h v) m) (again ∷ []) _ (f (entered t h v) m)
    (quiet_round (andthen step (λ _. rounds most t h step body again)) (λ u k. quiet_bind (step u k) _ (λ _. quiet_rounds most t h step body again f)))))
    (λ v m. tt))

mutual
  pub quiet_exec : (h : Hooks) (s : Stmt) → advances s ≡ false → is_orderly s ≡ true → (w : World) (n : ℕ) → Quiet (exec s h w n)
  quiet_exec h Nothing p q w n = tt
  quiet_exec h Empty p q w n = tt
  quiet_exec h (Block ss) p q w n = quiet_all h ss p q w n
  quiet_exec h (Locals ss) p q w n = handed_quiet (exec_all ss h w n) (handed_locals h ss q w n)
  quiet_exec h (Cleared x) p q w n = tt
  quiet_exec h (Started x e) p q w n = quiet_bind (eval e h w n) _ (λ value v m. tt)
  quiet_exec h (Assign target e) p q w n = handed_quiet _ (handed h (Assign target e) refl w n)
  quiet_exec h (Update target op kind e) p q w n = handed_quiet _ (handed h (Update target op kind e) refl w n)
  quiet_exec h (Count op target) p q w n = handed_quiet _ (handed h (Count op target) refl w n)
  quiet_exec h (Perform f es) p q w n = handed_quiet _ (handed h (Perform f es) refl w n)
  quiet_exec h (If c a b) p q w n =
      quiet_bind (holds c h w n) _
      (λ test. quiet_if test (exec a h) (exec b h)
      (quiet_exec h a (or_left (advances a) (advances b) p) (and_left (is_orderly a) (is_orderly b) q))
      (quiet_exec h b (or_right (advances a) (advances b) p) (and_right (is_orderly a) (is_orderly b) q)))
  quiet_exec h (Loop s) p q w n = quiet_rounds (suc n) Always h (gives (Goes On)) (exec s h) (Again Always Nothing s) (quiet_exec h s p q) w n
  quiet_exec h (Times x c s) p q w n =
      quiet_bind (eval c h w n) _
      (λ count v m. quiet_rounds (suc m) (Down x) h (gives (Goes On)) (exec s h) (Again (Down x) Nothing s) (quiet_exec h s p q) _ m)
  quiet_exec h (While c s) p q w n = quiet_rounds (suc n) (Holds c) h (gives (Goes On)) (exec s h) (Again (Holds c) Nothing s) (quiet_exec h s p q) w n
  quiet_exec h (Each x s) p q w n =
      quiet_begin _ (λ v m. quiet_next (exec s h v m) (Again (Next x) Nothing s ∷ []) _ (quiet_exec h s p q v m)
      (quiet_round (repeat (Next x) h (gives (Goes On)) (exec s h) (Again (Next x) Nothing s))
      (λ u k. quiet_rounds (suc k) (Next x) h (gives (Goes On)) (exec s h) (Again (Next x) Nothing s) (quiet_exec h s p q) u k))) _ n
  quiet_exec h (For start c step s) p q w n =
      quiet_bind (exec start h w n) _
      (λ _ v m. quiet_rounds (suc m) c h (exec step h) (exec s h) (Again c step s)
      (quiet_exec h s p (and_right (goes_on step) (is_orderly s) (and_right (goes_on start) (goes_on step && is_orderly s) q))) v m)
  quiet_exec h Break p q w n = tt
  quiet_exec h Continue p q w n = tt
  quiet_exec h Return p q w n = tt
  quiet_exec h (Answer e) p q w n = quiet_bind (eval e h w n) _ (λ value v m. tt)
  quiet_exec h Advance p q w n = let e : true ≡ false = p in cc
  quiet_exec h (Write e value) p q w n =
      quiet_bind (eval value h w n) _ (λ v u m. handed_quiet _ (handed_go (h.write e v) u m))

  pub quiet_all : (h : Hooks) (ss : Stmts) → any_advances ss ≡ false → are_orderly ss ≡ true → (w : World) (n : ℕ) → Quiet (exec_all ss h w n)
  quiet_all h End p q w n = tt
  quiet_all h (More s ss) p q w n =
      quiet_next (exec s h w n) (all ss) (on (exec_all ss h)) (quiet_exec h s (or_left (advances s) (any_advances ss) p) (and_left (is_orderly s) (are_orderly ss) q) w n)
      (quiet_on (exec_all ss h) (quiet_all h ss (or_right (advances s) (any_advances ss) p) (and_right (is_orderly s) (are_orderly ss) q)))
