-- Each block stands for its rest.
use Rattle.std.proofs.Common.{◌≡◌, ℕ, ◌+◌, List, [], ◌∷◌, ◌++◌, Bool, true, false, if◌then◌else◌, Option, Some, length, refl, sym, ap, ◌∙◌, subst, arith, pos}
use Rattle.std.specs.Prelude.{◌||◌, ◌&&◌}
use Rattle.cm_core.specs.Code.{Expr, Number, Test, Always, Holds, Down, Next, Stmt, Nothing, Empty, Block, Locals, Cleared, Started, Assign, Update, Count, Perform, If, Loop, Times, While, Each, For, Break, Continue, Return, Answer, Advance, Write, Stmts, End, More}
use Rattle.cm_core.specs.World.{Todo, Do, Again}
use Rattle.cm_core.specs.Acts.{Given, Gives, Short, bind, andthen, after, change, begin}
use Rattle.cm_core.specs.Eval.{Hooks, holds}
use Rattle.cm_core.specs.Resume.{On, Broke, Continued, Returned, Ending, Goes, Pauses, next, on, tested, entered, all, exec, exec_all, resume}
use Rattle.cm_core.specs.Measures.{advances, any_advances}
use Rattle.cm_core.proofs.Steady.{Calm}
use Rattle.cm_core.proofs.Cases.{drops, block_case, if_case}
use Rattle.advance_lowering.specs.Blocks.{Jump, Goto, Round, Exits, Rests, rest_at, jump_to, broken, continued, leave, run_block, goes_on, is_orderly, are_orderly}
use Rattle.advance_lowering.specs.Lowered.{Open, Marked, Part, pushed, kept, at_end, closed, choose, then_part, if_part, Kind, loop_part, started, loop_kind, times_kind, while_kind, each_kind, for_kind, lower, lower_all}
use Rattle.advance_lowering.proofs.Quiet.{and_left, and_right, Quiet, quiet_exec}
use Rattle.advance_lowering.proofs.Laws.{returned, tried, rounds_alone, rounds_after, loop_first, while_first, times_first, each_first, for_first}

-- the rests of these blocks stand in the table from this number on
abbrev pub HasAt : Rests → ℕ → List Marked → Type 0
HasAt rs base [] = Unit {0}
HasAt rs base (x ∷ xs) = (rest_at rs base ≡ x.0) × HasAt rs (base + 1) xs

pub has_front : (rs : Rests) (base : ℕ) (a b : List Marked) → HasAt rs base (a ++ b) → HasAt rs base a
has_front rs base [] b h = tt
has_front rs base (x ∷ a) b h = (h.0, has_front rs (base + 1) a b h.1)

pub has_back : (rs : Rests) (base : ℕ) (a b : List Marked) → HasAt rs base (a ++ b) → HasAt rs (base + length a) b
has_back rs base [] b h = let e : base ≡ base + 0 = omega arith in subst (λ n. HasAt rs n b) e h
has_back rs base (x ∷ a) b h =
    let e : base + 1 + length a ≡ base + length (x ∷ a) = omega arith in
    subst (λ n. HasAt rs n b) e (has_back rs (base + 1) a b h.1)

module _ (h : Hooks) (calm : Calm h) (rs : Rests) where
  abbrev pub EachStands : List Marked → Type 0
  EachStands [] = Unit {0}
  EachStands (x ∷ xs) = (run_block rs x.1 h ≡ resume x.0 h On) × EachStands xs

  pub each_append : (a b : List Marked) → EachStands a → EachStands b → EachStands (a ++ b)
  each_append [] b p q = q
  each_append (x ∷ a) b p q = (p.0, each_append a b p.1 q)

  -- `break` and `continue` lead to blocks for what they leave of the rest
  pub record Fits (c : Option Exits) (r : List Todo) : Type 0 where
    pub on_break : resume r h Broke ≡ broken rs c h
    pub on_continue : resume r h Continued ≡ continued rs c h

  pub record Means (c : Option Exits) (o : Open) (r : List Todo) : Type 0 where
    pub by : run_block rs (closed c o) h ≡ resume r h On

  pub record Good (c : Option Exits) (p : Part) (r : List Todo) : Type 0 where
    pub top : Means c p.top r
    pub each : EachStands p.blocks

  -- ---- statements that are kept

  push_next : (c : Option Exits) (s : Stmt) (o : Open) (r : List Todo) → Fits c r → Means c o r → (x : Given Ending) → Quiet x →
      bind (bind x (next (all o.body) (on (exec_all o.body h)))) (next [] (leave rs (closed c (pushed s o)) h)) ≡ bind x (next r (resume r h))
  push_next c s o r f m (Gives (Goes On) w n) q = λ i. m.by i w n
  push_next c s o r f m (Gives (Goes Broke) w n) q = λ i. sym f.on_break i w n
  push_next c s o r f m (Gives (Goes Continued) w n) q = λ i. sym f.on_continue i w n
  push_next c s o r f m (Gives (Goes (Returned v)) w n) q = λ i. sym (returned r h v) i w n
  push_next c s o r f m (Gives (Pauses more) w n) q = absurd q
  push_next c s o r f m (Short w) q = refl

  pushed_means : (c : Option Exits) (s : Stmt) (o : Open) (r : List Todo) → advances s ≡ false → is_orderly s ≡ true → Fits c r → Means c o r → Means c (pushed s o) (Do s ∷ r)
  pushed_means c s o r p q f m =
      record { by = λ i w n. push_next c s o r f m (exec s h w n) (quiet_exec h s p q w n) i }

  kept_good : (c : Option Exits) (s : Stmt) (o : Open) (r : List Todo) → is_orderly s ≡ true → Fits c r → Means c o r → advances s ≡ false → Good c (kept s o) (Do s ∷ r)
  kept_good c s o r q f m p = record { top = pushed_means c s o r p q f m; each = tt }

  choose_good : (c : Option Exits) (base : ℕ) (r : List Todo) (t : Bool) (p q : Part) → (HasAt rs base p.blocks → Good c p r) → (t ≡ false → Good c q r) →
      HasAt rs base (choose t p q).blocks → Good c (choose t p q) r
  choose_good c base r true p q f g k = f k
  choose_good c base r false p q f g k = g refl

  -- ---- lists

  fits_all : (c : Option Exits) (ss : Stmts) (r : List Todo) → Fits c r → Fits c (all ss ++ r)
  fits_all c ss r f = record { on_break = (drops ss r h).0 ∙ f.on_break; on_continue = (drops ss r h).1 ∙ f.on_continue }

  fits_do : (c : Option Exits) (s : Stmt) (r : List Todo) → Fits c r → Fits c (Do s ∷ r)
  fits_do c s r f = record { on_break = f.on_break; on_continue = f.on_continue }

  then_good : (c : Option Exits) (base : ℕ) (r q : List Todo) (p : Part) (before : ℕ → Open → Part) → (HasAt rs base p.blocks → Good c p r) →
      (Means c p.top r → HasAt rs (base + length p.blocks) (before (base + length p.blocks) p.top).blocks → Good c (before (base + length p.blocks) p.top) q) →
      HasAt rs base (then_part p before base).blocks → Good c (then_part p before base) q
  then_good c base r q p before f g k =
      let bs = (before (base + length p.blocks) p.top).blocks in
      let a = f (has_front rs base p.blocks bs k) in
      let b = g a.top (has_back rs base p.blocks bs k) in
      record { top = b.top; each = each_append p.blocks bs a.each b.each }

  -- ---- `if`

  goto_means : (c : Option Exits) (b : ℕ) (r : List Todo) → rest_at rs b ≡ r → Means c (at_end (Goto b)) r
  goto_means c b r e = record { by = ap (λ x. resume x h On) e }

  if_good : (e : Expr) (a b : Stmt) (la lb : ℕ → Open → Part) (base : ℕ) (c : Option Exits) (o : Open) (r : List Todo) →
      ((n : ℕ) (p : Open) → Means c p r → HasAt rs n (la n p).blocks → Good c (la n p) (Do a ∷ r)) →
      ((n : ℕ) (p : Open) → Means c p r → HasAt rs n (lb n p).blocks → Good c (lb n p) (Do b ∷ r)) →
      Means c o r → HasAt rs base (if_part e a b la lb base c o r).blocks → Good c (if_part e a b la lb base c o r) (Do (If e a b) ∷ r)
  if_good e a b la lb base c o r fa fb m k =
      let pa : Part = la (base + 1) (at_end (Goto base)) in
      let x : ℕ = base + 1 + length pa.blocks in
      let pb : Part = lb (x + 1) (at_end (Goto base)) in
      let y : ℕ = x + 1 + length pb.blocks in
      let j = goto_means c base r k.0 in
      let ka = has_back rs (base + 1) pa.blocks _ k.1 in
      let ga = fa (base + 1) (at_end (Goto base)) j (has_front rs (base + 1) pa.blocks _ k.1) in
      let gb = fb (x + 1) (at_end (Goto base)) j (has_front rs (x + 1) pb.blocks _ ka.1) in
      let kb = has_back rs (x + 1) pb.blocks _ ka.1 in
      record {
        top = record {
          by = (λ i. andthen (holds e h) (λ test. if test then resume (ka.0 i) h On else resume (kb.0 i) h On)) ∙ sym (if_case e a b r h);
        };
        each = (m.by, each_append pa.blocks _ ga.each (ga.top.by, each_append pb.blocks _ gb.each (gb.top.by, tt)));
      }

  -- ---- loops

  -- what is proved of each kind of loop: of its start and of its further rounds
  record Turns (k : Kind) (s me : Stmt) (r : List Todo) : Type 0 where
    first : (c : Option Exits) (again y z : ℕ) → rest_at rs again ≡ Again k.test k.step s ∷ r → jump_to rs (Round k.test y z) h ≡ tried r h calm k.test k.step s →
        rest_at rs y ≡ Do s ∷ Again k.test k.step s ∷ r → Means c (record { body = k.start; end = k.first again y z }) (Do me ∷ r)
    further : (c : Option Exits) (j : Jump) → jump_to rs j h ≡ tried r h calm k.test k.step s → Means c (record { body = k.steps; end = j }) (Again k.test k.step s ∷ r)

  round_means : (t : Test) (step s : Stmt) (r : List Todo) (y z : ℕ) → rest_at rs y ≡ Do s ∷ Again t step s ∷ r → rest_at rs z ≡ r → jump_to rs (Round t y z) h ≡ tried r h calm t step s
  round_means t step s r y z ey ez =
      λ i. andthen (tested t h) (λ more. if more then begin (after (change (entered t h)) (resume (ey i) h On)) else resume (ez i) h On)

  loop_good : (k : Kind) (s me : Stmt) (ls : ℕ → Option Exits → Open → List Todo → Part) (base : ℕ) (c : Option Exits) (o : Open) (r : List Todo) → Turns k s me r →
      ((n : ℕ) (d : Option Exits) (p : Open) (q : List Todo) → Fits d q → Means d p q → HasAt rs n (ls n d p q).blocks → Good d (ls n d p q) (Do s ∷ q)) →
      Means c o r → HasAt rs base (loop_part k s ls base c o r).blocks → Good c (loop_part k s ls base c o r) (Do me ∷ r)
  loop_good k s me ls base c o r t f m ha =
      let d : Option Exits = Some (record { on_break = base; on_continue = base + 1 }) in
      let q : List Todo = Again k.test k.step s ∷ r in
      let p : Part = ls (base + 2) d (at_end (Goto (base + 1))) q in
      let y : ℕ = base + 2 + length p.blocks in
      let fits : Fits d q = record { on_break = λ i. resume (sym ha.0 i) h On; on_continue = λ i. resume (sym ha.1.0 i) h On } in
      let two : base + 1 + 1 ≡ base + 2 = omega arith in
      let h2 = subst (λ n. HasAt rs n (p.blocks ++ ((Do s ∷ q, closed d p.top) ∷ []))) two ha.1.1 in
      let g = f (base + 2) d (at_end (Goto (base + 1))) q fits (goto_means d (base + 1) q ha.1.0) (has_front rs (base + 2) p.blocks _ h2) in
      let hy = has_back rs (base + 2) p.blocks _ h2 in
      let round = round_means k.test k.step s r y base hy.0 ha.0 in
      record {
        top = t.first c (base + 1) y base ha.1.0 round hy.0;
        each = (m.by, ((t.further c (Round k.test y base) round).by, each_append p.blocks _ g.each (g.top.by, tt)));
      }

  alone : (t : Test) (s : Stmt) (r : List Todo) (c : Option Exits) (j : Jump) → jump_to rs j h ≡ tried r h calm t Nothing s → Means c (at_end j) (Again t Nothing s ∷ r)
  alone t s r c j e = record { by = e ∙ sym (rounds_alone r h calm t s) }

  loop_turns : (s : Stmt) (r : List Todo) → Turns loop_kind s (Loop s) r
  loop_turns s r =
      record {
        first = λ c again y z e round ey. record { by = (λ i. resume (e i) h On) ∙ loop_first r h calm s };
        further = alone Always s r;
      }

  while_turns : (e : Expr) (s : Stmt) (r : List Todo) → Turns (while_kind e) s (While e s) r
  while_turns e s r =
      record {
        first = λ c again y z ea round ey. record { by = (λ i. resume (ea i) h On) ∙ while_first r h calm e s };
        further = alone (Holds e) s r;
      }

  times_turns : (x : ℕ) (e : Expr) (s : Stmt) (r : List Todo) → Turns (times_kind x e) s (Times x e s) r
  times_turns x e s r =
      record {
        first = λ c again y z ea round ey. record {
          by = times_first r h calm x e s (leave rs (closed c (record { body = started x e; end = Goto again })) h) (λ i. resume (ea i) h On);
        };
        further = alone (Down x) s r;
      }

  each_turns : (x : ℕ) (s : Stmt) (r : List Todo) → Turns (each_kind x) s (Each x s) r
  each_turns x s r =
      record {
        first = λ c again y z ea round ey. record {
          by = each_first r h calm x s (leave rs (closed c (record { body = started x (Number (pos 0) false); end = Round Always y z })) h) (λ i. begin (resume (ey i) h On));
        };
        further = alone (Next x) s r;
      }

  for_turns : (start : Stmt) (t : Test) (step s : Stmt) (r : List Todo) → goes_on start ≡ true → goes_on step ≡ true → Turns (for_kind start t step) s (For start t step s) r
  for_turns start t step s r p q =
      record {
        first = λ c again y z ea round ey. record {
          by = for_first r h calm start t step s (leave rs (closed c (record { body = More start End; end = Round t y z })) h) p round;
        };
        further = λ c j e. record { by = rounds_after r h calm t step s (leave rs (closed c (record { body = More step End; end = j })) h) q e };
      }

  -- ---- all statements

  mutual
    pub lower_good : (s : Stmt) (base : ℕ) (c : Option Exits) (o : Open) (r : List Todo) → is_orderly s ≡ true → Fits c r → Means c o r →
        HasAt rs base (lower s base c o r).blocks → Good c (lower s base c o r) (Do s ∷ r)
    lower_good (Block ss) base c o r q f m k =
        choose_good c base (Do (Block ss) ∷ r) (any_advances ss) (lower_all ss base c o r) (kept (Block ss) o)
        (λ k. let g = lower_all_good ss base c o r q f m k in record { top = record { by = g.top.by ∙ sym (block_case ss r h) }; each = g.each })
        (λ p. kept_good c (Block ss) o r q f m p) k
    lower_good (If e a b) base c o r q f m k =
        choose_good c base (Do (If e a b) ∷ r) (advances a || advances b) (if_part e a b (λ n p. lower a n c p r) (λ n p. lower b n c p r) base c o r) (kept (If e a b) o)
        (λ k. if_good e a b (λ n p. lower a n c p r) (λ n p. lower b n c p r) base c o r
        (λ n p g. lower_good a n c p r (and_left (is_orderly a) (is_orderly b) q) f g) (λ n p g. lower_good b n c p r (and_right (is_orderly a) (is_orderly b) q) f g) m k)
        (λ p. kept_good c (If e a b) o r q f m p) k
    lower_good (Loop s) base c o r q f m k =
        choose_good c base (Do (Loop s) ∷ r) (advances s) (loop_part loop_kind s (lower s) base c o r) (kept (Loop s) o)
        (λ k. loop_good loop_kind s (Loop s) (lower s) base c o r (loop_turns s r) (λ n d p x. lower_good s n d p x q) m k) (λ p. kept_good c (Loop s) o r q f m p) k
    lower_good (Times x e s) base c o r q f m k =
        choose_good c base (Do (Times x e s) ∷ r) (advances s) (loop_part (times_kind x e) s (lower s) base c o r) (kept (Times x e s) o)
        (λ k. loop_good (times_kind x e) s (Times x e s) (lower s) base c o r (times_turns x e s r) (λ n d p x. lower_good s n d p x q) m k) (λ p. kept_good c (Times x e s) o r q f m p) k
    lower_good (While e s) base c o r q f m k =
        choose_good c base (Do (While e s) ∷ r) (advances s) (loop_part (while_kind e) s (lower s) base c o r) (kept (While e s) o)
        (λ k. loop_good (while_kind e) s (While e s) (lower s) base c o r (while_turns e s r) (λ n d p x. lower_good s n d p x q) m k) (λ p. kept_good c (While e s) o r q f m p) k
    lower_good (Each x s) base c o r q f m k =
        choose_good c base (Do (Each x s) ∷ r) (advances s) (loop_part (each_kind x) s (lower s) base c o r) (kept (Each x s) o)
        (λ k. loop_good (each_kind x) s (Each x s) (lower s) base c o r (each_turns x s r) (λ n d p x. lower_good s n d p x q) m k) (λ p. kept_good c (Each x s) o r q f m p) k
    lower_good (For start t step s) base c o r q f m k =
        let q' = and_right (goes_on start) (goes_on step && is_orderly s) q in
        choose_good c base (Do (For start t step s) ∷ r) (advances s) (loop_part (for_kind start t step) s (lower s) base c o r) (kept (For start t step s) o)
        (λ k. loop_good (for_kind start t step) s (For start t step s) (lower s) base c o r
        (for_turns start t step s r (and_left (goes_on start) (goes_on step && is_orderly s) q) (and_left (goes_on step) (is_orderly s) q'))
        (λ n d p x. lower_good s n d p x (and_right (goes_on step) (is_orderly s) q')) m k)
        (λ p. kept_good c (For start t step s) o r q f m p) k
    lower_good Advance base c o r q f m k =
        record { top = record { by = λ i w n. Gives (Pauses (k.0 i)) w n }; each = (m.by, tt) }
    lower_good Nothing base c o r q f m k = kept_good c Nothing o r q f m refl
    lower_good Empty base c o r q f m k = kept_good c Empty o r q f m refl
    lower_good (Locals ss) base c o r q f m k = kept_good c (Locals ss) o r q f m refl
    lower_good (Cleared x) base c o r q f m k = kept_good c (Cleared x) o r q f m refl
    lower_good (Started x e) base c o r q f m k = kept_good c (Started x e) o r q f m refl
    lower_good (Assign target e) base c o r q f m k = kept_good c (Assign target e) o r q f m refl
    lower_good (Update target op kind e) base c o r q f m k = kept_good c (Update target op kind e) o r q f m refl
    lower_good (Count op target) base c o r q f m k = kept_good c (Count op target) o r q f m refl
    lower_good (Perform g es) base c o r q f m k = kept_good c (Perform g es) o r q f m refl
    lower_good Break base c o r q f m k = kept_good c Break o r q f m refl
    lower_good Continue base c o r q f m k = kept_good c Continue o r q f m refl
    lower_good Return base c o r q f m k = kept_good c Return o r q f m refl
    lower_good (Answer e) base c o r q f m k = kept_good c (Answer e) o r q f m refl
    lower_good (Write n e) base c o r q f m k = kept_good c (Write n e) o r q f m refl

    pub lower_all_good : (ss : Stmts) (base : ℕ) (c : Option Exits) (o : Open) (r : List Todo) → are_orderly ss ≡ true → Fits c r → Means c o r →
        HasAt rs base (lower_all ss base c o r).blocks → Good c (lower_all ss base c o r) (all ss ++ r)
    lower_all_good End base c o r q f m k = record { top = m; each = tt }
    lower_all_good (More s ss) base c o r q f m k =
        then_good c base (all ss ++ r) (Do s ∷ (all ss ++ r)) (lower_all ss base c o r) (λ n p. lower s n c p (all ss ++ r))
        (λ k. lower_all_good ss base c o r (and_right (is_orderly s) (are_orderly ss) q) f m k)
        (λ g k. lower_good s _ c _ (all ss ++ r) (and_left (is_orderly s) (are_orderly ss) q) (fits_all c ss r f) g k) k
