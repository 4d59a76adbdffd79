-- A jump that begins no turn leads to a lower number, and one that does to a block that is there.
use Rattle.std.proofs.Common.{◌≡◌, ℕ, ◌+◌, ◌<◌, ◌≤◌, List, [], ◌∷◌, ◌++◌, Bool, true, false, Option, Some, None, length, sym, subst, arith, length-append}
use Rattle.std.specs.Prelude.{◌||◌}
use Rattle.cm_core.specs.Code.{Expr, Stmt, Nothing, Empty, Block, Locals, Cleared, Started, Assign, Update, Count, Perform, If, Loop, Times, While, Each, For, Break, Continue, Return, Answer, Advance, Write, Stmts, End, More}
use Rattle.cm_core.specs.World.{Todo, Do, Again}
use Rattle.cm_core.specs.Resume.{all}
use Rattle.cm_core.specs.Measures.{advances, any_advances}
use Rattle.advance_lowering.specs.Blocks.{Jump, Goto, Branch, Round, Suspend, Finish, Exits, EndFalls, ExitsFall, Falls}
use Rattle.advance_lowering.specs.Lowered.{Open, Marked, Part, kept, at_end, closed, choose, then_part, if_part, Kind, loop_part, loop_kind, times_kind, while_kind, each_kind, for_kind, lower, lower_all}

module _ (count : ℕ) where
  end_more : (m n : ℕ) → m ≤ n → (j : Jump) → EndFalls count m j → EndFalls count n j
  end_more m n le (Goto t) h = omega arith
  end_more m n le (Branch e x y) h = (omega (arith, h.0), omega (arith, h.1))
  end_more m n le (Round t x y) h = (h.0, omega (arith, h.1))
  end_more m n le (Suspend t) h = omega arith
  end_more m n le Finish h = tt

  exits_more : (m n : ℕ) → m ≤ n → (c : Option Exits) → ExitsFall m c → ExitsFall n c
  exits_more m n le None h = tt
  exits_more m n le (Some c) h = (omega (arith, h.0), omega (arith, h.1))

  abbrev pub Falling : ℕ → List Marked → Type 0
  Falling n [] = Unit {0}
  Falling n (x ∷ xs) = Falls count n x.1 × Falling (n + 1) xs

  pub falling_append : (n : ℕ) (a b : List Marked) → Falling n a → Falling (n + length a) b → Falling n (a ++ b)
  falling_append n [] b h k = let e : n + 0 ≡ n = omega arith in subst (λ m. Falling m b) e k
  falling_append n (x ∷ a) b h k =
      let e : n + length (x ∷ a) ≡ n + 1 + length a = omega arith in
      (h.0, falling_append (n + 1) a b h.1 (subst (λ m. Falling m b) e k))

  pub closed_falls : (n : ℕ) (c : Option Exits) (o : Open) → ExitsFall n c → EndFalls count n o.end → Falls count n (closed c o)
  closed_falls n c o u h = record { end = h; exits = u }

  pub record Fine (n : ℕ) (p : Part) : Type 0 where
    pub top : EndFalls count (n + length p.blocks) p.top.end
    pub each : Falling n p.blocks

  -- the part's blocks are among those counted
  abbrev pub Room : ℕ → Part → Type 0
  Room n p = n + length p.blocks ≤ count

  kept_fine : (n : ℕ) (s : Stmt) (o : Open) → EndFalls count n o.end → Fine n (kept s o)
  kept_fine n s o h = record { top = end_more n (n + 0) (omega arith) o.end h; each = tt }

  choose_fine : (n : ℕ) (t : Bool) (p q : Part) → (Room n p → Fine n p) → Fine n q → Room n (choose t p q) → Fine n (choose t p q)
  choose_fine n true p q f g h = f h
  choose_fine n false p q f g h = g

  then_fine : (n : ℕ) (p : Part) (before : ℕ → Open → Part) → (Room n p → Fine n p) →
      (EndFalls count (n + length p.blocks) p.top.end → Room (n + length p.blocks) (before (n + length p.blocks) p.top) → Fine (n + length p.blocks) (before (n + length p.blocks) p.top)) →
      Room n (then_part p before n) → Fine n (then_part p before n)
  then_fine n p before f g h =
      let m : ℕ = n + length p.blocks in
      let q : Part = before m p.top in
      let len = length-append p.blocks q.blocks in
      let a = f (omega (arith, h, len)) in
      let b = g a.top (omega (arith, h, len)) in
      let e : m + length q.blocks ≤ n + length (p.blocks ++ q.blocks) = omega (arith, len) in
      record { top = end_more _ _ e q.top.end b.top; each = falling_append n p.blocks q.blocks a.each b.each }

  if_fine : (e : Expr) (a b : Stmt) (la lb : ℕ → Open → Part) (n : ℕ) (c : Option Exits) (o : Open) (r : List Todo) → ExitsFall n c →
      ((m : ℕ) (p : Open) → ExitsFall m c → EndFalls count m p.end → Room m (la m p) → Fine m (la m p)) →
      ((m : ℕ) (p : Open) → ExitsFall m c → EndFalls count m p.end → Room m (lb m p) → Fine m (lb m p)) →
      EndFalls count n o.end → Room n (if_part e a b la lb n c o r) → Fine n (if_part e a b la lb n c o r)
  if_fine e a b la lb n c o r u fa fb t h =
      let pa : Part = la (n + 1) (at_end (Goto n)) in
      let x : ℕ = n + 1 + length pa.blocks in
      let pb : Part = lb (x + 1) (at_end (Goto n)) in
      let y : ℕ = x + 1 + length pb.blocks in
      let tail : List Marked = (Do b ∷ r, closed c pb.top) ∷ [] in
      let mid : List Marked = (Do a ∷ r, closed c pa.top) ∷ (pb.blocks ++ tail) in
      let len : n + length ((r, closed c o) ∷ (pa.blocks ++ mid)) ≡ y + 1 = omega (arith, length-append pa.blocks mid, length-append pb.blocks tail) in
      let ga = fa (n + 1) (at_end (Goto n)) (exits_more n (n + 1) (omega arith) c u) (omega arith) (omega (arith, len, h)) in
      let gb = fb (x + 1) (at_end (Goto n)) (exits_more n (x + 1) (omega arith) c u) (omega arith) (omega (arith, len, h)) in
      record {
        top = subst (λ k. EndFalls count k (Branch e x y)) (sym len) (omega arith, omega arith);
        each = (
          closed_falls n c o u t,
          falling_append (n + 1) pa.blocks mid ga.each (
            closed_falls x c pa.top (exits_more n x (omega arith) c u) ga.top,
            falling_append (x + 1) pb.blocks tail gb.each (closed_falls y c pb.top (exits_more n y (omega arith) c u) gb.top, tt),
          ),
        );
      }

  loop_fine : (k : Kind) (s : Stmt) (ls : ℕ → Option Exits → Open → List Todo → Part) (n : ℕ) (c : Option Exits) (o : Open) (r : List Todo) →
      ((m y : ℕ) → n + 1 < m → y < count → EndFalls count m (k.first (n + 1) y n)) → ExitsFall n c →
      ((m : ℕ) (d : Option Exits) (p : Open) (q : List Todo) → ExitsFall m d → EndFalls count m p.end → Room m (ls m d p q) → Fine m (ls m d p q)) →
      EndFalls count n o.end → Room n (loop_part k s ls n c o r) → Fine n (loop_part k s ls n c o r)
  loop_fine k s ls n c o r first u f t h =
      let d : Option Exits = Some (record { on_break = n; on_continue = n + 1 }) in
      let q : List Todo = Again k.test k.step s ∷ r in
      let p : Part = ls (n + 2) d (at_end (Goto (n + 1))) q in
      let y : ℕ = n + 2 + length p.blocks in
      let tail : List Marked = (Do s ∷ q, closed d p.top) ∷ [] in
      let again : Marked = (q, closed c (record { body = k.steps; end = Round k.test y n })) in
      let len : n + length ((r, closed c o) ∷ (again ∷ (p.blocks ++ tail))) ≡ y + 1 = omega (arith, length-append p.blocks tail) in
      let within : y < count = omega (arith, len, h) in
      let g = f (n + 2) d (at_end (Goto (n + 1))) q (omega arith, omega arith) (omega arith) (omega (arith, within)) in
      let two : n + 1 + 1 ≡ n + 2 = omega arith in
      let rest : Falling (n + 2) (p.blocks ++ tail) =
      falling_append (n + 2) p.blocks tail g.each (closed_falls y d p.top (omega arith, omega arith) g.top, tt) in
      record {
        top = first _ y (omega (arith, len)) within;
        each = (
          closed_falls n c o u t,
          (
            closed_falls (n + 1) c (record { body = k.steps; end = Round k.test y n }) (exits_more n (n + 1) (omega arith) c u) (within, omega arith),
            subst (λ m. Falling m (p.blocks ++ tail)) (sym two) rest,
          ),
        );
      }

  mutual
    pub lower_fine : (s : Stmt) (n : ℕ) (c : Option Exits) (o : Open) (r : List Todo) → ExitsFall n c → EndFalls count n o.end → Room n (lower s n c o r) → Fine n (lower s n c o r)
    lower_fine (Block ss) n c o r u t h =
        choose_fine n (any_advances ss) (lower_all ss n c o r) (kept (Block ss) o) (lower_all_fine ss n c o r u t) (kept_fine n (Block ss) o t) h
    lower_fine (If e a b) n c o r u t h =
        choose_fine n (advances a || advances b) (if_part e a b (λ m p. lower a m c p r) (λ m p. lower b m c p r) n c o r) (kept (If e a b) o)
        (if_fine e a b (λ m p. lower a m c p r) (λ m p. lower b m c p r) n c o r u (λ m p. lower_fine a m c p r) (λ m p. lower_fine b m c p r) t) (kept_fine n (If e a b) o t) h
    lower_fine (Loop s) n c o r u t h =
        choose_fine n (advances s) (loop_part loop_kind s (lower s) n c o r) (kept (Loop s) o)
        (loop_fine loop_kind s (lower s) n c o r (λ m y l w. l) u (λ m d p q. lower_fine s m d p q) t) (kept_fine n (Loop s) o t) h
    lower_fine (Times x e s) n c o r u t h =
        choose_fine n (advances s) (loop_part (times_kind x e) s (lower s) n c o r) (kept (Times x e s) o)
        (loop_fine (times_kind x e) s (lower s) n c o r (λ m y l w. l) u (λ m d p q. lower_fine s m d p q) t) (kept_fine n (Times x e s) o t) h
    lower_fine (While e s) n c o r u t h =
        choose_fine n (advances s) (loop_part (while_kind e) s (lower s) n c o r) (kept (While e s) o)
        (loop_fine (while_kind e) s (lower s) n c o r (λ m y l w. l) u (λ m d p q. lower_fine s m d p q) t) (kept_fine n (While e s) o t) h
    lower_fine (Each x s) n c o r u t h =
        choose_fine n (advances s) (loop_part (each_kind x) s (lower s) n c o r) (kept (Each x s) o)
        (loop_fine (each_kind x) s (lower s) n c o r (λ m y l w. (w, omega arith)) u (λ m d p q. lower_fine s m d p q) t) (kept_fine n (Each x s) o t) h
    lower_fine (For start e step s) n c o r u t h =
        choose_fine n (advances s) (loop_part (for_kind start e step) s (lower s) n c o r) (kept (For start e step s) o)
        (loop_fine (for_kind start e step) s (lower s) n c o r (λ m y l w. (w, omega arith)) u (λ m d p q. lower_fine s m d p q) t) (kept_fine n (For start e step s) o t) h
    lower_fine Advance n c o r u t h = record { top = omega arith; each = (closed_falls n c o u t, tt) }
    lower_fine Nothing n c o r u t h = kept_fine n Nothing o t
    lower_fine Empty n c o r u t h = kept_fine n Empty o t
    lower_fine (Locals ss) n c o r u t h = kept_fine n (Locals ss) o t
    lower_fine (Cleared x) n c o r u t h = kept_fine n (Cleared x) o t
    lower_fine (Started x e) n c o r u t h = kept_fine n (Started x e) o t
    lower_fine (Assign target e) n c o r u t h = kept_fine n (Assign target e) o t
    lower_fine (Update target op kind e) n c o r u t h = kept_fine n (Update target op kind e) o t
    lower_fine (Count op target) n c o r u t h = kept_fine n (Count op target) o t
    lower_fine (Perform f es) n c o r u t h = kept_fine n (Perform f es) o t
    lower_fine Break n c o r u t h = kept_fine n Break o t
    lower_fine Continue n c o r u t h = kept_fine n Continue o t
    lower_fine Return n c o r u t h = kept_fine n Return o t
    lower_fine (Answer e) n c o r u t h = kept_fine n (Answer e) o t
    lower_fine (Write x e) n c o r u t h = kept_fine n (Write x e) o t

    pub lower_all_fine : (ss : Stmts) (n : ℕ) (c : Option Exits) (o : Open) (r : List Todo) → ExitsFall n c → EndFalls count n o.end → Room n (lower_all ss n c o r) → Fine n (lower_all ss n c o r)
    lower_all_fine End n c o r u t h = record { top = end_more n (n + 0) (omega arith) o.end t; each = tt }
    lower_all_fine (More s ss) n c o r u t h =
        then_fine n (lower_all ss n c o r) (λ m p. lower s m c p (all ss ++ r)) (lower_all_fine ss n c o r u t)
        (λ t' k. lower_fine s _ c _ (all ss ++ r) (exits_more n _ (omega arith) c u) t' k) h
