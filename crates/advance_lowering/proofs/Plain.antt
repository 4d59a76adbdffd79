-- No `advance` stands in a block, and there are few blocks.
use Rattle.std.proofs.Common.{◌≡◌, ℕ, ◌+◌, ◌*◌, ◌≤◌, List, [], ◌∷◌, ◌++◌, Bool, true, false, Option, Some, length, refl, arith, length-append}
use Rattle.std.specs.Prelude.{◌||◌, ◌&&◌}
use Rattle.cm_core.specs.Code.{Expr, Stmt, Nothing, Empty, Block, Locals, Cleared, Started, Assign, Update, Count, Perform, If, Loop, Times, While, Each, For, Break, Continue, Return, Answer, Advance, Write, Stmts, End, More}
use Rattle.cm_core.specs.World.{Todo, Do, Again}
use Rattle.cm_core.specs.Resume.{all}
use Rattle.cm_core.specs.Measures.{advances, any_advances, counted, splits_in, splits_among, main_splits}
use Rattle.advance_lowering.specs.Blocks.{Goto, Exits, goes_on, is_orderly, are_orderly}
use Rattle.advance_lowering.specs.Lowered.{Open, Marked, Part, kept, at_end, closed, choose, then_part, if_part, Kind, loop_part, loop_kind, times_kind, while_kind, each_kind, for_kind, lower, lower_all}
use Rattle.advance_lowering.proofs.Quiet.{and_left, and_right}

abbrev pub Plain : List Marked → Type 0
Plain [] = Unit {0}
Plain (x ∷ xs) = (any_advances (x.1).body ≡ false) × Plain xs

pub plain_append : (a b : List Marked) → Plain a → Plain b → Plain (a ++ b)
plain_append [] b h k = k
plain_append (x ∷ a) b h k = (h.0, plain_append a b h.1 k)

both_false : (a b : Bool) → a ≡ false → b ≡ false → (a || b) ≡ false
both_false true b h k = h
both_false false b h k = k

-- what only hands on has no `advance`
on_plain : (s : Stmt) → goes_on s ≡ true → advances s ≡ false
on_plain Nothing p = refl
on_plain (Locals ss) p = refl
on_plain (Assign target e) p = refl
on_plain (Update target op kind e) p = refl
on_plain (Count op target) p = refl
on_plain (Perform f es) p = refl
on_plain Empty p = refl
on_plain (Cleared x) p = refl
on_plain (Started x e) p = refl
on_plain (Block ss) p = let e : false ≡ true = p in cc
on_plain (If c a b) p = let e : false ≡ true = p in cc
on_plain (Loop s) p = let e : false ≡ true = p in cc
on_plain (Times x c s) p = let e : false ≡ true = p in cc
on_plain (While c s) p = let e : false ≡ true = p in cc
on_plain (Each x s) p = let e : false ≡ true = p in cc
on_plain (For start c step s) p = let e : false ≡ true = p in cc
on_plain Break p = refl
on_plain Continue p = refl
on_plain Return p = refl
on_plain (Answer e) p = refl
on_plain Advance p = let e : false ≡ true = p in cc
on_plain (Write n e) p = refl

pub record Bare (m : ℕ) (p : Part) : Type 0 where
  pub top : any_advances p.top.body ≡ false
  pub each : Plain p.blocks
  pub few : length p.blocks ≤ 3 * m

kept_bare : (m : ℕ) (s : Stmt) (o : Open) → advances s ≡ false → any_advances o.body ≡ false → Bare m (kept s o)
kept_bare m s o h k = record { top = both_false (advances s) (any_advances o.body) h k; each = tt; few = omega arith }

choose_bare : (m : Bool → ℕ) (t : Bool) (p q : Part) → Bare (m true) p → (t ≡ false → (n : ℕ) → Bare n q) → Bare (m t) (choose t p q)
choose_bare m true p q h k = h
choose_bare m false p q h k = k refl (m false)

then_bare : (m k n : ℕ) (p : Part) (before : ℕ → Open → Part) → Bare m p → (any_advances p.top.body ≡ false → Bare k (before (n + length p.blocks) p.top)) → Bare (k + m) (then_part p before n)
then_bare m k n p before h f =
    let q : Part = before (n + length p.blocks) p.top in
    let g = f h.top in
    record { top = g.top; each = plain_append p.blocks q.blocks h.each g.each; few = let a = h.few in let b = g.few in omega (arith, length-append p.blocks q.blocks) }

if_bare : (i j : ℕ) (e : Expr) (a b : Stmt) (la lb : ℕ → Open → Part) (n : ℕ) (c : Option Exits) (o : Open) (r : List Todo) →
    ((m : ℕ) (p : Open) → any_advances p.body ≡ false → Bare i (la m p)) → ((m : ℕ) (p : Open) → any_advances p.body ≡ false → Bare j (lb m p)) →
    any_advances o.body ≡ false → Bare (1 + i + j) (if_part e a b la lb n c o r)
if_bare i j e a b la lb n c o r fa fb h =
    let pa : Part = la (n + 1) (at_end (Goto n)) in
    let x : ℕ = n + 1 + length pa.blocks in
    let pb : Part = lb (x + 1) (at_end (Goto n)) in
    let ga = fa (n + 1) (at_end (Goto n)) refl in
    let gb = fb (x + 1) (at_end (Goto n)) refl in
    let tail : List Marked = (Do b ∷ r, closed c pb.top) ∷ [] in
    let mid : List Marked = (Do a ∷ r, closed c pa.top) ∷ (pb.blocks ++ tail) in
    record {
      top = refl;
      each = (h, plain_append pa.blocks mid ga.each (ga.top, plain_append pb.blocks tail gb.each (gb.top, tt)));
      few = let u = ga.few in let v = gb.few in omega (arith, length-append pa.blocks mid, length-append pb.blocks tail);
    }

loop_bare : (i : ℕ) (k : Kind) (s : Stmt) (ls : ℕ → Option Exits → Open → List Todo → Part) (n : ℕ) (c : Option Exits) (o : Open) (r : List Todo) →
    any_advances k.start ≡ false → any_advances k.steps ≡ false → ((m : ℕ) (d : Option Exits) (p : Open) (q : List Todo) → any_advances p.body ≡ false → Bare i (ls m d p q)) →
    any_advances o.body ≡ false → Bare (1 + i) (loop_part k s ls n c o r)
loop_bare i k s ls n c o r first step f h =
    let d : Option Exits = Some (record { on_break = n; on_continue = n + 1 }) in
    let q : List Todo = Again k.test k.step s ∷ r in
    let p : Part = ls (n + 2) d (at_end (Goto (n + 1))) q in
    let g = f (n + 2) d (at_end (Goto (n + 1))) q refl in
    let tail : List Marked = (Do s ∷ q, closed d p.top) ∷ [] in
    record {
      top = first;
      each = (h, (step, plain_append p.blocks tail g.each (g.top, tt)));
      few = let u = g.few in omega (arith, length-append p.blocks tail);
    }

mutual
  pub lower_bare : (s : Stmt) (n : ℕ) (c : Option Exits) (o : Open) (r : List Todo) → is_orderly s ≡ true → any_advances o.body ≡ false → Bare (splits_in s) (lower s n c o r)
  lower_bare (Block ss) n c o r q h =
      choose_bare (λ t. counted t + splits_among ss) (any_advances ss) (lower_all ss n c o r) (kept (Block ss) o)
      (let g = lower_all_bare ss n c o r q h in record { top = g.top; each = g.each; few = let u = g.few in omega arith }) (λ e m. kept_bare m (Block ss) o e h)
  lower_bare (If e a b) n c o r q h =
      choose_bare (λ t. counted t + splits_in a + splits_in b) (advances a || advances b) (if_part e a b (λ m p. lower a m c p r) (λ m p. lower b m c p r) n c o r) (kept (If e a b) o)
      (if_bare (splits_in a) (splits_in b) e a b (λ m p. lower a m c p r) (λ m p. lower b m c p r) n c o r
      (λ m p k. lower_bare a m c p r (and_left (is_orderly a) (is_orderly b) q) k) (λ m p k. lower_bare b m c p r (and_right (is_orderly a) (is_orderly b) q) k) h)
      (λ t m. kept_bare m (If e a b) o t h)
  lower_bare (Loop s) n c o r q h =
      choose_bare (λ t. counted t + splits_in s) (advances s) (loop_part loop_kind s (lower s) n c o r) (kept (Loop s) o)
      (loop_bare (splits_in s) loop_kind s (lower s) n c o r refl refl (λ m d p x k. lower_bare s m d p x q k) h) (λ t m. kept_bare m (Loop s) o t h)
  lower_bare (Times x e s) n c o r q h =
      choose_bare (λ t. counted t + splits_in s) (advances s) (loop_part (times_kind x e) s (lower s) n c o r) (kept (Times x e s) o)
      (loop_bare (splits_in s) (times_kind x e) s (lower s) n c o r refl refl (λ m d p x k. lower_bare s m d p x q k) h) (λ t m. kept_bare m (Times x e s) o t h)
  lower_bare (While e s) n c o r q h =
      choose_bare (λ t. counted t + splits_in s) (advances s) (loop_part (while_kind e) s (lower s) n c o r) (kept (While e s) o)
      (loop_bare (splits_in s) (while_kind e) s (lower s) n c o r refl refl (λ m d p x k. lower_bare s m d p x q k) h) (λ t m. kept_bare m (While e s) o t h)
  lower_bare (Each x s) n c o r q h =
      choose_bare (λ t. counted t + splits_in s) (advances s) (loop_part (each_kind x) s (lower s) n c o r) (kept (Each x s) o)
      (loop_bare (splits_in s) (each_kind x) s (lower s) n c o r refl refl (λ m d p x k. lower_bare s m d p x q k) h) (λ t m. kept_bare m (Each x s) o t h)
  lower_bare (For start e step s) n c o r q h =
      let q' = and_right (goes_on start) (goes_on step && is_orderly s) q in
      choose_bare (λ t. counted t + splits_in s) (advances s) (loop_part (for_kind start e step) s (lower s) n c o r) (kept (For start e step s) o)
      (loop_bare (splits_in s) (for_kind start e step) s (lower s) n c o r
      (both_false (advances start) false (on_plain start (and_left (goes_on start) (goes_on step && is_orderly s) q)) refl)
      (both_false (advances step) false (on_plain step (and_left (goes_on step) (is_orderly s) q')) refl)
      (λ m d p x k. lower_bare s m d p x (and_right (goes_on step) (is_orderly s) q') k) h)
      (λ t m. kept_bare m (For start e step s) o t h)
  lower_bare Advance n c o r q h = record { top = refl; each = (h, tt); few = omega arith }
  lower_bare Nothing n c o r q h = kept_bare 0 Nothing o refl h
  lower_bare Empty n c o r q h = kept_bare 0 Empty o refl h
  lower_bare (Locals ss) n c o r q h = kept_bare 0 (Locals ss) o refl h
  lower_bare (Cleared x) n c o r q h = kept_bare 0 (Cleared x) o refl h
  lower_bare (Started x e) n c o r q h = kept_bare 0 (Started x e) o refl h
  lower_bare (Assign target e) n c o r q h = kept_bare 0 (Assign target e) o refl h
  lower_bare (Update target op kind e) n c o r q h = kept_bare 0 (Update target op kind e) o refl h
  lower_bare (Count op target) n c o r q h = kept_bare 0 (Count op target) o refl h
  lower_bare (Perform f es) n c o r q h = kept_bare 0 (Perform f es) o refl h
  lower_bare Break n c o r q h = kept_bare 0 Break o refl h
  lower_bare Continue n c o r q h = kept_bare 0 Continue o refl h
  lower_bare Return n c o r q h = kept_bare 0 Return o refl h
  lower_bare (Answer e) n c o r q h = kept_bare 0 (Answer e) o refl h
  lower_bare (Write x e) n c o r q h = kept_bare 0 (Write x e) o refl h

  pub lower_all_bare : (ss : Stmts) (n : ℕ) (c : Option Exits) (o : Open) (r : List Todo) → are_orderly ss ≡ true → any_advances o.body ≡ false → Bare (splits_among ss) (lower_all ss n c o r)
  lower_all_bare End n c o r q h = record { top = h; each = tt; few = omega arith }
  lower_all_bare (More s ss) n c o r q h =
      then_bare (splits_among ss) (splits_in s) n (lower_all ss n c o r) (λ m p. lower s m c p (all ss ++ r))
      (lower_all_bare ss n c o r (and_right (is_orderly s) (are_orderly ss) q) h) (λ k. lower_bare s _ c _ (all ss ++ r) (and_left (is_orderly s) (are_orderly ss) q) k)

-- the block that is the body of a main counts nothing itself
pub main_bare : (s : Stmt) (n : ℕ) (c : Option Exits) (o : Open) (r : List Todo) → is_orderly s ≡ true → any_advances o.body ≡ false → Bare (main_splits s) (lower s n c o r)
main_bare (Block ss) n c o r q h =
    choose_bare (λ t. splits_among ss) (any_advances ss) (lower_all ss n c o r) (kept (Block ss) o) (lower_all_bare ss n c o r q h) (λ e m. kept_bare m (Block ss) o e h)
main_bare (If e a b) n c o r q h = lower_bare (If e a b) n c o r q h
main_bare (Loop s) n c o r q h = lower_bare (Loop s) n c o r q h
main_bare (Times x e s) n c o r q h = lower_bare (Times x e s) n c o r q h
main_bare (While e s) n c o r q h = lower_bare (While e s) n c o r q h
main_bare (Each x s) n c o r q h = lower_bare (Each x s) n c o r q h
main_bare (For start e step s) n c o r q h = lower_bare (For start e step s) n c o r q h
main_bare Advance n c o r q h = lower_bare Advance n c o r q h
main_bare Nothing n c o r q h = lower_bare Nothing n c o r q h
main_bare Empty n c o r q h = lower_bare Empty n c o r q h
main_bare (Locals ss) n c o r q h = lower_bare (Locals ss) n c o r q h
main_bare (Cleared x) n c o r q h = lower_bare (Cleared x) n c o r q h
main_bare (Started x e) n c o r q h = lower_bare (Started x e) n c o r q h
main_bare (Assign target e) n c o r q h = lower_bare (Assign target e) n c o r q h
main_bare (Update target op kind e) n c o r q h = lower_bare (Update target op kind e) n c o r q h
main_bare (Count op target) n c o r q h = lower_bare (Count op target) n c o r q h
main_bare (Perform f es) n c o r q h = lower_bare (Perform f es) n c o r q h
main_bare Break n c o r q h = lower_bare Break n c o r q h
main_bare Continue n c o r q h = lower_bare Continue n c o r q h
main_bare Return n c o r q h = lower_bare Return n c o r q h
main_bare (Answer e) n c o r q h = lower_bare (Answer e) n c o r q h
main_bare (Write x e) n c o r q h = lower_bare (Write x e) n c o r q h
