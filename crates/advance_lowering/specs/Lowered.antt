-- The blocks of a statement, from its end to its start, each with the rest that it stands for.
use Rattle.std.specs.Prelude.{ℕ, ◌+◌, ◌≡◌, Bool, true, false, ◌||◌, List, [], ◌∷◌, ◌++◌, length, map, Option, Some, None, pos}
use Rattle.cm_core.specs.Code.{Expr, Number, Test, Always, Holds, Down, Next, Stmt, Nothing, Block, Locals, Started, If, Loop, Times, While, Each, For, Advance, Stmts, End, More}
use Rattle.cm_core.specs.World.{Todo, Do, Again}
use Rattle.cm_core.specs.Resume.{all}
use Rattle.cm_core.specs.Measures.{advances, any_advances}
use Rattle.advance_lowering.specs.Blocks.{Jump, Goto, Branch, Round, Suspend, Finish, Exits, B}

-- a block whose start is still to come
pub record Open : Type 0 where
  pub body : Stmts
  pub end : Jump

-- a block with its rest
abbrev pub Marked : Type 0
Marked = List Todo × B

-- blocks in the order of their numbers, and the open block before them
pub record Part : Type 0 where
  pub blocks : List Marked
  pub top : Open

abbrev pub pushed : Stmt → Open → Open
pushed s o = record { body = More s o.body; end = o.end }

abbrev pub kept : Stmt → Open → Part
kept s o = record { blocks = []; top = pushed s o }

abbrev pub at_end : Jump → Open
at_end j = record { body = End; end = j }

abbrev pub closed : Option Exits → Open → B
closed c o = record { body = o.body; end = o.end; exits = c }

abbrev pub choose : Bool → Part → Part → Part
choose true p q = p
choose false p q = q

abbrev pub advance_part : ℕ → Option Exits → Open → List Todo → Part
advance_part base c o r = record { blocks = (r, closed c o) ∷ []; top = at_end (Suspend base) }

abbrev pub then_part : Part → (ℕ → Open → Part) → ℕ → Part
then_part p before base =
    let q : Part = before (base + length p.blocks) p.top in record { blocks = p.blocks ++ q.blocks; top = q.top }

-- what follows the `if`, and each arm
abbrev pub if_part : Expr → Stmt → Stmt → (ℕ → Open → Part) → (ℕ → Open → Part) → ℕ → Option Exits → Open → List Todo → Part
if_part e a b la lb base c o r =
    let pa : Part = la (base + 1) (at_end (Goto base)) in
    let x : ℕ = base + 1 + length pa.blocks in
    let pb : Part = lb (x + 1) (at_end (Goto base)) in
    record {
      blocks = (r, closed c o) ∷ (pa.blocks ++ ((Do a ∷ r, closed c pa.top) ∷ (pb.blocks ++ ((Do b ∷ r, closed c pb.top) ∷ []))));
      top = at_end (Branch e x (x + 1 + length pb.blocks));
    }

-- what is peculiar to a loop: what is done first and where that leads, among its further rounds, its body and its exit; its
-- test; and what is done after each body, as one statement and as a block has it
pub record Kind : Type 0 where
  pub start : Stmts
  pub first : (again body exit : ℕ) → Jump
  pub test : Test
  pub step : Stmt
  pub steps : Stmts

-- what follows the loop, its further rounds, and its body
abbrev pub loop_part : Kind → Stmt → (ℕ → Option Exits → Open → List Todo → Part) → ℕ → Option Exits → Open → List Todo → Part
loop_part k s ls base c o r =
    let d : Option Exits = Some (record { on_break = base; on_continue = base + 1 }) in
    let again : List Todo = Again k.test k.step s ∷ r in
    let p : Part = ls (base + 2) d (at_end (Goto (base + 1))) again in
    let y : ℕ = base + 2 + length p.blocks in
    record {
      blocks = (r, closed c o) ∷ ((again, closed c (record { body = k.steps; end = Round k.test y base })) ∷ (p.blocks ++ ((Do s ∷ again, closed d p.top) ∷ [])));
      top = record { body = k.start; end = k.first (base + 1) y base };
    }

-- a local that begins with a value
abbrev pub started : ℕ → Expr → Stmts
started x e = More (Locals (More (Started x e) End)) End

abbrev pub loop_kind : Kind
loop_kind = record { start = End; first = λ again body exit. Goto again; test = Always; step = Nothing; steps = End }

abbrev pub times_kind : ℕ → Expr → Kind
times_kind x e = record { start = started x e; first = λ again body exit. Goto again; test = Down x; step = Nothing; steps = End }

abbrev pub while_kind : Expr → Kind
while_kind e = record { start = End; first = λ again body exit. Goto again; test = Holds e; step = Nothing; steps = End }

-- the first body is begun without a test
abbrev pub each_kind : ℕ → Kind
each_kind x = record { start = started x (Number (pos 0) false); first = λ again body exit. Round Always body exit; test = Next x; step = Nothing; steps = End }

-- before the first body stands the condition alone
abbrev pub for_kind : Stmt → Test → Stmt → Kind
for_kind start t step = record { start = More start End; first = λ again body exit. Round t body exit; test = t; step = step; steps = More step End }

abbrev mutual
  pub lower : Stmt → ℕ → Option Exits → Open → List Todo → Part
  lower (Block ss) base c o r = choose (any_advances ss) (lower_all ss base c o r) (kept (Block ss) o)
  lower (If e a b) base c o r =
      choose (advances a || advances b) (if_part e a b (λ n p. lower a n c p r) (λ n p. lower b n c p r) base c o r) (kept (If e a b) o)
  lower (Loop s) base c o r = choose (advances s) (loop_part loop_kind s (lower s) base c o r) (kept (Loop s) o)
  lower (Times x e s) base c o r = choose (advances s) (loop_part (times_kind x e) s (lower s) base c o r) (kept (Times x e s) o)
  lower (While e s) base c o r = choose (advances s) (loop_part (while_kind e) s (lower s) base c o r) (kept (While e s) o)
  lower (Each x s) base c o r = choose (advances s) (loop_part (each_kind x) s (lower s) base c o r) (kept (Each x s) o)
  lower (For start t step s) base c o r =
      choose (advances s) (loop_part (for_kind start t step) s (lower s) base c o r) (kept (For start t step s) o)
  lower Advance base c o r = advance_part base c o r
  lower s base c o r = kept s o

  pub lower_all : Stmts → ℕ → Option Exits → Open → List Todo → Part
  lower_all End base c o r = record { blocks = []; top = o }
  lower_all (More s ss) base c o r = then_part (lower_all ss base c o r) (λ n p. lower s n c p (all ss ++ r)) base

abbrev pub bare : List Marked → List B
bare xs = map (λ x. x.1) xs

-- the part's blocks were put at the end of the list, and its open block is this one
pub record IsPart (p : Part) (old new : List B) (top : Open) : Type 0 where
  pub blocks : new ≡ old ++ bare p.blocks
  pub top_is : top ≡ p.top

-- ---- the whole

abbrev pub whole : Stmt → Part
whole s = lower s 0 None (at_end Finish) []

-- the block of the whole main is the last
abbrev pub whole_blocks : Stmt → List Marked
whole_blocks s = (whole s).blocks ++ ((Do s ∷ [], closed None (whole s).top) ∷ [])
