-- The numbered blocks of a `main`, and what it is for them to stand for its rests: docs/LANGUAGE.md, "advance".
use Rattle.std.specs.Prelude.{ℕ, ◌+◌, ◌*◌, ◌≡◌, ◌<◌, ◌≤◌, Bool, true, false, ◌&&◌, if◌then◌else◌, List, [], ◌∷◌, length, Option, Some, None, slice_get, slice_index_or}
use Rattle.cm_core.specs.Code.{Expr, Test, Stmt, Nothing, Block, Locals, Cleared, Started, Assign, Update, Count, Perform, If, Loop, Times, While, Each, For, Stmts, End, More}
use Rattle.cm_core.specs.World.{Todo, Do}
use Rattle.cm_core.specs.Acts.{Act, andthen, after, gives, change, begin}
use Rattle.cm_core.specs.Eval.{Hooks, holds}
use Rattle.cm_core.specs.Resume.{Way, On, Broke, Continued, Returned, Ending, Pauses, next, tested, entered, exec_all, resume}
use Rattle.cm_core.specs.Linked.{Linked}
use Rattle.cm_core.specs.Calls.{hooks}
use Rattle.cm_core.specs.Measures.{any_advances, main_splits}

-- ---- blocks

-- where a block leads: to another one; to one of two by a condition; to the body of a loop, with one turn, where the test of
-- the loop has it begin, and else past the loop; to a suspension, from which the block of this number goes on; or to the end
pub data Jump : Type 0 where
  Goto : (to : ℕ) → Jump
  Branch : (test : Expr) → (to other : ℕ) → Jump
  Round : (test : Test) → (body exit : ℕ) → Jump
  Suspend : (to : ℕ) → Jump
  Finish : Jump

-- the blocks that `break` and `continue` lead to
pub record Exits : Type 0 where
  pub on_break : ℕ
  pub on_continue : ℕ

-- statements without `advance`, and where they lead; outside of loops there are no exits
pub record B : Type 0 where
  pub body : Stmts
  pub end : Jump
  pub exits : Option Exits

-- ---- what blocks do

-- the rests that blocks stand for, by number
abbrev pub Rests : Type 0
Rests = List (List Todo)

abbrev pub rest_at : Rests → ℕ → List Todo
rest_at rests b = slice_index_or rests b []

-- a block that is come to does what its rest does
abbrev pub come_to : Rests → ℕ → Hooks → Act Ending
come_to rests b h = resume (rest_at rests b) h On

abbrev pub jump_to : Rests → Jump → Hooks → Act Ending
jump_to rests (Goto b) h = come_to rests b h
jump_to rests (Branch e x y) h = andthen (holds e h) (λ test. if test then come_to rests x h else come_to rests y h)
jump_to rests (Round t x y) h =
    andthen (tested t h) (λ more. if more then begin (after (change (entered t h)) (come_to rests x h)) else come_to rests y h)
jump_to rests (Suspend b) h = gives (Pauses (rest_at rests b))
jump_to rests Finish h = gives (Pauses [])

abbrev pub broken : Rests → Option Exits → Hooks → Act Ending
broken rests None h = gives (Pauses [])
broken rests (Some exits) h = come_to rests exits.on_break h

abbrev pub continued : Rests → Option Exits → Hooks → Act Ending
continued rests None h = gives (Pauses [])
continued rests (Some exits) h = come_to rests exits.on_continue h

-- where the statements of a block hand on
abbrev pub leave : Rests → B → Hooks → Way → Act Ending
leave rests b h On = jump_to rests b.end h
leave rests b h Broke = broken rests b.exits h
leave rests b h Continued = continued rests b.exits h
leave rests b h (Returned value) = gives (Pauses [])

abbrev pub run_block : Rests → B → Hooks → Act Ending
run_block rests b h = andthen (exec_all b.body h) (next [] (leave rests b h))

-- ---- where blocks lead

-- A jump that begins no turn leads to a lower number, so that from one turn to the next each block is come to once at most;
-- one that does leads to one of so many blocks.
abbrev pub EndFalls : ℕ → ℕ → Jump → Type 0
EndFalls count b (Goto t) = t < b
EndFalls count b (Branch e x y) = (x < b) × (y < b)
EndFalls count b (Round t x y) = (x < count) × (y < b)
EndFalls count b (Suspend t) = t < b
EndFalls count b Finish = Unit {0}

abbrev pub ExitsFall : ℕ → Option Exits → Type 0
ExitsFall b None = Unit {0}
ExitsFall b (Some exits) = (exits.on_break < b) × (exits.on_continue < b)

pub record Falls (count b : ℕ) (block : B) : Type 0 where
  pub end : EndFalls count b block.end
  pub exits : ExitsFall b block.exits

-- ---- declarations and the heads of loops

-- a declared local
abbrev pub is_declared : Stmt → Bool
is_declared (Cleared x) = true
is_declared (Started x e) = true
is_declared _ = false

abbrev pub are_declared : Stmts → Bool
are_declared End = true
are_declared (More s ss) = is_declared s && are_declared ss

-- what only hands on to what follows: nothing, a declaration, an assignment or a call
abbrev pub goes_on : Stmt → Bool
goes_on Nothing = true
goes_on (Locals ss) = are_declared ss
goes_on (Assign target e) = true
goes_on (Update target op kind e) = true
goes_on (Count op target) = true
goes_on (Perform f es) = true
goes_on _ = false

-- whether declarations are of locals, and the parts of each `for` before and after its condition only hand on, as in every
-- lawful unit
abbrev mutual
  pub is_orderly : Stmt → Bool
  is_orderly (Block ss) = are_orderly ss
  is_orderly (Locals ss) = are_declared ss
  is_orderly (If c a b) = is_orderly a && is_orderly b
  is_orderly (Loop s) = is_orderly s
  is_orderly (Times x c s) = is_orderly s
  is_orderly (While c s) = is_orderly s
  is_orderly (Each x s) = is_orderly s
  is_orderly (For start c step s) = goes_on start && (goes_on step && is_orderly s)
  is_orderly _ = true

  pub are_orderly : Stmts → Bool
  are_orderly End = true
  are_orderly (More s ss) = is_orderly s && are_orderly ss

-- ---- what is promised

-- The blocks stand for rests of a main, the one of the number `start` for the whole main: in each leaf of each program,
-- however deep its calls stand within one another, a block does what is left of main does, with the same world and turns, as
-- far as the next suspension.
pub record Stands (main : Stmt) (start : ℕ) (blocks : List B) : Type 0 where
  pub rests : Rests
  pub size : length rests ≡ length blocks
  pub starts : start < length blocks
  pub entry : rest_at rests start ≡ Do main ∷ []
  pub each : (b : ℕ) (block : B) → slice_get blocks b ≡ Some block → (l : Linked) (depth i : ℕ) →
      run_block rests block (hooks l depth i) ≡ resume (rest_at rests b) (hooks l depth i) On
  pub falls : (b : ℕ) (block : B) → slice_get blocks b ≡ Some block → Falls (length blocks) b block
  -- no `advance` stands in a block
  pub plain : (b : ℕ) (block : B) → slice_get blocks b ≡ Some block → any_advances block.body ≡ false
  pub few : length blocks ≤ 3 * main_splits main + 1
