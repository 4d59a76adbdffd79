-- What the blocks of `src/` are for the definitions.
use Rattle.std.specs.Prelude.{ℕ, ◌+◌, ◌≡◌, ◌<◌, List, [], ◌∷◌, ◌++◌, length, reverse, slice_set, Option, Some, None, false, pos}
use Rattle.cm_core.specs.Code.{Number, Test, Always, Holds, Down, Next, Stmt, Nothing, Locals, Started, Stmts, End, More, expr_of, stmt_of}
use Rattle.cm_core.specs.World.{Todo}
use Rattle.advance_lowering.specs.Blocks.{Jump, Goto, Branch, Round, Suspend, Finish, Exits, B}
use Rattle.advance_lowering.specs.Lowered.{Open, Part, Kind, at_end, closed, bare, lower}
use Rattle.advance_lowering.specs.declared.block.Step.{Step}
use Rattle.advance_lowering.specs.declared.block.Step.TheVariants as step
use Rattle.advance_lowering.specs.declared.block.LoopTest.{LoopTest}
use Rattle.advance_lowering.specs.declared.block.LoopTest.TheVariants as test
use Rattle.advance_lowering.specs.declared.block.BlockEnd.{BlockEnd}
use Rattle.advance_lowering.specs.declared.block.BlockEnd.TheVariants as end
use Rattle.advance_lowering.specs.declared.block.Exits.{Exits as ExitsOfBlock}
use Rattle.advance_lowering.specs.declared.block.Block.{Block}
use Rattle.advance_lowering.specs.declared.open.Open.{Open as OpenBlock}

abbrev pub step_of : Step → Stmt
step_of step.Nothing = Nothing
step_of (step.Stmt s) = stmt_of s.now
step_of (step.Start x e) = Locals (More (Started x (expr_of e.now)) End)
step_of (step.Clear x) = Locals (More (Started x (Number (pos 0) false)) End)

abbrev pub steps_of : List Step → Stmts
steps_of [] = End
steps_of (s ∷ steps) = More (step_of s) (steps_of steps)

abbrev pub loop_test_of : LoopTest → Test
loop_test_of test.Always = Always
loop_test_of (test.Holds e) = Holds (expr_of e.now)
loop_test_of (test.Down x) = Down x
loop_test_of (test.Next x) = Next x

abbrev pub jump_of : BlockEnd → Jump
jump_of (end.Goto b) = Goto b
jump_of (end.Branch e x y) = Branch (expr_of e.now) x y
jump_of (end.Round t x y) = Round (loop_test_of t) x y
jump_of (end.Suspend b) = Suspend b
jump_of end.Done = Finish

abbrev pub exits_of : ExitsOfBlock → Exits
exits_of x = record { on_break = x.on_break; on_continue = x.on_continue }

abbrev pub exits_in : Option ExitsOfBlock → Option Exits
exits_in None = None
exits_in (Some x) = Some (exits_of x)

abbrev pub block_of : Block → B
block_of b = record { body = steps_of b.body; end = jump_of b.end; exits = exits_in b.exits }

abbrev pub open_of : OpenBlock → Open
open_of o = record { body = steps_of (reverse o.body.items); end = jump_of o.end }

-- the part's blocks were put at the end of the list, and its open block after them, with this number
pub record IsArm (p : Part) (c : Option Exits) (old new : List B) (number : ℕ) : Type 0 where
  pub blocks : new ≡ old ++ (bare p.blocks ++ closed c p.top ∷ [])
  pub number_is : number ≡ length old + length p.blocks

-- The block that follows a loop and one that is still to be written were put at the end of the list, then the body of the
-- loop, whose exits are those two. The last number is that of the body.
pub record AreRounds (s : Stmt) (c : Option Exits) (o : Open) (old new : List B) (inner : Exits) (body : ℕ) : Type 0 where
  pub inner_is : inner ≡ record { on_break = length old; on_continue = length old + 1 }
  pub arm : (r : List Todo) → IsArm (lower s (length old + 2) (Some inner) (at_end (Goto inner.on_continue)) r) (Some inner) (old ++ (closed c o ∷ (closed c (at_end Finish) ∷ []))) new body
  pub room : inner.on_continue < length new

-- the further rounds were written, and the open block is what is done first
pub record IsEnded (k : Kind) (c : Option Exits) (inner : Exits) (body : ℕ) (old new : List B) (top : Open) : Type 0 where
  pub blocks : new ≡ slice_set old inner.on_continue (closed c (record { body = k.steps; end = Round k.test body inner.on_break }))
  pub top_is : top ≡ record { body = k.start; end = k.first inner.on_continue body inner.on_break }
