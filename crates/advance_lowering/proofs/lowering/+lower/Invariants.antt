use Rattle.std.proofs.Common.{List, length, map, drop}
use Rattle.cm_core.specs.Views.{stmts_of}
use Rattle.cm_core.specs.World.{Todo}
use Rattle.advance_lowering.specs.Lowered.{lower_all, IsPart}
use Rattle.advance_lowering.specs.Views.{block_of, open_of, exits_in}
use Rattle.advance_lowering.proofs.lowering.+lower.Given as goal

abbrev pub invariant-lower_all-loop-i : goal.invariant-lower_all-loop-i
invariant-lower_all-loop-i l =
    (r : List Todo) → IsPart (lower_all (stmts_of (drop l.i l.all)) (length (map block_of l.initial.blocks.items)) (exits_in l.exits) (open_of l.initial.made) r) (map block_of l.initial.blocks.items) (map block_of l.blocks.items) (open_of l.made)
