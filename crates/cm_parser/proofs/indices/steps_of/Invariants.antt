use Rattle.std.proofs.Common.{◌≡◌, ◌++◌, map, reverse, length}
use Rattle.file_grammar.specs.Simples.{index}
use Rattle.cm_parser.proofs.indices.steps_of.Given as goal

abbrev pub invariant-loop-place : goal.invariant-loop-place
invariant-loop-place l = l.found ++ map index (reverse l.left) ≡ map index l.fn.indices

abbrev pub decreases-loop-place : goal.decreases-loop-place
decreases-loop-place l = length l.left
