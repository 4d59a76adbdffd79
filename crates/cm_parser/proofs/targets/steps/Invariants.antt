use Rattle.std.proofs.Common.{◌≡◌, length}
use Rattle.token_reader.specs.Lists.{while_sees}
use Rattle.file_grammar.specs.Simples.{is_step, step_of}
use Rattle.cm_parser.proofs.targets.steps.Given as goal

abbrev pub invariant-loop-tokens : goal.invariant-loop-tokens
invariant-loop-tokens l = while_sees is_step (step_of l.room) l.fn.found l.fn.tokens ≡ while_sees is_step (step_of l.room) l.found l.tokens

abbrev pub decreases-loop-tokens : goal.decreases-loop-tokens
decreases-loop-tokens l = length l.tokens
