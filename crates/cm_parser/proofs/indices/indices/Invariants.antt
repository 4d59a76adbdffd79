use Rattle.std.proofs.Common.{◌≡◌, [], length}
use Rattle.cm_tree.specs.declared.sign.Sign.TheVariants as s
use Rattle.token_reader.specs.Parsers.{is_sign}
use Rattle.token_reader.specs.Lists.{while_sees}
use Rattle.file_grammar.specs.Words.{bracket}
use Rattle.cm_parser.proofs.indices.indices.Given as goal

abbrev pub invariant-loop-tokens : goal.invariant-loop-tokens
invariant-loop-tokens l = while_sees (is_sign s.LeftBracket) (bracket l.room) [] l.fn.tokens ≡ while_sees (is_sign s.LeftBracket) (bracket l.room) l.found l.tokens

abbrev pub decreases-loop-tokens : goal.decreases-loop-tokens
decreases-loop-tokens l = length l.tokens
