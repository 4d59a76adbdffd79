use Rattle.std.proofs.Common.{◌≡◌, [], length}
use Rattle.cm_tree.specs.declared.sign.Sign.TheVariants as s
use Rattle.token_reader.specs.Parsers.{is_other}
use Rattle.token_reader.specs.Lists.{while_sees}
use Rattle.cm_parser.proofs.lists.until_brace.Given as goal

abbrev pub invariant-loop-tokens : goal.invariant-loop-tokens
invariant-loop-tokens g l = while_sees (is_other s.RightBrace) (g.P.Part.parser l.room) [] l.fn.tokens ≡ while_sees (is_other s.RightBrace) (g.P.Part.parser l.room) l.found l.tokens

abbrev pub decreases-loop-tokens : goal.decreases-loop-tokens
decreases-loop-tokens g l = length l.tokens
