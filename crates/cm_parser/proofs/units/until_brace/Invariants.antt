use Rattle.std.proofs.Common.{◌≡◌, [], length}
use Rattle.cm_tree.specs.declared.sign.Sign.TheVariants as s
use Rattle.token_reader.specs.Parsers.{is_other}
use Rattle.token_reader.specs.Lists.{while_sees}
use Rattle.cm_parser.specs.DeclStarts.{member_of}
use Rattle.cm_parser.proofs.units.until_brace.Given as goal

abbrev pub invariant-loop-kind : goal.invariant-loop-kind
invariant-loop-kind l = while_sees (is_other s.RightBrace) (member_of l.kind l.room) [] l.fn.tokens ≡ while_sees (is_other s.RightBrace) (member_of l.kind l.room) l.found l.tokens

abbrev pub decreases-loop-kind : goal.decreases-loop-kind
decreases-loop-kind l = length l.tokens
