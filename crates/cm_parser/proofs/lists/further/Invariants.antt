use Rattle.std.proofs.Common.{◌≡◌, length}
use Rattle.cm_tree.specs.declared.sign.Sign.TheVariants as s
use Rattle.token_reader.specs.Parsers.{is_sign}
use Rattle.token_reader.specs.Lists.{while_sees}
use Rattle.cm_parser.specs.Parts.{next}
use Rattle.cm_parser.proofs.lists.further.Given as goal

abbrev pub invariant-loop-tokens : goal.invariant-loop-tokens
invariant-loop-tokens g l =
    while_sees (is_sign s.Comma) (next (g.P.Part.parser l.room)) l.fn.found l.fn.tokens
    ≡ while_sees (is_sign s.Comma) (next (g.P.Part.parser l.room)) l.found l.tokens

abbrev pub decreases-loop-tokens : goal.decreases-loop-tokens
decreases-loop-tokens g l = length l.tokens
