use Rattle.std.proofs.Common.{◌≡◌, length}
use Rattle.token_reader.specs.Lists.{while_sees}
use Rattle.cm_parse_expr.specs.Reading as spec
use Rattle.cm_parse_expr.proofs.paths.further_names.Given as goal

abbrev pub invariant-loop-tokens : goal.invariant-loop-tokens
invariant-loop-tokens l = while_sees spec.colons spec.further_name l.fn.names l.fn.tokens ≡ while_sees spec.colons spec.further_name l.names l.tokens

abbrev pub decreases-loop-tokens : goal.decreases-loop-tokens
decreases-loop-tokens l = length l.tokens
