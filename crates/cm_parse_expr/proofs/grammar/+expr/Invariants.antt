use Rattle.std.proofs.Common.{◌≡◌, ◌+◌, ◌*◌, length}
use Rattle.cm_tree.specs.declared.sign.Sign.TheVariants as s
use Rattle.token_reader.specs.Parsers.{is_sign}
use Rattle.token_reader.specs.Lists.{while_sees, separated}
use Rattle.token_reader.proofs.Turns.{separated_from}
use Rattle.cm_parse_expr.specs.Reading as spec
use Rattle.cm_parse_expr.proofs.Reach.{local_expr}
use Rattle.cm_parse_expr.proofs.grammar.+expr.Given as goal

abbrev pub decreases-expr : goal.decreases-expr
decreases-expr l = 9 * l.room

abbrev pub decreases-binary : goal.decreases-binary
decreases-binary l = 9 * l.room

abbrev pub decreases-bracketed : goal.decreases-bracketed
decreases-bracketed l = 9 * l.room + 1

abbrev pub decreases-values : goal.decreases-values
decreases-values l = 9 * l.room + 1

abbrev pub decreases-limit : goal.decreases-limit
decreases-limit l = 9 * l.room + 1

abbrev pub decreases-paren : goal.decreases-paren
decreases-paren l = 9 * l.room + 1

abbrev pub decreases-climb : goal.decreases-climb
decreases-climb l = 9 * l.room + 1

abbrev pub decreases-choice : goal.decreases-choice
decreases-choice l = 9 * l.room + 1

abbrev pub decreases-sizes : goal.decreases-sizes
decreases-sizes l = 9 * l.room + 2

abbrev pub decreases-args : goal.decreases-args
decreases-args l = 9 * l.room + 2

abbrev pub decreases-index : goal.decreases-index
decreases-index l = 9 * l.room + 2

abbrev pub decreases-base : goal.decreases-base
decreases-base l = 9 * l.room + 2

abbrev pub decreases-tail : goal.decreases-tail
decreases-tail l = 9 * l.room + 2

abbrev pub decreases-construct_of : goal.decreases-construct_of
decreases-construct_of l = 9 * l.room + 3

abbrev pub decreases-sized_base : goal.decreases-sized_base
decreases-sized_base l = 9 * l.room + 3

abbrev pub decreases-named : goal.decreases-named
decreases-named l = 9 * l.room + 3

abbrev pub decreases-steps : goal.decreases-steps
decreases-steps l = 9 * l.room + 3

abbrev pub decreases-construct : goal.decreases-construct
decreases-construct l = 9 * l.room + 4

abbrev pub decreases-atom : goal.decreases-atom
decreases-atom l = 9 * l.room + 5

abbrev pub decreases-post : goal.decreases-post
decreases-post l = 9 * l.room + 6

abbrev pub decreases-operand : goal.decreases-operand
decreases-operand l = 9 * l.room + 7

abbrev pub decreases-operation : goal.decreases-operation
decreases-operation l = 9 * l.room + 8

abbrev pub invariant-sizes-loop-tokens : goal.invariant-sizes-loop-tokens
invariant-sizes-loop-tokens l =
    spec.sizes (spec.expr l.room) (spec.binary l.room) l.fn.tokens ≡ while_sees (is_sign s.LeftBracket) (spec.bracketed (spec.expr l.room) (spec.binary l.room)) l.found l.tokens

abbrev pub decreases-sizes-loop-tokens : goal.decreases-sizes-loop-tokens
decreases-sizes-loop-tokens l = length l.tokens

abbrev pub invariant-values-loop-found : goal.invariant-values-loop-found
invariant-values-loop-found l =
    separated (is_sign s.Comma) (spec.expr l.room) l.fn.tokens ≡ separated_from (is_sign s.Comma) (spec.expr l.room) (local_expr l.room) l.found l.tokens

abbrev pub decreases-values-loop-found : goal.decreases-values-loop-found
decreases-values-loop-found l = length l.tokens

abbrev pub invariant-steps-loop-left : goal.invariant-steps-loop-left
invariant-steps-loop-left l =
    spec.steps (spec.expr l.room) (spec.binary l.room) (l.room + 1) l.fn.left l.fn.tokens ≡ spec.steps (spec.expr l.room) (spec.binary l.room) (l.room + 1) l.left l.tokens

abbrev pub decreases-steps-loop-left : goal.decreases-steps-loop-left
decreases-steps-loop-left l = length l.tokens

abbrev pub invariant-climb-loop-operator : goal.invariant-climb-loop-operator
invariant-climb-loop-operator l =
    spec.climb (spec.expr l.room) (spec.binary l.room) (l.room + 1) l.least l.fn.left l.fn.tokens ≡ spec.climb (spec.expr l.room) (spec.binary l.room) (l.room + 1) l.least l.left l.tokens

abbrev pub decreases-climb-loop-operator : goal.decreases-climb-loop-operator
decreases-climb-loop-operator l = length l.tokens
