use Rattle.std.proofs.Common.{◌≡◌, ◌+◌, ◌*◌, [], length}
use Rattle.cm_tree.specs.declared.sign.Sign.TheVariants as s
use Rattle.token_reader.specs.Parsers.{is_other}
use Rattle.token_reader.specs.Lists.{while_sees}
use Rattle.file_grammar.specs.Stmts as spec
use Rattle.cm_parser.proofs.stmts.+stmt.Given as goal

abbrev pub decreases-stmt : goal.decreases-stmt
decreases-stmt l = 10 * l.room

abbrev pub decreases-until_brace : goal.decreases-until_brace
decreases-until_brace l = 10 * l.room + 1

abbrev pub decreases-if_stmt : goal.decreases-if_stmt
decreases-if_stmt l = 10 * l.room + 1

abbrev pub decreases-loop_stmt : goal.decreases-loop_stmt
decreases-loop_stmt l = 10 * l.room + 1

abbrev pub decreases-while_stmt : goal.decreases-while_stmt
decreases-while_stmt l = 10 * l.room + 1

abbrev pub decreases-for_parts : goal.decreases-for_parts
decreases-for_parts l = 10 * l.room + 1

abbrev pub decreases-stmts : goal.decreases-stmts
decreases-stmts l = 10 * l.room + 2

abbrev pub decreases-for_type : goal.decreases-for_type
decreases-for_type l = 10 * l.room + 2

abbrev pub decreases-for_step : goal.decreases-for_step
decreases-for_step l = 10 * l.room + 2

abbrev pub decreases-for_let : goal.decreases-for_let
decreases-for_let l = 10 * l.room + 2

abbrev pub decreases-for_var : goal.decreases-for_var
decreases-for_var l = 10 * l.room + 2

abbrev pub decreases-block : goal.decreases-block
decreases-block l = 10 * l.room + 3

abbrev pub decreases-for_begun : goal.decreases-for_begun
decreases-for_begun l = 10 * l.room + 3

abbrev pub decreases-for_base : goal.decreases-for_base
decreases-for_base l = 10 * l.room + 3

abbrev pub decreases-for_name : goal.decreases-for_name
decreases-for_name l = 10 * l.room + 4

abbrev pub decreases-head_opened : goal.decreases-head_opened
decreases-head_opened l = 10 * l.room + 3

abbrev pub decreases-for_head : goal.decreases-for_head
decreases-for_head l = 10 * l.room + 6

abbrev pub decreases-for_stmt : goal.decreases-for_stmt
decreases-for_stmt l = 10 * l.room + 7

abbrev pub decreases-opened : goal.decreases-opened
decreases-opened l = 10 * l.room + 8

abbrev pub decreases-one : goal.decreases-one
decreases-one l = 10 * l.room + 9

abbrev pub invariant-until_brace-loop-tokens : goal.invariant-until_brace-loop-tokens
invariant-until_brace-loop-tokens l = while_sees (is_other s.RightBrace) (spec.stmt l.room) [] l.fn.tokens ≡ while_sees (is_other s.RightBrace) (spec.stmt l.room) l.found l.tokens

abbrev pub decreases-until_brace-loop-tokens : goal.decreases-until_brace-loop-tokens
decreases-until_brace-loop-tokens l = length l.tokens
