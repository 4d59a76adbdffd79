use Rattle.std.proofs.Common.{◌≡◌, ◌+◌, ◌*◌, [], length}
use Rattle.cm_tree.specs.declared.sign.Sign.TheVariants as s
use Rattle.token_reader.specs.Parsers.{is_other}
use Rattle.token_reader.specs.Lists.{while_sees}
use Rattle.file_grammar.specs.Files.{decl}
use Rattle.cm_parser.proofs.decls.+decl.Given as goal

abbrev pub decreases-decl : goal.decreases-decl
decreases-decl l = 6 * l.room

abbrev pub decreases-until_brace : goal.decreases-until_brace
decreases-until_brace l = 6 * l.room + 1

abbrev pub decreases-in_braces : goal.decreases-in_braces
decreases-in_braces l = 6 * l.room + 2

abbrev pub decreases-namespace : goal.decreases-namespace
decreases-namespace l = 6 * l.room + 3

abbrev pub decreases-decl_from : goal.decreases-decl_from
decreases-decl_from l = 6 * l.room + 4

abbrev pub decreases-one : goal.decreases-one
decreases-one l = 6 * l.room + 5

abbrev pub invariant-until_brace-loop-tokens : goal.invariant-until_brace-loop-tokens
invariant-until_brace-loop-tokens l = while_sees (is_other s.RightBrace) (decl l.room) [] l.fn.tokens ≡ while_sees (is_other s.RightBrace) (decl l.room) l.found l.tokens

abbrev pub decreases-until_brace-loop-tokens : goal.decreases-until_brace-loop-tokens
decreases-until_brace-loop-tokens l = length l.tokens
