use Rattle.std.proofs.Common.{◌≡◌, length}
use Rattle.token_reader.specs.Parsers.{is_any}
use Rattle.token_reader.specs.Lists.{while_sees}
use Rattle.file_grammar.specs.Files.{decl, decls}
use Rattle.cm_parser.proofs.decls.decls.Given as goal

abbrev pub invariant-loop-tokens : goal.invariant-loop-tokens
invariant-loop-tokens l = decls l.room l.fn.tokens ≡ while_sees is_any (decl l.room) l.found l.tokens

abbrev pub decreases-loop-tokens : goal.decreases-loop-tokens
decreases-loop-tokens l = length l.tokens
