use Rattle.std.proofs.Common.{◌≡◌, Some, None, sym}
use Rattle.token_reader.specs.Parsers.{first}
use Rattle.cm_parser.specs.DeclStarts.{processor_start}
use Rattle.cm_parser.proofs.DeclStarts.{processor_none, processor_starts}
use Rattle.cm_parser.proofs.members.processor_member.Goals as goal

pub returns-in_default : goal.returns-in_default
returns-in_default c = let none : first c.args.tokens.now ≡ None = cc in processor_none c.args.room c.args.tokens.now none

pub returns-in-None : goal.returns-in-None
returns-in-None c =
    let head : first c.args.tokens.now ≡ Some c.in-Some.token.now = sym c.in-Some.ensures.value in
    let is : processor_start c.in-Some.token.now.kind ≡ None = cc in
    processor_starts c.args.room c.args.tokens.now c.in-Some.token.now None head is

pub returns-in-Some-processor_start : goal.returns-in-Some-processor_start
returns-in-Some-processor_start c =
    let head : first c.args.tokens.now ≡ Some c.in-Some.token.now = sym c.in-Some.ensures.value in
    let is : processor_start c.in-Some.token.now.kind ≡ Some c.in-Some-processor_start.start = cc in
    rw (processor_starts c.args.room c.args.tokens.now c.in-Some.token.now _ head is) c.processor_from.ensures
