use Rattle.std.proofs.Common.{◌≡◌, Some, None, sym}
use Rattle.token_reader.specs.Parsers.{first}
use Rattle.cm_parser.specs.DeclStarts.{graph_start}
use Rattle.cm_parser.proofs.DeclStarts.{graph_none, graph_starts}
use Rattle.cm_parser.proofs.members.graph_member.Goals as goal

pub returns-in_default : goal.returns-in_default
returns-in_default c = let none : first c.args.tokens.now ≡ None = cc in graph_none c.args.room c.args.tokens.now none

pub returns-in-None : goal.returns-in-None
returns-in-None c =
    let head : first c.args.tokens.now ≡ Some c.in-Some.token.now = sym c.in-Some.ensures.value in
    let is : graph_start c.in-Some.token.now.kind ≡ None = cc in
    graph_starts c.args.room c.args.tokens.now c.in-Some.token.now None head is

pub returns-in-Some-graph_start : goal.returns-in-Some-graph_start
returns-in-Some-graph_start c =
    let head : first c.args.tokens.now ≡ Some c.in-Some.token.now = sym c.in-Some.ensures.value in
    let is : graph_start c.in-Some.token.now.kind ≡ Some c.in-Some-graph_start.start = cc in
    rw (graph_starts c.args.room c.args.tokens.now c.in-Some.token.now _ head is) c.graph_from.ensures
