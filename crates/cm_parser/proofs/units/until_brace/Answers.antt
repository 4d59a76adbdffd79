use Rattle.std.proofs.Common.{◌≡◌, ◌∙◌, refl, true, false}
use Rattle.std.proofs.lemmas.Result.{err_from_is_err_and}
use Rattle.cm_tree.specs.declared.sign.Sign.TheVariants as s
use Rattle.token_reader.specs.Parsers.{sees, is_other}
use Rattle.token_reader.proofs.Inverses.{Reads-err}
use Rattle.token_reader.proofs.Parts.{while_more, while_fails, while_ends}
use Rattle.cm_parser.specs.DeclStarts.{member_of}
use Rattle.cm_parser.proofs.DeclStarts.{local_member, takes_member}
use Rattle.cm_parser.proofs.units.until_brace.Goals as goal

pub returns-in_err-part : goal.returns-in_err-part
returns-in_err-part c =
    let p = err_from_is_err_and c.from_residual.result c.from_residual.ensures.1 in
    let goes_on : sees (is_other s.RightBrace) c.loop-kind.tokens ≡ true = cc in
    rw (p.1, p.2)
    (Reads-err _ _ c.in_err-part.field-0.0 c.member.new.tokens
    (λ l is. c.loop-kind.invariant ∙ while_fails (is_other s.RightBrace) (member_of c.args.kind c.args.room) (local_member c.args.kind c.args.room) (takes_member c.args.kind c.args.room) c.loop-kind.found c.loop-kind.tokens l goes_on is)
    c.in_err-part.ensures)

pub loop-kind-smaller : goal.loop-kind-smaller
loop-kind-smaller c = (takes_member c.args.kind c.args.room).some c.loop-kind.tokens c.in_ok-part.part c.member.new.tokens c.in_ok-part.ensures

pub loop-kind-preserved : goal.loop-kind-preserved
loop-kind-preserved c =
    let goes_on : sees (is_other s.RightBrace) c.loop-kind.tokens ≡ true = cc in
    c.loop-kind.invariant
    ∙ while_more (is_other s.RightBrace) (member_of c.args.kind c.args.room) (local_member c.args.kind c.args.room) (takes_member c.args.kind c.args.room) c.loop-kind.found c.loop-kind.tokens c.in_ok-part.part c.member.new.tokens goes_on c.in_ok-part.ensures
    ∙ rw c.in_ok-push.ensures.ok refl

pub returns : goal.returns
returns c =
    let ends : sees (is_other s.RightBrace) c.loop-kind.tokens ≡ false = cc in
    c.loop-kind.invariant ∙ while_ends (is_other s.RightBrace) (member_of c.args.kind c.args.room) (local_member c.args.kind c.args.room) (takes_member c.args.kind c.args.room) c.loop-kind.found c.loop-kind.tokens ends
