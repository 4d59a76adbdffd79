use Rattle.std.proofs.Common.{◌≡◌, ◌∙◌, refl, true, false}
use Rattle.std.proofs.lemmas.Result.{err_from_is_err_and}
use Rattle.cm_tree.specs.declared.sign.Sign.TheVariants as s
use Rattle.token_reader.specs.Parsers.{sees, is_other}
use Rattle.token_reader.proofs.Inverses.{Reads-err}
use Rattle.token_reader.proofs.Parts.{while_more, while_fails, while_ends}
use Rattle.cm_parser.proofs.lists.until_brace.Goals as goal

pub returns-in_err-part : goal.returns-in_err-part
returns-in_err-part g c =
    let p = err_from_is_err_and c.from_residual.result c.from_residual.ensures.1 in
    let goes_on : sees (is_other s.RightBrace) c.loop-tokens.tokens ≡ true = cc in
    rw (p.1, p.2)
    (Reads-err _ _ c.in_err-part.field-0.0 c.read.new.tokens
    (λ l is. c.loop-tokens.invariant ∙ while_fails (is_other s.RightBrace) (g.P.Part.parser c.args.room) (g.met.P.Part.local c.args.room) (g.met.P.Item.takes c.args.room) c.loop-tokens.found c.loop-tokens.tokens l goes_on is)
    c.in_err-part.ensures)

pub loop-tokens-smaller : goal.loop-tokens-smaller
loop-tokens-smaller g c = (g.met.P.Item.takes c.args.room).some c.loop-tokens.tokens c.in_ok-part.part c.read.new.tokens c.in_ok-part.ensures

pub loop-tokens-preserved : goal.loop-tokens-preserved
loop-tokens-preserved g c =
    let goes_on : sees (is_other s.RightBrace) c.loop-tokens.tokens ≡ true = cc in
    c.loop-tokens.invariant
    ∙ while_more (is_other s.RightBrace) (g.P.Part.parser c.args.room) (g.met.P.Part.local c.args.room) (g.met.P.Item.takes c.args.room) c.loop-tokens.found c.loop-tokens.tokens c.in_ok-part.part c.read.new.tokens goes_on c.in_ok-part.ensures
    ∙ rw c.in_ok-push.ensures.ok refl

pub returns : goal.returns
returns g c =
    let ends : sees (is_other s.RightBrace) c.loop-tokens.tokens ≡ false = cc in
    c.loop-tokens.invariant ∙ while_ends (is_other s.RightBrace) (g.P.Part.parser c.args.room) (g.met.P.Part.local c.args.room) (g.met.P.Item.takes c.args.room) c.loop-tokens.found c.loop-tokens.tokens ends
