use Rattle.std.proofs.Common.{◌≡◌, ◌∙◌, refl, true, false}
use Rattle.std.proofs.lemmas.Result.{err_from_is_err_and}
use Rattle.token_reader.specs.Parsers.{sees}
use Rattle.token_reader.proofs.Inverses.{Reads-err}
use Rattle.token_reader.proofs.Parts.{while_more, while_fails, while_ends}
use Rattle.cm_parse_expr.specs.Reading.{colons, further_name}
use Rattle.cm_parse_expr.proofs.Reach.{local_further_name, takes_further_name}
use Rattle.cm_parse_expr.proofs.paths.further_names.Goals as goal

pub returns-in_err-name : goal.returns-in_err-name
returns-in_err-name c =
    let p = err_from_is_err_and c.from_residual.result c.from_residual.ensures.1 in
    let goes_on : sees colons c.loop-tokens.tokens ≡ true = cc in
    rw (p.1, p.2)
    (Reads-err _ _ c.in_err-name.field-0.0 c.further_name.new.tokens
    (λ l is. c.loop-tokens.invariant ∙ while_fails colons further_name local_further_name takes_further_name c.loop-tokens.names c.loop-tokens.tokens l goes_on is) c.in_err-name.ensures)

pub loop-tokens-smaller : goal.loop-tokens-smaller
loop-tokens-smaller c = takes_further_name.some c.loop-tokens.tokens c.in_ok-name.name c.further_name.new.tokens c.in_ok-name.ensures

pub loop-tokens-preserved : goal.loop-tokens-preserved
loop-tokens-preserved c =
    let goes_on : sees colons c.loop-tokens.tokens ≡ true = cc in
    c.loop-tokens.invariant
    ∙ while_more colons further_name local_further_name takes_further_name c.loop-tokens.names c.loop-tokens.tokens c.in_ok-name.name c.further_name.new.tokens goes_on c.in_ok-name.ensures
    ∙ rw c.in_ok-push.ensures.ok refl

pub returns : goal.returns
returns c =
    let ends : sees colons c.loop-tokens.tokens ≡ false = cc in
    c.loop-tokens.invariant ∙ while_ends colons further_name local_further_name takes_further_name c.loop-tokens.names c.loop-tokens.tokens ends
