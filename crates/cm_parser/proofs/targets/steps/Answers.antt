use Rattle.std.proofs.Common.{◌≡◌, ◌∙◌, refl, true, false}
use Rattle.std.proofs.lemmas.Result.{err_from_is_err_and}
use Rattle.token_reader.specs.Parsers.{sees}
use Rattle.token_reader.proofs.Inverses.{Reads-err}
use Rattle.token_reader.proofs.Parts.{while_more, while_fails, while_ends}
use Rattle.file_grammar.specs.Simples.{is_step, step_of}
use Rattle.file_grammar.proofs.Far.{local_step, takes_step}
use Rattle.cm_parser.proofs.targets.steps.Goals as goal

pub returns-in_err-step : goal.returns-in_err-step
returns-in_err-step c =
    let p = err_from_is_err_and c.from_residual.result c.from_residual.ensures.1 in
    let goes_on : sees is_step c.loop-tokens.tokens ≡ true = cc in
    rw (p.1, p.2)
    (Reads-err _ _ c.in_err-step.field-0.0 c.step.new.tokens
    (λ l is. c.loop-tokens.invariant ∙ while_fails is_step (step_of c.args.room) (local_step c.args.room) (takes_step c.args.room) c.loop-tokens.found c.loop-tokens.tokens l goes_on is)
    c.in_err-step.ensures)

pub loop-tokens-smaller : goal.loop-tokens-smaller
loop-tokens-smaller c = (takes_step c.args.room).some c.loop-tokens.tokens c.in_ok-step.step c.step.new.tokens c.in_ok-step.ensures

pub loop-tokens-preserved : goal.loop-tokens-preserved
loop-tokens-preserved c =
    let goes_on : sees is_step c.loop-tokens.tokens ≡ true = cc in
    c.loop-tokens.invariant
    ∙ while_more is_step (step_of c.args.room) (local_step c.args.room) (takes_step c.args.room) c.loop-tokens.found c.loop-tokens.tokens c.in_ok-step.step c.step.new.tokens goes_on c.in_ok-step.ensures
    ∙ rw c.in_ok-push.ensures.ok refl

pub returns : goal.returns
returns c =
    let ends : sees is_step c.loop-tokens.tokens ≡ false = cc in
    c.loop-tokens.invariant ∙ while_ends is_step (step_of c.args.room) (local_step c.args.room) (takes_step c.args.room) c.loop-tokens.found c.loop-tokens.tokens ends
