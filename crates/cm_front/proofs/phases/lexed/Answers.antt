use Rattle.std.proofs.Common.{◌≡◌}
use Rattle.std.proofs.lemmas.Result.{err_from_is_err_and}
use Rattle.cm_front.proofs.TextLemmas.{lexed_next, lexed_tokens, lexed_spans, lexed_stop}
use Rattle.cm_front.proofs.phases.lexed.Goals as goal

pub returns-in_err-tokens-clause-only : goal.returns-in_err-tokens-clause-only
returns-in_err-tokens-clause-only c = λ all are.
    let p = err_from_is_err_and c.from_residual.result c.from_residual.ensures.1 in
    rw (p.1, p.2) (lexed_stop (λ found. found ≡ all) c.args.sources.now c.loop-number.number c.loop-number.found all c.index-sources-number.result c.as_slice.result.now c.in_err-tokens.field-0.0
    c.loop-number-test.true c.index-sources-number.is c.as_slice.ensures c.in_err-tokens.ensures.only c.loop-number.invariant are)

pub loop-number-preserved : goal.loop-number-preserved
loop-number-preserved c =
    lexed_next c.args.sources.now c.loop-number.number c.loop-number.found c.push.new.self c.index-sources-number.result c.as_slice.result.now c.in_ok-tokens.tokens c.loop-number-test.true c.index-sources-number.is
    c.as_slice.ensures c.in_ok-tokens.ensures.only c.in_ok-tokens.ensures.found c.in_ok-tokens.ensures.spans c.in_ok-push.ensures.ok c.loop-number.invariant

pub returns-clause-found : goal.returns-clause-found
returns-clause-found c = lexed_tokens c.args.sources.now c.loop-number.number c.loop-number.found c.loop-number-test.false c.loop-number.invariant

pub returns-clause-spans : goal.returns-clause-spans
returns-clause-spans c = lexed_spans c.args.sources.now c.loop-number.number c.loop-number.found c.loop-number-test.false c.loop-number.invariant
