use Rattle.cm_front.proofs.TextLemmas.{few_at, parsed_next, parsed_files}
use Rattle.cm_front.proofs.phases.parsed.Goals as goal

pub parse-requires : goal.parse-requires
parse-requires c = record { few = few_at c.args.all.now c.loop-tokens.tokens-index c.tokens-item.result c.requires c.loop-tokens-test.true c.tokens-item.is }

pub loop-tokens-preserved : goal.loop-tokens-preserved
loop-tokens-preserved c =
    parsed_next c.args.all.now c.loop-tokens.tokens-index c.loop-tokens.found c.push.new.self c.tokens-item.result c.in_ok-file.file c.loop-tokens-test.true c.tokens-item.is
    c.in_ok-file.ensures.only c.in_ok-file.ensures.found c.in_ok-push.ensures.ok c.loop-tokens.invariant

pub returns-clause-found : goal.returns-clause-found
returns-clause-found c = parsed_files c.args.all.now c.loop-tokens.tokens-index c.loop-tokens.found c.loop-tokens-test.false c.loop-tokens.invariant
