use Rattle.wasm_valid.proofs.AcceptLemmas.{spelled_within, failure_complete}
use Rattle.wasm_valid.proofs.validation.validate.Goals as goal

pub accept-requires-clause-limits : goal.accept-requires-clause-limits
accept-requires-clause-limits c = spelled_within c.args.bytes.now c.args.«module» c.requires

pub returns-in-Err-clause-complete : goal.returns-in-Err-clause-complete
returns-in-Err-clause-complete c = λ section valid.
    failure_complete c.args.bytes.now c.args.«module» section c.refusal.result (c.refusal.ensures c.args.«module» c.requires c.in-Err.ensures.broken) valid
