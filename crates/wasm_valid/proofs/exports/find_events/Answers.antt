use Rattle.std.proofs.Common.{append-nil, subst, sym, rules}
use Rattle.wasm_tree.specs.Numbers.{no_type}
use Rattle.wasm_valid.specs.Exported.{TellsFunctions}
use Rattle.wasm_valid.proofs.ExportLemmas.{events_on, events_all}
use Rattle.wasm_valid.proofs.exports.find_events.Goals as goal

pub loop-number-init : goal.loop-number-init
loop-number-init c = λ ws h. subst (λ l. TellsFunctions c.args.module.now l c.args.before) (sym (append-nil ws)) h

pub loop-number-preserved : goal.loop-number-preserved
loop-number-preserved c =
    let name = c.as_str.result.now in
    events_on c.args.module.now c.args.before c.loop-number.found c.with_one-found.result c.loop-number.number-counter name (search rules) c.loop-number.invariant
    (λ ws h. c.with_one-found.ensures c.args.module.now ws (name, no_type) h c.find_function-one.ensures)

pub returns : goal.returns
returns c =
    events_all c.args.module.now c.args.before c.loop-number.found c.loop-number.number-counter c.args.count (search rules) c.loop-number.invariant
