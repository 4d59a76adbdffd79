use Rattle.std.proofs.Common.{sym, ◌∙◌, ◌<◌, length, rules}
use Rattle.wasm_valid.proofs.NameLemmas.{next_places, twice_now, once_more}
use Rattle.wasm_valid.proofs.names.Names.new.Goals.{then-is_some, else-is_some}
use Rattle.wasm_valid.proofs.names.Names.new.Goals as goal

pub loop-at-preserved : goal.loop-at-preserved
loop-at-preserved c =
    let items = c.args.names.items in
    let name = c.index.result.now in
    let within : c.loop-at.at < length items = search rules in
    let before = c.loop-at.places in (
      next_places items c.loop-at.at name name before c.insert.new.self within c.index.ensures c.loop-at.invariant.0 c.in_ok-insert.ensures.updates,
      elim c.if-is_some.branch [
        | then-is_some w ↦ twice_now items c.loop-at.at name name before c.in_ok-insert.field-0 c.if-is_some.distinct within c.index.ensures c.loop-at.invariant.0 c.in_ok-insert.ensures.old (sym c.is_some.ensures ∙ w.if-is_some.true) w.distinct-is
        | else-is_some w ↦ once_more items c.loop-at.at name name before c.in_ok-insert.field-0 c.loop-at.distinct c.if-is_some.distinct within c.index.ensures c.loop-at.invariant.0 c.in_ok-insert.ensures.old (sym c.is_some.ensures ∙ w.if-is_some.false) w.distinct-is c.loop-at.invariant.1
      ],
    )
