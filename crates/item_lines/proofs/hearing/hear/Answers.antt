use Rattle.std.proofs.Common.{rules, ◌≡◌, ◌<◌, ◌^◌, length, map, ℕ, ◌+◌, ◌-◌, ◌*◌, ◌≤◌, refl, sym, ◌∙◌, subst}
use Rattle.item_lines.specs.Hearing.{ear, HeardAs, Fails, Lacks}
use Rattle.item_lines.proofs.Hears.{see_next, see_stops, see_all}
use Rattle.item_lines.proofs.hearing.hear.Goals as goal

pub loop-number-init : goal.loop-number-init
loop-number-init g c = (refl, refl)

pub index_mut-requires : goal.index_mut-requires
index_mut-requires g c = search (rules, c.loop-number.invariant.1)

pub returns-in-Failed-clause-heard : goal.returns-in-Failed-clause-heard
returns-in-Failed-clause-heard g c = see_stops _ Fails c.args.item.now c.loop-number.number _ c.loop-number.listeners.items c.index_mut.result.now _ c.loop-number.invariant.0 (search (rules, c.loop-number.invariant.1)) c.index_mut.ensures.value (search rules)

pub returns-in-NoMemory-clause-heard : goal.returns-in-NoMemory-clause-heard
returns-in-NoMemory-clause-heard g c = see_stops _ Lacks c.args.item.now c.loop-number.number _ c.loop-number.listeners.items c.index_mut.result.now _ c.loop-number.invariant.0 (search (rules, c.loop-number.invariant.1)) c.index_mut.ensures.value (search rules)

pub loop-number-preserved : goal.loop-number-preserved
loop-number-preserved g c = (see_next _ c.args.item.now c.loop-number.number _ c.loop-number.listeners.items c.index_mut.result.now _ c.loop-number.invariant.0 (search (rules, c.loop-number.invariant.1)) c.index_mut.ensures.value (search rules), search (rules, c.loop-number.invariant.1))

pub returns-clause-heard : goal.returns-clause-heard
returns-clause-heard g c = see_all _ c.args.item.now c.loop-number.number _ c.loop-number.listeners.items c.loop-number.invariant.0 (search (rules, c.loop-number.invariant.1))
