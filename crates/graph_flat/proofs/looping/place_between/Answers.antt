use Rattle.std.proofs.Common.{◌<◌, sym, ◌∙◌, arith, refl, length, get_or}
use Rattle.std.proofs.lemmas.Grind.{common_steps}
use Rattle.std.proofs.lemmas.List.{get_or_default}
use Rattle.cm_core.specs.declared.link.Connection.{Connection}
use Rattle.graph_flat.proofs.WireLoops.{any_leads, leads_are}
use Rattle.graph_flat.proofs.looping.place_between.Goals as goal

pub loop-at-init : goal.loop-at-init
loop-at-init c = sym (any_leads c.args.connections.now c.args.from c.args.to) ∙ c.requires

pub returns : goal.returns
returns c =
    let cs = c.args.connections.now in
    let at = c.loop-at.at in
    let none : Connection = record { from = record { 0 = 0 }; to = record { 0 = 0 }; delay = 0; place = record { file = 0; line = 0; column = 0 } } in
    let lt : at < length cs = grind (arith, common_steps) in
    let l = leads_are c.args.from c.args.to (get_or cs at none) (sym c.leads.ensures ∙ c.loop-at-test.false) in
    (get_or cs at none, (at, lt, get_or_default cs at (get_or cs at none) none lt), l.0, l.1, refl)
