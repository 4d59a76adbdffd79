-- Endpoint by endpoint.
use Rattle.std.proofs.Common.{◌≡◌, ◌<◌, List, length, true, false, sym, ap, ◌∙◌, subst, arith, rules}
use Rattle.wasm_tree.specs.Section.{ends_of}
use Rattle.wasm_valid.specs.Checked.{Checked}
use Rattle.module_player.specs.Writing.{ends_in}
use Rattle.module_player.proofs.Starting.{StartsOne, started_first, started_next, started_early, started_all}
use Rattle.module_player.proofs.played.start_all.Goals as goal

pub loop-number-init : goal.loop-number-init
loop-number-init g c = started_first {T = g.row.T.Denot} g.T.Teller.tells (ends_of c.args.player.now.of.section) c.args.saved.now c.args.player.now c.args.teller.now c.requires.live

pub returns-then-not-has_ended-clause-comes : goal.returns-then-not-has_ended-clause-comes
returns-then-not-has_ended-clause-comes g c =
    let ends = ends_of c.args.player.now.of.section in
    let list : c.host.result.now ≡ ends = c.host.ensures.same ∙ ap ends_in c.slots.ensures in
    let l : c.loop-number.number < length ends = omega (arith, c.loop-number-test.true, c.len-count.ensures, ap length list) in
    let comes = subst (λ (x : Checked). StartsOne {T = g.row.T.Denot} g.T.Teller.tells (ends_of x.section) c.loop-number.number c.args.saved.now c.loop-number.player c.loop-number.teller c.start_one-came.result c.start_one-came.new.player c.start_one-came.new.teller) c.loop-number.invariant.same.of c.start_one-came.ensures.comes in
    let off : c.has_ended.result ≡ false = search rules in
    started_early {T = g.row.T.Denot} g.T.Teller.tells ends c.args.saved.now c.loop-number.number c.args.player.now c.loop-number.player c.start_one-came.new.player c.args.teller.now c.loop-number.teller c.start_one-came.new.teller c.start_one-came.result l c.loop-number.invariant comes (c.has_ended.ensures.other off)

pub loop-number-preserved : goal.loop-number-preserved
loop-number-preserved g c =
    let ends = ends_of c.args.player.now.of.section in
    let list : c.host.result.now ≡ ends = c.host.ensures.same ∙ ap ends_in c.slots.ensures in
    let l : c.loop-number.number < length ends = omega (arith, c.loop-number-test.true, c.len-count.ensures, ap length list) in
    let comes = subst (λ (x : Checked). StartsOne {T = g.row.T.Denot} g.T.Teller.tells (ends_of x.section) c.loop-number.number c.args.saved.now c.loop-number.player c.loop-number.teller c.start_one-came.result c.start_one-came.new.player c.start_one-came.new.teller) c.loop-number.invariant.same.of c.start_one-came.ensures.comes in
    let on : c.has_ended.result ≡ true = search rules in
    let ended = c.has_ended.ensures.done on in
    started_next {T = g.row.T.Denot} g.T.Teller.tells ends c.args.saved.now c.loop-number.number c.args.player.now c.loop-number.player c.start_one-came.new.player c.args.teller.now c.loop-number.teller c.start_one-came.new.teller c.start_one-came.result l c.loop-number.invariant comes
    c.start_one-came.ensures.same ended (c.start_one-came.ensures.live ended)

pub returns-clause-comes : goal.returns-clause-comes
returns-clause-comes g c =
    let ends = ends_of c.args.player.now.of.section in
    let list : c.host.result.now ≡ ends = c.host.ensures.same ∙ ap ends_in c.slots.ensures in
    started_all {T = g.row.T.Denot} g.T.Teller.tells ends c.args.saved.now c.loop-number.number c.args.player.now c.loop-number.player c.args.teller.now c.loop-number.teller (omega (arith, c.loop-number-test.false, c.len-count.ensures, ap length list)) c.loop-number.invariant
