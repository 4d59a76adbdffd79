-- Setting by setting.
use Rattle.std.proofs.Common.{◌≡◌, ◌≢◌, ◌<◌, ◌≤◌, ◌+◌, ℕ, List, ◌∷◌, drop, length, get_or, sym, ap, ◌∙◌, subst, arith, rules}
use Rattle.std.specs.Prelude.{slice_set}
use Rattle.cm_base.specs.declared.host.Kind.TheVariants as kinds
use Rattle.cm_base.specs.declared.play.Setting.{Setting}
use Rattle.cm_base.specs.Tasks.{IsTaken}
use Rattle.wasm_tree.specs.Section.{ends_of}
use Rattle.wasm_valid.specs.Checked.{Checked}
use Rattle.module_player.specs.Cursors.{IsPlace}
use Rattle.module_player.specs.Playing.{Playing}
use Rattle.module_player.proofs.Going.{AreSet, set_first, set_next, set_all, setting_taken}
use Rattle.module_player.proofs.Places.{first_of_rest, none_at_other, none_at_end, place_at_other, place_at_end}
use Rattle.module_player.proofs.run.set_values.Goals as goal

pub loop-at-init : goal.loop-at-init
loop-at-init c = set_first c.args.script.now.values c.args.frame c.args.place c.args.player.now c.requires.place

pub returns-then-setting-frame-clause-set : goal.returns-then-setting-frame-clause-set
returns-then-setting-frame-clause-set c =
    let read = c.index-values-at.is ∙ ap (λ (xs : List Setting). get_or xs c.loop-at.at c.index-values-at.result) c.as_slice-values.ensures in
    let l : c.loop-at.at < length c.args.script.now.values = omega (arith, ap length c.as_slice-values.ensures) in
    let rest = first_of_rest c.args.script.now.values c.loop-at.at c.index-values-at.result l read in
    let other : c.index-values-at.result.frame ≢ c.args.frame = search rules in
    set_all c.args.script.now.values c.args.frame c.loop-at.at c.args.player.now c.loop-at.player (none_at_other c.args.script.now.values c.args.frame c.loop-at.at c.index-values-at.result rest other c.loop-at.invariant.behind) c.loop-at.invariant

pub returns-then-setting-frame-clause-place : goal.returns-then-setting-frame-clause-place
returns-then-setting-frame-clause-place c =
    let read = c.index-values-at.is ∙ ap (λ (xs : List Setting). get_or xs c.loop-at.at c.index-values-at.result) c.as_slice-values.ensures in
    let l : c.loop-at.at < length c.args.script.now.values = omega (arith, ap length c.as_slice-values.ensures) in
    let rest = first_of_rest c.args.script.now.values c.loop-at.at c.index-values-at.result l read in
    let other : c.index-values-at.result.frame ≢ c.args.frame = search rules in
    place_at_other c.args.script.now.values c.args.frame c.loop-at.at c.index-values-at.result (omega (arith, l)) rest other c.loop-at.invariant.behind

pub loop-at-preserved : goal.loop-at-preserved
loop-at-preserved c =
    let read = c.index-values-at.is ∙ ap (λ (xs : List Setting). get_or xs c.loop-at.at c.index-values-at.result) c.as_slice-values.ensures in
    let l : c.loop-at.at < length c.args.script.now.values = omega (arith, ap length c.as_slice-values.ensures) in
    let here : c.index-values-at.result.frame ≡ c.args.frame = search rules in
    set_next c.args.script.now.values c.args.frame c.loop-at.at c.args.player.now c.loop-at.player c.set.new.self c.index-values-at.result l read here c.loop-at.invariant
    (c.set.ensures ∙ ap (λ v. record c.loop-at.player { current = slice_set c.loop-at.player.current c.index-values-at.result.endpoint v }) c.as_slice.ensures)

pub set-requires : goal.set-requires
set-requires c =
    let read = c.index-values-at.is ∙ ap (λ (xs : List Setting). get_or xs c.loop-at.at c.index-values-at.result) c.as_slice-values.ensures in
    let l : c.loop-at.at < length c.args.script.now.values = omega (arith, ap length c.as_slice-values.ensures) in
    let taken = setting_taken kinds.Value c.args.script.now.frames (ends_of c.args.player.now.of.section) c.args.script.now.values c.loop-at.at c.index-values-at.result l read c.requires.script.values in
    let same : c.loop-at.player.of ≡ c.args.player.now.of = ap (λ (p : Playing). p.of) c.loop-at.invariant.set in
    subst (λ v. IsTaken kinds.Value (ends_of c.loop-at.player.of.section) c.index-values-at.result.endpoint v) (sym c.as_slice.ensures)
    (subst (λ (x : Checked). IsTaken kinds.Value (ends_of x.section) c.index-values-at.result.endpoint c.index-values-at.result.value) (sym same) taken)

pub returns-clause-set : goal.returns-clause-set
returns-clause-set c =
    let l : length c.args.script.now.values ≤ c.loop-at.at = omega (arith, ap length c.as_slice-values.ensures) in
    set_all c.args.script.now.values c.args.frame c.loop-at.at c.args.player.now c.loop-at.player (none_at_end c.args.script.now.values c.args.frame c.loop-at.at l) c.loop-at.invariant

pub returns-clause-place : goal.returns-clause-place
returns-clause-place c =
    let l : length c.args.script.now.values ≤ c.loop-at.at = omega (arith, ap length c.as_slice-values.ensures) in
    subst (λ n. IsPlace c.args.script.now.values (c.args.frame + 1) n) (sym (ap length c.as_slice-values.ensures)) (place_at_end c.args.script.now.values c.args.frame c.loop-at.at l c.loop-at.invariant.behind)
