-- By the kind of the parameter.
use Rattle.std.proofs.Common.{◌≡◌, List, [], ◌∷◌, get_or, Some, None, true, false, refl, sym, ap, ◌∙◌, subst, rules, to_z, of_z, ℤ}
use Rattle.std.specs.Int.{w64}
use Rattle.cm_base.specs.declared.host.HostEnd.{HostEnd}
use Rattle.cm_base.specs.declared.host.Kind.TheVariants as kinds
use Rattle.cm_base.specs.Parts.{start_of, is_event}
use Rattle.cm_base.proofs.TaskLemmas.{no_streams}
use Rattle.wasm_tree.specs.Section.{Slot, ends_of}
use Rattle.module_player.specs.Writing.{ends_in}
use Rattle.module_player.proofs.Starting.{start_is, start_taken, kind_event, kind_value, starts_none, starts_sent, starts_set}
use Rattle.module_player.proofs.played.start_one.Goals as goal

pub returns-in-None-clause-comes : goal.returns-in-None-clause-comes
returns-in-None-clause-comes g c =
    let ends = ends_of c.args.player.now.of.section in
    let list : c.as_slice.result.now ≡ ends = c.as_slice.ensures ∙ (c.host.ensures.same ∙ ap ends_in c.slots.ensures) in
    let end = c.index-as_slice-number.is ∙ ap (λ (xs : List HostEnd). get_or xs c.args.number c.index-as_slice-number.result) list in
    starts_none {T = g.row.T.Denot} g.T.Teller.tells ends c.args.number c.args.saved.now c.args.player.now c.args.teller.now c.index-as_slice-number.result c.requires.there end c.in-None.is

pub send_start-requires-clause-taken : goal.send_start-requires-clause-taken
send_start-requires-clause-taken g c =
    let ends = ends_of c.args.player.now.of.section in
    let list : c.as_slice.result.now ≡ ends = c.as_slice.ensures ∙ (c.host.ensures.same ∙ ap ends_in c.slots.ensures) in
    let end = c.index-as_slice-number.is ∙ ap (λ (xs : List HostEnd). get_or xs c.args.number c.index-as_slice-number.result) list in
    let is = start_is ends c.args.number c.index-as_slice-number.result c.in-Some.range c.args.saved.now c.requires.lawful c.requires.saved c.requires.there end c.in-Some.is in
    let round : to_z w64 (of_z w64 c.start_value-value.result) ≡ c.start_value-value.result = search rules in
    let k : is_event c.index-as_slice-number.result.kind ≡ true = sym c.is_event.ensures ∙ c.if-is_event.true in
    start_taken ends c.args.number c.index-as_slice-number.result c.in-Some.range c.args.saved.now kinds.Event (to_z w64 (of_z w64 c.start_value-value.result)) is (kind_event c.index-as_slice-number.result.kind k) (round ∙ c.start_value-value.ensures)

pub send_start-requires-clause-inputs : goal.send_start-requires-clause-inputs
send_start-requires-clause-inputs g c = no_streams (ends_of c.args.player.now.of.section) 0 c.requires.lawful.each

pub returns-then-is_event-clause-comes : goal.returns-then-is_event-clause-comes
returns-then-is_event-clause-comes g c =
    let ends = ends_of c.args.player.now.of.section in
    let list : c.as_slice.result.now ≡ ends = c.as_slice.ensures ∙ (c.host.ensures.same ∙ ap ends_in c.slots.ensures) in
    let end = c.index-as_slice-number.is ∙ ap (λ (xs : List HostEnd). get_or xs c.args.number c.index-as_slice-number.result) list in
    let is = start_is ends c.args.number c.index-as_slice-number.result c.in-Some.range c.args.saved.now c.requires.lawful c.requires.saved c.requires.there end c.in-Some.is in
    let round : to_z w64 (of_z w64 c.start_value-value.result) ≡ c.start_value-value.result = search rules in
    let k : is_event c.index-as_slice-number.result.kind ≡ true = sym c.is_event.ensures ∙ c.if-is_event.true in
    starts_sent {T = g.row.T.Denot} g.T.Teller.tells ends c.args.number c.args.saved.now c.args.player.now c.send_start.new.self c.args.teller.now c.send_start.new.teller c.send_start.result c.index-as_slice-number.result c.in-Some.range
    (to_z w64 (of_z w64 c.start_value-value.result)) is k (round ∙ c.start_value-value.ensures) c.send_start.ensures.comes

pub set-requires : goal.set-requires
set-requires g c =
    let ends = ends_of c.args.player.now.of.section in
    let list : c.as_slice.result.now ≡ ends = c.as_slice.ensures ∙ (c.host.ensures.same ∙ ap ends_in c.slots.ensures) in
    let end = c.index-as_slice-number.is ∙ ap (λ (xs : List HostEnd). get_or xs c.args.number c.index-as_slice-number.result) list in
    let is = start_is ends c.args.number c.index-as_slice-number.result c.in-Some.range c.args.saved.now c.requires.lawful c.requires.saved c.requires.there end c.in-Some.is in
    let round : to_z w64 (of_z w64 c.start_value-value.result) ≡ c.start_value-value.result = search rules in
    let k : is_event c.index-as_slice-number.result.kind ≡ false = sym c.is_event.ensures ∙ c.if-is_event.false in
    start_taken ends c.args.number c.index-as_slice-number.result c.in-Some.range c.args.saved.now kinds.Value (to_z w64 (of_z w64 c.start_value-value.result)) is (kind_value c.index-as_slice-number.result.kind k is.lawful.kind) (round ∙ c.start_value-value.ensures)

pub returns-clause-comes : goal.returns-clause-comes
returns-clause-comes g c =
    let ends = ends_of c.args.player.now.of.section in
    let list : c.as_slice.result.now ≡ ends = c.as_slice.ensures ∙ (c.host.ensures.same ∙ ap ends_in c.slots.ensures) in
    let end = c.index-as_slice-number.is ∙ ap (λ (xs : List HostEnd). get_or xs c.args.number c.index-as_slice-number.result) list in
    let is = start_is ends c.args.number c.index-as_slice-number.result c.in-Some.range c.args.saved.now c.requires.lawful c.requires.saved c.requires.there end c.in-Some.is in
    let round : to_z w64 (of_z w64 c.start_value-value.result) ≡ c.start_value-value.result = search rules in
    let k : is_event c.index-as_slice-number.result.kind ≡ false = sym c.is_event.ensures ∙ c.if-is_event.false in
    starts_set {T = g.row.T.Denot} g.T.Teller.tells ends c.args.number c.args.saved.now c.args.player.now c.set.new.self c.args.teller.now c.index-as_slice-number.result c.in-Some.range
    (to_z w64 (of_z w64 c.start_value-value.result)) is k (round ∙ c.start_value-value.ensures) c.set.ensures
