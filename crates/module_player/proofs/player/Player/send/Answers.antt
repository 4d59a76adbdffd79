use Rattle.std.proofs.Common.{◌≡◌, List, [], ◌∷◌, sym, ap, ◌∙◌, subst}
use Rattle.cm_base.specs.declared.host.Kind.TheVariants as kinds
use Rattle.cm_base.specs.Parts.{Send, Begin, inputs_at}
use Rattle.cm_base.specs.Tasks.{IsTaken}
use Rattle.wasm_tree.specs.Section.{Slot, ends_of}
use Rattle.wasm_tree.specs.Slots.{write_event}
use Rattle.wasm_runner.specs.Running.{Running}
use Rattle.wasm_valid.specs.Checked.{Checked}
use Rattle.module_player.specs.declared.came.Came.{Came}
use Rattle.module_player.specs.Playing.{Playing, playing, ComesOf}
use Rattle.module_player.specs.Given.{Given}
use Rattle.module_player.specs.Writing.{ends_in}
use Rattle.module_player.proofs.PartsPlayed.{send_all}
use Rattle.module_player.proofs.States.{taken_slot, event_written}
use Rattle.module_player.proofs.player.Player.send.Goals as goal

pub returns-clause-comes : goal.returns-clause-comes
returns-clause-comes g c =
    let p : Playing = playing c.self.inside.runner c.self.inside.steps c.self.inside.given.current in
    let q : Playing = c.call_event-ended.new.self in
    let r1 : Running = c.write_frame.new.runner in
    let taken : IsTaken kinds.Event (ends_of c.self.inside.runner.of.section) c.args.endpoint c.args.value.now = subst (λ (x : Playing). IsTaken kinds.Event (ends_of x.of.section) c.args.endpoint c.args.value.now) (sym c.self.view_is) c.requires.taken in
    let taken1 : IsTaken kinds.Event (ends_of r1.of.section) c.args.endpoint c.args.value.now = subst (λ (x : Checked). IsTaken kinds.Event (ends_of x.section) c.args.endpoint c.args.value.now) (sym (ap (λ (r : Running). r.of) c.write_frame.ensures.runner)) taken in
    let written = event_written r1.of.section.slots c.args.endpoint c.args.value.now c.write_slot.new.self.memory r1.memory (taken_slot kinds.Event r1.of.section.slots c.args.endpoint c.args.value.now taken1) c.write_slot.ensures.memory in
    let current : q.current ≡ c.self.inside.given.current = c.call_event-ended.ensures.current ∙ ap (λ (x : Given). x.current) c.write_frame.ensures.same in
    let comes =
    send_all {T = g.row.T.Denot} g.T.Teller.tells c.self.inside.runner r1 c.write_slot.new.self c.self.inside.given c.self.inside.steps c.args.frame c.args.endpoint c.args.value.now c.args.streams.now q c.args.teller.now c.call_event-ended.result c.call_event-ended.new.teller
    c.self.invariant.writes current c.write_frame.ensures.written c.write_frame.ensures.runner written c.write_slot.ensures.same c.call_event-ended.ensures.told in
    subst (λ (x : Playing). ComesOf {Teller = g.row.T.Denot} g.T.Teller.tells x (Begin (Send c.args.frame c.args.endpoint c.args.value.now (inputs_at (ends_of x.of.section) c.args.streams.now c.args.frame)) ∷ []) c.args.teller.now c.came_of.result q c.call_event-ended.new.teller) c.self.view_is
    (subst (λ (came : Came). ComesOf {Teller = g.row.T.Denot} g.T.Teller.tells p (Begin (Send c.args.frame c.args.endpoint c.args.value.now (inputs_at (ends_of p.of.section) c.args.streams.now c.args.frame)) ∷ []) c.args.teller.now came q c.call_event-ended.new.teller) (sym c.came_of.ensures) comes)
