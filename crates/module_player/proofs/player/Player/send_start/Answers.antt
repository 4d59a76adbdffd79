use Rattle.std.proofs.Common.{◌≡◌, List, [], ◌∷◌, sym, ap, ◌∙◌, subst, to_z, of_z, rules}
use Rattle.std.specs.Int.{w64}
use Rattle.cm_base.specs.Parts.{Send, Begin, inputs_at}
use Rattle.wasm_tree.specs.Section.{Slot, ends_of}
use Rattle.wasm_tree.specs.Slots.{write_event}
use Rattle.wasm_runner.specs.Running.{Running}
use Rattle.wasm_valid.specs.Checked.{Checked}
use Rattle.module_player.specs.declared.came.Came.{Came}
use Rattle.module_player.specs.Playing.{Playing, playing, ComesOf}
use Rattle.module_player.specs.Given.{Given}
use Rattle.module_player.proofs.PartsPlayed.{send_all}
use Rattle.module_player.proofs.player.Player.send_start.Goals as goal

pub returns-clause-comes : goal.returns-clause-comes
returns-clause-comes g c =
    let p : Playing = playing c.self.inside.runner c.self.inside.steps c.self.inside.given.current in
    let q : Playing = c.call_event-ended.new.self in
    let r1 : Running = c.write_frame.new.runner in
    let r2 : Running = c.write_scalar.new.runner in
    let slots : c.write_frame.new.self.slots ≡ r1.of.section.slots = ap (λ (x : Given). x.slots) c.write_frame.ensures.same ∙ (c.self.invariant.writes ∙ ap (λ (x : Checked). x.section.slots) (sym (ap (λ (r : Running). r.of) c.write_frame.ensures.runner))) in
    let round : to_z w64 (of_z w64 c.args.value) ≡ c.args.value = search rules in
    let written : r2.memory ≡ write_event r1.of.section.slots c.args.endpoint (c.args.value ∷ []) r1.memory = c.write_scalar.ensures.written ∙ (ap (λ z. write_event c.write_frame.new.self.slots c.args.endpoint (z ∷ []) r1.memory) round ∙ ap (λ (s : List Slot). write_event s c.args.endpoint (c.args.value ∷ []) r1.memory) slots) in
    let current : q.current ≡ c.self.inside.given.current = c.call_event-ended.ensures.current ∙ (ap (λ (x : Given). x.current) c.write_scalar.ensures.same ∙ ap (λ (x : Given). x.current) c.write_frame.ensures.same) in
    let comes =
    send_all {T = g.row.T.Denot} g.T.Teller.tells c.self.inside.runner r1 r2 c.self.inside.given c.self.inside.steps 0 c.args.endpoint (c.args.value ∷ []) [] q c.args.teller.now c.call_event-ended.result c.call_event-ended.new.teller
    c.self.invariant.writes current c.write_frame.ensures.written c.write_frame.ensures.runner written c.write_scalar.ensures.runner c.call_event-ended.ensures.told in
    subst (λ (x : Playing). ComesOf {Teller = g.row.T.Denot} g.T.Teller.tells x (Begin (Send 0 c.args.endpoint (c.args.value ∷ []) (inputs_at (ends_of x.of.section) [] 0)) ∷ []) c.args.teller.now c.came_of.result q c.call_event-ended.new.teller) c.self.view_is
    (subst (λ (came : Came). ComesOf {Teller = g.row.T.Denot} g.T.Teller.tells p (Begin (Send 0 c.args.endpoint (c.args.value ∷ []) (inputs_at (ends_of p.of.section) [] 0)) ∷ []) c.args.teller.now came q c.call_event-ended.new.teller) (sym c.came_of.ensures) comes)
