use Rattle.std.proofs.Common.{◌≡◌, ◌≢◌, List, [], ◌∷◌, true, false, sym, ap, ◌∙◌, subst, rules}
use Rattle.std.specs.Prelude.{not}
use Rattle.cm_base.specs.declared.play.Item.TheVariants as item
use Rattle.cm_base.specs.Parts.{Frame, Begin, inputs_at}
use Rattle.wasm_tree.specs.declared.interface.Interface.TheVariants.{Single}
use Rattle.wasm_tree.specs.Section.{Slot, ends_of}
use Rattle.wasm_tree.specs.Slots.{outputs_at}
use Rattle.wasm_runner.specs.Running.{Running}
use Rattle.wasm_runner.specs.declared.host.Ended.TheVariants as ended
use Rattle.module_player.specs.declared.came.Came.{Came}
use Rattle.module_player.specs.declared.came.Came.TheVariants as came
use Rattle.module_player.specs.Playing.{Playing, playing, ComesOf}
use Rattle.module_player.specs.Given.{Given}
use Rattle.module_player.proofs.PartsPlayed.{single_all, single_all_early}
use Rattle.module_player.proofs.player.Player.single_frame.Goals as goal
use Rattle.module_player.proofs.player.Player.single_frame.Goals.{then-tell_frame, else-tell_frame}

pub returns-then-not-returned-clause-comes : goal.returns-then-not-returned-clause-comes
returns-then-not-returned-clause-comes g c =
    let p : Playing = playing c.self.inside.runner c.self.inside.steps c.self.inside.given.current in
    let q : Playing = playing c.call_part-ended.new.runner c.self.inside.steps c.write_frame.new.self.current in
    let other : c.returned.result ≡ false = search rules in
    let interface : c.self.inside.runner.of.section.interface ≡ Single = subst (λ (x : Playing). x.of.section.interface ≡ Single) (sym c.self.view_is) c.requires.interface in
    let current : q.current ≡ c.self.inside.given.current = ap (λ (x : Given). x.current) c.write_frame.ensures.same in
    let comes =
    single_all_early {T = g.row.T.Denot} g.T.Teller.tells c.self.inside.runner c.write_frame.new.runner c.self.inside.given c.self.inside.steps c.args.frame c.args.streams.now q c.args.teller.now c.call_part-ended.result c.call_part-ended.new.teller
    c.self.invariant.writes current interface (c.returned.ensures.other other) c.write_frame.ensures.written c.write_frame.ensures.runner c.call_part-ended.ensures.told in
    subst (λ (x : Playing). ComesOf {Teller = g.row.T.Denot} g.T.Teller.tells x (Begin (Frame c.args.frame (inputs_at (ends_of x.of.section) c.args.streams.now c.args.frame)) ∷ []) c.args.teller.now c.came_of.result q c.call_part-ended.new.teller) c.self.view_is
    (subst (λ (came : Came). ComesOf {Teller = g.row.T.Denot} g.T.Teller.tells p (Begin (Frame c.args.frame (inputs_at (ends_of p.of.section) c.args.streams.now c.args.frame)) ∷ []) c.args.teller.now came q c.call_part-ended.new.teller) (sym c.came_of.ensures) comes)

pub returns-clause-comes : goal.returns-clause-comes
returns-clause-comes g c =
    let q : Playing = playing c.call_part-ended.new.runner c.self.inside.steps c.write_frame.new.self.current in
    let done : c.returned.result ≡ true = search rules in
    let interface : c.self.inside.runner.of.section.interface ≡ Single = subst (λ (x : Playing). x.of.section.interface ≡ Single) (sym c.self.view_is) c.requires.interface in
    let current : q.current ≡ c.self.inside.given.current = ap (λ (x : Given). x.current) c.write_frame.ensures.same in
    let reads : c.call_part-ended.new.outputs ≡ c.self.inside.runner.of.section.slots = c.call_part-ended.ensures.slots ∙ c.self.invariant.reads in
    let told = subst (λ memory. g.T.Teller.tells c.call_part-ended.new.teller (item.Frame c.args.frame (outputs_at c.call_part-ended.new.outputs 0 memory)) c.tell_frame.result c.tell_frame.new.teller) c.memory.ensures c.tell_frame.ensures.told in
    let on : c.tell_frame.result ≡ true → c.if-tell_frame.result ≡ came.Ended = elim c.if-tell_frame.branch [ then-tell_frame w ↦ (λ t. w.result-is) | else-tell_frame w ↦ (λ t. absurd (cc (t, w.if-tell_frame.false))) ] in
    let off : c.tell_frame.result ≡ false → c.if-tell_frame.result ≡ came.Stopped = elim c.if-tell_frame.branch [ then-tell_frame w ↦ (λ t. absurd (cc (t, w.if-tell_frame.true))) | else-tell_frame w ↦ (λ t. w.result-is) ] in
    let comes =
    single_all {T = g.row.T.Denot} g.T.Teller.tells c.self.inside.runner c.write_frame.new.runner c.self.inside.given c.call_part-ended.new.outputs c.self.inside.steps c.args.frame c.args.streams.now q c.args.teller.now c.call_part-ended.new.teller c.call_part-ended.result
    c.tell_frame.result c.if-tell_frame.result c.tell_frame.new.teller c.self.invariant.writes reads current interface (c.returned.ensures.done done) c.write_frame.ensures.written c.write_frame.ensures.runner c.call_part-ended.ensures.told told on off in
    subst (λ (x : Playing). ComesOf {Teller = g.row.T.Denot} g.T.Teller.tells x (Begin (Frame c.args.frame (inputs_at (ends_of x.of.section) c.args.streams.now c.args.frame)) ∷ []) c.args.teller.now c.if-tell_frame.result q c.tell_frame.new.teller) c.self.view_is comes
