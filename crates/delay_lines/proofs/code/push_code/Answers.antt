use Rattle.std.proofs.Common.{◌≡◌, ◌++◌, ap, ◌∙◌}
use Rattle.delay_lines.specs.Code.{push_instrs, turn_code}
use Rattle.delay_lines.proofs.Typing.{push_typed, push_straight, push_local_free}
use Rattle.delay_lines.proofs.Whole.{push_does}
use Rattle.delay_lines.proofs.code.push_code.Goals as goal

pub returns-clause-pushes : goal.returns-clause-pushes
returns-clause-pushes c =
    let e : c.push_turn.new.code ≡ push_instrs c.args.ring.now c.args.from = c.in_ok-push_turn.ensures ∙ ap (λ code. code ++ turn_code c.args.ring.now) c.in_ok-code.ensures in
    rw e (push_does c.args.ring.now c.args.from c.requires.place)

pub returns-clause-typed : goal.returns-clause-typed
returns-clause-typed c =
    let e : c.push_turn.new.code ≡ push_instrs c.args.ring.now c.args.from = c.in_ok-push_turn.ensures ∙ ap (λ code. code ++ turn_code c.args.ring.now) c.in_ok-code.ensures in
    rw e (push_typed c.args.ring.now c.args.from)

pub returns-clause-straight : goal.returns-clause-straight
returns-clause-straight c =
    let e : c.push_turn.new.code ≡ push_instrs c.args.ring.now c.args.from = c.in_ok-push_turn.ensures ∙ ap (λ code. code ++ turn_code c.args.ring.now) c.in_ok-code.ensures in
    rw e (push_straight c.args.ring.now c.args.from)

pub returns-clause-no_local : goal.returns-clause-no_local
returns-clause-no_local c =
    let e : c.push_turn.new.code ≡ push_instrs c.args.ring.now c.args.from = c.in_ok-push_turn.ensures ∙ ap (λ code. code ++ turn_code c.args.ring.now) c.in_ok-code.ensures in
    rw e (push_local_free c.args.ring.now c.args.from)
