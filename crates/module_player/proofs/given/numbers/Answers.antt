-- Endpoint by endpoint.
use Rattle.std.proofs.Common.{◌≡◌, ◌<◌, ◌++◌, ◌∷◌, [], length, get_or, ap, sym, ◌∙◌, subst, rules, arith}
use Rattle.module_player.specs.Writing.{ends_in}
use Rattle.module_player.proofs.Numbered.{numbered_next}
use Rattle.module_player.proofs.States.{counted_one, counted_none}
use Rattle.module_player.proofs.Written.{inside}
use Rattle.module_player.proofs.given.numbers.Goals as goal
use Rattle.module_player.proofs.given.numbers.Goals.{then-is_event_input, else-is_event_input}

pub loop-end-preserved : goal.loop-end-preserved
loop-end-preserved c =
    let host : c.as_slice-end-items.result.now ≡ ends_in c.args.slots.now = search rules in
    let l : c.loop-end.end-index < length c.args.slots.now = inside c.args.slots.now c.as_slice-end-items.result.now (length c.as_slice-end-items.result.now) c.loop-end.end-index (omega arith) (omega arith) host in
    let read = c.end-item.is ∙ ap (λ ends. get_or ends c.loop-end.end-index c.end-item.result) host in
    let more : c.push.new.self.items ≡ c.loop-end.all.items ++ c.loop-end.number ∷ [] = c.in_ok-push.ensures.items in
    elim c.if-is_event_input.branch [
      | then-is_event_input w ↦
          numbered_next c.args.slots.now c.loop-end.end-index c.loop-end.number c.if-is_event_input.number c.loop-end.all.items c.push.new.self.items c.end-item.result l read c.loop-end.invariant more
          (counted_one _ c.is_event_input.result c.loop-end.number c.if-is_event_input.number c.is_event_input.ensures w.if-is_event_input.true w.number-is)
      | else-is_event_input w ↦
          numbered_next c.args.slots.now c.loop-end.end-index c.loop-end.number c.if-is_event_input.number c.loop-end.all.items c.push.new.self.items c.end-item.result l read c.loop-end.invariant more
          (counted_none _ c.is_event_input.result c.loop-end.number c.if-is_event_input.number c.is_event_input.ensures w.if-is_event_input.false w.number-is)
    ]
