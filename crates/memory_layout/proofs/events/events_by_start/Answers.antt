use Rattle.std.proofs.Common.{arith}
use Rattle.std.proofs.lemmas.Grind.{common_steps}
use Rattle.memory_layout.proofs.Starts.{events_more}
use Rattle.memory_layout.proofs.events.events_by_start.Goals as goal
use Rattle.memory_layout.proofs.events.events_by_start.Goals.{then-is_event+in_ok-push, else-is_event}

pub loop-chain-preserved : goal.loop-chain-preserved
loop-chain-preserved c =
    elim c.if-is_event.branch [
      | then-is_event+in_ok-push w ↦ (
        grind (arith, common_steps),
        λ x d h.
            grind (
              arith,
              common_steps,
              events_more c.args.chains.now c.loop-chain.chain-index x c.chain-item.result,
              c.loop-chain.invariant.1 x d h,
              w.index_mut.ensures.value,
              w.in_ok-push.ensures.items,
              w.event_of.ensures,
              c.chain-item.is,
              c.is_event.ensures,
            ),
      )
      | else-is_event w ↦ (
        grind (arith, common_steps),
        λ x d h.
            grind (arith, common_steps, events_more c.args.chains.now c.loop-chain.chain-index x c.chain-item.result, c.loop-chain.invariant.1 x d h, c.chain-item.is, c.is_event.ensures),
      )
    ]
