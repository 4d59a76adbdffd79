use Rattle.delay_lines.proofs.Typing.{oldest_typed, oldest_straight, oldest_local_free}
use Rattle.delay_lines.proofs.Whole.{oldest_does}
use Rattle.delay_lines.proofs.code.oldest_code.Goals as goal

pub returns-clause-copies : goal.returns-clause-copies
returns-clause-copies c = rw c.in_ok-code.ensures (oldest_does c.args.ring.now c.args.to c.requires.place)

pub returns-clause-typed : goal.returns-clause-typed
returns-clause-typed c = rw c.in_ok-code.ensures (oldest_typed c.args.ring.now c.args.to)

pub returns-clause-straight : goal.returns-clause-straight
returns-clause-straight c = rw c.in_ok-code.ensures (oldest_straight c.args.ring.now c.args.to)

pub returns-clause-no_local : goal.returns-clause-no_local
returns-clause-no_local c = rw c.in_ok-code.ensures (oldest_local_free c.args.ring.now c.args.to)
