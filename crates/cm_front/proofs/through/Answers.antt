use Rattle.std.proofs.Common.{refl}
use Rattle.cm_front.proofs.through.Goals as goal

pub returns-in-None-clause-only : goal.returns-in-None-clause-only
returns-in-None-clause-only c = λ p a b form. absurd (c.in-None.ensures.only p a b form)

pub returns-in-None-clause-refused : goal.returns-in-None-clause-refused
returns-in-None-clause-refused c = rw c.not_yet.ensures (record { none = λ p a b form. c.in-None.ensures.only p a b form; is = refl })
