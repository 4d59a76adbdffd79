use Rattle.std.proofs.Common.{arith}
use Rattle.real_files.proofs.Adapters.{wrote_more, wrote_rest, wrote_kept, wrote_front}
use Rattle.real_files.proofs.outside.write_each.Goals as goal

pub returns-in_err-count-clause-part : goal.returns-in_err-count-clause-part
returns-in_err-count-clause-part g c = wrote_front _ _ _ _ (wrote_kept _ _ _ _ _ c.loop-rest.invariant c.in_err-count.ensures.bytes)

pub returns-then-count-eq0-clause-part : goal.returns-then-count-eq0-clause-part
returns-then-count-eq0-clause-part g c = wrote_front _ _ _ _ (wrote_more _ _ _ _ _ c.in_ok-count.count c.loop-rest.invariant c.in_ok-count.ensures.bytes)

pub loop-rest-preserved : goal.loop-rest-preserved
loop-rest-preserved g c = wrote_rest _ _ _ _ _ c.in_ok-count.count _ c.loop-rest.invariant c.in_ok-count.ensures.bytes (omega arith)

pub returns-clause-part : goal.returns-clause-part
returns-clause-part g c = wrote_front _ _ _ _ c.loop-rest.invariant
