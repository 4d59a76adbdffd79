use Rattle.std.proofs.Common.{length}
use Rattle.std.specs.List.{AllByRecursion}
use Rattle.cm_base.specs.declared.host.HostEnd.{HostEnd}
use Rattle.saved_state.specs.Version2.{IsCounted}
use Rattle.commands.proofs.written.have_short_names.Given as goal

-- the rest decides
abbrev pub invariant-loop-first : goal.invariant-loop-first
invariant-loop-first l = AllByRecursion (λ (end : HostEnd). IsCounted end.name) l.rest → AllByRecursion (λ (end : HostEnd). IsCounted end.name) l.host

abbrev pub decreases-loop-first : goal.decreases-loop-first
decreases-loop-first l = length l.rest
