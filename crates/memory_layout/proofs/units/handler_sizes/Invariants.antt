use Rattle.std.proofs.Common.{◌≡◌, ◌++◌, length, map}
use Rattle.cm_core.specs.declared.unit.Handler.{Handler}
use Rattle.cm_core.specs.Code.{stmt_of}
use Rattle.cm_core.specs.Sizes.{stmt_size}
use Rattle.memory_layout.specs.Held.{held}
use Rattle.memory_layout.specs.Scales.{scale_of}
use Rattle.memory_layout.proofs.units.handler_sizes.Given as goal

abbrev pub invariant-loop-first : goal.invariant-loop-first
invariant-loop-first l =
    (l.found.items ++ map (λ (h : Handler). held (stmt_size (scale_of l.scale) (stmt_of h.body))) l.rest) ≡ map (λ (h : Handler). held (stmt_size (scale_of l.scale) (stmt_of h.body))) l.handlers

abbrev pub decreases-loop-first : goal.decreases-loop-first
decreases-loop-first l = length l.rest
