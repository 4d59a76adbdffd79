use Rattle.std.proofs.Common.{◌≡◌, ◌<◌, ◌^◌, length, map, ℕ, ◌+◌, ◌-◌, ◌*◌, ◌≤◌}
use Rattle.item_lines.specs.Hearing.{ear, FirstHear, HeardAs}
use Rattle.item_lines.proofs.hearing.hear.Given as goal

abbrev pub invariant-loop-number : goal.invariant-loop-number
invariant-loop-number g l =
    FirstHear l.fn.item l.number
    (map (λ b. ear (g.L.Listener.heard b) (g.L.Listener.count b) (g.L.Listener.faults b) (g.L.Listener.refusals b)) l.fn.listeners.items)
    (map (λ b. ear (g.L.Listener.heard b) (g.L.Listener.count b) (g.L.Listener.faults b) (g.L.Listener.refusals b)) l.listeners.items)
    × (length l.listeners.items ≡ length l.fn.listeners.items)
