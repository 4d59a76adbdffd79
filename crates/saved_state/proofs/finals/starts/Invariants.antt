use Rattle.std.proofs.Common.{◌≡◌, ◌++◌, map, drop}
use Rattle.saved_state.specs.Finals.{start_in}
use Rattle.saved_state.proofs.finals.starts.Given as goal

-- with the endpoints that are left these are all
abbrev pub invariant-loop-end : goal.invariant-loop-end
invariant-loop-end l = l.now.items ++ map (λ end. start_in end end.parameter l.saved) (drop l.end-index l.host) ≡ map (λ end. start_in end end.parameter l.saved) l.host
