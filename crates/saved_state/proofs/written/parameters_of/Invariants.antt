use Rattle.std.proofs.Common.{◌≡◌, ◌≤◌, ◌++◌, length, drop}
use Rattle.std.specs.List.{AllByRecursion}
use Rattle.cm_base.specs.HostEnds.{IsLawfulEnd}
use Rattle.saved_state.specs.Applied.{AreValues, saved_with}
use Rattle.saved_state.specs.Version2.{IsParameter, IsCounted}
use Rattle.saved_state.proofs.written.parameters_of.Given as goal

abbrev pub invariant-loop-end : goal.invariant-loop-end
invariant-loop-end l =
    (l.saved ++ saved_with (drop l.end-index l.host) l.left ≡ saved_with l.host l.values) ×
    AreValues (drop l.end-index l.host) l.left ×
    AllByRecursion IsLawfulEnd (drop l.end-index l.host) ×
    (AllByRecursion (λ end. IsCounted end.name) l.host → AllByRecursion (λ end. IsCounted end.name) (drop l.end-index l.host) × AllByRecursion IsParameter l.saved) ×
    (length l.saved ≤ l.end-index)
