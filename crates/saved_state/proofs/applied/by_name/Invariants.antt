use Rattle.std.proofs.Common.{◌≡◌, ℕ, List, drop}
use Rattle.std.specs.HashMap.{get_by}
use Rattle.std.specs.Str.{bytes_eq}
use Rattle.cm_base.specs.Parts.{saved_value}
use Rattle.saved_state.proofs.applied.by_name.Given as goal

abbrev pub invariant-loop-index : goal.invariant-loop-index
invariant-loop-index l = (name : List ℕ) → get_by (λ key. bytes_eq name key.now) l.map ≡ saved_value name (drop l.index l.saved)
