use Rattle.std.proofs.Common.{◌≡◌, ℕ, List, drop}
use Rattle.std.specs.HashMap.{get_by}
use Rattle.std.specs.List.{position_from}
use Rattle.std.specs.Str.{bytes_eq}
use Rattle.cm_base.specs.HostEnds.{AreDistinct, names_of}
use Rattle.program_shape.proofs.host.have_own_names.Given as goal

abbrev pub invariant-loop-number : goal.invariant-loop-number
invariant-loop-number l = ((name : List ℕ) → get_by (λ key. bytes_eq name key.now) l.numbers ≡ position_from (λ end. bytes_eq end.name name) l.number (drop l.number l.ends))
    × AreDistinct (names_of (drop l.number l.ends))
