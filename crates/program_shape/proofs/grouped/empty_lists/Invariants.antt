use Rattle.std.proofs.Common.{◌≡◌, ℕ, ◌<◌, vec_len, [], get_or, Vec}
use Rattle.std.specs.Global.{Global}
use Rattle.cm_base.specs.declared.place.NodeId.{NodeId}
use Rattle.program_shape.proofs.grouped.empty_lists.Given as goal

abbrev pub invariant-loop : goal.invariant-loop
invariant-loop l = (vec_len l.lists ≡ l.counter) × ((p : ℕ) (d : Vec NodeId Global) → p < l.counter → (get_or l.lists.items p d).items ≡ [])
