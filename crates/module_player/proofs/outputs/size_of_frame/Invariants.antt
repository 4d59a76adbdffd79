use Rattle.std.proofs.Common.{◌≡◌, ◌≤◌, ◌*◌, ◌^◌, take}
use Rattle.std.specs.Prelude.{sum_by}
use Rattle.module_player.specs.Rooms.{output_size}
use Rattle.module_player.proofs.outputs.size_of_frame.Given as goal

abbrev pub invariant-loop-end : goal.invariant-loop-end
invariant-loop-end l = record { is : l.size ≡ sum_by output_size (take l.end-index l.ends); few : l.size ≤ l.end-index * 2 ^ 24 }
