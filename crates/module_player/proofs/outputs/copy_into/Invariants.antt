use Rattle.std.proofs.Common.{◌≡◌, ◌+◌, ◌++◌, length, take}
use Rattle.module_player.proofs.outputs.copy_into.Given as goal

abbrev pub invariant-loop-i : goal.invariant-loop-i
invariant-loop-i l = record { copied : take (l.place + l.i) l.into ≡ take l.place l.fn.into ++ take l.i l.from; long : length l.into ≡ length l.fn.into }
