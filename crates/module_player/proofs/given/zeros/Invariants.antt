use Rattle.std.proofs.Common.{◌≡◌, take}
use Rattle.wasm_tree.specs.HostRun.{zeros_of}
use Rattle.module_player.proofs.given.zeros.Given as goal

abbrev pub invariant-loop-end : goal.invariant-loop-end
invariant-loop-end l = l.all.items ≡ zeros_of (take l.end-index l.ends)
