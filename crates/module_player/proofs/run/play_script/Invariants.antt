use Rattle.std.proofs.Common.{◌-◌}
use Rattle.wasm_tree.specs.Section.{ends_of}
use Rattle.module_player.proofs.Going.{ArePlayed}
use Rattle.module_player.proofs.run.play_script.Given as goal

abbrev pub invariant-loop-cursor : goal.invariant-loop-cursor
invariant-loop-cursor g l = ArePlayed {T = g.row.T.Denot} g.T.Teller.tells (ends_of l.initial.player.of.section) l.script l.cursor l.initial.player l.player l.initial.teller l.teller

abbrev pub decreases-loop-cursor : goal.decreases-loop-cursor
decreases-loop-cursor g l = l.script.frames - l.cursor.frame
