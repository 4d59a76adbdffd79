use Rattle.std.proofs.Common.{◌≡◌}
use Rattle.wasm_tree.specs.Section.{ends_of}
use Rattle.module_player.proofs.Going.{AreSent}
use Rattle.module_player.proofs.run.send_events.Given as goal

abbrev pub invariant-loop-at : goal.invariant-loop-at
invariant-loop-at g l = AreSent {T = g.row.T.Denot} g.T.Teller.tells (ends_of l.initial.player.of.section) l.script l.frame l.at l.initial.player l.player l.initial.teller l.teller × (l.cursor ≡ l.initial.cursor)
