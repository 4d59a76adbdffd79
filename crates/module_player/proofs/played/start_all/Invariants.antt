use Rattle.wasm_tree.specs.Section.{ends_of}
use Rattle.module_player.proofs.Starting.{AreStarted}
use Rattle.module_player.proofs.played.start_all.Given as goal

abbrev pub invariant-loop-number : goal.invariant-loop-number
invariant-loop-number g l = AreStarted {T = g.row.T.Denot} g.T.Teller.tells (ends_of l.initial.player.of.section) l.saved l.number l.initial.player l.player l.initial.teller l.teller
