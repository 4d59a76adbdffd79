-- All memory is taken before the first call.
use Rattle.std.proofs.Common.{[], List, subst}
use Rattle.cm_base.specs.declared.play.Saved.{Saved}
use Rattle.cm_base.specs.Parts.{tasks_of}
use Rattle.wasm_tree.specs.Section.{ends_of}
use Rattle.module_player.specs.Playing.{ComesTo}
use Rattle.module_player.proofs.Going.{run_played}
use Rattle.module_player.proofs.played.play.Goals as goal

pub returns : goal.returns
returns g c =
    run_played {T = g.row.T.Denot} g.T.Teller.tells c.args.valid c.args.saved.now c.args.script.now c.args.steps c.in_ok-player.player c.play_whole.new.player c.args.teller.now c.play_whole.new.teller c.play_whole.result c.in_ok-player.ensures
    (subst (λ (s : List Saved). ComesTo {Teller = g.row.T.Denot} g.T.Teller.tells c.in_ok-player.player (tasks_of (ends_of c.in_ok-player.player.of.section) s c.args.script.now c.args.script.now.frames) [] c.args.teller.now c.play_whole.result c.play_whole.new.player c.play_whole.new.teller) c.as_slice.ensures c.play_whole.ensures.comes)
