use Rattle.run_lines.proofs.Outlets.{outside_of, script_told}
use Rattle.run_lines.proofs.run.frames_into.Goals as goal

pub returns-clause-told : goal.returns-clause-told
returns-clause-told g c =
    (script_told (outside_of g.O.Sink.written g.O.Sink.faults g.O.Sink.refusals g.L.Listener.heard g.L.Listener.count g.L.Listener.faults g.L.Listener.refusals) c.args.player.now c.args.script.now c.args.outlet.now c.play_script-came.result
    c.run_end.result c.play_script-came.new.player c.play_script-came.new.teller c.run_end.ensures c.requires.slots c.play_script-came.ensures.comes c.play_script-came.ensures.same.of c.play_script-came.ensures.live).tells

pub returns-clause-left : goal.returns-clause-left
returns-clause-left g c =
    (script_told (outside_of g.O.Sink.written g.O.Sink.faults g.O.Sink.refusals g.L.Listener.heard g.L.Listener.count g.L.Listener.faults g.L.Listener.refusals) c.args.player.now c.args.script.now c.args.outlet.now c.play_script-came.result
    c.run_end.result c.play_script-came.new.player c.play_script-came.new.teller c.run_end.ensures c.requires.slots c.play_script-came.ensures.comes c.play_script-came.ensures.same.of c.play_script-came.ensures.live).left

pub returns-clause-out : goal.returns-clause-out
returns-clause-out g c =
    (script_told (outside_of g.O.Sink.written g.O.Sink.faults g.O.Sink.refusals g.L.Listener.heard g.L.Listener.count g.L.Listener.faults g.L.Listener.refusals) c.args.player.now c.args.script.now c.args.outlet.now c.play_script-came.result
    c.run_end.result c.play_script-came.new.player c.play_script-came.new.teller c.run_end.ensures c.requires.slots c.play_script-came.ensures.comes c.play_script-came.ensures.same.of c.play_script-came.ensures.live).keeps.out

pub returns-clause-line : goal.returns-clause-line
returns-clause-line g c =
    (script_told (outside_of g.O.Sink.written g.O.Sink.faults g.O.Sink.refusals g.L.Listener.heard g.L.Listener.count g.L.Listener.faults g.L.Listener.refusals) c.args.player.now c.args.script.now c.args.outlet.now c.play_script-came.result
    c.run_end.result c.play_script-came.new.player c.play_script-came.new.teller c.run_end.ensures c.requires.slots c.play_script-came.ensures.comes c.play_script-came.ensures.same.of c.play_script-came.ensures.live).keeps.line

pub returns-clause-listeners : goal.returns-clause-listeners
returns-clause-listeners g c =
    (script_told (outside_of g.O.Sink.written g.O.Sink.faults g.O.Sink.refusals g.L.Listener.heard g.L.Listener.count g.L.Listener.faults g.L.Listener.refusals) c.args.player.now c.args.script.now c.args.outlet.now c.play_script-came.result
    c.run_end.result c.play_script-came.new.player c.play_script-came.new.teller c.run_end.ensures c.requires.slots c.play_script-came.ensures.comes c.play_script-came.ensures.same.of c.play_script-came.ensures.live).keeps.listeners
