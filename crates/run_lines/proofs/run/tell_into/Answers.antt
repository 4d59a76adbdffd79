use Rattle.run_lines.proofs.Outlets.{outside_of, play_told}
use Rattle.run_lines.proofs.run.tell_into.Goals as goal

pub returns-in-Ok-clause-told : goal.returns-in-Ok-clause-told
returns-in-Ok-clause-told g c =
    (play_told (outside_of g.O.Sink.written g.O.Sink.faults g.O.Sink.refusals g.L.Listener.heard g.L.Listener.count g.L.Listener.faults g.L.Listener.refusals) c.args.valid c.args.saved.now c.args.script.now c.args.steps c.args.outlet.now c.in-Ok.came
    c.run_end.result c.play.new.teller c.run_end.ensures c.requires.slots c.in-Ok.ensures).tells

pub returns-in-Ok-clause-out : goal.returns-in-Ok-clause-out
returns-in-Ok-clause-out g c =
    (play_told (outside_of g.O.Sink.written g.O.Sink.faults g.O.Sink.refusals g.L.Listener.heard g.L.Listener.count g.L.Listener.faults g.L.Listener.refusals) c.args.valid c.args.saved.now c.args.script.now c.args.steps c.args.outlet.now c.in-Ok.came
    c.run_end.result c.play.new.teller c.run_end.ensures c.requires.slots c.in-Ok.ensures).keeps.out

pub returns-in-Ok-clause-listeners : goal.returns-in-Ok-clause-listeners
returns-in-Ok-clause-listeners g c =
    (play_told (outside_of g.O.Sink.written g.O.Sink.faults g.O.Sink.refusals g.L.Listener.heard g.L.Listener.count g.L.Listener.faults g.L.Listener.refusals) c.args.valid c.args.saved.now c.args.script.now c.args.steps c.args.outlet.now c.in-Ok.came
    c.run_end.result c.play.new.teller c.run_end.ensures c.requires.slots c.in-Ok.ensures).keeps.listeners

pub returns-in-Ok-clause-line : goal.returns-in-Ok-clause-line
returns-in-Ok-clause-line g c =
    (play_told (outside_of g.O.Sink.written g.O.Sink.faults g.O.Sink.refusals g.L.Listener.heard g.L.Listener.count g.L.Listener.faults g.L.Listener.refusals) c.args.valid c.args.saved.now c.args.script.now c.args.steps c.args.outlet.now c.in-Ok.came
    c.run_end.result c.play.new.teller c.run_end.ensures c.requires.slots c.in-Ok.ensures).keeps.line
