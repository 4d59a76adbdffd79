use Rattle.memory_layout.specs.Graphs.{linked_of, handled_in}
use Rattle.memory_layout.proofs.Among.{point_is, no_point}
use Rattle.memory_layout.proofs.graph.Graph.point_size.Goals as goal

pub returns-then-at-starts : goal.returns-then-at-starts
returns-then-at-starts c =
    point_is (linked_of c.args.self.now) (handled_in (linked_of c.args.self.now) c.args.handlers.now) c.args.leaf c.args.end c.events_at.result.now _
    (c.events_at.ensures c.args.self.now.flat.now.chains c.requires) c.events_size.ensures

pub returns-else-at-starts : goal.returns-else-at-starts
returns-else-at-starts c =
    no_point (linked_of c.args.self.now) (handled_in (linked_of c.args.self.now) c.args.handlers.now) c.args.leaf c.args.end _ c.if-at-starts.false c.requires.within
