use Rattle.std.proofs.Common.{◌∙◌, None}
use Rattle.memory_layout.specs.Graphs.{linked_of}
use Rattle.memory_layout.proofs.Handled.{sent_is}
use Rattle.memory_layout.proofs.graph.Graph.sent_size.Goals as goal

pub returns : goal.returns
returns c = c.point_size.ensures ∙ sent_is (linked_of c.args.self.now) c.args.handlers.now c.requires.handlers (record { leaf = None; end = c.args.end })
