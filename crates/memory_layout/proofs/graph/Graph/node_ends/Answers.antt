use Rattle.std.proofs.Common.{sym, ap}
use Rattle.cm_core.specs.declared.program.Node.{Node}
use Rattle.cm_core.specs.Tree.{no_node}
use Rattle.memory_layout.proofs.Past.{past_item}
use Rattle.memory_layout.proofs.graph.Graph.node_ends.Goals as goal

pub returns-in-None : goal.returns-in-None
returns-in-None c = ap (λ (n : Node). n.ends) (sym (past_item c.args.self.now.program.now.nodes c.args.node.0 no_node c.in-None.ensures.value))
