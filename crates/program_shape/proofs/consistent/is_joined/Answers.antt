use Rattle.program_shape.proofs.consistent.is_joined.Goals as goal
use Rattle.program_shape.proofs.Trees.{once_of}

pub parents-requires-clause-once : goal.parents-requires-clause-once
parents-requires-clause-once c = once_of c.args.program.now c.in_ok-edges.edges.items c.deref-2.result.now c.in_ok-edges.ensures.to c.deref-2.ensures.value c.in_ok-check_tree.ensures.tree
