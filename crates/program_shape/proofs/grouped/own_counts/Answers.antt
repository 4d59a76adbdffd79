use Rattle.program_shape.proofs.grouped.own_counts.Goals as goal
use Rattle.std.proofs.Common.{arith, get_or, take}
use Rattle.std.proofs.lemmas.Grind.{common_steps}
use Rattle.std.proofs.lemmas.List.Sums.{count_by-le-length}
use Rattle.cm_core.specs.Consistent.{is_own}

pub overflow_add-index_mut : goal.overflow_add-index_mut
overflow_add-index_mut c =
    let q = get_or c.args.owners.now c.loop-at.at (record { 0 = 0 }) in
    grind (arith, common_steps, count_by-le-length (is_own q) (take c.loop-at.at c.args.program.now.groups), c.loop-at.invariant.counts q)
