use Rattle.std.proofs.Common.{◌<◌, length, refl, ap, arith}
use Rattle.cm_core.specs.Tree.{starts}
use Rattle.cm_core.specs.GraphFaults.{many_chains}
use Rattle.graph_flat.proofs.Faults.{many_direct}
use Rattle.graph_flat.proofs.chains.direct_chains.Goals as goal

pub returns-then-len-clause-refused : goal.returns-then-len-clause-refused
returns-then-len-clause-refused c =
    let many : 65536 < length (starts c.args.program.now) = (let l = ap length c.in_ok-starts.ensures.starts in let t = c.if-len.true in let k = c.len.ensures in omega (arith, l, t, k)) in
    rw c.refused.ensures (many_chains (many_direct c.args.program.now c.requires.leaf many), refl)
