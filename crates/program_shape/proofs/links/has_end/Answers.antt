use Rattle.program_shape.proofs.links.has_end.Goals as goal
use Rattle.std.proofs.Common.{rules, ◌≡◌, ◌<◌, length, get_or, arith}
use Rattle.std.proofs.lemmas.Bool.{ltb-true}
use Rattle.cm_core.specs.Tree.{node_at}
use Rattle.program_shape.proofs.Sides.{all_have}

pub returns : goal.returns
returns c = λ t.
    let p = c.args.program.now in
    let less : c.args.end < c.len.result = ltb-true c.args.end c.len.result t in
    let long : c.len.result ≡ length (node_at p (get_or c.args.group.now.nodes 0 (record { 0 = 0 }))).ends = search rules in
    all_have p c.args.group.now c.args.end c.requires (omega (arith, less, long))
