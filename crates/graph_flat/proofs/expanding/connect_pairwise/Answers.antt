use Rattle.std.proofs.Common.{◌∙◌, ap, ◌∷◌, [], ◌++◌, ◌<◌, length, get_or, arith}
use Rattle.cm_base.specs.declared.place.EndId.{EndId}
use Rattle.cm_core.specs.declared.link.Connection.{Connection}
use Rattle.cm_core.specs.Expanded.{connection_of}
use Rattle.std.proofs.lemmas.List.{get_or_default}
use Rattle.graph_flat.proofs.Loops.{pairs_more, pairs_all}
use Rattle.graph_flat.proofs.expanding.connect_pairwise.Goals as goal

pub loop-at-preserved : goal.loop-at-preserved
loop-at-preserved c =
    let zero_end : EndId = record { 0 = 0 } in
    let xs = c.args.from.now in
    let ys = c.args.to.now in
    let i = c.loop-at.at in
    let n = c.loop-at.invariant.count in
    let t = c.loop-at-test.true in
    let lx : i < length xs = omega (arith, n, t) in
    let ly : i < length ys = omega (arith, n, t) in
    record {
      count = c.loop-at.invariant.count;
      built = pairs_more (connection_of c.args.link.now) xs ys i _ (get_or xs i zero_end) (get_or ys i zero_end) c.args.found.now.items c.loop-at.found.items c.push.new.self.items
          c.loop-at.invariant.count c.loop-at-test.true c.loop-at.invariant.built (c.in_ok-push.ensures.items ∙ ap (λ (x : Connection). c.loop-at.found.items ++ x ∷ []) c.connection_of.ensures)
          (get_or_default xs i zero_end (get_or xs i zero_end) lx) (get_or_default ys i zero_end (get_or ys i zero_end) ly);
    }

pub returns : goal.returns
returns c = pairs_all (connection_of c.args.link.now) c.args.from.now c.args.to.now c.loop-at.at _ c.args.found.now.items c.loop-at.found.items c.loop-at.invariant.count c.loop-at-test.false c.loop-at.invariant.built
